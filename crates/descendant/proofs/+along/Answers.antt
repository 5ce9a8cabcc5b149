-- `descendant::along` meets its contract: the first octant's share and the place along the rest, of which the length falls. Assumes nothing.
use Prim.Native.Nat.{ℕ, ◌*◌, ◌-◌, ◌%◌, ◌^◌, ◌≤◌, ◌<◌}
use native.Mathlib.Omega.{arith}
use mathlib.Core.Path.{◌≡◌, sym, ◌∙◌}
use mathlib.Core.List.{List}
use lib.IntN.{ℤ, pos, ◌+ℤ◌, ◌*ℤ◌}
use lib.ListN.{length, get_or, take, drop, length-drop}
use mir.Syntax.{w32}
use mir.Val.{SFits, to_z, of_z}
use mir.Facts.{to_z-of_z}
use Rattle.descendant.specs.Place.{sign, place}
use Rattle.descendant.proofs.Places.{fits, power, share_size, place_size, place_parts, place_empty, rest_is, octant_at, octants_rest}
use Rattle.descendant.proofs.+along.Goals as goal

-- the rest is shorter than the path
shorter : (path : List ℕ) → 1 ≤ length path → length (take (length path - 1) (drop 1 path)) < length path
shorter path some = rw (rest_is path, length-drop) (omega arith)

-- what the code makes of an octant's sign s, d levels up
module _ (o i d : ℕ) (few : d ≤ 20) (s : ℤ) (fs : SFits w32 s) (es : s ≡ sign o i) where
  share : ℤ
  share = to_z w32 (of_z w32 s) *ℤ to_z w32 ((1 * 2 ^ d) % 2 ^ 32)

  share_is : share ≡ sign o i *ℤ pos (2 ^ d)
  unfolding share
  share_is = rw (to_z-of_z fs, es, power d few)

  share_fits : SFits w32 share
  share_fits = rw share_is (fits d (sign o i *ℤ pos (2 ^ d)) few (omega (arith, share_size o i (2 ^ d))))

-- and of the first octant's share and the place a along the rest
module _ (path : List ℕ) (k i : ℕ) (few : length path ≤ 20) (some : 1 ≤ length path) (s a : ℤ) (fs : SFits w32 s) (fa : SFits w32 a)
    (es : s ≡ sign (get_or path 0 0) i) (ea : a ≡ place (take (length path - 1) (drop 1 path)) k i) where
  abbrev rest : List ℕ
  rest = take (length path - 1) (drop 1 path)

  fewer : length rest ≤ 20
  fewer = let less = shorter path some in omega arith

  sum : ℤ
  sum = to_z w32 (of_z w32 (share (get_or path 0 0) i (length rest) fewer s fs es)) +ℤ to_z w32 (of_z w32 a)

  sum_is : sum ≡ place path k i
  unfolding sum
  sum_is =
      rw (to_z-of_z (share_fits (get_or path 0 0) i (length rest) fewer s fs es), to_z-of_z fa, share_is (get_or path 0 0) i (length rest) fewer s fs es, ea, rest_is path)
      (sym (place_parts path k i (λ none. omega arith)))

  sum_fits : SFits w32 sum
  sum_fits = rw sum_is (fits (length path) (place path k i) few (place_size path k i))

pub sign-requires-in-len1-up : goal.sign-requires-in-len1-up
sign-requires-in-len1-up t c =
    let less = shorter c.args.path.now c.in-len1-up.len_at_least in
    (octant_at c.args.path.now c.requires.1 _ (omega arith), omega arith)

pub overflow_mul-result : goal.overflow_mul-result
unfolding share
overflow_mul-result t c =
    let less = shorter c.args.path.now c.in-len1-up.len_at_least in
    share_fits _ c.args.i _ (omega arith) c.sign-in-len1-up.result (record { sfits = c.sign-in-len1-up.type_inv }) c.sign-in-len1-up.ensures

pub along-requires : goal.along-requires
along-requires t c =
    let path = c.args.path.now in
    let less = shorter path c.in-len1-up.len_at_least in
    (rw (← c.decreases) less, (omega arith, rw (rest_is path) (octants_rest path c.requires.1), omega arith, omega arith))

pub overflow_add-result : goal.overflow_add-result
unfolding share sum
overflow_add-result t c =
    sum_fits c.args.path.now c.args.corner c.args.i (omega arith) c.in-len1-up.len_at_least c.sign-in-len1-up.result c.along.result
    (record { sfits = c.sign-in-len1-up.type_inv })
    (record { sfits = c.along.type_inv })
    c.sign-in-len1-up.ensures
    c.along.ensures

pub returns-in-empty : goal.returns-in-empty
returns-in-empty t c =
    let small : SFits w32 c.sign.result = record { sfits = c.sign.type_inv } in
    to_z-of_z small ∙ c.sign.ensures ∙ sym (place_empty c.args.path.now c.args.corner c.args.i (omega arith))

pub returns-in-len1-up : goal.returns-in-len1-up
unfolding share sum
returns-in-len1-up t c =
    let path = c.args.path.now in
    let s : SFits w32 c.sign-in-len1-up.result = record { sfits = c.sign-in-len1-up.type_inv } in
    let a : SFits w32 c.along.result = record { sfits = c.along.type_inv } in
    to_z-of_z
    (sum_fits path c.args.corner c.args.i (omega arith) c.in-len1-up.len_at_least c.sign-in-len1-up.result c.along.result s a c.sign-in-len1-up.ensures
    c.along.ensures)
    ∙ sum_is path c.args.corner c.args.i (omega arith) c.in-len1-up.len_at_least c.sign-in-len1-up.result c.along.result s a c.sign-in-len1-up.ensures
    c.along.ensures
