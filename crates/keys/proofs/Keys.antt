-- Keys tell edges and faces apart: a list in rising order is its members' only one, and digits below the base can be read back. Of two rings of the same nodes
-- the smallest node and the one opposite tell whether they are one. Assumes nothing.
use Prim.Native.Nat.{ℕ, suc, ◌+◌, ◌*◌, ◌%◌, ◌^◌, ◌≤◌, ◌<◌, min, max}
use native.Mathlib.Nat.{pow-suc, mul-le-mul_right}
use native.Mathlib.Omega.{arith}
use mathlib.Core.Path.{◌≡◌, refl, sym, ap, ◌∙◌}
use mathlib.Core.Bool.{Bool, true, false, ◌||◌, not, or-true}
use mathlib.Core.List.{List, [], ◌∷◌, map}
use borrow.Author.Tests.{eq-eqb, eqb-true, eqb-false, ltb-true, ltb-false}
use lib.Dec.{T, eqb, ltb}
use mathlib.Core.Logic.{inl, inr, ⊎_elim}
use lib.ListN.{length, get_or}
use Rattle.std.specs.Simd.{first_chunks}
use Rattle.cell.specs.Edges.{end}
use Rattle.faults.specs.Faults.{node, names}
use Rattle.faults.proofs.Faults.{taken}
use Rattle.hexahedron.specs.Cube.{edges, ring}
use Rattle.numbering.specs.Refinement.{cell_count, edge_corners, face_corners, edge_nodes, face_nodes}
use Rattle.numbers.proofs.Cases.{cases, never, is_false, fails}
use Rattle.numbers.proofs.Every.{Every}
use Rattle.numbers.proofs.Tabulate.{tabulate_back}
use Rattle.numbers.proofs.Tests.{first, second}
use Rattle.numbers.specs.FirstMet.{among, apart}
use Rattle.keys.specs.Keys.{insert, rising, packed, key, opposite, Nodes, PairsInOrder, KeysTell, RingsTell}
use Rattle.numbering.proofs.Cells.{Different, edge_corner, face_corner}
use Rattle.numbering.proofs.Rings.{opposite_tells}
use Rattle.numbering.proofs.Same.{among_at, members, by_members}

or_swap : (a b c : Bool) → (a || (b || c)) ≡ (b || (a || c))
or_swap true b c = sym (or-true b)
or_swap false b c = refl

insert_members : (x : ℕ) (ys : List ℕ) (z : ℕ) → among eqb (insert x ys) z ≡ (eqb x z || among eqb ys z)
insert_members x [] z = refl
insert_members x (y ∷ ys) z =
    cases (ltb x y)
    (λ t. rw t)
    (λ f. rw (f, insert_members x ys z) (or_swap (eqb y z) (eqb x z) (among eqb ys z)))

rising_members : (ps : List ℕ) (z : ℕ) → among eqb (rising ps) z ≡ among eqb ps z
rising_members [] z = refl
rising_members (p ∷ ps) z = insert_members p (rising ps) z ∙ rw (rising_members ps z)

insert_length : (x : ℕ) (ys : List ℕ) → length (insert x ys) ≡ suc (length ys)
insert_length x [] = refl
insert_length x (y ∷ ys) = cases (ltb x y) (λ t. rw t) (λ f. rw (f, insert_length x ys))

rising_length : (ps : List ℕ) → length (rising ps) ≡ length ps
rising_length [] = refl
rising_length (p ∷ ps) = insert_length p (rising ps) ∙ ap suc (rising_length ps)

-- each is below all that follow
abbrev Rises : List ℕ → Type 0
Rises [] = Unit {0}
Rises (x ∷ xs) = ((z : ℕ) → among eqb xs z ≡ true → x < z) × Rises xs

insert_rises : (x : ℕ) (ys : List ℕ) → Rises ys → among eqb ys x ≡ false → Rises (insert x ys)
insert_rises x [] r h = ((λ z m. never (sym m)), tt)
insert_rises x (y ∷ ys) r h =
    cases (ltb x y)
    (λ t.
    let less = ltb-true x y t in
    rw t (
      (λ z m. cases (eqb y z) (λ e. let q = eqb-true y z e in omega arith) (λ f. let q = r.0 z (rw f at m) in omega arith)),
      r,
    ))
    (λ f.
    let other : eqb y x ≡ false = is_false (eqb y x) (λ e. never (rw e at h)) in
    let most = ltb-false x y f in
    let apart_from : y ≡ x → ⊥ = eqb-false y x other in
    let less : y < x = omega arith in
    rw f (
      (λ z m. cases (eqb x z) (λ e. let q = eqb-true x z e in omega arith) (λ g. r.0 z (rw g at (sym (insert_members x ys z) ∙ m)))),
      insert_rises x ys r.1 (rw other at h),
    ))

rising_rises : (ps : List ℕ) → T (apart eqb ps) → Rises (rising ps)
rising_rises [] d = tt
rising_rises (p ∷ ps) d =
    insert_rises p (rising ps) (rising_rises ps (second (not (among eqb ps p)) (apart eqb ps) d))
    (rising_members ps p ∙ fails (among eqb ps p) (first (not (among eqb ps p)) (apart eqb ps) d))

-- two rising lists with the same members are one list
head_below : (x y : ℕ) (ys : List ℕ) → Rises (y ∷ ys) → among eqb (y ∷ ys) x ≡ true → y ≤ x
head_below x y ys r m = cases (eqb y x) (λ e. let q = eqb-true y x e in omega arith) (λ f. let q = r.0 x (rw f at m) in omega arith)

not_below_itself : (x : ℕ) (xs : List ℕ) → Rises (x ∷ xs) → among eqb xs x ≡ false
not_below_itself x xs r = is_false (among eqb xs x) (λ m. let q = r.0 x m in absurd (omega arith))

pub only_one : (xs ys : List ℕ) → Rises xs → Rises ys → ((z : ℕ) → among eqb xs z ≡ among eqb ys z) → xs ≡ ys
only_one [] [] r s h = refl
only_one [] (y ∷ ys) r s h = never (rw (eq-eqb y y refl) at (sym (h y)))
only_one (x ∷ xs) [] r s h = never (rw (eq-eqb x x refl) at (h x))
only_one (x ∷ xs) (y ∷ ys) r s h =
    let up = head_below x y ys s (sym (h x) ∙ rw (eq-eqb x x refl)) in
    let down = head_below y x xs r (h y ∙ rw (eq-eqb y y refl)) in
    let e : x ≡ y = omega arith in
    rw e (ap (λ (l : List ℕ). y ∷ l) (only_one xs ys r.1 s.1 (λ z.
    cases (eqb y z)
    (λ t. let q = eqb-true y z t in rw (← q) (rw e at (not_below_itself x xs r) ∙ sym (not_below_itself y ys s)))
    (λ f. rw (e, f) at (h z)))))

-- digits below the base
abbrev Small : List ℕ → Type 0
Small xs = (z : ℕ) → among eqb xs z ≡ true → z < 1024

small_head : (x : ℕ) (xs : List ℕ) → Small (x ∷ xs) → x < 1024
small_head x xs h = h x (rw (eq-eqb x x refl))

small_tail : (x : ℕ) (xs : List ℕ) → Small (x ∷ xs) → Small xs
small_tail x xs h z m = h z (rw m (or-true (eqb x z)))

packed_below : (xs : List ℕ) → Small xs → packed xs < 1024 ^ length xs
packed_below [] h = omega arith
packed_below (x ∷ xs) h =
    let rest = packed_below xs (small_tail x xs h) in
    let head : x ≤ 1023 = let less = small_head x xs h in omega arith in
    omega (arith, pow-suc 1024 (length xs), mul-le-mul_right (1024 ^ length xs) head)

-- a smaller first digit makes a smaller number, whatever is behind it
lower : (b x y p q : ℕ) → p < b → x < y → x * b + p < y * b + q
lower b x y p q h less = omega (arith, mul-le-mul_right b less)

packed_tells : (xs ys : List ℕ) → length xs ≡ length ys → Small xs → Small ys → packed xs ≡ packed ys → xs ≡ ys
packed_tells [] [] l hx hy e = refl
packed_tells [] (y ∷ ys) l hx hy e = absurd (omega arith)
packed_tells (x ∷ xs) [] l hx hy e = absurd (omega arith)
packed_tells (x ∷ xs) (y ∷ ys) l hx hy e =
    let long : length xs ≡ length ys = omega arith in
    let b = 1024 ^ length ys in
    let same : x * b + packed xs ≡ y * b + packed ys = rw long at e in
    let first : packed xs < b = rw long at (packed_below xs (small_tail x xs hx)) in
    let second = packed_below ys (small_tail y ys hy) in
    let head : x ≡ y =
    cases (ltb x y)
    (λ t. let less = lower b x y (packed xs) (packed ys) first (ltb-true x y t) in absurd (omega arith))
    (λ f.
    cases (ltb y x)
    (λ t. let less = lower b y x (packed ys) (packed xs) second (ltb-true y x t) in absurd (omega arith))
    (λ g. let most = ltb-false x y f in let least = ltb-false y x g in omega arith)) in
    let tail : packed xs ≡ packed ys = omega (arith, rw head at same) in
    rw (head, packed_tells xs ys long (small_tail x xs hx) (small_tail y ys hy) tail)

pub pairs_in_order : PairsInOrder
pairs_in_order a b c d hb hd = (
  (λ less.
      cases (ltb a c)
      (λ t. inl (ltb-true a c t))
      (λ f. let most = ltb-false a c f in inr (omega arith, omega arith))),
  (λ less. ⊎_elim (λ (first : a < c). omega arith) (λ (both : (a ≡ c) × (b < d)). omega (arith, both.0, both.1)) less),
)

-- different node numbers of a mesh are such nodes
pub key_nodes : (n : ℕ) (ps : List ℕ) → n ≤ 1024 → Different n ps → Nodes ps
key_nodes n ps few h = record { small = λ x m. let less = h.below x m in omega arith; differ = h.differ }

pub keys_tell : KeysTell
unfolding key
keys_tell ps qs l hp hq = (
  (λ e.
      let one = packed_tells (rising ps) (rising qs) (rising_length ps ∙ l ∙ sym (rising_length qs))
      (λ z m. hp.small z (sym (rising_members ps z) ∙ m)) (λ z m. hq.small z (sym (rising_members qs z) ∙ m)) e in
      by_members ps qs (λ z. sym (rising_members ps z) ∙ ap (λ (l : List ℕ). among eqb l z) one ∙ rising_members qs z)),
  (λ h.
      ap packed (only_one (rising ps) (rising qs) (rising_rises ps hp.differ) (rising_rises qs hq.differ)
      (λ z. rising_members ps z ∙ members ps qs h z ∙ sym (rising_members qs z)))),
)

-- insertion into two and into three numbers in order
into_one : (c d : ℕ) → insert c (d ∷ []) ≡ min c d ∷ max c d ∷ []
into_one c d =
    cases (ltb c d)
    (λ t. let less = ltb-true c d t in let low : min c d ≡ c = omega arith in let high : max c d ≡ d = omega arith in rw (t, low, high))
    (λ f. let most = ltb-false c d f in let low : min c d ≡ d = omega arith in let high : max c d ≡ c = omega arith in rw (f, low, high))

into_two : (b r s : ℕ) → r ≤ s → insert b (r ∷ s ∷ []) ≡ min b r ∷ min (max b r) s ∷ max b s ∷ []
into_two b r s order =
    cases (ltb b r)
    (λ t.
    let less = ltb-true b r t in
    let first : min b r ≡ b = omega arith in
    let next : min (max b r) s ≡ r = omega arith in
    let last : max b s ≡ s = omega arith in
    rw (t, first, next, last))
    (λ f.
    let most = ltb-false b r f in
    let first : min b r ≡ r = omega arith in
    let next : min (max b r) s ≡ min b s = omega arith in
    rw (f, first, next, into_one b s))

into_three : (a x y z : ℕ) → x ≤ y → y ≤ z → insert a (x ∷ y ∷ z ∷ []) ≡ min a x ∷ min (max a x) y ∷ min (max a y) z ∷ max a z ∷ []
into_three a x y z low high =
    cases (ltb a x)
    (λ t.
    let less = ltb-true a x t in
    let first : min a x ≡ a = omega arith in
    let second : min (max a x) y ≡ x = omega arith in
    let third : min (max a y) z ≡ y = omega arith in
    let last : max a z ≡ z = omega arith in
    rw (t, first, second, third, last))
    (λ f.
    let most = ltb-false a x f in
    let first : min a x ≡ x = omega arith in
    let second : min (max a x) y ≡ min a y = omega arith in
    rw (f, first, second, into_two a y z high))

-- two numbers are in one order or the other
in_order : {A : Type 0} (a b : ℕ) → (a ≤ b → min a b ≡ a → max a b ≡ b → A) → (b ≤ a → min a b ≡ b → max a b ≡ a → A) → A
in_order a b f g =
    cases (ltb a b)
    (λ t. let less = ltb-true a b t in f (omega arith) (omega arith) (omega arith))
    (λ t. let most = ltb-false a b t in g (omega arith) (omega arith) (omega arith))

min_assoc : (a b r : ℕ) → min a (min b r) ≡ min (min a b) r
min_assoc a b r = omega arith

max_assoc : (a b s : ℕ) → max a (max b s) ≡ max (max a b) s
max_assoc a b s = omega arith

-- The second and the third of four numbers of which r, s are in order: what insertion gives is what the exchanges give, in each order of a, b and of b, r.
module _ (a b r s : ℕ) (order : r ≤ s) where
  second_abr : a ≤ b → b ≤ r → min (max a b) (min r s) ≡ min (max a r) (min b s)
  second_abr ab br = let right : min (max a r) (min b s) ≡ b = omega arith in rw right (omega arith)

  second_bar : b ≤ a → b ≤ r → min (max a b) (min r s) ≡ min r (min a s)
  second_bar ba br = omega arith

  second_rba : r ≤ b → b ≤ a → min (max a r) (min b s) ≡ min b (min a s)
  second_rba rb ba = omega arith

  second_alike : min (max a (min b r)) (min (max b r) s) ≡ min (max (min a b) r) (min (max a b) s)
  second_alike =
      in_order a b
      (λ ab low high. rw (low, high) (in_order b r (λ br first last. rw (first, last) (second_abr ab br)) (λ rb first last. rw (first, last))))
      (λ ba low high.
      rw (low, high)
      (in_order b r (λ br first last. rw (first, last) (second_bar ba br)) (λ rb first last. rw (first, last) (second_rba rb ba))))

  third_abr : a ≤ b → b ≤ r → min (max a (min r s)) (max b s) ≡ max (max a r) (min b s)
  third_abr ab br = let left : min r s ≡ r = omega arith in let right : max b s ≡ s = omega arith in rw (left, right) (omega arith)

  third_arb : a ≤ b → r ≤ b → min (max a (min b s)) (max b s) ≡ max (max a r) (min b s)
  third_arb ab rb = let right : max (max a r) (min b s) ≡ max a (min b s) = omega arith in rw right (omega arith)

  third_bar : b ≤ a → b ≤ r → min (max a (min r s)) (max b s) ≡ max r (min a s)
  third_bar ba br = let left : min r s ≡ r = omega arith in let right : max b s ≡ s = omega arith in rw (left, right) (omega arith)

  third_rba : b ≤ a → r ≤ b → min (max a (min b s)) (max b s) ≡ max b (min a s)
  third_rba ba rb = let left : max a (min b s) ≡ a = omega arith in rw left (omega arith)

  third_alike : min (max a (min (max b r) s)) (max b s) ≡ max (max (min a b) r) (min (max a b) s)
  third_alike =
      in_order a b
      (λ ab low high. rw (low, high) (in_order b r (λ br first last. rw last (third_abr ab br)) (λ rb first last. rw last (third_arb ab rb))))
      (λ ba low high. rw (low, high) (in_order b r (λ br first last. rw last (third_bar ba br)) (λ rb first last. rw last (third_rba ba rb))))

  four_alike :
      min a (min b r) ∷ min (max a (min b r)) (min (max b r) s) ∷ min (max a (min (max b r) s)) (max b s) ∷ max a (max b s) ∷ []
      ≡ min (min a b) r ∷ min (max (min a b) r) (min (max a b) s) ∷ max (max (min a b) r) (min (max a b) s) ∷ max (max a b) s ∷ []
  four_alike = rw (min_assoc a b r, second_alike, third_alike, max_assoc a b s)

-- Four numbers are put in rising order by five exchanges: within the first two, within the last two, the two smaller, the two larger, the two in the middle.
module _ (a b c d : ℕ) where
  abbrev pub exchanged : List ℕ
  exchanged =
      min (min a b) (min c d)
      ∷ min (max (min a b) (min c d)) (min (max a b) (max c d))
      ∷ max (max (min a b) (min c d)) (min (max a b) (max c d))
      ∷ max (max a b) (max c d)
      ∷ []

  pub exchanged_rising : rising (a ∷ b ∷ c ∷ d ∷ []) ≡ exchanged
  exchanged_rising =
      let r = min c d in
      let s = max c d in
      let x = min b r in
      let y = min (max b r) s in
      let z = max b s in
      let three = ap (insert b) (into_one c d) ∙ into_two b r s (omega arith) in
      ap (insert a) three ∙ into_three a x y z (omega arith) (omega arith) ∙ four_alike a b r s (omega arith)

-- the keys of two and of four numbers
pub pair_key : (a b : ℕ) → max a b + 1024 * min a b ≡ key (a ∷ b ∷ [])
unfolding key
pair_key a b =
    cases (ltb a b)
    (λ t. let less = ltb-true a b t in rw t (omega arith))
    (λ f. let most = ltb-false a b f in rw f (omega arith))

four_key : (a b c d : ℕ) → packed (exchanged a b c d) ≡ key (a ∷ b ∷ c ∷ d ∷ [])
unfolding key
four_key a b c d = ap packed (sym (exchanged_rising a b c d))

-- a list of four is its four numbers
four_nodes : (ps : List ℕ) → length ps ≡ 4 → get_or ps 0 0 ∷ get_or ps 1 0 ∷ get_or ps 2 0 ∷ get_or ps 3 0 ∷ [] ≡ ps
four_nodes ps long = tabulate_back ps 4 0 long

pub ring_key : (ps : List ℕ) → length ps ≡ 4 → packed (exchanged (get_or ps 0 0) (get_or ps 1 0) (get_or ps 2 0) (get_or ps 3 0)) ≡ key ps
ring_key ps long = four_key (get_or ps 0 0) (get_or ps 1 0) (get_or ps 2 0) (get_or ps 3 0) ∙ ap key (four_nodes ps long)

-- the nodes of an edge and of a face of cell c, where the cells are taken eight numbers at a time
module _ (cells : List ℕ) (whole : List (List ℕ)) (is : whole ≡ first_chunks 8 (cell_count cells) cells) (c : ℕ) (below : c < cell_count cells) where
  corner : (j : ℕ) → j < 8 → names (get_or whole c []) j ≡ node 8 cells c j
  corner j h = rw is (taken 8 (cell_count cells) cells c below j h)

  pub edge_is : (e : ℕ) → e < 12 → map (names (get_or whole c [])) (edge_corners e) ≡ edge_nodes cells c e
  edge_is e h =
      let a = corner (end edges e 0) (edge_corner e 0 h (omega arith)) in
      let b = corner (end edges e 1) (edge_corner e 1 h (omega arith)) in
      cc

  pub face_is : (f : ℕ) → f < 6 → map (names (get_or whole c [])) (face_corners f) ≡ face_nodes cells c f
  face_is f h =
      let p = corner (ring f 0) (face_corner (4 * f + 0) (omega arith)) in
      let q = corner (ring f 1) (face_corner (4 * f + 1) (omega arith)) in
      let r = corner (ring f 2) (face_corner (4 * f + 2) (omega arith)) in
      let s = corner (ring f 3) (face_corner (4 * f + 3) (omega arith)) in
      cc

-- ---- rings
-- where the smallest node of a ring stands, and that across from it
record Smallest (ps : List ℕ) : Type 0 where
  place : ℕ
  below : place < 4
  least : (x : ℕ) → among eqb ps x ≡ true → get_or ps place 0 ≤ x
  across : opposite ps ≡ get_or ps ((place + 2) % 4) 0

least_of : (y : ℕ) (ps : List ℕ) → Every (λ (p : ℕ). y ≤ p) ps → (x : ℕ) → among eqb ps x ≡ true → y ≤ x
least_of y [] h x m = never (sym m)
least_of y (p ∷ ps) h x m =
    cases (eqb p x) (λ e. let here = eqb-true p x e in omega (arith, h.0)) (λ f. least_of y ps h.1 x (rw f at m))

smallest_of : (a b c d : ℕ) → Smallest (a ∷ b ∷ c ∷ d ∷ [])
smallest_of a b c d =
    let ps = a ∷ b ∷ c ∷ d ∷ [] in
    cases (ltb (min a c) (min b d))
    (λ t.
    let less = ltb-true (min a c) (min b d) t in
    in_order a c
    (λ ac low high.
    record { place = 0; below = omega arith; least = least_of a ps (omega arith, (omega arith, (omega arith, (omega arith, tt)))); across = rw t high })
    (λ ca low high.
    record { place = 2; below = omega arith; least = least_of c ps (omega arith, (omega arith, (omega arith, (omega arith, tt)))); across = rw t high }))
    (λ f.
    let most = ltb-false (min a c) (min b d) f in
    in_order b d
    (λ bd low high.
    record { place = 1; below = omega arith; least = least_of b ps (omega arith, (omega arith, (omega arith, (omega arith, tt)))); across = rw f high })
    (λ db low high.
    record { place = 3; below = omega arith; least = least_of d ps (omega arith, (omega arith, (omega arith, (omega arith, tt)))); across = rw f high }))

smallest : (ps : List ℕ) → length ps ≡ 4 → Smallest ps
smallest ps long = rw (← four_nodes ps long) (smallest_of (get_or ps 0 0) (get_or ps 1 0) (get_or ps 2 0) (get_or ps 3 0))

pub rings_tell : RingsTell
rings_tell ps qs hp hq together =
    let s = smallest ps hp.long in
    let t = smallest qs hq.long in
    let up = s.least (get_or qs t.place 0) (members ps qs together _ ∙ among_at qs t.place (rw hq.long t.below)) in
    let down = t.least (get_or ps s.place 0) (sym (members ps qs together _) ∙ among_at ps s.place (rw hp.long s.below)) in
    let one : get_or ps s.place 0 ≡ get_or qs t.place 0 = omega arith in
    let told = opposite_tells ps hp qs hq together s.place t.place s.below t.below one in (
      (λ e. told ∙ eq-eqb _ _ (sym s.across ∙ e ∙ t.across)),
      (λ r. s.across ∙ eqb-true _ _ (sym told ∙ r) ∙ sym t.across),
    )
