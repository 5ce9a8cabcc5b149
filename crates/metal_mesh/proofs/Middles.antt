-- Things that are the same have the same middle: an edge has two orders, a face's ring eight turns, and a centre one cell. So each stands where its own nodes
-- say. Assumes nothing.
use Prim.Native.Nat.{ℕ, ◌-◌, ◌%◌, ◌≤◌, ◌<◌}
use native.Mathlib.Omega.{arith}
use mathlib.Core.Path.{◌≡◌, sym, ◌∙◌, ap, ap₂}
use mathlib.Core.Bool.{Bool, true, false}
use mathlib.Core.List.{List, [], ◌∷◌}
use borrow.Author.Tests.{eqb-true, le-ltb}
use lib.Dec.{T}
use lib.IntN.{ℤ, pos, ◌*ℤ◌}
use lib.ListN.{get_or}
use Rattle.numbers.specs.Rule.{tabulate}
use Rattle.numbers.proofs.Cases.{never}
use Rattle.numbers.proofs.Every.{every_member}
use Rattle.numbers.proofs.Tabulate.{tabulate_at, tabulate_back}
use Rattle.numbers.proofs.Tests.{all_at}
use Rattle.integers.specs.Integers.{integers}
use Rattle.integers.proofs.Expression.{Expression, var, expressions}
use Rattle.integers.proofs.Ring.{plus_left_swap}
use Rattle.integers.proofs.Solve.{solve}
use Rattle.integers.proofs.Solve.{same as sameValue}
use Rattle.exact_volume.proofs.Corners.{numeral}
use Rattle.metal.specs.Metal.{sum_in, eight_middle}
use Rattle.numbering.specs.Refinement.{Thing, edge, face, centre, same_nodes, turned, same, things_of, given, number}
use Rattle.numbering.proofs.Places.{Whole, got, cell_whole, cell_met}
use Rattle.numbering.proofs.Same.{two_orders, round, around}
use Rattle.metal_mesh.specs.Mesh.{nodes_of, OnePlaceEach}

-- four nodes, gone round, have one sum
abbrev gone_round : Bool → ℕ → Expression
gone_round back s = sum_in expressions numeral (λ (j : ℕ). var (turned back s j % 4)) (tabulate 4 (λ (j : ℕ). j))

any_turn : (back : Bool) (s : ℕ) → s < 4 → T (sameValue (gone_round back s) (gone_round false 0))
any_turn true = all_at 4 (λ (s : ℕ). sameValue (gone_round true s) (gone_round false 0)) tt
any_turn false = all_at 4 (λ (s : ℕ). sameValue (gone_round false s) (gone_round false 0)) tt

module _ (x : ℕ → ℤ) where
  -- two ends either way round
  same_ends : (a b c d : ℕ) → same_nodes (a ∷ b ∷ []) (c ∷ d ∷ []) ≡ true → eight_middle x (a ∷ b ∷ []) ≡ eight_middle x (c ∷ d ∷ [])
  same_ends a b c d h =
      two_orders a b c d h
      (λ e f. rw (e, f))
      (λ e f. rw (e, f) (ap (λ (s : ℤ). pos 4 *ℤ s) (plus_left_swap (x d) (x c) (pos 0))))

  ring_sum : (p q : ℕ → ℕ) (back : Bool) (s : ℕ) → s < 4 → ((j : ℕ) → j < 4 → p j ≡ q (turned back s j % 4))
      → sum_in integers pos x (tabulate 4 p) ≡ sum_in integers pos x (tabulate 4 q)
  ring_sum p q back s h meets =
      let values = tabulate 4 (λ (j : ℕ). x (q j)) in
      let there : (j : ℕ) → j < 4 → x (p j) ≡ get_or values (turned back s j % 4) (pos 0) =
      λ j less. ap x (meets j less) ∙ sym (tabulate_at 4 (λ (j : ℕ). x (q j)) (pos 0) (turned back s j % 4) (around (turned back s j))) in
      rw (there 0 (omega arith), there 1 (omega arith), there 2 (omega arith), there 3 (omega arith))
      (solve values (gone_round back s) (gone_round false 0) (any_turn back s h))

  same_middle : (cells : List ℕ) (t u : Thing) → Whole t → Whole u → same t u ≡ true → eight_middle x (nodes_of cells t) ≡ eight_middle x (nodes_of cells u)
  same_middle cells (edge ps) (edge qs) hp hq h =
      let p = tabulate_back ps 2 0 hp in
      let q = tabulate_back qs 2 0 hq in
      ap (eight_middle x) (sym p)
      ∙ same_ends (get_or ps 0 0) (get_or ps 1 0) (get_or qs 0 0) (get_or qs 1 0) (ap₂ same_nodes p q ∙ h)
      ∙ ap (eight_middle x) q
  same_middle cells (face ps) (face qs) hp hq h =
      let r = round ps qs h in
      ap (eight_middle x) (sym (tabulate_back ps 4 0 hp))
      ∙ ap (λ (s : ℤ). pos 2 *ℤ s) (ring_sum (λ (j : ℕ). get_or ps j 0) (λ (j : ℕ). get_or qs j 0) r.back r.start r.below r.meets)
      ∙ ap (eight_middle x) (tabulate_back qs 4 0 hq)
  same_middle cells (centre c) (centre d) hp hq h = ap (λ (e : ℕ). eight_middle x (nodes_of cells (centre e))) (eqb-true c d h)
  same_middle cells (edge ps) (face qs) hp hq h = never (sym h)
  same_middle cells (edge ps) (centre d) hp hq h = never (sym h)
  same_middle cells (face ps) (edge qs) hp hq h = never (sym h)
  same_middle cells (face ps) (centre d) hp hq h = never (sym h)
  same_middle cells (centre c) (edge qs) hp hq h = never (sym h)
  same_middle cells (centre c) (face qs) hp hq h = never (sym h)

pub one_place_each : OnePlaceEach
one_place_each x n cells c j below inside =
    let t = get_or (things_of cells c) j (edge []) in
    let high : n ≤ number n cells t = omega arith in
    let found = got n cells (edge []) t (cell_met cells (edge []) c j below inside) in
    rw (le-ltb (number n cells t) n high)
    (same_middle x cells (get_or (given cells) (number n cells t - n) (edge [])) t found.whole
    (every_member Whole (things_of cells c) (edge []) (cell_whole cells c) j inside) found.alike)
