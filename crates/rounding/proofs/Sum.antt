-- The error of a sum of rounded terms, over any number of them: each addition is one rounding more, as long as the roundings cost at most `spare` parts in B.
-- Assumes nothing.
use Prim.Native.Nat.{ℕ, zero, suc, ◌+◌, ◌*◌, ◌≤◌, ◌<◌, suc-le-suc}
use native.Mathlib.Nat.{le_trans, le_refl, mul-le-mul_right, mul-pos, suc-add, add-suc, zero-add, le-suc, zero-lt-suc}
use native.Mathlib.Omega.{arith}
use mathlib.Core.Path.{◌≡◌, refl, sym, ap, ◌∙◌, subst}
use lib.Pow.{pow_pos}
use lib.Ieee.{Float, Format, prec, add}
use lib.Ieee.Fits.{add-fits}
use lib.Ieee.Scale.{overflow}
use Rattle.numbers.specs.Rule.{fold_to}
use Rattle.rounding.proofs.Within.{Within, within_as, within_unscaled}
use Rattle.rounding.proofs.Units.{plus, minus}
use Rattle.rounding.proofs.Add.{add_near}
use Rattle.rounding.proofs.Estimate.{Scale, fine, cost, Signed, Near}

-- one term more is one rounding more
abbrev added : Signed → Signed → Signed
added a b = record { up = a.up + b.up; down = a.down + b.down; bound = a.bound + b.bound; roundings = suc a.roundings }

-- ---- one addition, in numbers: two errors of at most e parts in c add up to one
joined : (c d e i p n p' n' : ℕ) (a b : Signed) → i ≤ e
    → Within ((p * d + a.down) * c) ((n * d + a.up) * c) (e * a.bound) → Within ((p' * d + b.down) * c) ((n' * d + b.up) * c) (i * b.bound)
    → Within (((p + p') * d + (a.down + b.down)) * c) (((n + n') * d + (a.up + b.up)) * c) (e * (a.bound + b.bound))
joined c d e i p n p' n' a b fewer v w = omega (arith, mul-le-mul_right b.bound fewer)

-- the exact sum P - N of what was rounded is at most c + e parts of the bound
apart : (c d e P N : ℕ) (a : Signed) → Within ((P * d + a.down) * c) ((N * d + a.up) * c) (e * a.bound) → a.up + a.down ≤ a.bound
    → Within (P * (d * c)) (N * (d * c)) ((c + e) * a.bound)
apart c d e P N a w bounded = omega (arith, mul-le-mul_right c bounded)

room_enough : (c d e O s : ℕ) → e ≤ c → s * 4 ≤ O * d → (c + e) * s * 2 ≤ O * (d * c)
room_enough c d e O s small room = omega (arith, mul-le-mul_right s small, mul-le-mul_right c room)

-- and a rounding of it is at most g parts more
one_more : (B c d e g p n P N : ℕ) (a : Signed) → 0 < B → c + e ≤ g * B → Within ((p + N) * B * (d * c)) ((n + P) * B * (d * c)) ((c + e) * a.bound)
    → Within ((P * d + a.down) * c) ((N * d + a.up) * c) (e * a.bound) → Within ((p * d + a.down) * c) ((n * d + a.up) * c) ((g + e) * a.bound)
one_more B c d e g p n P N a pos spare v w =
    within_unscaled {m = B} pos (omega (arith, mul-le-mul_right B w.over, mul-le-mul_right B w.under, mul-le-mul_right a.bound spare))

-- ---- any number of them: g 1, g 2, .. behind g 0
abbrev pub later : {A : Type 0} → (ℕ → A) → ℕ → A
later g m = g (suc m)

-- a sum of natural numbers is no less than where it starts
start_least : (n a : ℕ) (r : ℕ → ℕ) → a ≤ fold_to ◌+◌ a n r
start_least zero a r = le_refl a
start_least (suc n) a r = le_trans (omega arith) (start_least n (a + r 0) (later r))

-- n terms more
abbrev pub total : ℕ → Signed → (ℕ → Signed) → Signed
total n a e =
    record {
      up = fold_to ◌+◌ a.up n (λ (m : ℕ). (e m).up);
      down = fold_to ◌+◌ a.down n (λ (m : ℕ). (e m).down);
      bound = fold_to ◌+◌ a.bound n (λ (m : ℕ). (e m).bound);
      roundings = n + a.roundings;
    }

module _ (s : Scale) (pos : 0 < s.whole) (few : s.spare ≤ fine s) where
  abbrev f : Format
  f = s.format

  abbrev d : ℕ
  d = s.whole

  abbrev B : ℕ
  B = fine s

  abbrev c : ℕ
  c = B * B

  sum_near : {x y : Float} {a b : Signed} → b.roundings ≤ a.roundings → cost s a.roundings ≤ s.spare * B → (a.bound + b.bound) * 4 ≤ overflow f * d
      → Near s x a → Near s y b → Near s (add f x y) (added a b)
  sum_near {x} {y} {a} {b} fewer spare room X Y =
      let e = cost s a.roundings in
      let P = plus f x + plus f y in
      let N = minus f x + minus f y in
      let p = plus f (add f x y) in
      let n = minus f (add f x y) in
      let sum = added a b in
      let bounded : sum.up + sum.down ≤ sum.bound = omega (arith, X.bounded, Y.bounded) in
      let costs = mul-le-mul_right (B + s.spare) fewer in
      let both = joined c d e (cost s b.roundings) (plus f x) (minus f x) (plus f y) (minus f y) a b costs X.close Y.close in
      let fits_in = room_enough c d e (overflow f) sum.bound (le_trans spare (mul-le-mul_right B few)) room in
      let scale_pos = mul-pos pos (mul-pos (pow_pos (prec f)) (pow_pos (prec f))) in
      let z = add_near f x y (d * c) ((c + e) * sum.bound) X.held Y.held scale_pos fits_in (apart c d e P N sum both bounded) in
      record {
        held = record { in_format = add-fits f x y; is_finite = z.is_finite };
        close =
            within_as refl refl (ap (λ (n : ℕ). n * sum.bound) (omega arith))
            (one_more B c d e (B + s.spare) p n P N sum (pow_pos (prec f)) (omega arith) z.close both);
        bounded = bounded;
      }

  -- n more terms, each with no more roundings than the first, added from the left
  pub sums_near : (n : ℕ) (t : ℕ → Float) (e : ℕ → Signed) {x : Float} {a : Signed} → ((m : ℕ) → m < n → (e m).roundings ≤ a.roundings)
      → cost s (n + a.roundings) ≤ s.spare * B → (total n a e).bound * 4 ≤ overflow f * d → Near s x a → ((m : ℕ) → m < n → Near s (t m) (e m))
      → Near s (fold_to (add f) x n t) (total n a e)
  sums_near zero t e {x} {a} fewer spare room X each = rw zero-add X
  sums_near (suc n) t e {x} {a} fewer spare room X each =
      let j = a.roundings in
      let same : n + suc j ≡ suc n + j = add-suc n j ∙ sym (suc-add n j) in
      let least = start_least n (a.bound + (e 0).bound) (λ (m : ℕ). (e (suc m)).bound) in
      let enough : cost s j ≤ s.spare * B = le_trans (mul-le-mul_right (B + s.spare) (omega arith)) spare in
      let next = sum_near (fewer 0 (zero-lt-suc n)) enough (omega arith) X (each 0 (zero-lt-suc n)) in
      let sum = total (suc n) a e in
      subst (λ (k : ℕ). Near s (fold_to (add f) x (suc n) t) (record { up = sum.up; down = sum.down; bound = sum.bound; roundings = k })) same
      (sums_near n (later t) (later e) (λ (m : ℕ) (below : m < n). le_trans (fewer (suc m) (suc-le-suc below)) (le-suc j))
      (subst (λ (k : ℕ). cost s k ≤ s.spare * B) (sym same) spare) room next (λ (m : ℕ) (below : m < n). each (suc m) (suc-le-suc below)))
