-- A total as a sum over the index, and one turn of the sum of volumes. Assumes nothing.
use Prim.Native.Nat.{ℕ, zero, suc, ◌+◌, ◌*◌, ◌≤◌, ◌<◌}
use native.Mathlib.Omega.{arith}
use mathlib.Core.Path.{◌≡◌, sym, ◌∙◌, subst⁻¹}
use mathlib.Core.List.{List}
use lib.IntN.{ℤ, pos, ◌+ℤ◌, +ℤ_assoc, +ℤ_idl, +ℤ_idr}
use lib.ListN.{length, drop, get_or}
use mir.Syntax.{w64}
use mir.Val.{SFits}
use Rattle.numbers.specs.Rule.{tabulate, fold_to}
use Rattle.integers.specs.Sizes.{Within, EachWithin}
use Rattle.integers.specs.Sums.{sum_to}
use Rattle.integers.proofs.Sizes.{within_add, within_fits, within_back, within_more, back}
use Rattle.volume_report.specs.Sized.{most_volume}
use Rattle.volume_report.specs.Report.{total}

total_from : (a : ℤ) (n : ℕ) (f : ℕ → ℤ) → fold_to ◌+ℤ◌ a n f ≡ a +ℤ total (tabulate n f)
total_from a zero f = sym (+ℤ_idr a)
total_from a (suc n) f = total_from (a +ℤ f 0) n (λ (k : ℕ). f (suc k)) ∙ +ℤ_assoc a (f 0) (total (tabulate n (λ (k : ℕ). f (suc k))))

pub total_is : (n : ℕ) (f : ℕ → ℤ) → sum_to n f ≡ total (tabulate n f)
total_is n f = total_from (pos 0) n f ∙ +ℤ_idl (total (tabulate n f))

-- what the loop holds: s is the sum of the first c volumes
pub record Summed (volumes : List ℤ) (c : ℕ) (s : ℤ) : Type 0 where
  pub within : c ≤ length volumes
  pub rest : s +ℤ total (drop c volumes) ≡ total volumes
  pub small : Within (c * most_volume) s

module _ (volumes : List ℤ) (sized : EachWithin most_volume volumes) (few : length volumes ≤ 128) (c : ℕ) (s : ℤ) (h : Summed volumes c s)
    (more : c < length volumes) where
  abbrev volume : ℤ
  volume = get_or volumes c (pos 0)

  same : back volume ≡ volume
  same = within_back tt (sized.at c)

  sum_small : Within (c * most_volume + most_volume) (s +ℤ volume)
  sum_small = within_add h.small (sized.at c)

  pub sum_fits : SFits w64 (s +ℤ back (get_or volumes c (pos 0)))
  sum_fits = subst⁻¹ (λ (v : ℤ). SFits w64 (s +ℤ v)) same (within_fits {n = 128 * most_volume} tt (within_more (omega arith) sum_small))
