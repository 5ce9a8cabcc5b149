-- The corners of a cell as the code reads them, and their sizes. Assumes nothing.
use Prim.Native.Nat.{ℕ, ◌+◌, ◌*◌, ◌<◌}
use mathlib.Core.Path.{◌≡◌, sym, ◌∙◌, ap, subst⁻¹}
use mathlib.Core.List.{List}
use lib.Dec.{lit≤}
use lib.IntN.{ℤ, pos}
use lib.ListN.{length, get_or}
use Rattle.numbers.specs.Rule.{tabulate}
use Rattle.numbers.proofs.Tabulate.{tabulate_at, tabulate_holds, map_tabulate}
use Rattle.numbers.proofs.Stored.{length_tabulate}
use Rattle.integers.specs.Sizes.{Within, EachWithin}
use Rattle.integers.proofs.Sizes.{within_back, back}
use Rattle.faults.specs.Faults.{node}
use Rattle.exact_volume.specs.Volume.{volume216}
use Rattle.exact_volume.proofs.Determinants.{corners_alone}
use Rattle.exact_volume.proofs.Sizes.{volume_small}
use Rattle.volume_report.specs.Report.{cell_at, corner_of, cell_volume, volumes_of}
use Rattle.volume_report.specs.Sized.{most_volume, at}

module _ (numbers : List ℤ) (cells : List ℕ) (c i : ℕ) where
  pub corner_is : (k : ℕ) → k < 8 → corner_of numbers (cell_at cells c) i k ≡ get_or numbers (3 * get_or cells (8 * c + k) 0 + i) (pos 0)
  corner_is k h = ap (λ (n : ℕ). get_or numbers (3 * n + i) (pos 0)) (tabulate_at 8 (node 8 cells c) 0 k h)

  -- what is read is a number of the list
  pub corner_read : EachWithin 1024 numbers → (k : ℕ) → k < 8
      → back (get_or numbers (3 * get_or cells (8 * c + k) 0 + i) (pos 0)) ≡ corner_of numbers (cell_at cells c) i k
  corner_read small k h = within_back tt (small.at (3 * get_or cells (8 * c + k) 0 + i)) ∙ sym (corner_is k h)

-- ---- one cell
pub cell_volume_is : (numbers : List ℤ) (cells : List ℕ) (c : ℕ) (x y z : List ℤ)
    → x ≡ tabulate 8 (corner_of numbers (cell_at cells c) 0)
    → y ≡ tabulate 8 (corner_of numbers (cell_at cells c) 1)
    → z ≡ tabulate 8 (corner_of numbers (cell_at cells c) 2)
    → volume216 (at x) (at y) (at z) ≡ cell_volume numbers (cell_at cells c)
unfolding cell_volume
cell_volume_is numbers cells c x y z ex ey ez =
    (λ i. volume216 (at (ex i)) (at (ey i)) (at (ez i)))
    ∙ corners_alone (corner_of numbers (cell_at cells c) 0) (corner_of numbers (cell_at cells c) 1) (corner_of numbers (cell_at cells c) 2)

pub cell_small : (numbers : List ℤ) (cell : List ℕ) → EachWithin 1024 numbers → Within most_volume (cell_volume numbers cell)
unfolding cell_volume
cell_small numbers cell small =
    volume_small (corner_of numbers cell 0) (corner_of numbers cell 1) (corner_of numbers cell 2) (λ k. small.at _) (λ k. small.at _) (λ k. small.at _)

-- ---- all cells
module _ (numbers : List ℤ) (cells : List ℕ) (n : ℕ) where
  pub volumes_by_cell : volumes_of numbers cells n ≡ tabulate n (λ (c : ℕ). cell_volume numbers (cell_at cells c))
  volumes_by_cell = map_tabulate (cell_volume numbers) n (cell_at cells)

  pub volumes_long : length (volumes_of numbers cells n) ≡ n
  volumes_long = ap length volumes_by_cell ∙ length_tabulate n (λ (c : ℕ). cell_volume numbers (cell_at cells c))

  pub volumes_small : EachWithin 1024 numbers → EachWithin most_volume (volumes_of numbers cells n)
  volumes_small small =
      subst⁻¹ (EachWithin most_volume) volumes_by_cell
      (record {
        at = tabulate_holds (Within most_volume) n (λ (c : ℕ). cell_volume numbers (cell_at cells c)) (pos 0)
            (λ c. cell_small numbers (cell_at cells c) small) (record { within = lit≤ tt });
      })
