-- What is wrong with a cell that names its nodes by number, for any number of corners. Definitions and claims only.
use Rattle.std.specs.Prelude.{ℕ, zero, suc, ◌+◌, ◌*◌, ◌/◌, ◌<◌, ◌≡◌, Bool, not, cond, List, eqb, ltb, length, get_or}
use Rattle.numbers.specs.Rule.{all}

-- "a flat list of cells, eight numbers each": node j of cell c, of k numbers each here
abbrev pub node : ℕ → List ℕ → ℕ → ℕ → ℕ
node k cells c j = get_or cells (k * c + j) 0

-- the same of a list that is one cell
abbrev pub names : List ℕ → ℕ → ℕ
names cell j = get_or cell j 0

-- no "node .. number out of range": each of k numbers is below n
abbrev pub in_range : ℕ → ℕ → (ℕ → ℕ) → Bool
in_range n k name = all k (λ (j : ℕ). ltb (name j) n)

-- no "node twice in one cell": each of k numbers differs from those before it
abbrev pub differs : (ℕ → ℕ) → ℕ → ℕ → Bool
differs name j i = not (eqb (name i) (name j))

abbrev pub new_at : (ℕ → ℕ) → ℕ → Bool
new_at name j = all j (differs name j)

abbrev pub different : ℕ → (ℕ → ℕ) → Bool
different k name = all k (new_at name)

-- "9 before 10": the fault of a cell whose k corners have these names, or 0
abbrev pub fault : ℕ → ℕ → (ℕ → ℕ) → ℕ
fault n k name = cond (in_range n k name) (cond (different k name) 0 10) 9

-- the fault of cell c
unfoldable pub fault_at : ℕ → ℕ → List ℕ → ℕ → ℕ
fault_at n k cells c = fault n k (node k cells c)

-- a fault that was found earlier stays
abbrev pub or_else : ℕ → ℕ → ℕ
or_else earlier this = cond (eqb earlier 0) this earlier

-- "cell by cell": the first fault of cells 0 .. c - 1, or 0
unfoldable pub first_to : ℕ → ℕ → List ℕ → ℕ → ℕ
first_to n k cells zero = 0
first_to n k cells (suc c) = or_else (first_to n k cells c) (fault_at n k cells c)

-- of all cells of the list
abbrev pub first_fault : ℕ → ℕ → List ℕ → ℕ
first_fault n k cells = first_to n k cells (length cells / k)

-- k numbers below n, all different
pub record Sound (n k : ℕ) (name : ℕ → ℕ) : Type 0 where
  pub below : (j : ℕ) → j < k → name j < n
  pub apart : (i j : ℕ) → i < j → j < k → name i ≡ name j → ⊥

-- Cells without a fault are those whose numbers are in range and differ.
pub record FaultlessIsSound : Type 0 where
  pub sound : (n k : ℕ) (cells : List ℕ) → first_fault n k cells ≡ 0 → (c : ℕ) → c < length cells / k → Sound n k (node k cells c)
  pub faultless : (n k : ℕ) (cells : List ℕ) → ((c : ℕ) → c < length cells / k → Sound n k (node k cells c)) → first_fault n k cells ≡ 0
