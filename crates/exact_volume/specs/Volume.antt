-- 216 times a hexahedron's signed volume, exactly: document 02, 3/12, from the paragraph to the number. It is written over any numbers with sum, product,
-- negation and numerals: in whole numbers it is `volume216`, and in expressions of unknown corners it is what a proof computes with. Definitions only.
use Rattle.std.specs.Prelude.{ℕ, zero, suc, ◌+◌, ◌-◌, ◌*◌, ◌/◌, Bool, true, false, ◌&&◌, cond, List, [], ◌∷◌, ◌++◌, map, eqb, ℤ, pos, get_or}
use Rattle.std.specs.Bool.{beq}
use Rattle.numbers.specs.Bits.{bit}
use Rattle.numbers.specs.Rule.{tabulate, least}
use Rattle.numbers.specs.Arithmetic.{Arithmetic}
use Rattle.integers.specs.Integers.{integers}
use Rattle.mat3_col_major.specs.Mat3.{matrix, det_in}
use Rattle.hexahedron.specs.Cube.{upper}

-- the corner that lies on these sides of the three axes, true for the upper side
abbrev pub corner_at : Bool → Bool → Bool → ℕ
corner_at p q u = least 8 (λ (k : ℕ). beq (upper k 0) p && (beq (upper k 1) q && beq (upper k 2) u))

-- a coefficient times r^a s^b t^c: a, b and c are powers 0, 1 and 2
pub record Term (A : Type 0) : Type 0 where
  pub coefficient : A
  pub powers : ℕ → ℕ

abbrev pub Polynomial : Type 0 → Type 0
Polynomial A = List (Term A)

-- the power of axis i is one less
abbrev pub lowered : ℕ → (ℕ → ℕ) → ℕ → ℕ
lowered i powers j = cond (eqb i j) (powers j - 1) (powers j)

-- "each r^a s^b t^c .. counts 216 / ((a+1)(b+1)(c+1)) times": 216 times its integral over the unit cube
abbrev pub weight : (ℕ → ℕ) → ℕ
weight powers = 216 / ((powers 0 + 1) * (powers 1 + 1) * (powers 2 + 1))

-- powers of 0 and 1: the three lowest bits of n, so that the numbers below eight give each choice once
abbrev pub zeros_and_ones : ℕ → ℕ → ℕ
zeros_and_ones n i = cond (bit n i) 1 0

module _ {A : Type 0} (a : Arithmetic A) (number : ℕ → A) where
  open a use {one, neg, ◌⊕◌, ◌⊖◌, ◌⊗◌}

  infixl 75 ◌⊕◌
  infixl 75 ◌⊖◌
  infixl 80 ◌⊗◌
  -- what an exponent takes of an axis' two sides: 1 takes the upper side less the lower, and 0 takes the lower side
  abbrev pub taken : ℕ → (Bool → A) → A
  taken zero side = side false
  taken (suc e) side = side true ⊖ side false

  -- "over the unit cube each axis is a polynomial in r, s, t with whole coefficients": x k is the coordinate of corner k
  abbrev pub coefficient : (ℕ → A) → (ℕ → ℕ) → A
  coefficient x powers = taken (powers 0) (λ p. taken (powers 1) (λ q. taken (powers 2) (λ u. x (corner_at p q u))))

  abbrev pub axis : (ℕ → A) → Polynomial A
  axis x = tabulate 8 (λ (n : ℕ). record { coefficient = coefficient x (zeros_and_ones n); powers = zeros_and_ones n })

  -- the slope along axis i: that of r^e along r is e r^(e-1), and where there is no r there is none
  abbrev pub slope : ℕ → Polynomial A → Polynomial A
  slope i [] = []
  slope i (t ∷ p) =
      cond (eqb (t.powers i) 0) (slope i p)
      (record { coefficient = number (t.powers i) ⊗ t.coefficient; powers = lowered i t.powers } ∷ slope i p)

  -- "multiply .. out": each term by each, and the powers added
  abbrev pub times_term : Term A → Polynomial A → Polynomial A
  times_term t q = map (λ (u : Term A). record { coefficient = t.coefficient ⊗ u.coefficient; powers = λ (i : ℕ). t.powers i + u.powers i }) q

  abbrev pub times : Polynomial A → Polynomial A → Polynomial A
  times [] q = []
  times (t ∷ p) q = times_term t q ++ times p q

  abbrev pub negated : Polynomial A → Polynomial A
  negated p = map (λ (t : Term A). record { coefficient = neg t.coefficient; powers = t.powers }) p

  abbrev pub constant : A → Polynomial A
  constant x = record { coefficient = x; powers = λ (i : ℕ). 0 } ∷ []

  abbrev pub polynomials : Arithmetic (Polynomial A)
  polynomials =
      record {
        zero = [];
        one = constant one;
        neg = negated;
        ◌⊕◌ = ◌++◌;
        ◌⊖◌ = λ (p q : Polynomial A). p ++ negated q;
        ◌⊗◌ = times;
        ◌!◌ = λ (l : List (Polynomial A)) (k : ℕ). get_or l k [];
      }

  -- "the trilinear map's Jacobian determinant": of the nine slopes, those of axis i along r, s and t
  abbrev pub jacobian : (ℕ → A) → (ℕ → A) → (ℕ → A) → Polynomial A
  jacobian x y z = det_in polynomials (matrix (λ (i j : ℕ). slope j (get_or (axis x ∷ axis y ∷ axis z ∷ []) i [])))

  -- 216 times the integral of a polynomial over the unit cube
  abbrev pub integral : Polynomial A → A
  integral [] = a.zero
  integral (t ∷ p) = number (weight t.powers) ⊗ t.coefficient ⊕ integral p

  -- "216 times the integral of the trilinear map's Jacobian determinant"
  abbrev pub volume_in : (ℕ → A) → (ℕ → A) → (ℕ → A) → A
  volume_in x y z = integral (jacobian x y z)

-- in whole numbers, for any corners: x k, y k and z k are the coordinates of corner k
unfoldable pub volume216 : (x y z : ℕ → ℤ) → ℤ
volume216 x y z = volume_in integers pos x y z
