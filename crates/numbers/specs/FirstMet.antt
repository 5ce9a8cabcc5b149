-- Things in the order in which they are first met, whatever counts as the same thing. Definitions only.
use Rattle.std.specs.Prelude.{◌≡◌, Bool, true, false, cond, not, ◌&&◌, ◌||◌, List, [], ◌∷◌, ◌++◌}

-- whether one of these is the same as x
abbrev pub among : {A : Type 0} → (A → A → Bool) → List A → A → Bool
among same [] x = false
among same (y ∷ ys) x = same y x || among same ys x

-- no two of these are the same
abbrev pub apart : {A : Type 0} → (A → A → Bool) → List A → Bool
apart same [] = true
apart same (x ∷ xs) = not (among same xs x) && apart same xs

-- those met so far, and then xs: what is the same as one met before is left out
unfoldable pub meet : {A : Type 0} → (A → A → Bool) → List A → List A → List A
meet same met [] = met
meet same met (x ∷ xs) = meet same (cond (among same met x) met (met ++ (x ∷ []))) xs

-- the different ones of a list, in the order in which they are first met
abbrev pub different : {A : Type 0} → (A → A → Bool) → List A → List A
different same xs = meet same [] xs

-- A test of sameness is fit to number by where every thing is the same as itself, either way round, and as what is the same as the same.
pub record Sameness {A : Type 0} (same : A → A → Bool) : Type 0 where
  pub self : (x : A) → same x x ≡ true
  pub swap : (x y : A) → same x y ≡ same y x
  pub across : (x y z : A) → same x y ≡ true → same y z ≡ true → same x z ≡ true
