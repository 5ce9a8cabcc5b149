-- What an answer tells of the mesh. Assumes nothing.
use Prim.Native.Nat.{ℕ, ◌*◌, ◌%◌}
use mathlib.Core.Path.{◌≡◌, refl, sym, ap, ◌∙◌}
use mathlib.Core.Bool.{Bool, true, false, cond, not}
use mathlib.Core.List.{List}
use lib.Dec.{eqb, ltb}
use lib.ListN.{length}
use borrow.Author.Tests.{eqb-true}
use Rattle.numbers.proofs.Cases.{cases, never, is_false}
use Rattle.answer.specs.Answer.{Answer, answered, refused}
use Rattle.faults.specs.Faults.{first_fault}
use Rattle.numbering.specs.Refinement.{cell_count, twisted}
use Rattle.refine.specs.Refine.{refined, AcceptedIsStraight}

abbrev accepts : Answer ℕ → Bool
accepts (answered free) = true
accepts (refused k) = false

neither : (test : Bool) (x y : Answer ℕ) → accepts x ≡ false → accepts y ≡ false → accepts (cond test x y) ≡ false
neither true x y h k = h
neither false x y h k = k

-- the first four rungs refuse, and what stands behind them does not accept
four_rungs : (n : ℕ) (cells : List ℕ) (room : ℕ) (p q r s x : Answer ℕ)
    → accepts p ≡ false → accepts q ≡ false → accepts r ≡ false → accepts s ≡ false → accepts x ≡ false
    → accepts (cond (ltb 1024 n) p (cond (ltb 1024 (length cells)) q (cond (not (eqb (length cells % 8) 0)) r (cond (ltb room (64 * cell_count cells)) s x))))
    ≡ false
four_rungs n cells room p q r s x hp hq hr hs hx =
    neither (ltb 1024 n) _ _ hp
    (neither (ltb 1024 (length cells)) _ _ hq
    (neither (not (eqb (length cells % 8) 0)) _ _ hr
    (neither (ltb room (64 * cell_count cells)) _ _ hs hx)))

-- with a twisted face every rung refuses
not_accepted : (n : ℕ) (cells : List ℕ) (room : ℕ) → twisted cells ≡ true → accepts (refined n cells room) ≡ false
unfolding refined
not_accepted n cells room t = rw t (four_rungs n cells room _ _ _ _ _ refl refl refl refl (neither (not (eqb (first_fault n 8 cells) 0)) _ _ refl refl))

pub accepted_is_straight : AcceptedIsStraight
accepted_is_straight n cells room free e = is_false (twisted cells) (λ t. never (sym (ap accepts e) ∙ not_accepted n cells room t))

-- and with a fault
faulty_not_accepted : (n : ℕ) (cells : List ℕ) (room : ℕ) → twisted cells ≡ false → eqb (first_fault n 8 cells) 0 ≡ false
    → accepts (refined n cells room) ≡ false
unfolding refined
faulty_not_accepted n cells room straight f = rw (straight, f) (four_rungs n cells room _ _ _ _ _ refl refl refl refl refl)

pub accepted_is_faultless : (n : ℕ) (cells : List ℕ) (room free : ℕ) → refined n cells room ≡ answered free → first_fault n 8 cells ≡ 0
accepted_is_faultless n cells room free e =
    cases (eqb (first_fault n 8 cells) 0)
    (λ t. eqb-true (first_fault n 8 cells) 0 t)
    (λ f. never (sym (ap accepts e) ∙ faulty_not_accepted n cells room (accepted_is_straight n cells room free e) f))
