-- The operations that a formula is written in, under the signs of floats. So one text is read in floats, as the code computes, and in whole numbers,
-- where a claim says what it comes to when nothing is rounded. Definitions only.
use Rattle.std.specs.Prelude.{ℕ, List}

pub record Arithmetic (A : Type 0) : Type 0 where
  pub zero : A
  pub one : A
  pub neg : A → A
  pub ◌⊕◌ : A → A → A
  pub ◌⊖◌ : A → A → A
  pub ◌⊗◌ : A → A → A
  -- number k of a list
  pub ◌!◌ : List A → ℕ → A
