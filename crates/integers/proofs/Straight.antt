-- Straight-line code of 64 bits with a sign. The machine puts every result into bits, so that a proof meets it as it is read back. Where the sizes of all
-- results are small, which is one computed test, each fits and is the number that is meant. Assumes nothing.
use Prim.Native.Nat.{ℕ, ◌+◌, ◌*◌, ◌^◌}
use mathlib.Core.Path.{◌≡◌, refl, ◌∙◌, ap₂, subst⁻¹}
use mathlib.Core.Bool.{Bool, ◌&&◌}
use mathlib.Core.List.{List}
use lib.Dec.{T, ltb}
use lib.IntN.{ℤ, pos, ◌+ℤ◌, ◌-ℤ◌, ◌*ℤ◌}
use lib.ListN.{get_or}
use mir.Syntax.{w64}
use mir.Val.{SFits}
use mir.Facts.{to_z-of_z}
use Rattle.numbers.specs.Arithmetic.{Arithmetic}
use Rattle.numbers.proofs.Tests.{first, second}
use Rattle.integers.specs.Sizes.{Within}
use Rattle.integers.proofs.Sizes.{within_self, within_add, within_sub, within_mul, within_fits, back}

pub data Operation : Type 0 where
  add : Operation
  sub : Operation
  mul : Operation

abbrev act : Operation → ℤ → ℤ → ℤ
act add x y = x +ℤ y
act sub x y = x -ℤ y
act mul x y = x *ℤ y

-- how large a result is at most
abbrev most : Operation → ℕ → ℕ → ℕ
most add m n = m + n
most sub m n = m + n
most mul m n = m * n

within_most : (o : Operation) {m n : ℕ} {x y : ℤ} → Within m x → Within n y → Within (most o m n) (act o x y)
within_most add p q = within_add p q
within_most sub p q = within_sub p q
within_most mul p q = within_mul p q

pub data Code : Type 0 where
  arg : ℕ → Code
  num : ℕ → Code
  op : Operation → Code → Code → Code

-- a formula that is written over any arithmetic gives its own code
abbrev pub codes : Arithmetic Code
codes =
    record {
      zero = num 0;
      one = num 1;
      neg = op sub (num 0);
      ◌⊕◌ = op add;
      ◌⊖◌ = op sub;
      ◌⊗◌ = op mul;
      ◌!◌ = λ (l : List Code) (k : ℕ). get_or l k (num 0);
    }

-- what is meant, where argument i is ρ i
abbrev pub meant : (ℕ → ℤ) → Code → ℤ
meant ρ (arg i) = ρ i
meant ρ (num k) = pos k
meant ρ (op o a b) = act o (meant ρ a) (meant ρ b)

-- what the machine has, and what it has before it goes into bits
abbrev pub got : (ℕ → ℤ) → Code → ℤ
got ρ (arg i) = back (ρ i)
got ρ (num k) = pos k
got ρ (op o a b) = back (act o (got ρ a) (got ρ b))

abbrev pub raw : (ℕ → ℤ) → Code → ℤ
raw ρ (arg i) = ρ i
raw ρ (num k) = pos k
raw ρ (op o a b) = act o (got ρ a) (got ρ b)

-- a bound of its size, where argument i is at most β i in size
abbrev pub size : (ℕ → ℕ) → Code → ℕ
size β (arg i) = β i
size β (num k) = k
size β (op o a b) = most o (size β a) (size β b)

abbrev small : (ℕ → ℕ) → Code → Bool
small β e = ltb (size β e) (2 ^ 63)

-- every result on the way is small
abbrev pub easy : (ℕ → ℕ) → Code → Bool
easy β (arg i) = small β (arg i)
easy β (num k) = small β (num k)
easy β (op o a b) = easy β a && (easy β b && small β (op o a b))

pub record Exact (β : ℕ → ℕ) (ρ : ℕ → ℤ) (e : Code) : Type 0 where
  pub fits : SFits w64 (raw ρ e)
  pub gives : got ρ e ≡ meant ρ e
  pub sized : Within (size β e) (meant ρ e)

module _ (β : ℕ → ℕ) (ρ : ℕ → ℤ) where
  -- from what it has before it goes into bits
  close : (e : Code) → got ρ e ≡ back (raw ρ e) → raw ρ e ≡ meant ρ e → Within (size β e) (meant ρ e) → T (small β e) → Exact β ρ e
  close e g r w t =
      let f : SFits w64 (raw ρ e) = subst⁻¹ (λ (z : ℤ). SFits w64 z) r (within_fits t w) in
      record { fits = f; gives = g ∙ to_z-of_z f ∙ r; sized = w }

  pub exact : ((i : ℕ) → Within (β i) (ρ i)) → (e : Code) → T (easy β e) → Exact β ρ e
  exact h (arg i) t = close (arg i) refl refl (h i) t
  exact h (num k) t = record { fits = within_fits t (within_self k); gives = refl; sized = within_self k }
  exact h (op o a b) t =
      let rest = second (easy β a) (easy β b && small β (op o a b)) t in
      let x = exact h a (first (easy β a) (easy β b && small β (op o a b)) t) in
      let y = exact h b (first (easy β b) (small β (op o a b)) rest) in
      close (op o a b) refl (ap₂ (act o) x.gives y.gives) (within_most o x.sized y.sized) (second (easy β b) (small β (op o a b)) rest)
