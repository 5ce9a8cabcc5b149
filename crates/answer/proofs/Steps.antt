-- What n steps give: one step more, that a refusal stays, at which step it came, and by which numbers they are refused. Assumes nothing.
use Prim.Native.Nat.{ℕ, zero, suc, ◌+◌, ◌<◌}
use native.Mathlib.Nat.{zero-add, suc-add}
use native.Mathlib.Numerals.{add-one}
use native.Mathlib.Omega.{arith}
use mathlib.Core.Path.{◌≡◌, refl, sym, ◌∙◌, ap}
use mathlib.Core.List.{List}
use Rattle.answer.specs.Answer.{Answer, answered, refused, and_then, after, RefusesBy}
use Rattle.answer.proofs.Answers.{never, refuses_then}

module _ {A : Type 0} (step : A → Answer A) (start : A) where
  pub one_more : (i : ℕ) (q : A) (a : Answer A) → after step start i ≡ answered q → a ≡ step q → after step start (i + 1) ≡ a
  unfolding after
  one_more i q a h e = ap (after step start) (add-one i) ∙ ap (λ (b : Answer A). and_then b step) h ∙ sym e

  pub stays : (n d r : ℕ) → after step start n ≡ refused r → after step start (d + n) ≡ refused r
  unfolding after
  stays n zero r h = ap (after step start) (zero-add n) ∙ h
  stays n (suc d) r h = ap (after step start) (suc-add d n) ∙ ap (λ (b : Answer A). and_then b step) (stays n d r h)

  -- m steps that come to q, and n more
  pub after_from : (m n : ℕ) (q : A) → after step start m ≡ answered q → after step start (n + m) ≡ after step q n
  unfolding after
  after_from m zero q h = ap (after step start) (zero-add m) ∙ h
  after_from m (suc n) q h = ap (after step start) (suc-add n m) ∙ ap (λ (b : Answer A). and_then b step) (after_from m n q h)

  -- where n steps are refused, one of them is, and those before it give the place that it starts from
  pub record RefusedAt (n r : ℕ) : Type 0 where
    pub i : ℕ
    pub early : i < n
    pub q : A
    pub reached : after step start i ≡ answered q
    pub refusal : step q ≡ refused r

  pub refused_at : (n r : ℕ) → after step start n ≡ refused r → RefusedAt n r
  unfolding after
  refused_at zero r h = absurd (never r start (sym h))
  refused_at (suc n) r h = by (refused_at n r) (after step start n) refl h
    where
      by : (after step start n ≡ refused r → RefusedAt n r) → (a : Answer A) → after step start n ≡ a → and_then a step ≡ refused r → RefusedAt (suc n) r
      by before (answered q) e last = record { i = n; early = omega arith; q = q; reached = e; refusal = last }
      by before (refused m) e last =
          let found = before (e ∙ last) in
          record { i = found.i; early = omega (arith, found.early); q = found.q; reached = found.reached; refusal = found.refusal }

  pub refuses_after : (ns : List ℕ) → ((q : A) → RefusesBy ns (step q)) → (n : ℕ) → RefusesBy ns (after step start n)
  unfolding after
  refuses_after ns steps zero = tt
  refuses_after ns steps (suc n) = refuses_then ns (after step start n) step (refuses_after ns steps n) steps
