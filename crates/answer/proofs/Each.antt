-- Answers for each of a list: one more behind them, one that is refused, and what holds of all of them. Assumes nothing.
use Prim.Native.Nat.{ℕ, zero, suc}
use mathlib.Core.Path.{◌≡◌, refl, sym, ◌∙◌, ap, subst, subst⁻¹}
use mathlib.Core.List.{List, [], ◌∷◌, ◌++◌}
use lib.ListN.{length, get_or}
use Rattle.answer.specs.Answer.{Answer, answered, refused, and_then, each, RefusesBy}
use Rattle.answer.proofs.Answers.{answered_same, then_answered, refuses_then}

module _ {A B : Type 0} (f : A → Answer B) where
  -- the first is answered, and so are the rest
  record First (x : A) (xs : List A) (bs : List B) : Type 0 where
    pub b : B
    pub rest : List B
    pub is : f x ≡ answered b
    pub others : each f xs ≡ answered rest
    pub both : bs ≡ b ∷ rest

  first : (x : A) (xs : List A) (bs : List B) → each f (x ∷ xs) ≡ answered bs → First x xs bs
  unfolding each
  first x xs bs h =
      let head = then_answered (f x) _ bs h in
      let tail = then_answered (each f xs) _ bs head.next in
      record { b = head.value; rest = tail.value; is = head.is; others = tail.is; both = sym (answered_same tail.next) }

  pub each_append : (xs ys : List A) (bs : List B) → each f xs ≡ answered bs
      → each f (xs ++ ys) ≡ and_then (each f ys) (λ (cs : List B). answered (bs ++ cs))
  unfolding each
  each_append [] ys bs h = by (each f ys) bs (sym (answered_same h))
    where
      by : (a : Answer (List B)) (bs : List B) → bs ≡ [] → a ≡ and_then a (λ (cs : List B). answered (bs ++ cs))
      by (answered cs) bs e = rw e
      by (refused k) bs e = refl
  each_append (x ∷ xs) ys bs h =
      let one = first x xs bs h in
      rw (one.is, each_append xs ys one.rest one.others) (by (each f ys) one.b one.rest bs one.both)
    where
      by : (a : Answer (List B)) (b : B) (rest bs : List B) → bs ≡ b ∷ rest
          → and_then (and_then a (λ (cs : List B). answered (rest ++ cs))) (λ (cs : List B). answered (b ∷ cs)) ≡ and_then a (λ (cs : List B). answered (bs ++ cs))
      by (answered cs) b rest bs e = rw e
      by (refused k) b rest bs e = refl

  pub each_more : (xs : List A) (x : A) (bs : List B) (b : B) → each f xs ≡ answered bs → f x ≡ answered b
      → each f (xs ++ (x ∷ [])) ≡ answered (bs ++ (b ∷ []))
  unfolding each
  each_more xs x bs b h e = each_append xs (x ∷ []) bs h ∙ rw e

  pub each_stops : (xs ys : List A) (x : A) (bs : List B) (k : ℕ) → each f xs ≡ answered bs → f x ≡ refused k → each f (xs ++ (x ∷ ys)) ≡ refused k
  unfolding each
  each_stops xs ys x bs k h e = each_append xs (x ∷ ys) bs h ∙ rw e

  pub each_length : (xs : List A) (bs : List B) → each f xs ≡ answered bs → length bs ≡ length xs
  unfolding each
  each_length [] bs h = ap length (sym (answered_same h))
  each_length (x ∷ xs) bs h = let one = first x xs bs h in ap length one.both ∙ ap suc (each_length xs one.rest one.others)

  -- what holds of every answer holds of the list at every place
  module _ (P : B → Type 0) (holds : (x : A) (b : B) → f x ≡ answered b → P b) (d : B) (behind : P d) where
    pub each_holds : (xs : List A) (bs : List B) → each f xs ≡ answered bs → (i : ℕ) → P (get_or bs i d)
    unfolding each
    each_holds [] bs h i = subst (λ (l : List B). P (get_or l i d)) (answered_same h) behind
    each_holds (x ∷ xs) bs h zero = let one = first x xs bs h in subst⁻¹ (λ (l : List B). P (get_or l 0 d)) one.both (holds x one.b one.is)
    each_holds (x ∷ xs) bs h (suc i) =
        let one = first x xs bs h in
        subst⁻¹ (λ (l : List B). P (get_or l (suc i) d)) one.both (each_holds xs one.rest one.others i)

  pub refuses_each : (ns : List ℕ) → ((x : A) → RefusesBy ns (f x)) → (xs : List A) → RefusesBy ns (each f xs)
  unfolding each
  refuses_each ns one [] = tt
  refuses_each ns one (x ∷ xs) =
      refuses_then ns (f x) _ (one x) (λ b. refuses_then ns (each f xs) _ (refuses_each ns one xs) (λ bs. tt))
