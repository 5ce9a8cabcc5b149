-- The sum of two finite values is the exact one, in units, rounded: so it is off by at most one part in 2 ^ prec of itself, at any size. Assumes nothing.
use Prim.Native.Nat.{ℕ, ◌+◌, ◌-◌, ◌*◌, ◌^◌, ◌≤◌, ◌<◌}
use native.Mathlib.Nat.{le_of_mul-le-mul_right, lt_of_mul-lt-mul_right, mul-le-mul_right, mul-lt-mul_of_pos_right}
use native.Mathlib.Nat.{mul-pos, mul_comm, mul_assoc, add-mul, mul-sub}
use native.Mathlib.Omega.{arith}
use mathlib.Core.Path.{◌≡◌, refl, sym, ap, ap₂, ◌∙◌, subst}
use mathlib.Core.Bool.{Bool, true, false, not, cond}
use lib.Dec.{T, ltb, ltb→lt, lt→ltb, nltb→le}
use lib.Pow.{pow_pos}
use lib.Ieee.{Float, nan, inf, fin, Format, prec, low, up, down, round, sum, add}
use lib.Ieee.Exact.{HasValue}
use lib.Ieee.Fits.{down_pos}
use lib.Ieee.Scale.{round_same, finite, overflow}
use Rattle.binary64.specs.Exact.{size_in, is_negative}
use Rattle.rounding.proofs.Within.{Within}
use Rattle.rounding.proofs.Units.{Held, own_value, gain, loss, plus, minus}
use Rattle.rounding.proofs.Round.{Rounded, round_units}

-- ---- `sum` sees only the values of its fractions
same_test : (p q : Bool) → (T p → T q) → (T q → T p) → p ≡ q
same_test true true a b = refl
same_test true false a b = absurd (a tt)
same_test false true a b = absurd (b tt)
same_test false false a b = refl

ltb_scaled : (a b m : ℕ) → 0 < m → ltb (a * m) (b * m) ≡ ltb a b
ltb_scaled a b m pos =
    same_test (ltb (a * m) (b * m)) (ltb a b) (λ (t : T (ltb (a * m) (b * m))). lt→ltb a b (lt_of_mul-lt-mul_right m (ltb→lt (a * m) (b * m) t)))
    (λ (t : T (ltb a b)). lt→ltb (a * m) (b * m) (mul-lt-mul_of_pos_right (ltb→lt a b t) pos))

round_scaled : (f : Format) (s : Bool) (n c m : ℕ) → 0 < c → 0 < m → round f s (n * m) (c * m) ≡ round f s n c
round_scaled f s n c m C M = round_same f s (n * m) (c * m) n c (mul-pos C M) C (mul_assoc n m c ∙ ap (λ (x : ℕ). n * x) (mul_comm m c))

sub_scaled : (a b m : ℕ) → a * m - b * m ≡ (a - b) * m
sub_scaled a b m = ap₂ (λ (x y : ℕ). x - y) (mul_comm a m) (mul_comm b m) ∙ sym (mul-sub m a b) ∙ mul_comm m (a - b)

pub sum_scaled : (f : Format) (s : Bool) (a : ℕ) (t : Bool) (b c m : ℕ) → 0 < c → 0 < m → sum f s (a * m) t (b * m) (c * m) ≡ sum f s a t b c
unfolding sum
sum_scaled f s a t b c m C M = simp (ltb_scaled a b m M, ltb_scaled b a m M, ← add-mul, sub_scaled, round_scaled)

pub add_units : (f : Format) (x y : Float) (s t : Bool) (X Y : ℕ) → HasValue x s X (2 ^ low f) → HasValue y t Y (2 ^ low f)
    → add f x y ≡ sum f s X t Y (2 ^ low f)
unfolding add
add_units f nan y s t X Y p q = absurd p
add_units f (inf u) y s t X Y p q = absurd p
add_units f (fin u m e) nan s t X Y p q = absurd q
add_units f (fin u m e) (inf v) s t X Y p q = absurd q
add_units f (fin u m e) (fin v n d) s t X Y p q =
    let a = m * up e * down d in
    let b = n * up d * down e in
    let c = down e * down d in
    let l = 2 ^ low f in
    let scaled_a : a * l ≡ X * c = omega (arith, ap (λ (z : ℕ). z * down d) p.1) in
    let scaled_b : b * l ≡ Y * c = omega (arith, ap (λ (z : ℕ). z * down e) q.1) in
    ap₂ (λ (s t : Bool). sum f s a t b c) p.0 q.0
    ∙ sym (sum_scaled f s a t b c l (mul-pos (down_pos e) (down_pos d)) (pow_pos (low f)))
    ∙ (simp (scaled_a, scaled_b, mul_comm c l))
    ∙ sum_scaled f s X t Y l c (pow_pos (low f)) (mul-pos (down_pos e) (down_pos d))

-- ---- it is what is for it less what is against it, rounded
record Difference (f : Format) (z : Float) (P N : ℕ) : Type 0 where
  sign : Bool
  gap : ℕ
  rounds : z ≡ round f sign gap (2 ^ low f)
  balance : gain sign gap + N ≡ loss sign gap + P

module _ (f : Format) (X Y : ℕ) where
  abbrev rounded : Bool → ℕ → Float
  rounded s n = round f s n (2 ^ low f)

  sum_difference : (s t : Bool) → Difference f (sum f s X t Y (2 ^ low f)) (gain s X + gain t Y) (loss s X + loss t Y)
  unfolding sum
  sum_difference false false = record { sign = false; gap = X + Y; rounds = refl; balance = omega arith }
  sum_difference true true = record { sign = true; gap = X + Y; rounds = refl; balance = omega arith }
  sum_difference false true = go (ltb X Y) (ltb→lt X Y) (nltb→le X Y)
    where
      go : (b : Bool) → (T b → X < Y) → (T (not b) → Y ≤ X) → Difference f (cond b (rounded true (Y - X)) (rounded false (X - Y))) (X + 0) (0 + Y)
      go true less more = let h = less tt in record { sign = true; gap = Y - X; rounds = refl; balance = omega arith }
      go false less more = let h = more tt in record { sign = false; gap = X - Y; rounds = refl; balance = omega arith }
  sum_difference true false = go (ltb X Y) (ltb Y X) (ltb→lt X Y) (nltb→le X Y) (nltb→le Y X)
    where
      go : (b c : Bool) → (T b → X < Y) → (T (not b) → Y ≤ X) → (T (not c) → X ≤ Y)
          → Difference f (cond b (rounded false (Y - X)) (rounded c (X - Y))) (0 + Y) (X + 0)
      go true c less more same = let h = less tt in record { sign = false; gap = Y - X; rounds = refl; balance = omega arith }
      go false true less more same = let h = more tt in record { sign = true; gap = X - Y; rounds = refl; balance = omega arith }
      go false false less more same =
          let h = more tt in
          let k = same tt in
          record { sign = false; gap = X - Y; rounds = refl; balance = omega arith }

-- ---- so it is off by at most one part in 2 ^ prec of any bound w / D on its exact size
pub record Added (f : Format) (z : Float) (P N D w : ℕ) : Type 0 where
  pub is_finite : T (finite z)
  pub close : Within ((plus f z + N) * 2 ^ prec f * D) ((minus f z + P) * 2 ^ prec f * D) w

module _ (u : Bool) (n D P N w : ℕ) (e : gain u n + N ≡ loss u n + P) where
  gap_at_most : Within (P * D) (N * D) w → n * D ≤ w
  gap_at_most apart = go u e
    where
      go : (u : Bool) → gain u n + N ≡ loss u n + P → n * D ≤ w
      go true e = omega (arith, ap (λ (x : ℕ). x * D) e)
      go false e = omega (arith, ap (λ (x : ℕ). x * D) e)

  balanced : (g B : ℕ) → Within (g * 1 * B) (n * B) n → n * D ≤ w → Within ((gain u g + N) * B * D) ((loss u g + P) * B * D) w
  balanced g B near most = go u e (mul-le-mul_right D near.over) (mul-le-mul_right D near.under)
    where
      go : (u : Bool) → gain u n + N ≡ loss u n + P → g * 1 * B * D ≤ (n * B + n) * D → n * B * D ≤ (g * 1 * B + n) * D
          → Within ((gain u g + N) * B * D) ((loss u g + P) * B * D) w
      go true e over under = omega (arith, ap (λ (x : ℕ). x * B * D) e)
      go false e over under = omega (arith, ap (λ (x : ℕ). x * B * D) e)

module _ (f : Format) (x y : Float) (D w : ℕ) (X : Held f x) (Y : Held f y) (pos : 0 < D) (room : w * 2 ≤ overflow f * D) where
  abbrev P : ℕ
  P = plus f x + plus f y

  abbrev N : ℕ
  N = minus f x + minus f y

  exact : Difference f (add f x y) P N
  unfolding plus minus
  exact =
      subst (λ (z : Float). Difference f z P N)
      (sym (add_units f x y (is_negative x) (is_negative y) (size_in f x) (size_in f y) (own_value f x X) (own_value f y Y)))
      (sum_difference f (size_in f x) (size_in f y) (is_negative x) (is_negative y))

  pub add_near : Within (P * D) (N * D) w → Added f (add f x y) P N D w
  unfolding plus minus
  add_near apart =
      let n = exact.gap in
      let most = gap_at_most exact.sign n D P N w exact.balance apart in
      let small : n * 2 ≤ overflow f = le_of_mul-le-mul_right {k = D} (omega arith) pos in
      let z = subst (λ (z : Float). Rounded f z exact.sign n 1 n) (sym exact.rounds) (round_units f exact.sign n small) in
      record {
        is_finite = z.is_finite;
        close = rw z.sign (balanced exact.sign n D P N w exact.balance (size_in f (add f x y)) (2 ^ prec f) z.close most);
      }
