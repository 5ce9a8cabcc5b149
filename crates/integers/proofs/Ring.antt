-- ℤ is a commutative ring: what the kit's ℤ lacks of one, each by counting the first factor up and down from zero. Assumes nothing.
use Prim.Native.Nat.{zero, suc}
use mathlib.Core.Path.{◌≡◌, sym, ◌∙◌, ap}
use lib.IntN.{ℤ, pos, negsuc, suc_ℤ, pred_ℤ, neg_ℤ, ◌+ℤ◌, ◌-ℤ◌, ◌*ℤ◌}
use lib.IntN.{+ℤ_idl, +ℤ_idr, +ℤ_assoc, +ℤ_comm, +ℤ_invl, +ℤ_invr, suc_ℤ-+ℤ, pred_ℤ-+ℤ, suc_ℤ-*ℤ, pred_ℤ-*ℤ, zero-*ℤ, *ℤ_comm}

by_counting : (P : ℤ → Type 0) → P (pos 0) → ((m : ℤ) → P m → P (suc_ℤ m)) → ((m : ℤ) → P m → P (pred_ℤ m)) → (k : ℤ) → P k
by_counting P z s p (pos zero) = z
by_counting P z s p (pos (suc n)) = s (pos n) (by_counting P z s p (pos n))
by_counting P z s p (negsuc zero) = p (pos 0) z
by_counting P z s p (negsuc (suc n)) = p (negsuc n) (by_counting P z s p (negsuc n))

pub plus_swap : (a b c : ℤ) → (a +ℤ b) +ℤ c ≡ (a +ℤ c) +ℤ b
plus_swap a b c = +ℤ_assoc a b c ∙ ap (λ x. a +ℤ x) (+ℤ_comm b c) ∙ sym (+ℤ_assoc a c b)

pub plus_left_swap : (a b c : ℤ) → a +ℤ (b +ℤ c) ≡ b +ℤ (a +ℤ c)
plus_left_swap a b c = sym (+ℤ_assoc a b c) ∙ ap (λ x. x +ℤ c) (+ℤ_comm a b) ∙ +ℤ_assoc b a c

pub sum_times : (m n k : ℤ) → (m +ℤ n) *ℤ k ≡ m *ℤ k +ℤ n *ℤ k
sum_times m n k =
    by_counting (λ m. (m +ℤ n) *ℤ k ≡ m *ℤ k +ℤ n *ℤ k)
    (ap (λ x. x *ℤ k) (+ℤ_idl n) ∙ sym (+ℤ_idl (n *ℤ k)) ∙ ap (λ x. x +ℤ n *ℤ k) (sym (zero-*ℤ k)))
    (λ m before.
    ap (λ x. x *ℤ k) (suc_ℤ-+ℤ m n) ∙ suc_ℤ-*ℤ (m +ℤ n) k ∙ ap (λ x. x +ℤ k) before
    ∙ plus_swap (m *ℤ k) (n *ℤ k) k ∙ ap (λ x. x +ℤ n *ℤ k) (sym (suc_ℤ-*ℤ m k)))
    (λ m before.
    ap (λ x. x *ℤ k) (pred_ℤ-+ℤ m n) ∙ pred_ℤ-*ℤ (m +ℤ n) k ∙ ap (λ x. x -ℤ k) before
    ∙ plus_swap (m *ℤ k) (n *ℤ k) (neg_ℤ k) ∙ ap (λ x. x +ℤ n *ℤ k) (sym (pred_ℤ-*ℤ m k)))
    m

pub times_sum : (m n k : ℤ) → m *ℤ (n +ℤ k) ≡ m *ℤ n +ℤ m *ℤ k
times_sum m n k = rw (*ℤ_comm m (n +ℤ k), sum_times n k m, *ℤ_comm n m, *ℤ_comm k m)

-- what adds to zero is the negative
neg_alone : (a b : ℤ) → a +ℤ b ≡ pos 0 → b ≡ neg_ℤ a
neg_alone a b h =
    sym (+ℤ_idl b) ∙ ap (λ x. x +ℤ b) (sym (+ℤ_invl a)) ∙ +ℤ_assoc (neg_ℤ a) a b ∙ ap (λ x. neg_ℤ a +ℤ x) h ∙ +ℤ_idr (neg_ℤ a)

pub neg_times : (a b : ℤ) → neg_ℤ a *ℤ b ≡ neg_ℤ (a *ℤ b)
neg_times a b = neg_alone (a *ℤ b) (neg_ℤ a *ℤ b) (sym (sum_times a (neg_ℤ a) b) ∙ ap (λ x. x *ℤ b) (+ℤ_invr a) ∙ zero-*ℤ b)

pub times_assoc : (m n k : ℤ) → (m *ℤ n) *ℤ k ≡ m *ℤ (n *ℤ k)
times_assoc m n k =
    by_counting (λ m. (m *ℤ n) *ℤ k ≡ m *ℤ (n *ℤ k))
    (ap (λ x. x *ℤ k) (zero-*ℤ n) ∙ zero-*ℤ k ∙ sym (zero-*ℤ (n *ℤ k)))
    (λ m before.
    ap (λ x. x *ℤ k) (suc_ℤ-*ℤ m n) ∙ sum_times (m *ℤ n) n k ∙ ap (λ x. x +ℤ n *ℤ k) before ∙ sym (suc_ℤ-*ℤ m (n *ℤ k)))
    (λ m before.
    ap (λ x. x *ℤ k) (pred_ℤ-*ℤ m n) ∙ sum_times (m *ℤ n) (neg_ℤ n) k ∙ ap (λ x. (m *ℤ n) *ℤ k +ℤ x) (neg_times n k)
    ∙ ap (λ x. x -ℤ n *ℤ k) before ∙ sym (pred_ℤ-*ℤ m (n *ℤ k)))
    m

pub times_left_swap : (a b c : ℤ) → a *ℤ (b *ℤ c) ≡ b *ℤ (a *ℤ c)
times_left_swap a b c = sym (times_assoc a b c) ∙ ap (λ x. x *ℤ c) (*ℤ_comm a b) ∙ times_assoc b a c

pub one_times : (a : ℤ) → pos 1 *ℤ a ≡ a
one_times a = suc_ℤ-*ℤ (pos 0) a ∙ ap (λ x. x +ℤ a) (zero-*ℤ a) ∙ +ℤ_idl a

pub times_one : (a : ℤ) → a *ℤ pos 1 ≡ a
times_one a = *ℤ_comm a (pos 1) ∙ one_times a

-- equal, where the difference is zero
pub equal_where_no_difference : (a b : ℤ) → a -ℤ b ≡ pos 0 → a ≡ b
equal_where_no_difference a b h =
    sym (+ℤ_idr a) ∙ ap (λ x. a +ℤ x) (sym (+ℤ_invl b)) ∙ sym (+ℤ_assoc a (neg_ℤ b) b) ∙ ap (λ x. x +ℤ b) h ∙ +ℤ_idl b
