-- A number of a line and what stands behind it, appended one after the other. Assumes nothing.
use Prim.Native.Nat.{ℕ, ◌+◌, ◌*◌, ◌≤◌, ◌<◌}
use native.Mathlib.Omega.{arith}
use mathlib.Core.Path.{◌≡◌, ap}
use mathlib.Core.List.{List, [], ◌∷◌, ◌++◌, append_assoc}
use lib.ListN.{length, get_or, length-append}
use Rattle.text.specs.Text.{decimal}
use Rattle.std.specs.Simd.{first_chunks}
use Rattle.faults.proofs.Faults.{taken}
use Rattle.buffer.proofs.Joined.{joined_alike}
use Rattle.kids.specs.Table.{behind, field, line}

module _ (numbers : List ℕ) (j : ℕ) {x : ℕ} (is : x ≡ get_or numbers j 0) where
  made : field 8 numbers 0 j ≡ decimal x ++ (behind j 8 ∷ [])
  made = let at : 0 + j ≡ j = omega arith in rw (at, is)

  module _ (items : List ℕ) {room : ℕ} (fits : length items + length (field 8 numbers 0 j) ≤ room) where
    long : length (field 8 numbers 0 j) ≡ length (decimal x) + 1
    long = rw made (length-append (decimal x) (behind j 8 ∷ []))

    pub number_room : length items + length (decimal x) ≤ room
    number_room = omega (arith, fits, long)

    pub byte_room : (next : List ℕ) → next ≡ items ++ decimal x → length next < room
    byte_room next e = rw (e, length-append) (omega (arith, fits, long))

  pub field_more : (items : List ℕ) {next last : List ℕ} {b : ℕ} → b ≡ behind j 8 → next ≡ items ++ decimal x → last ≡ next ++ (b ∷ [])
      → last ≡ items ++ field 8 numbers 0 j
  field_more items byte number more = rw (made, more, number, byte) (append_assoc items (decimal x) (behind j 8 ∷ []))

-- the lines of a list that is taken eight numbers at a time
pub line_taken : (m : ℕ) (numbers : List ℕ) (i : ℕ) → i < m → line 8 (get_or (first_chunks 8 m numbers) i []) 0 ≡ line 8 numbers (8 * i)
line_taken m numbers i below =
    joined_alike 8 (field 8 (get_or (first_chunks 8 m numbers) i []) 0) (field 8 numbers (8 * i))
    (λ j h. let at : 0 + j ≡ j = omega arith in rw at (ap (λ (x : ℕ). decimal x ++ (behind j 8 ∷ [])) (taken 8 m numbers i below j h)))
