-- Bytes put into a lent buffer, from a place on. Definitions and claims only.
use Rattle.std.specs.Prelude.{ℕ, zero, suc, ◌+◌, ◌≤◌, ◌≡◌, Bool, cond, List, [], ◌++◌, leb, length, take, drop}

-- f 0, f 1, .. f (n - 1), each behind the one before
unfoldable pub joined : ℕ → (ℕ → List ℕ) → List ℕ
joined zero f = []
joined (suc n) f = joined n f ++ f n

-- whether a buffer has room for the whole of a text from `at` on
abbrev pub has_room : List ℕ → ℕ → List ℕ → Bool
has_room buffer at text = leb (at + length text) (length buffer)

-- what a buffer holds when a text is put into it from `at` on: where there is no room for the whole of it, nothing is written
unfoldable pub put : List ℕ → ℕ → List ℕ → List ℕ
put buffer at text = cond (has_room buffer at text) (take at buffer ++ (text ++ drop (at + length text) buffer)) buffer

-- the place behind the text, or the same place where nothing is written
unfoldable pub place_behind : List ℕ → ℕ → List ℕ → ℕ
place_behind buffer at text = cond (has_room buffer at text) (at + length text) at

-- what a function leaves that puts a text into a buffer, and the place `end` that it answers
pub record Puts (before after : List ℕ) (at end : ℕ) (text : List ℕ) : Type 0 where
  pub buffer : after ≡ put before at text
  pub place : end ≡ place_behind before at text

-- a buffer before and after, where text was written from `at` to `end`: nothing else has changed
pub record Wrote (before after : List ℕ) (at end : ℕ) (text : List ℕ) : Type 0 where
  pub ends : end ≡ at + length text
  pub reads : take end after ≡ take at before ++ text
  pub rest : drop end after ≡ drop end before
  pub keeps : length after ≡ length before

-- What is written leaves one possible buffer, and one place behind the text.
abbrev pub WroteLeavesOne : Type 0
WroteLeavesOne =
    (before x y : List ℕ) (at i j : ℕ) (text : List ℕ) → Wrote before x at i text → Wrote before y at j text → (x ≡ y) × (i ≡ j)

-- Where there is room, what is put is written; and one text behind another is both of them, written together.
pub record PutsWrite : Type 0 where
  pub whole : (before after : List ℕ) (at end : ℕ) (text : List ℕ)
      → at + length text ≤ length before → Puts before after at end text → Wrote before after at end text
  pub behind : (a b c : List ℕ) (at mid end : ℕ) (t u : List ℕ) → Wrote a b at mid t → Wrote b c mid end u → Wrote a c at end (t ++ u)
