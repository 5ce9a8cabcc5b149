-- Nothing, a byte, and one text behind another, written into a buffer; what is put where there is room, and where there is none. Assumes nothing.
use Prim.Native.Nat.{ℕ, ◌+◌, ◌-◌, ◌*◌, ◌≤◌, ◌<◌}
use native.Mathlib.Numerals.{add-one}
use native.Mathlib.Omega.{arith}
use mathlib.Core.Path.{◌≡◌, refl, sym, ◌∙◌, ap, ap₂}
use mathlib.Core.Bool.{Bool, true, false}
use mathlib.Core.List.{List, [], ◌∷◌, ◌++◌, map, append-nil, append_assoc}
use lib.Dec.{leb}
use lib.ListN.{length, get_or, take, drop, set, length-append, length-set, length-take, take-append-drop}
use lib.Seq.{take-suc-set, drop-set-lt, drop-drop, take_at, drop_at, length_front, length-take-le}
use borrow.Author.Tests.{le-leb, lt-leb}
use borrow.Rule.Slice.PartMut.{put_mid}
use Rattle.numbers.specs.Little.{bytes, all_bytes}
use Rattle.std.proofs.lemmas.List.{get_or-map, length-map, take_all}
use Rattle.numbers.proofs.Little.{length_bytes, length_all_bytes, all_bytes_more}
use Rattle.numbers.proofs.Slots.{row_next}
use Rattle.buffer.specs.Put.{has_room, put, place_behind, Puts, Wrote, WroteLeavesOne, PutsWrite}

pub wrote_none : {l : List ℕ} {at : ℕ} → Wrote l l at at []
wrote_none {l} {at} = record { ends = omega arith; reads = sym (append-nil (take at l)); rest = refl; keeps = refl }

pub wrote_byte : {l : List ℕ} {at b : ℕ} → at < length l → Wrote l (set l at b) at (at + 1) (b ∷ [])
wrote_byte {l} {at} {b} inside =
    record { ends = refl; reads = rw (add-one, take-suc-set l at b inside); rest = drop-set-lt (at + 1) l at b (omega arith); keeps = length-set l at b }

-- what is the same from mid on is the same from any later place on
same_behind : (a b : List ℕ) (mid more : ℕ) → drop mid a ≡ drop mid b → drop (mid + more) a ≡ drop (mid + more) b
same_behind a b mid more e = rw (← drop-drop more mid a, ← drop-drop more mid b, e)

pub wrote_then : {a b c : List ℕ} {at mid end : ℕ} {t u : List ℕ} → Wrote a b at mid t → Wrote b c mid end u → Wrote a c at end (t ++ u)
wrote_then {a} {b} {c} {at} {mid} {end} {t} {u} w v =
    record {
      ends = rw (length-append t u) (omega (arith, w.ends, v.ends));
      reads = v.reads ∙ ap (λ (l : List ℕ). l ++ u) w.reads ∙ append_assoc (take at a) t u;
      rest = v.rest ∙ rw v.ends (same_behind b a mid (length u) w.rest);
      keeps = v.keeps ∙ w.keeps;
    }

pub wrote_as : {before after : List ℕ} {at end : ℕ} {t u : List ℕ} → t ≡ u → Wrote before after at end t → Wrote before after at end u
wrote_as e w = rw e at w

-- one text behind another, where both together are a third
pub wrote_on : {a b c : List ℕ} {at mid end last : ℕ} {t u v : List ℕ} → end ≡ last → t ++ u ≡ v → Wrote a b at mid t → Wrote b c mid end u
    → Wrote a c at last v
wrote_on place text w more = wrote_as text (rw place at (wrote_then w more))

-- what is written from the start is the head of the buffer
pub wrote_counts : {before after : List ℕ} {end : ℕ} {t : List ℕ} → Wrote before after 0 end t → (end ≤ length after) × (end ≡ length (take end after))
wrote_counts {before} {after} {end} {t} w =
    let whole : end ≡ length (take end after) = w.ends ∙ omega (arith, ap length w.reads) in
    (omega (arith, length-take end after, whole), whole)

-- what is written, in one piece
pub wrote_is : {before after : List ℕ} {at end : ℕ} {t : List ℕ} → Wrote before after at end t → after ≡ take at before ++ (t ++ drop (at + length t) before)
wrote_is {before} {after} {at} {end} {t} w =
    sym (take-append-drop end after)
    ∙ ap₂ (λ (k l : List ℕ). k ++ l) w.reads (rw (← w.ends) w.rest)
    ∙ append_assoc (take at before) t (drop (at + length t) before)

pub wrote_leaves_one : WroteLeavesOne
wrote_leaves_one before x y at i j text v w = (wrote_is v ∙ sym (wrote_is w), v.ends ∙ sym w.ends)

-- ---- what is put: all of a text, or nothing
-- as a test of the room for so many bytes says
room_is : (before : List ℕ) (at : ℕ) (text : List ℕ) (size : ℕ) (test : Bool) → length text ≡ size → test ≡ leb (at + size) (length before)
    → has_room before at text ≡ test
room_is before at text size test long is = rw long (sym is)

module _ {before : List ℕ} {at : ℕ} {text : List ℕ} where
  pub puts_nothing : (size : ℕ) (test : Bool) → length text ≡ size → test ≡ leb (at + size) (length before) → test ≡ false
      → Puts before before at at text
  unfolding put place_behind
  puts_nothing size test long is none =
      let no : has_room before at text ≡ false = room_is before at text size test long is ∙ none in
      record { buffer = rw no; place = rw no }

  pub puts_written : {after : List ℕ} (size : ℕ) (test : Bool) → length text ≡ size → test ≡ leb (at + size) (length before) → test ≡ true
      → Wrote before after at (at + size) text → Puts before after at (at + size) text
  unfolding put place_behind
  puts_written size test long is some w =
      let yes : has_room before at text ≡ true = room_is before at text size test long is ∙ some in
      record { buffer = rw yes (wrote_is w); place = rw yes w.ends }

pub puts_as : {before after : List ℕ} {at end : ℕ} {t u : List ℕ} → t ≡ u → Puts before after at end t → Puts before after at end u
puts_as e p = rw e at p

put_wrote : (before : List ℕ) (at : ℕ) (text : List ℕ) → at + length text ≤ length before
    → Wrote before (take at before ++ (text ++ drop (at + length text) before)) at (at + length text) text
put_wrote before at text room =
    let rest = drop (at + length text) before in
    let head : length (take at before) ≡ at = rw length-take (omega arith) in
    let front : length (take at before ++ text) ≡ at + length text = rw (length-append, head) in
    let cut : take at before ++ (text ++ rest) ≡ (take at before ++ text) ++ rest = sym (append_assoc (take at before) text rest) in
    record {
      ends = refl;
      reads = rw (cut, take_at (take at before ++ text) rest (at + length text) front);
      rest = rw (cut, drop_at (take at before ++ text) rest (at + length text) front);
      keeps = rw cut (length_front before (take at before ++ text) (at + length text) (front ∙ sym (length-take-le (at + length text) before room)));
    }

-- a text in the place of a part of the buffer
pub wrote_part : {l part text : List ℕ} {at size : ℕ} → at + size ≤ length l → part ≡ text → length text ≡ size
    → Wrote l (put_mid at (at + size - at) l part) at (at + size) text
wrote_part {l} {part} {text} {at} {size} fits is long =
    let few : at + size - at ≡ length text = omega (arith, long) in
    let rest : drop (at + size - at) (drop at l) ≡ drop (at + length text) l = rw few (drop-drop (length text) at l) in
    let same : put_mid at (at + size - at) l part ≡ take at l ++ (text ++ drop (at + length text) l) =
    ap₂ (λ (t r : List ℕ). take at l ++ (t ++ r)) is rest
    in
    rw (same, ← long) (put_wrote l at text (omega (arith, long)))

pub puts_wrote : {before after : List ℕ} {at end : ℕ} {text : List ℕ} → at + length text ≤ length before → Puts before after at end text
    → Wrote before after at end text
unfolding put place_behind
puts_wrote {before} {after} {at} {end} {text} room p =
    let fits = le-leb (at + length text) (length before) room in
    let buffer : after ≡ take at before ++ (text ++ drop (at + length text) before) = p.buffer ∙ rw fits in
    let place : end ≡ at + length text = p.place ∙ rw fits in
    rw (buffer, place) (put_wrote before at text room)

puts_left : {before after : List ℕ} {at end : ℕ} {text : List ℕ} → length before < at + length text → Puts before after at end text → after ≡ before
unfolding put
puts_left {before} {after} {at} {end} {text} none p =
    let no : has_room before at text ≡ false = lt-leb (at + length text) (length before) none in
    p.buffer ∙ rw no

-- the same of a number in w bytes
module _ {before after : List ℕ} {at end : ℕ} (w x : ℕ) where
  pub number_written : Puts before after at end (bytes w x) → at + w ≤ length before → Wrote before after at (at + w) (bytes w x)
  number_written p room =
      let long = length_bytes w x in
      let put = puts_wrote (omega (arith, long, room)) p in
      let place : end ≡ at + w = put.ends ∙ ap (λ (n : ℕ). at + n) long in
      rw place at put

  pub number_left : Puts before after at end (bytes w x) → length before < at + w → after ≡ before
  number_left p none = puts_left (omega (arith, length_bytes w x, none)) p

pub puts_write : PutsWrite
puts_write = record { whole = λ before after at end text. puts_wrote; behind = λ a b c at mid end t u. wrote_then }

-- ---- a list of numbers, w bytes each
pub length_all : {X : Type 0} (w : ℕ) (f : X → ℕ) (xs : List X) → length (all_bytes w (map f xs)) ≡ w * length xs
length_all w f xs = length_all_bytes w (map f xs) ∙ ap (λ (n : ℕ). w * n) (length-map xs f)

-- what a loop holds that writes each of them at its place, once it has written i of them
pub record Laid {X : Type 0} (w : ℕ) (f : X → ℕ) (xs : List X) (before after : List ℕ) (at i : ℕ) : Type 0 where
  pub within : i ≤ length xs
  pub wrote : Wrote before after at (at + w * i) (all_bytes w (take i (map f xs)))

module _ {X : Type 0} (w : ℕ) (f : X → ℕ) (xs : List X) {a : List ℕ} {at : ℕ} where
  pub laid_none : Laid w f xs a a at 0
  unfolding all_bytes
  laid_none = let start : at + w * 0 ≡ at = omega arith in record { within = omega arith; wrote = rw start wrote_none }

  pub laid_more : {b c : List ℕ} {i : ℕ} {x : X} → Laid w f xs a b at i → i < length xs → x ≡ get_or xs i x
      → Wrote b c (at + w * i) (at + w * i + w) (bytes w (f x)) → Laid w f xs a c at (i + 1)
  laid_more {i = i} {x = x} l below is more =
      let here : f x ≡ get_or (map f xs) i 0 = ap f is ∙ sym (get_or-map f xs i x 0 below) in
      let next = all_bytes_more w (map f xs) i (rw length-map below) in
      record { within = omega arith; wrote = wrote_on (rw (row_next w i) (omega arith)) next l.wrote (rw here at more) }

  pub laid_all : {b : List ℕ} {i : ℕ} → Laid w f xs a b at i → length xs ≤ i → Wrote a b at (at + w * length xs) (all_bytes w (map f xs))
  laid_all {i = i} l last =
      let all : i ≡ length xs = omega (arith, l.within) in
      let whole : take i (map f xs) ≡ map f xs = take_all i (map f xs) (rw length-map last) in
      rw all at (wrote_as (ap (all_bytes w) whole) l.wrote)
