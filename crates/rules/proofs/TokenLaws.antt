-- Laws of a checked token list: what a token that is no Eof spells (01, "Token words").
use mathlib.Core.Path.{◌≡◌, refl, sym, ap, ◌∙◌, subst}
use mathlib.Core.Bool.{Bool, true, false, not}
use mathlib.Core.List.{List, [], ◌∷◌}
use Prim.Native.Nat.{ℕ, zero, suc, ◌+◌, ◌≤◌, ◌<◌}
use native.Mathlib.Omega.{arith}
use borrow.Author.Tests.{leb-true, ltb-true, eqb-true, eqb-false, not-true}
use lib.Dec.{eqb, leb}
use lib.ListN.{length, get_or, take, drop, length-drop}
use lib.Seq.{length-take-le}
use Rattle.words.specs.Limits.{most_text, most_tokens}
use Rattle.words.specs.Test.{◌and◌, ◌or◌, test, among, same}
use Rattle.words.specs.Word.{kind, zeros, size, start, end}
use Rattle.words.specs.Kind.{Eof, ShiftLeft, LtEq, ShiftLeftEq}
use Rattle.words.specs.Class.{good_kind}
use Rattle.words.specs.Cursor.{second_half, left, word_at, whole_kind, first_byte, end_byte}
use Rattle.words.specs.Spelling.{spelled_right, spelling as fixedSpelling}
use Rattle.words.specs.Check.{Verdict, sound, refused, part, none, ends_well, placed, good_word, judged, words_from, good_list, check}
use Rattle.keys.specs.Form.{Bytes}
use Rattle.keys.proofs.Fitting.{IsSpelling, Each}
use Rattle.keys.proofs.BitsLaws.{clash}
use Rattle.rules.specs.State.{Given, State, spelling, kind as kindHere}

-- ---- Tests

pub both_true : (a b : Bool) → a and b ≡ true → (a ≡ true) × (b ≡ true)
both_true true b e = (refl, e)
both_true false b e = clash (cc)

-- One of two holds, and it is not the second.
pub or_first : (a : Bool) {b : Bool} → a or b ≡ true → b ≡ false → a ≡ true
or_first true e i = refl
or_first false e i = clash (cc)

-- What holds of every number of a list holds of a number among them.
pub among_each : (P : ℕ → Type 0) (l : List ℕ) (k : ℕ) → Each P l → among l k ≡ true → P k
among_each P [] k h e = clash (cc)
among_each P (x ∷ l) k h e = by (eqb k x) refl (among_each P l k h.1) e
  where
    by : (b : Bool) → eqb k x ≡ b → (among l k ≡ true → P k) → (b or among l k) ≡ true → P k
    by true i on j = subst P (sym (eqb-true k x i)) h.0
    by false i on j = on j

-- A kind that passes a test which Eof does not pass is no Eof.
pub no_end : (f : ℕ → Bool) {k : ℕ} → f Eof ≡ false → f k ≡ true → k ≡ Eof → ⊥
no_end f e h i = let z : false ≡ true = sym e ∙ ap f (sym i) ∙ h in clash (cc)

-- ---- Bytes of a text

bytes_drop : (n : ℕ) (l : List ℕ) → Bytes l → Bytes (drop n l)
bytes_drop zero l h = h
bytes_drop (suc n) [] h = h
bytes_drop (suc n) (b ∷ l) h = bytes_drop n l h.1

bytes_take : (n : ℕ) (l : List ℕ) → Bytes l → Bytes (take n l)
bytes_take zero l h = tt
bytes_take (suc n) [] h = h
bytes_take (suc n) (b ∷ l) h = (h.0, bytes_take n l h.1)

-- ---- Words

-- Token i of a list, which is no Eof: it has bytes, not too many, they stand in the text and spell its kind; a token follows, and starts no earlier than this one ends.
pub record Spells (text words : List ℕ) (i : ℕ) : Type 0 where
  pub some : 1 ≤ size (get_or words i 0)
  pub few : size (get_or words i 0) ≤ most_text
  pub inside : end (get_or words i 0) ≤ length text
  pub right : spelled_right (kind (get_or words i 0)) (part text (start (get_or words i 0)) (size (get_or words i 0))) ≡ true
  pub follows : suc i < length words
  pub later : end (get_or words i 0) ≤ start (get_or words (suc i) 0)

-- A token that is no Eof has bytes and is not the last.
not_ending : (k n : ℕ) (last : Bool) → (k ≡ Eof → ⊥) → ends_well k n last ≡ true → (1 ≤ n) × (last ≡ false)
not_ending k n last h e = by (eqb k Eof) refl e
  where
    some : (n : ℕ) → (n ≡ 0 → ⊥) → 1 ≤ n
    some zero z = absurd (z refl)
    some (suc n) z = omega arith

    by : (b : Bool) → eqb k Eof ≡ b → test b (λ _. eqb n 0 and last) (λ _. not (eqb n 0) and not last) ≡ true → (1 ≤ n) × (last ≡ false)
    by true i j = absurd (h (eqb-true k Eof i))
    by false i j =
        let b = both_true (not (eqb n 0)) (not last) j in
        (some n (eqb-false n 0 (not-true (eqb n 0) b.0)), not-true last b.1)

-- What a good word's tests say.
record GoodWord (text : List ℕ) (before : ℕ) (last : Bool) (w : ℕ) : Type 0 where
  few : size w ≤ most_text
  later : before ≤ start w
  inside : end w ≤ length text
  ends : ends_well (kind w) (size w) last ≡ true
  right : spelled_right (kind w) (part text (start w) (size w)) ≡ true

good_parts : (text : List ℕ) (before : ℕ) (last : Bool) (w : ℕ) → good_word text before last w ≡ true → GoodWord text before last w
good_parts text before last w e =
    let a = (both_true (good_kind (kind w)) _ e).1 in
    let b = (both_true (eqb (zeros w) 0) _ a).1 in
    let c = both_true (placed (length text) before (start w) (size w)) _ b in
    let d = both_true (ends_well (kind w) (size w) last) _ c.1 in
    let m = both_true (leb (size w) most_text) _ c.0 in
    let n = both_true (leb before (start w)) _ m.1 in
    record {
      few = leb-true (size w) most_text m.0;
      later = leb-true before (start w) n.0;
      inside = leb-true (start w + size w) (length text) n.1;
      ends = d.0;
      right = d.1;
    }

judged_sound : (b : Bool) (i : ℕ) (on : Unit {0} → Verdict) → judged b i on ≡ sound → (b ≡ true) × (on tt ≡ sound)
judged_sound true i on e = (refl, e)
judged_sound false i on e = clash (cc)

tail_sound : (text : List ℕ) (before n w : ℕ) (ws : List ℕ) → words_from text before n (w ∷ ws) ≡ sound → words_from text (end w) (suc n) ws ≡ sound
tail_sound text before n w ws e = (judged_sound (good_word text before (none ws) w) n (λ _. words_from text (end w) (suc n) ws) e).1

head_good : (text : List ℕ) (before n w : ℕ) (ws : List ℕ) → words_from text before n (w ∷ ws) ≡ sound → GoodWord text before (none ws) w
head_good text before n w ws e =
    good_parts text before (none ws) w (judged_sound (good_word text before (none ws) w) n (λ _. words_from text (end w) (suc n) ws) e).0

list_spells : (text : List ℕ) (before n : ℕ) (words : List ℕ) (i : ℕ) → words_from text before n words ≡ sound → (kind (get_or words i 0) ≡ Eof → ⊥) → Spells text words i
list_spells text before n [] i e h = absurd (h refl)
list_spells text before n (w ∷ []) zero e h =
    let z = (not_ending (kind w) (size w) true h (head_good text before n w [] e).ends).1 in clash (cc)
list_spells text before n (w ∷ x ∷ ws) zero e h =
    let a = head_good text before n w (x ∷ ws) e in
    let b = head_good text (end w) (suc n) x ws (tail_sound text before n w (x ∷ ws) e) in
    record {
      some = (not_ending (kind w) (size w) false h a.ends).0;
      few = a.few;
      inside = a.inside;
      right = a.right;
      follows = omega arith;
      later = b.later;
    }
list_spells text before n (w ∷ ws) (suc i) e h =
    let a = list_spells text (end w) (suc n) ws i (tail_sound text before n w ws e) h in
    record { some = a.some; few = a.few; inside = a.inside; right = a.right; follows = omega arith; later = a.later }

-- Tokens stand in order.
list_later : (text : List ℕ) (before n : ℕ) (words : List ℕ) (i : ℕ) → words_from text before n words ≡ sound → suc i < length words
    → end (get_or words i 0) ≤ start (get_or words (suc i) 0)
list_later text before n [] i e h = absurd (omega arith)
list_later text before n (w ∷ []) zero e h = absurd (omega arith)
list_later text before n (w ∷ x ∷ ws) zero e h = (head_good text (end w) (suc n) x ws (tail_sound text before n w (x ∷ ws) e)).later
list_later text before n (w ∷ ws) (suc i) e h = list_later text (end w) (suc n) ws i (tail_sound text before n w ws e) (omega arith)

check_words : (text words : List ℕ) (start : ℕ) → check text words start ≡ sound → words_from text 0 0 words ≡ sound
check_words text words start e = by (good_list text words start) e
  where
    by : (b : Bool) → test b (λ _. words_from text 0 0 words) (λ _. refused 1 0) ≡ sound → words_from text 0 0 words ≡ sound
    by true j = j
    by false j = clash (cc)

-- Of a half that is an end the whole is none.
pub whole_end : (half k : ℕ) → (left half k ≡ Eof → ⊥) → k ≡ Eof → ⊥
whole_end zero k h e = h e
whole_end (suc n) k h e = h (ap second_half e)

-- ---- What a reading is given

-- Texts are bytes, and the list passed the check.
pub record Checked (g : Given) : Type 0 where
  pub bytes : Bytes g.text
  pub start : ℕ
  pub sound : check g.text g.words start ≡ sound

pub token_spells : (g : Given) → Checked g → (i : ℕ) → (whole_kind g.words i ≡ Eof → ⊥) → Spells g.text g.words i
token_spells g c i h = list_spells g.text 0 0 g.words i (check_words g.text g.words c.start c.sound) h

part_length : (text : List ℕ) (from n : ℕ) → from + n ≤ length text → length (part text from n) ≡ n
part_length text from n h = length-take-le n (drop from text) (omega (arith, length-drop from text))

-- A token that passes a test which an Eof does not pass spells 1 to 65,535 bytes.
pub spelled_by : (g : Given) → Checked g → (f : ℕ → Bool) → f Eof ≡ false → (s : State) → f (kindHere g s) ≡ true → IsSpelling (spelling g s)
spelled_by g c f e s h =
    let w = word_at g.words s.at in
    let p = token_spells g c s.at (whole_end s.half (kind w) (no_end f e h)) in
    let n = part_length g.text (start w) (size w) p.inside in
    record {
      some = omega arith;
      few = omega arith;
      bytes = bytes_take (size w) (drop (start w) g.text) (bytes_drop (start w) g.text c.bytes);
    }

same_length : (s t : List ℕ) → same s t ≡ true → length s ≡ length t
same_length [] [] e = refl
same_length [] (y ∷ t) e = clash (cc)
same_length (x ∷ s) [] e = clash (cc)
same_length (x ∷ s) (y ∷ t) e = ap suc (same_length s t (both_true (eqb x y) (same s t) e).1)

-- A token that can be split has two bytes or more.
pub split_size : (g : Given) → Checked g → (i : ℕ) → among (ShiftLeft ∷ LtEq ∷ ShiftLeftEq ∷ []) (whole_kind g.words i) ≡ true → 2 ≤ size (word_at g.words i)
split_size g c i e =
    let w = word_at g.words i in
    let p = token_spells g c i (no_end (among (ShiftLeft ∷ LtEq ∷ ShiftLeftEq ∷ [])) refl e) in
    let s = part g.text (start w) (size w) in
    let long = among_each (λ (k : ℕ). spelled_right k s ≡ true → 2 ≤ length s) (ShiftLeft ∷ LtEq ∷ ShiftLeftEq ∷ []) (kind w)
    (λ r. omega (arith, same_length (fixedSpelling ShiftLeft) s r), (λ r. omega (arith, same_length (fixedSpelling LtEq) s r), (λ r. omega (arith, same_length (fixedSpelling ShiftLeftEq) s r), tt))) e in
    omega (arith, long p.right, part_length g.text (start w) (size w) p.inside)

-- ---- Any index, also past the list's end

list_ends : (text : List ℕ) (before n : ℕ) (words : List ℕ) (i : ℕ) → words_from text before n words ≡ sound → end (get_or words i 0) ≤ length text
list_ends text before n [] i e = omega arith
list_ends text before n (w ∷ ws) zero e = (head_good text before n w ws e).inside
list_ends text before n (w ∷ ws) (suc i) e = list_ends text (end w) (suc n) ws i (tail_sound text before n w ws e)

module _ (text words : List ℕ) (first : ℕ) (passed : check text words first ≡ sound) where
  within : good_list text words first ≡ true
  within = by (good_list text words first) refl passed
    where
      by : (b : Bool) → good_list text words first ≡ b → test b (λ _. words_from text 0 0 words) (λ _. refused 1 0) ≡ sound → good_list text words first ≡ true
      by true i j = i
      by false i j = clash (cc)

  -- Neither text nor list is too long, and the start is a token's index.
  pub text_few : length text ≤ most_text
  text_few = leb-true (length text) most_text (both_true (leb (length text) most_text) _ within).0

  pub words_few : length words ≤ most_tokens
  words_few = leb-true (length words) most_tokens (both_true (leb (length words) most_tokens) _ (both_true (leb (length text) most_text) _ within).1).0

  pub start_there : first < length words
  start_there = ltb-true first (length words) (both_true (leb (length words) most_tokens) _ (both_true (leb (length text) most_text) _ within).1).1

  -- A word ends inside the text, and its bytes are as many as it says.
  pub word_inside : (i : ℕ) → end (word_at words i) ≤ length text
  word_inside i = list_ends text 0 0 words i (check_words text words first passed)

  pub word_sized : (i : ℕ) → length (part text (start (word_at words i)) (size (word_at words i))) ≡ size (word_at words i)
  word_sized i = part_length text (start (word_at words i)) (size (word_at words i)) (word_inside i)

-- The start is a token's index.
pub start_inside : (g : Given) (c : Checked g) → c.start < length g.words
start_inside g c = start_there g.text g.words c.start c.sound

-- ---- What was taken

-- What was taken before a token ends no later than the token starts.
pub taken_before : (g : Given) → Checked g → (i : ℕ) → i < length g.words → end_byte g.words i 0 ≤ first_byte g.words i 0
taken_before g c zero h = omega arith
taken_before g c (suc i) h =
    omega (arith, list_later g.text 0 0 g.words i (check_words g.text g.words c.start c.sound) h)

-- It ends inside the text.
pub taken_inside : (g : Given) → Checked g → (i : ℕ) → i < length g.words → end_byte g.words i 0 ≤ length g.text
taken_inside g c zero h = omega arith
taken_inside g c (suc i) h = word_inside g.text g.words c.start c.sound i
