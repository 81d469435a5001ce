-- The structs of records: in words, stored one after the other, and of diagnostics.
use mathlib.Core.Path.{◌≡◌, refl, sym, ap, ◌∙◌}
use mathlib.Core.List.{List, [], ◌∷◌, ◌++◌, map}
use Prim.Native.Nat.{ℕ, zero, suc, ◌+◌, ◌-◌, ◌*◌, ◌<◌, min}
use native.Mathlib.Omega.{arith}
use lib.ListN.{length, set, replicate, length-append}
use lib.Seq.{append_snoc, set-append_seam}
use borrow.Author.Tests.{lt-ltb}
use Rattle.words.specs.Limits.{most_notes}
use Rattle.words.specs.Test.{test}
use Rattle.words.specs.Cursor.{word_at}
use Rattle.rules.specs.Notes as rules
use Rattle.rules.specs.Notes.{note_words, note_width}
use Rattle.noted.specs.declared.Note.{Note}
use Rattle.noted.specs.Structs.{struct_of, no_struct, struct_at, structs_from, structs_of, store_at, place_after, store_from}

-- A struct by its five numbers.
struct_is : {a b c d e : ℕ} (words : List ℕ) (i : ℕ) → a ≡ word_at words (i * note_width) → b ≡ word_at words (i * note_width + 1) → c ≡ word_at words (i * note_width + 2)
    → d ≡ word_at words (i * note_width + 3) → e ≡ word_at words (i * note_width + 4)
    → ◌≡◌ {A = Note} (record { number = a; first = b; end = c; other_first = d; other_end = e }) (struct_at words i)
struct_is words i a b c d e = λ k. record { number = a k; first = b k; end = c k; other_first = d k; other_end = e k }

-- ---- Records that are stored one after the other

-- Where the list has the place a struct is stored, and the next place is behind it.
store_one : (words : List ℕ) (i : ℕ) (p : List Note) (x : Note) (n : ℕ) (l : List Note)
    → store_from words i (length p) (suc n) (p ++ x ∷ l) ≡ store_from words (i + 1) (length (p ++ (struct_at words i ∷ []))) n ((p ++ (struct_at words i ∷ [])) ++ l)
store_one words i p x n l =
    let z = struct_at words i in
    let has : length p < length (p ++ x ∷ l) = omega (arith, length-append p (x ∷ l)) in
    let stored : store_at (p ++ x ∷ l) (length p) z ≡ (p ++ (z ∷ [])) ++ l
    = ap (λ t. test t (λ _. set (p ++ x ∷ l) (length p) z) (λ _. p ++ x ∷ l)) (lt-ltb _ _ has) ∙ set-append_seam p x l z ∙ sym (append_snoc p z l) in
    let next : place_after (p ++ x ∷ l) (length p) ≡ length (p ++ (z ∷ []))
    = ap (λ t. test t (λ _. length p + 1) (λ _. length p)) (lt-ltb _ _ has) ∙ sym (length-append p (z ∷ [])) in
    λ k. store_from words (i + 1) (next k) n (stored k)

-- Stored behind p in a list that goes on long enough, they stand there, and what is behind them stays.
store_all : (words : List ℕ) (n i : ℕ) (p : List Note) (x : Note) (m : ℕ)
    → store_from words i (length p) n (p ++ replicate (n + m) x) ≡ p ++ (structs_from words i n ++ replicate m x)
store_all words zero i p x m = ap (λ (k : ℕ). p ++ replicate k x) (let z : 0 + m ≡ m = omega arith in z)
store_all words (suc n) i p x m =
    ap (λ (k : ℕ). store_from words i (length p) (suc n) (p ++ replicate k x)) (let z : suc n + m ≡ suc (n + m) = omega arith in z)
    ∙ store_one words i p x n (replicate (n + m) x)
    ∙ store_all words n (i + 1) (p ++ (struct_at words i ∷ [])) x m
    ∙ append_snoc p (struct_at words i) (structs_from words (i + 1) n ++ replicate m x)

-- Stored in an array of zeros, as many as are counted and at most 32 are the structs that are asked for.
pub store_asked : (words : List ℕ) (x : Note) (n count : ℕ) → x ≡ no_struct → n ≡ min count most_notes → store_from words 0 0 n (replicate most_notes x) ≡ structs_of words count
store_asked words x n count none e =
    let left = most_notes - count in
    let all : most_notes ≡ n + left = omega (arith, e) in
    ap (λ (k : ℕ). store_from words 0 0 n (replicate k x)) all ∙ store_all words n 0 [] x left ∙ (λ k. structs_from words 0 (e k) ++ replicate left (none k))

-- ---- Diagnostics in the words that an open call leaves

-- Behind the first record of words, a record is the one before it among the words without that one.
struct_behind : (a b c d e : ℕ) (words : List ℕ) (i : ℕ) → struct_at (a ∷ b ∷ c ∷ d ∷ e ∷ words) (i + 1) ≡ struct_at words i
struct_behind a b c d e words i =
    let behind : (at k : ℕ) → at ≡ suc (suc (suc (suc (suc k)))) → word_at (a ∷ b ∷ c ∷ d ∷ e ∷ words) at ≡ word_at words k
    = λ at k z. ap (word_at (a ∷ b ∷ c ∷ d ∷ e ∷ words)) z in
    let at = i * note_width in
    let to = (i + 1) * note_width in
    struct_is words i (behind to at (omega arith)) (behind (to + 1) (at + 1) (omega arith)) (behind (to + 2) (at + 2) (omega arith)) (behind (to + 3) (at + 3) (omega arith)) (behind (to + 4) (at + 4) (omega arith))

-- And so are all records from there on.
structs_behind : (a b c d e : ℕ) (words : List ℕ) (n i : ℕ) → structs_from (a ∷ b ∷ c ∷ d ∷ e ∷ words) (i + 1) n ≡ structs_from words i n
structs_behind a b c d e words zero i = refl
structs_behind a b c d e words (suc n) i = λ k. struct_behind a b c d e words i k ∷ structs_behind a b c d e words n (i + 1) k

-- The records of diagnostics are their structs.
pub structs_read : (l : List rules.Note) (rest : List ℕ) → structs_from (note_words l ++ rest) 0 (length l) ≡ map struct_of l
structs_read [] rest = refl
structs_read (n ∷ l) rest = ap (λ (z : List Note). struct_of n ∷ z) (structs_behind _ _ _ _ _ (note_words l ++ rest) (length l) 0 ∙ structs_read l rest)
