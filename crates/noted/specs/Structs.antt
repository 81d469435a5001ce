-- Diagnostics as structs, stored one after the other in a slice that is lent (01, "Form by location").
use Rattle.std.specs.Prelude.{ℕ, zero, suc, ◌+◌, ◌-◌, ◌*◌, min, List, [], ◌∷◌, ◌++◌, ltb, length, set, replicate}
use Rattle.words.specs.Limits.{most_notes}
use Rattle.words.specs.Test.{test}
use Rattle.words.specs.Cursor.{word_at}
use Rattle.rules.specs.Notes as rules
use Rattle.rules.specs.Notes.{note_width}
use Rattle.noted.specs.declared.Note.{Note}

-- the struct of a diagnostic
abbrev pub struct_of : rules.Note → Note
struct_of n = record { number = n.number; first = n.first; end = n.end; other_first = n.other_first; other_end = n.other_end }

-- the struct of zeros
abbrev pub no_struct : Note
no_struct = record { number = 0; first = 0; end = 0; other_first = 0; other_end = 0 }

-- the struct of the record i of words; a word that is not there counts as 0
abbrev pub struct_at : List ℕ → ℕ → Note
struct_at words i =
    record {
      number = word_at words (i * note_width);
      first = word_at words (i * note_width + 1);
      end = word_at words (i * note_width + 2);
      other_first = word_at words (i * note_width + 3);
      other_end = word_at words (i * note_width + 4);
    }

-- the structs of n records from the record i on
abbrev pub structs_from : List ℕ → ℕ → ℕ → List Note
structs_from words i zero = []
structs_from words i (suc n) = struct_at words i ∷ structs_from words (i + 1) n

-- the structs of the first records, as many as are counted and at most 32; then structs of zeros
abbrev pub structs_of : List ℕ → ℕ → List Note
structs_of words count = structs_from words 0 (min count most_notes) ++ replicate (most_notes - count) no_struct

-- ---- Structs that are stored one after the other

-- a list with a struct at a place, where it has that place; else as it was
abbrev pub store_at : List Note → ℕ → Note → List Note
store_at l at n = test (ltb at (length l)) (λ _. set l at n) (λ _. l)

-- the next place, where the list has the place; else the same place
abbrev pub place_after : List Note → ℕ → ℕ
place_after l at = test (ltb at (length l)) (λ _. at + 1) (λ _. at)

-- a list in which n records from the record i on are stored one after the other, from a place on
abbrev pub store_from : List ℕ → (i at n : ℕ) → List Note → List Note
store_from words i at zero l = l
store_from words i at (suc n) l = store_from words (i + 1) (place_after l at) n (store_at l at (struct_at words i))
