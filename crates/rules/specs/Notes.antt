-- Diagnostics, and the records that hold them (01, "The two calls", "Reading rules": Diagnostics).
use Rattle.std.specs.Prelude.{◌≡◌, ℕ, ◌<◌, ◌≤◌, List, [], ◌∷◌}

-- empty type parameters
abbrev pub empty_type_parameters : ℕ
empty_type_parameters = 1

-- empty arguments
abbrev pub empty_arguments : ℕ
empty_arguments = 2

-- this on a constructor
abbrev pub this_on_constructor : ℕ
this_on_constructor = 3

-- a required tuple element after an optional one
abbrev pub required_after_optional : ℕ
required_after_optional = 4

-- a rest after a label
abbrev pub rest_after_label : ℕ
rest_after_label = 5

-- a `?` after a labelled type
abbrev pub asked_after_label : ℕ
asked_after_label = 6

-- optional and rest
abbrev pub optional_and_rest : ℕ
optional_and_rest = 7

-- a `?` on the parameter of an index signature
abbrev pub asked_index : ℕ
asked_index = 8

-- a comma after the last parameter of an index signature
abbrev pub comma_after_index : ℕ
comma_after_index = 9

-- a literal as the type of such a parameter
abbrev pub literal_index : ℕ
literal_index = 10

-- a keyword as its type that is no index
abbrev pub keyword_index : ℕ
keyword_index = 11

-- not one parameter in an index signature
abbrev pub not_one_index : ℕ
not_one_index = 12

-- a reserved name that is bound
abbrev pub reserved_name : ℕ
reserved_name = 13

-- a diagnostic: its number, first byte and end byte, and those of a second place, which are 0 where there is none (02, W6)
pub record Note : Type 0 where
  pub number : ℕ
  pub first : ℕ
  pub end : ℕ
  pub other_first : ℕ
  pub other_end : ℕ

-- a diagnostic of one place
abbrev pub note : ℕ → ℕ → ℕ → Note
note n b e = record { number = n; first = b; end = e; other_first = 0; other_end = 0 }

-- a diagnostic of two places
abbrev pub note_both : ℕ → ℕ → ℕ → ℕ → ℕ → Note
note_both n b e b' e' = record { number = n; first = b; end = e; other_first = b'; other_end = e' }

-- A diagnostic as it may be in a text of so many bytes: a 4 has a second place, which ends no later than the first begins, and both lie in the text; all others have none (02, W6).
pub data NoteStands (size : ℕ) (n : Note) : Type 0 where
  of_one : (n.number ≡ required_after_optional → ⊥) → n.other_first ≡ 0 → n.other_end ≡ 0 → NoteStands size n
  of_two : n.number ≡ required_after_optional → n.other_first < n.other_end → n.other_end ≤ n.first → n.first < n.end → n.end ≤ size → NoteStands size n

-- the words of a record
abbrev pub note_width : ℕ
note_width = 5

-- the records of a list of diagnostics
abbrev pub note_words : List Note → List ℕ
note_words [] = []
note_words (n ∷ l) = n.number ∷ n.first ∷ n.end ∷ n.other_first ∷ n.other_end ∷ note_words l
