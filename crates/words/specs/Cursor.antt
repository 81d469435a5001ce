-- The cursor: a token's index, and whether the first half of a split token is used up (01, "The two calls", "Arguments").
use Rattle.std.specs.Prelude.{ℕ, zero, suc, ◌+◌, Bool, true, List, eqb, get_or}
use Rattle.words.specs.Test.{test}
use Rattle.words.specs.Word.{kind, newline, start, end}
use Rattle.words.specs.Kind.{Eof, LAngle, ShiftLeft, LtEq, ShiftLeftEq, Eq}

-- the word at an index; past the list nothing stands but an end
abbrev pub word_at : List ℕ → ℕ → ℕ
word_at words i = get_or words i 0

-- the kind of the whole token at an index
abbrev pub whole_kind : List ℕ → ℕ → ℕ
whole_kind words i = kind (word_at words i)

-- what is left of a token whose first half is used up: `<`, `=`, `<=`
abbrev pub second_half : ℕ → ℕ
second_half k =
    test (eqb k ShiftLeft) (λ _. LAngle) (λ _.
    test (eqb k LtEq) (λ _. Eq) (λ _.
    test (eqb k ShiftLeftEq) (λ _. LtEq) (λ _. Eof)))

abbrev pub left : ℕ → ℕ → ℕ
left zero k = k
left (suc h) k = second_half k

-- the kind at a cursor
abbrev pub kind_at : List ℕ → ℕ → ℕ → ℕ
kind_at words at half = left half (whole_kind words at)

-- no line break stands before what is left at a cursor
abbrev pub on_line : ℕ → ℕ → Bool
on_line zero w = eqb (newline w) 0
on_line (suc h) w = true

abbrev pub same_line : List ℕ → ℕ → ℕ → Bool
same_line words at half = on_line half (word_at words at)

-- the first byte of what is left at a cursor
abbrev pub first_byte : List ℕ → ℕ → ℕ → ℕ
first_byte words at half = start (word_at words at) + half

-- the end byte of what was taken last
abbrev pub taken_end : List ℕ → ℕ → ℕ
taken_end words zero = 0
taken_end words (suc i) = end (word_at words i)

abbrev pub end_byte : List ℕ → ℕ → ℕ → ℕ
end_byte words at zero = taken_end words at
end_byte words at (suc h) = first_byte words at (suc h)
