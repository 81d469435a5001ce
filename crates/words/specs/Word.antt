-- Token words: five fields in one number of 64 bits (01, "Token words").
use Rattle.std.specs.Prelude.{ℕ, ◌+◌, ◌*◌, ◌/◌, ◌%◌, ◌^◌}

-- `width` bits of a word, from bit `low` up
abbrev pub field : ℕ → ℕ → ℕ → ℕ
field low width w = w / 2 ^ low % 2 ^ width

-- the kind stands highest, then newline before, zero bits, length and start
abbrev pub kind : ℕ → ℕ
kind w = field 56 8 w

abbrev pub newline : ℕ → ℕ
newline w = field 55 1 w

abbrev pub zeros : ℕ → ℕ
zeros w = field 49 6 w

abbrev pub size : ℕ → ℕ
size w = field 32 17 w

abbrev pub start : ℕ → ℕ
start w = field 0 32 w

-- where the token ends
abbrev pub end : ℕ → ℕ
end w = start w + size w

-- a word with `v` below it, in `width` bits more
abbrev pub beside : ℕ → ℕ → ℕ → ℕ
beside width w v = w * 2 ^ width + v

-- the word of five fields
abbrev pub word : ℕ → ℕ → ℕ → ℕ → ℕ → ℕ
word k n z l s = beside 32 (beside 17 (beside 6 (beside 1 k n) z) l) s
