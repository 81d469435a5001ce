-- A number in a field of w bits, and the taking of such a field, for any w (01, The key).
use Rattle.std.specs.Prelude.{Bool, true, false, List, [], ◌∷◌, ◌++◌, ℕ, zero, suc, ◌+◌, ◌*◌, ◌/◌, ◌%◌, ◌^◌, eqb}

-- Bits in the order in which a key has them.
abbrev pub Bits : Type 0
Bits = List Bool

-- The lowest binary digit of a number, as a bit.
abbrev pub odd : ℕ → Bool
odd n = eqb (n % 2) 1

-- A bit as a number.
abbrev pub unit : Bool → ℕ
unit true = 1
unit false = 0

-- A number in w bits, most significant first.
abbrev pub bits_of : ℕ → ℕ → Bits
bits_of zero n = []
bits_of (suc w) n = odd (n / 2 ^ w) ∷ bits_of w n

-- A field: cut short where the bits end inside it, else a number and the bits left after it.
pub data Field : Type 0 where
  short : Field
  field : ℕ → Bits → Field

-- The next w bits, where those before them came to the number a.
abbrev pub take_on : ℕ → ℕ → Bits → Field
take_on a zero bs = field a bs
take_on a (suc w) [] = short
take_on a (suc w) (b ∷ bs) = take_on (a * 2 + unit b) w bs

-- The field of w bits that the bits begin with.
abbrev pub take_field : ℕ → Bits → Field
take_field w bs = take_on 0 w bs

-- The bits of a row of bytes.
abbrev pub bits_of_bytes : List ℕ → Bits
bits_of_bytes [] = []
bits_of_bytes (b ∷ s) = bits_of 8 b ++ bits_of_bytes s

-- A row of n bytes: cut short, else the bytes and the bits left after them.
pub data Row : Type 0 where
  cut : Row
  row : List ℕ → Bits → Row

-- A row with one more byte in front.
abbrev pub ahead : ℕ → Row → Row
ahead b cut = cut
ahead b (row s r) = row (b ∷ s) r

-- The byte that was taken, and then the rest of its row.
abbrev pub after_byte : (Bits → Row) → Field → Row
after_byte k short = cut
after_byte k (field b r) = ahead b (k r)

-- The n bytes that the bits begin with.
abbrev pub take_bytes : ℕ → Bits → Row
take_bytes zero bs = row [] bs
take_bytes (suc n) bs = after_byte (λ r. take_bytes n r) (take_field 8 bs)
