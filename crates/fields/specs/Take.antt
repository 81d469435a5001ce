-- What taking a field and a spelling's bytes from a key answers in code (01, The key).
use Rattle.std.specs.Prelude.{◌≡◌, List, ◌++◌, ℕ, ◌+◌, ◌*◌, ◌<◌, length, take, drop, get_or, Option, Some, None}
use Rattle.keys.specs.Bits.{Bits, Field, short, field, row, take_bytes}

-- The answer for a field: its number, or none where it is cut short.
abbrev pub answered : Field → Option ℕ
answered short = None
answered (field n r) = Some n

-- The number of the four bytes from a place on, 0 for each past the end.
pub record Four (s : List ℕ) (at w : ℕ) : Type 0 where
  pub a : get_or s at 0 < 256
  pub b : get_or s (at + 1) 0 < 256
  pub c : get_or s (at + 2) 0 < 256
  pub d : get_or s (at + 3) 0 < 256
  pub is : w ≡ ((get_or s at 0 * 256 + get_or s (at + 1) 0) * 256 + get_or s (at + 2) 0) * 256 + get_or s (at + 3) 0

-- The n bytes from a bit of the key stand in the text from byte `to` on, and nothing before them has changed.
pub record Copied (bs : Bits) (bit : ℕ) (before : List ℕ) (to n : ℕ) (now : List ℕ) : Type 0 where
  pub bytes : List ℕ
  pub are : take_bytes n (drop bit bs) ≡ row bytes (drop (bit + n * 8) bs)
  pub text : take (to + n) now ≡ take to before ++ bytes
  pub many : length bytes ≡ n
