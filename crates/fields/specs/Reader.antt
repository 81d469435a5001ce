-- What a reader that remembers its bit answers for a field (01, The key).
use Rattle.std.specs.Prelude.{ℕ, Option, Some, None}

-- A field that was taken, and the bit that is remembered after it.
abbrev pub remembered : Option ℕ → ℕ → Option (ℕ × ℕ)
remembered (Some n) bit = Some (n, bit)
remembered None bit = None
