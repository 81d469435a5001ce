-- Bits put into lent bytes: what fits is written, and the position counts on (01, The key).
use Rattle.std.specs.Prelude.{◌≡◌, List, ◌++◌, ℕ, ◌+◌, ◌*◌, ◌≤◌, ◌^◌, min, length, take, replicate}
use Rattle.std.proofs.lemmas.List.Edits.{sets}
use Rattle.keys.specs.Bits.{Bits, bits_of_bytes}

-- Where a position stands still, so that no sum wraps: further than any key.
abbrev pub far : ℕ
far = 2 ^ 60

-- The position n bits on.
abbrev pub onward : ℕ → ℕ → ℕ
onward bit n = min far (bit + n)

-- Bits put at a position: the next position, and the bytes as they were and are.
pub record Put (bit : ℕ) (bs : Bits) (to : ℕ) (old new : List ℕ) : Type 0 where
  pub short : length old * 8 ≤ far
  pub next : to ≡ onward bit (length bs)
  pub same : length new ≡ length old
  pub bits : bits_of_bytes new ≡ sets (bits_of_bytes old) bit bs

-- The first n of some numbers and of zeros behind them.
abbrev pub fitted : ℕ → List ℕ → List ℕ
fitted n l = take n (l ++ replicate n 0)
