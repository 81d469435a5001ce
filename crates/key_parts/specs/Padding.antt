-- The last bits of a key: zeros to the byte, and no byte more (01, The key).
use Rattle.std.specs.Prelude.{◌≡◌, [], ℕ, ◌-◌, ◌%◌, ◌≤◌, ◌<◌, length, drop}
use Rattle.keys.specs.Bits.{Bits}
use Rattle.keys.specs.Form.{Value, state, got, stop}
use Rattle.keys.specs.Key.{padding}
use Rattle.keys.specs.Limits.{bad_key}

-- The first bit after a tree that may not stand there is r; none is set and no byte is left over where r is the end.
pub record Ends (bs : Bits) (bit r : ℕ) : Type 0 where
  pub inside : r ≤ length bs
  pub stopped : r < length bs → (v : Value) → padding v (length (drop bit bs) % 8) (drop bit bs) ≡ stop bad_key (length bs - r)
  pub went : r ≡ length bs → (v : Value) → padding v (length (drop bit bs) % 8) (drop bit bs) ≡ got v (state 0 0 0 [])
