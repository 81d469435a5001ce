-- Where taking is: what is left there, and what is lent (01, The two calls).
use Rattle.std.specs.Prelude.{◌≡◌, List, ℕ, ◌-◌, ◌*◌, ◌≤◌, length, drop}
use Rattle.std.specs.Borrow.{Bor, MutBor}
use denote.Triple.Both.{Both}
use Rattle.keys.specs.Bits.{Bits, bits_of_bytes}
use Rattle.keys.specs.Form.{State, state}
use Rattle.words.specs.Refusal.{number_of}
use Rattle.key_parts.specs.Runs.{Ran, halt}
use Rattle.key_parts.specs.declared.refusal.Stop.{Stop}
use Rattle.key_parts.specs.declared.place.Pos.{Pos}
use Rattle.key_parts.specs.declared.place.Fill.{Fill}

-- What is left at a place, of bits, names and text of these lengths.
abbrev pub state_at : Bits → (lm lx : ℕ) → Pos → State
state_at bs lm lx p = state p.nodes (lm - p.names) (lx - p.chars) (drop p.bit bs)

-- A place inside the key, the names and the text.
pub record Inside (bs : Bits) (lm lx : ℕ) (p : Pos) : Type 0 where
  pub in_key : p.bit ≤ length bs
  pub in_names : p.names ≤ lm
  pub in_text : p.chars ≤ lx
  pub few_names : p.names ≤ p.chars
  pub few_chars : p.chars * 8 ≤ p.bit

-- What taking comes to is a refusal, of this number and at this bit of the key.
pub record Halts (bs : Bits) (x : Ran) (e : Stop) : Type 0 where
  pub in_key : e.bit ≤ length bs
  pub is : x ≡ halt (number_of e.why) (length bs - e.bit)

-- The walk of a node at another place.
abbrev pub fill_at : Fill → Pos → Fill
fill_at s p = record { at = p; base = s.base; word = s.word; shift = s.shift; child = s.child; form = s.form; n = s.n }

-- A place further on in the key.
abbrev pub at_bit : Pos → ℕ → Pos
at_bit p bit = record { bit = bit; nodes = p.nodes; used = p.used; names = p.names; chars = p.chars }

-- ---- What is lent

-- A slice at a function's two moments, lent to be read.
abbrev pub Lent : Type 0
Lent = Both (Bor (List ℕ)) (Bor (List ℕ))

-- The same, lent to be written.
abbrev pub Filled : Type 0
Filled = Both (MutBor (List ℕ)) (MutBor (List ℕ))

-- The bits of a key that is lent.
abbrev pub bits_in : Lent → Bits
bits_in key = bits_of_bytes key.entry.now

-- How long a slice is that is lent to be written.
abbrev pub long : Filled → ℕ
long s = length s.entry.now
