-- What the answer of a reader for a field tells.
use mathlib.Core.Path.{◌≡◌, refl, ap}
use Prim.Native.Nat.{ℕ}
use lib.ListN.{drop}
use Rattle.std.specs.Prelude.{Option, Some, None}
use Rattle.keys.specs.Bits.{Bits, Field, short, field, take_field}
use Rattle.keys.proofs.BitsLaws.{clash}
use Rattle.fields.specs.Take.{answered}
use Rattle.fields.specs.Reader.{remembered}
use Rattle.fields.proofs.Chunks.{Told, number_told}

-- A field that is cut is short.
pub field_cut : (x : Field) (b : ℕ) → None ≡ remembered (answered x) b → x ≡ short
field_cut short b e = refl
field_cut (field n r) b e = clash (cc)

number_of : (t : Option ℕ) (b n next : ℕ) → Some (n, next) ≡ remembered t b → Some n ≡ t
number_of (Some m) b n next e = let p : (n, next) ≡ (m, b) = cc in ap (λ (x : ℕ × ℕ). Some x.0) p
number_of None b n next e = clash (cc)

next_of : (t : Option ℕ) (b n next : ℕ) → Some (n, next) ≡ remembered t b → next ≡ b
next_of (Some m) b n next e = let p : (n, next) ≡ (m, b) = cc in ap (λ (x : ℕ × ℕ). x.1) p
next_of None b n next e = clash (cc)

module _ (bs : Bits) (p w b n next : ℕ) (e : Some (n, next) ≡ remembered (answered (take_field w (drop p bs))) b) where
  -- A field that is read has its number.
  pub read_told : Told bs p w n
  read_told = number_told bs p w n (number_of (answered (take_field w (drop p bs))) b n next e)

  -- The bit that comes with it is the one that is remembered.
  pub read_next : next ≡ b
  read_next = next_of (answered (take_field w (drop p bs))) b n next e
