-- A field that is there is not cut short.
use native.Mathlib.Omega.{arith}
use mathlib.Core.Path.{sym, subst}
use Rattle.std.specs.Prelude.{IsSome}
use Rattle.keys.specs.Bits.{bits_of_bytes}
use Rattle.keys.proofs.BitsLaws.{length_bytes}
use Rattle.fields.proofs.Chunks.{is_there}
use Rattle.fields.proofs.take.number_at.Goals as goal

pub unwrap-requires : goal.unwrap-requires
unwrap-requires c =
    subst IsSome (sym c.take_field.ensures) (is_there (bits_of_bytes c.args.key.now) c.args.bit c.args.width (omega (arith, length_bytes c.args.key.now)))
