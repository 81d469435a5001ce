-- Bits are an output of a walk.
use native.Mathlib.Omega.{arith}
use Rattle.fields.proofs.PutLaws.{put_none, put_append}
use Rattle.node_table.specs.Moves.{Sound}
use Rattle.key_out.specs.Out.{key_bits}

pub bits_sound : Sound key_bits
bits_sound =
    record { none = put_none; append = λ p q. put_append p q; short = λ p. p.short; stays = λ p. omega (arith, p.next); same = λ p. p.same }
