use native.Mathlib.Omega.{arith}
use mathlib.Core.Path.{subst}
use Rattle.keys.specs.Bits.{bits_of}
use Rattle.fields.specs.Put.{Put}
use Rattle.fields.proofs.PutLaws.{text_more}
use Rattle.fields.proofs.put.put_bytes.Goals as goal

pub loop-byte-preserved : goal.loop-byte-preserved
loop-byte-preserved c =
    text_more c.args.bytes.now c.loop-byte.byte-index c.loop-byte.invariant (omega arith)
    (subst (λ x. Put c.loop-byte.at (bits_of 8 x) c.put_number-at.result c.loop-byte.key c.put_number-at.new.key) c.from.ensures c.put_number-at.ensures)
