use Rattle.keys.specs.Bits.{bits_of_bytes}
use Rattle.fields.proofs.PutLaws.{Putting}
use Rattle.fields.proofs.put.put_parts.Given as goal

abbrev pub invariant-loop-left : goal.invariant-loop-left
invariant-loop-left l = Putting (bits_of_bytes l.initial.key) l.bit l.width l.number l.at l.left l.key

abbrev pub decreases-loop-left : goal.decreases-loop-left
decreases-loop-left l = l.left
