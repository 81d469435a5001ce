-- The bits after a tree, to the byte.
use Rattle.keys.specs.Bits.{bits_of_bytes}
use Rattle.key_parts.proofs.PaddingLaws.{Pads}
use Rattle.key_parts.proofs.padding.pad_end.Given as goal

abbrev pub invariant-loop-at : goal.invariant-loop-at
invariant-loop-at l = Pads (bits_of_bytes l.key) l.bit l.at
