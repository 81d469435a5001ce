-- n spellings, one after the other.
use lib.ListN.{length}
use Rattle.keys.specs.Bits.{bits_of_bytes}
use Rattle.key_parts.proofs.Steps.{Spelling}
use Rattle.key_parts.proofs.spelling.take_spellings.Given as goal

abbrev pub invariant-loop : goal.invariant-loop
invariant-loop l = Spelling (bits_of_bytes l.key) (length l.initial.names) (length l.initial.text) l.w l.n l.initial.q l.initial.names l.initial.text l.counter l.q l.names l.text
