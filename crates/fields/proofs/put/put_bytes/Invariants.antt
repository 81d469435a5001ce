use lib.ListN.{take}
use Rattle.keys.specs.Bits.{bits_of_bytes}
use Rattle.fields.specs.Put.{Put}
use Rattle.fields.proofs.put.put_bytes.Given as goal

abbrev pub invariant-loop-byte : goal.invariant-loop-byte
invariant-loop-byte l = Put l.bit (bits_of_bytes (take l.byte-index l.bytes)) l.at l.initial.key l.key
