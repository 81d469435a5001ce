use Prim.Native.Nat.{◌+◌, ◌*◌}
use lib.ListN.{length}
use Rattle.keys.specs.Bits.{bits_of_bytes}
use Rattle.fields.proofs.Chunks.{Copying}
use Rattle.fields.proofs.take.copy_across.Given as goal

abbrev pub invariant-loop-i : goal.invariant-loop-i
invariant-loop-i l =
    Copying (bits_of_bytes l.key) (l.from * 8 + l.skip) (length l.initial.to) l.i l.to
