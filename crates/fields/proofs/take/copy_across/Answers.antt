use native.Mathlib.Omega.{arith}
use Prim.Native.Nat.{◌+◌, ◌*◌}
use Rattle.fields.proofs.Chunks.{copying_more}
use Rattle.fields.proofs.Windows.{byte_across}
use Rattle.fields.proofs.take.copy_across.Goals as goal

pub loop-i-preserved : goal.loop-i-preserved
loop-i-preserved c =
    copying_more c.between.result c.loop-i.invariant (omega arith)
    (byte_across c.args.key.now (c.args.from + c.loop-i.i) c.args.skip (c.args.from * 8 + c.args.skip + c.loop-i.i * 8) c.between.result (omega arith) (omega arith) (omega arith)
    (omega (arith, c.type_inv.key (c.args.from + c.loop-i.i + 1))) c.between.ensures)
