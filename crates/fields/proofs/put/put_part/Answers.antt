use native.Mathlib.Omega.{arith}
use Prim.Native.Nat.{◌-◌, ◌/◌, ◌%◌}
use Rattle.keys.specs.Bits.{bits_of}
use Rattle.fields.proofs.PutLaws.{part_put, part_past}
use Rattle.fields.proofs.Windows.{replaced_small, window_bits}
use Rattle.fields.proofs.put.put_part.Goals as goal

pub overflow_cast-key : goal.overflow_cast-key
overflow_cast-key c =
    let rest = 8 - c.args.bit % 8 - c.args.size in
    omega (arith, c.replaced.ensures, replaced_small 8 c.from.result c.args.size rest c.args.part (omega (arith, c.slice_known-1.given (c.args.bit / 8))) (omega arith) c.requires.1)

pub returns-then-at-key : goal.returns-then-at-key
returns-then-at-key c =
    let rest = 8 - c.args.bit % 8 - c.args.size in
    part_put c.args.key.now c.args.bit c.args.size c.args.part c.replaced.result c.from.result (omega arith) c.requires.0 c.from.ensures
    (window_bits 8 c.from.result (c.args.bit % 8) c.args.size rest c.args.part c.replaced.result (omega arith) c.requires.1 c.replaced.ensures)

pub returns-else-at-key : goal.returns-else-at-key
returns-else-at-key c =
    part_past c.args.key.now c.args.bit (bits_of c.args.size c.args.part) (omega arith)
