use native.Mathlib.Omega.{arith}
use mathlib.Core.Path.{refl}
use Rattle.fields.proofs.Chunks.{copied_within}
use Rattle.fields.proofs.take.copy_bytes.Goals as goal

pub returns-then-bit-eq0 : goal.returns-then-bit-eq0
returns-then-bit-eq0 c =
    copied_within c.args.bit c.args.text.now c.args.to c.args.count _ c.requires.2 (omega arith) (omega arith) refl refl c.copy_whole.auto.to c.copy_whole.ensures

pub returns-else-bit-eq0 : goal.returns-else-bit-eq0
returns-else-bit-eq0 c =
    copied_within c.args.bit c.args.text.now c.args.to c.args.count _ c.requires.2 (omega arith) (omega arith) refl refl c.copy_across.auto.to c.copy_across.ensures
