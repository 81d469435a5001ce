use native.Mathlib.Omega.{arith}
use mathlib.Core.Path.{ap, ◌∙◌}
use Rattle.std.specs.Prelude.{Some}
use Rattle.fields.proofs.Chunks.{taking_short}
use Rattle.fields.proofs.Windows.{field_of}
use Rattle.fields.proofs.take.take_field.Goals as goal

pub returns-then-key-bit : goal.returns-then-key-bit
returns-then-key-bit c =
    taking_short c.args.key.now c.args.bit c.args.width (omega arith)

pub returns : goal.returns
returns c =
    ap Some c.lowest.ensures ∙ field_of c.args.key.now c.args.bit c.args.width c.window_at-window.result (omega arith) (omega arith) c.window_at-window.ensures
