-- The records are copied whole, then zeros.
use mathlib.Core.Path.{◌∙◌}
use native.Mathlib.Omega.{arith}
use Rattle.marks.proofs.RecordLaws.{copied}
use Rattle.marks.proofs.notes.copy_notes.Goals as goal

pub returns : goal.returns
returns c =
    c.clear.ensures ∙ copied c.args.noting.now c.args.notes.now c.copy_from_slice.new.self c.args.count _ (omega arith) (omega (arith, c.told-noting, c.requires)) (omega (arith, c.requires)) c.copy_from_slice.ensures.after
