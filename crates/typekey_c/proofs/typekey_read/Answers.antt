-- The answer of `read`, told by words.
use mathlib.Core.Path.{refl, ap, ◌∙◌}
use Rattle.answers.specs.Reading as reading
use Rattle.told.specs.Denied.{denied_by, answer_by}
use Rattle.told.specs.Answer.{told}
use Rattle.typekey_c.proofs.Told.{tells, told_by}
use Rattle.typekey_c.proofs.typekey_read.Goals as goal

pub returns : goal.returns
returns c =
    tells (rw c.preserve_parens-parens.ensures at c.read-r.ensures) (c.tell_reading.ensures ∙ ap told (told_by reading.answer_of answer_by denied_by (λ _. refl) (λ _. refl) c.read-r.result c.map_err.result c.map_err.ensures.cases))
