-- The answer of `differ`, told by words.
use mathlib.Core.Path.{refl, ap, ◌∙◌}
use Rattle.comparing.specs.Call as difference
use Rattle.told.specs.Denied.{difference_by, answer_difference_by}
use Rattle.told.specs.Answer.{told_difference}
use Rattle.typekey_c.proofs.Told.{tells_difference, told_by}
use Rattle.typekey_c.proofs.typekey_differ.Goals as goal

pub returns : goal.returns
returns c =
    tells_difference c.differ-r.ensures (c.tell_difference.ensures ∙ ap told_difference (told_by difference.answer_of answer_difference_by difference_by (λ _. refl) (λ _. refl) c.differ-r.result c.map_err.result c.map_err.ensures.cases))
