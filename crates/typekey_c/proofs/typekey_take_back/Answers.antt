-- The answer of `take_back`, told by words.
use mathlib.Core.Path.{refl, ap, ◌∙◌}
use Rattle.taking_back.specs.Call as taking
use Rattle.told.specs.Denied.{back_by, answer_back_by}
use Rattle.told.specs.Answer.{told_back}
use Rattle.typekey_c.proofs.Told.{tells_back, told_by}
use Rattle.typekey_c.proofs.typekey_take_back.Goals as goal

pub returns : goal.returns
returns c =
    tells_back c.take_back-r.ensures (c.tell_taking.ensures ∙ ap told_back (told_by taking.answer_of answer_back_by back_by (λ _. refl) (λ _. refl) c.take_back-r.result c.map_err.result c.map_err.ensures.cases))
