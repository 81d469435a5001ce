-- Every slice is cleared.
use mathlib.Core.Path.{refl}
use Rattle.answers.proofs.Finished.{called_is, cleared}
use Rattle.answers.proofs.reading.refuse.Goals as goal

pub returns : goal.returns
returns c =
    called_is refl (cleared _ (c.fill.ensures.after (λ y e. e))) (cleared _ (c.fill-2.ensures.after (λ y e. e))) (cleared _ (c.fill-3.ensures.after (λ y e. e))) (cleared _ (c.fill-4.ensures.after (λ y e. e)))
