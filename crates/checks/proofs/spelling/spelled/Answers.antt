use mathlib.Core.Path.{ap, ◌∙◌}
use mathlib.Core.List.{List}
use Prim.Native.Nat.{ℕ}
use Rattle.words.specs.Test.{same}
use Rattle.words.proofs.Bytes.{same_pointwise}
use Rattle.checks.proofs.spelling.spelled.Goals as goal

pub returns : goal.returns
returns c =
    c.eq.ensures ∙ same_pointwise c.spelling.result.now c.args.bytes.now ∙ ap (λ (s : List ℕ). same s c.args.bytes.now) c.spelling.ensures
