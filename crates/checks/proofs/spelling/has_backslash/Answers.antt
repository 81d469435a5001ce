use mathlib.Core.Path.{◌∙◌}
use Rattle.words.specs.Spelling.{backslash}
use Rattle.words.proofs.Bytes.{among_any}
use Rattle.checks.proofs.spelling.has_backslash.Goals as goal

pub returns : goal.returns
returns c =
    c.contains.ensures.value ∙ among_any c.args.bytes.now backslash
