-- By the look-ahead.
use mathlib.Core.Path.{sym, ◌∙◌}
use Rattle.marks.specs.State.{given_of, view}
use Rattle.primaries.proofs.PrimaryLaws.{enclosed_mapped, enclosed_curly}
use Rattle.primaries.proofs.primary.curly.Goals as goal

pub returns-then-mapped_start-clause-starts_as : goal.returns-then-mapped_start-clause-starts_as
returns-then-mapped_start-clause-starts_as c =
    λ text O given T.
    let g = given_of text c.args.words.now given in
    let s = view c.args.m O in
    (enclosed_mapped g T s c.requires.1 (sym c.mapped_start.ensures ∙ c.if-mapped_start.true), c.requires.1)

pub returns-else-mapped_start-clause-starts_as : goal.returns-else-mapped_start-clause-starts_as
returns-else-mapped_start-clause-starts_as c =
    λ text O given T.
    let g = given_of text c.args.words.now given in
    let s = view c.args.m O in
    (enclosed_curly g T s c.requires.1 (sym c.mapped_start.ensures ∙ c.if-mapped_start.false), c.requires.1)
