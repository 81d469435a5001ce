-- By whether `is` follows on the line.
use mathlib.Core.Path.{sym, ◌∙◌}
use borrow.Author.Tests.{eq-eqb}
use Rattle.marks.specs.State.{given_of, view}
use Rattle.primaries.proofs.PrimaryLaws.{this_alone, this_predicate}
use Rattle.primaries.proofs.primary.this_start.Goals as goal

pub returns-then-predicates-clause-starts_as : goal.returns-then-predicates-clause-starts_as
returns-then-predicates-clause-starts_as c =
    λ text O given T.
    let g = given_of text c.args.words.now given in
    let s = view c.args.m O in
    this_predicate g T s (eq-eqb _ _ c.requires.2) (sym (c.predicates.ensures text O given) ∙ c.if-predicates.true)

pub returns-else-predicates-clause-starts_as : goal.returns-else-predicates-clause-starts_as
returns-else-predicates-clause-starts_as c =
    λ text O given T.
    let g = given_of text c.args.words.now given in
    let s = view c.args.m O in
    this_alone g T s (eq-eqb _ _ c.requires.2) (sym (c.predicates.ensures text O given) ∙ c.if-predicates.false)
