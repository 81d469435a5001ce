-- Each arm is one step of the rule.
use mathlib.Core.Path.{sym, ◌∙◌}
use borrow.Author.Tests.{eq-eqb}
use Rattle.marks.specs.State.{given_of, view}
use Rattle.primaries.proofs.PrimaryLaws.{start_from, template_here, enclosed_tuple, enclosed_parens, enclosed_whole, enclosed_template, enclosed_other}
use Rattle.primaries.proofs.primary.enclosed.Goals as goal

pub returns-in-18-clause-starts_as : goal.returns-in-18-clause-starts_as
returns-in-18-clause-starts_as c =
    λ text O given T.
    let g = given_of text c.args.words.now given in
    let s = view c.args.m O in
    (enclosed_tuple g T s (sym c.requires.1 ∙ c.in-18.is), (sym c.requires.1 ∙ c.in-18.is))

pub returns-in-20-clause-starts_as : goal.returns-in-20-clause-starts_as
returns-in-20-clause-starts_as c =
    λ text O given T.
    let g = given_of text c.args.words.now given in
    let s = view c.args.m O in
    enclosed_parens g T s (sym c.requires.1 ∙ c.in-20.is)

pub returns-in-5-clause-starts_as : goal.returns-in-5-clause-starts_as
returns-in-5-clause-starts_as c =
    λ text O given T.
    let g = given_of text c.args.words.now given in
    let s = view c.args.m O in
    (enclosed_whole g T s (sym c.requires.1 ∙ c.in-5.is), template_here g T s (eq-eqb _ _ (sym c.requires.1 ∙ c.in-5.is)))

pub returns-in-6-clause-starts_as : goal.returns-in-6-clause-starts_as
returns-in-6-clause-starts_as c =
    λ text O given T.
    let g = given_of text c.args.words.now given in
    let s = view c.args.m O in
    (enclosed_template g T s (sym c.requires.1 ∙ c.in-6.is), (sym c.requires.1 ∙ c.in-6.is))

pub returns-in_default-clause-starts_as : goal.returns-in_default-clause-starts_as
returns-in_default-clause-starts_as c =
    λ text O given T.
    let g = given_of text c.args.words.now given in
    let s = view c.args.m O in
    start_from c.other_start.result g T s
    (enclosed_other g T s (λ e. c.in_default.in_default-own.rest.0.0.0.0.1 (c.requires.1 ∙ e)) (λ e. c.in_default.in_default-own.rest.0.0.0.1 (c.requires.1 ∙ e)) (λ e. c.in_default.in_default-own.rest.0.0.1 (c.requires.1 ∙ e)) (λ e. c.in_default.in_default-own.rest.0.1 (c.requires.1 ∙ e)) (λ e. c.in_default.in_default-own.rest.1 (c.requires.1 ∙ e)))
    (c.other_start.ensures.reference_is g T s (sym c.requires.1))
