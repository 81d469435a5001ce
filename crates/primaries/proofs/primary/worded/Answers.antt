-- Each way out is one step of the rule.
use mathlib.Core.Path.{sym, ◌∙◌}
use mathlib.Core.Logic.{inl, inr}
use mathlib.Core.List.{[]}
use Rattle.marks.specs.State.{given_of, view}
use Rattle.primaries.proofs.PrimaryLaws.{eq_at, ne_at, assertion_inside, no_given, start_from, worded_assertion, worded_typeof, worded_import, worded_enclosed}
use Rattle.primaries.proofs.primary.worded.Goals as goal

pub returns-then-is_assertion-clause-starts_as : goal.returns-then-is_assertion-clause-starts_as
returns-then-is_assertion-clause-starts_as c =
    λ text O given T.
    let g = given_of text c.args.words.now given in
    let s = view c.args.m O in
    worded_assertion g T s (sym (c.is_assertion.ensures text O given) ∙ c.if-is_assertion.true)

pub returns-then-is_assertion-clause-start_has : goal.returns-then-is_assertion-clause-start_has
returns-then-is_assertion-clause-start_has c =
    assertion_inside (given_of [] c.args.words.now no_given) (view c.args.m []) (sym (c.is_assertion.ensures [] [] no_given) ∙ c.if-is_assertion.true)

pub returns-then-kind-eq-TYPEOF-clause-starts_as : goal.returns-then-kind-eq-TYPEOF-clause-starts_as
returns-then-kind-eq-TYPEOF-clause-starts_as c =
    λ text O given T.
    let g = given_of text c.args.words.now given in
    let s = view c.args.m O in
    let a = sym (c.is_assertion.ensures text O given) ∙ c.if-is_assertion.false in
    elim c.then-kind-eq-TYPEOF.either [
      | inl p ↦ worded_typeof g T s a (eq_at 104 c.kind_at-kind.ensures.value p)
      | inr q ↦ worded_import g T s a (ne_at 104 c.kind_at-kind.ensures.value q.0) (eq_at 98 c.kind_at-kind.ensures.value q.1)
    ]

pub returns-clause-starts_as : goal.returns-clause-starts_as
returns-clause-starts_as c =
    λ text O given T.
    let g = given_of text c.args.words.now given in
    let s = view c.args.m O in
    start_from c.enclosed.result g T s
    (worded_enclosed g T s (sym (c.is_assertion.ensures text O given) ∙ c.if-is_assertion.false) (ne_at 104 c.kind_at-kind.ensures.value c.if-kind-eq-TYPEOF.false) (ne_at 98 c.kind_at-kind.ensures.value c.if-kind-eq-IMPORT.false))
    (c.enclosed.ensures.starts_as text O given T)
