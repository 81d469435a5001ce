-- The diagnostic has no record, or a list is too long, or the node.
use mathlib.Core.Path.{refl, sym, ◌∙◌}
use Rattle.functions.proofs.FunctionLaws.{constructor_stops, constructor_long, constructor_put}
use Rattle.std.specs.Prelude.{Ok}
use Rattle.functions.specs.Told.{told_params}
use Rattle.marks.proofs.ToldLaws.{handed_on, refusal_some}
use Rattle.functions.proofs.function.constructor_node.Goals as goal

pub returns-in_err-m-clause-makes_function : goal.returns-in_err-m-clause-makes_function
returns-in_err-m-clause-makes_function c =
    rw (handed_on c.from_residual.ensures.1)
    (λ new. constructor_stops c.args.words.now c.args.given c.args.h c.args.there c.args.count (told_params (Ok c.args.p)) c.args.nodes.now c.args.notes.now new _ _ c.in_err-m.ensures.reports (refusal_some c.in_err-m.field-0.0.why))

pub returns-then-too_long-clause-makes_function : goal.returns-then-too_long-clause-makes_function
returns-then-too_long-clause-makes_function c =
    λ new. constructor_long c.args.words.now c.args.given c.args.h c.args.there c.args.count (told_params (Ok c.args.p)) c.args.nodes.now c.args.notes.now new _ _ c.in_ok-m.ensures.reports refl (sym c.too_long.ensures ∙ c.if-too_long.true)

pub returns-clause-makes_function : goal.returns-clause-makes_function
returns-clause-makes_function c =
    λ new.
    constructor_put c.args.words.now c.args.given c.args.h c.args.there c.args.count (told_params (Ok c.args.p)) c.args.nodes.now c.args.notes.now new _ _ c.in_ok-m.ensures.reports refl c.in_ok-m.ensures.noted (sym c.too_long.ensures ∙ c.if-too_long.false)
    c.constructor_choices-choices.ensures c.put.ensures.makes
