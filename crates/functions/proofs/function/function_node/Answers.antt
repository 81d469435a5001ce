-- A constructor's node, or a list too long, or the node.
use mathlib.Core.Path.{sym, ◌∙◌}
use Rattle.functions.proofs.FunctionLaws.{function_long, function_put}
use Rattle.std.specs.Prelude.{Ok}
use Rattle.functions.specs.Told.{told_params}
use Rattle.functions.proofs.function.function_node.Goals as goal

pub returns-then-h-clause-makes_function : goal.returns-then-h-clause-makes_function
returns-then-h-clause-makes_function c =
    c.constructor_node.ensures.makes_function c.if-h.true

pub returns-then-too_long-clause-makes_function : goal.returns-then-too_long-clause-makes_function
returns-then-too_long-clause-makes_function c =
    function_long c.args.words.now c.args.given c.args.h c.args.there c.args.count (told_params (Ok c.args.p)) c.args.nodes.now c.args.notes.now c.if-h.false (sym c.too_long.ensures ∙ c.if-too_long.true)

pub returns-clause-makes_function : goal.returns-clause-makes_function
returns-clause-makes_function c =
    function_put c.args.words.now c.args.given c.args.h c.args.there c.args.count (told_params (Ok c.args.p)) c.args.nodes.now c.args.notes.now c.if-h.false (sym c.too_long.ensures ∙ c.if-too_long.false)
    c.function_choices-choices.ensures c.put.ensures.makes
