-- The end is refused, or a list is too long, or the node is put.
use Rattle.functions.specs.Told.{told_params}
use Rattle.std.specs.Prelude.{Ok}
use Rattle.marks.proofs.ToldLaws.{handed_on, refusal_some}
use mathlib.Core.Path.{refl, sym, ◌∙◌}
use Rattle.members.proofs.SignatureLaws.{signature_stops, signature_long, signature_put}
use Rattle.members.proofs.object.signature_node.Goals as goal

pub returns-then-too_long-clause-makes_signature : goal.returns-then-too_long-clause-makes_signature
returns-then-too_long-clause-makes_signature c =
    signature_long c.args.words.now c.args.given c.args.b c.args.head c.args.there c.args.count (told_params (Ok c.args.p)) c.args.typed c.args.m c.args.nodes.now _ c.in_ok-e.ensures.by_index refl (sym c.too_long.ensures ∙ c.if-too_long.true)

pub returns-clause-makes_signature : goal.returns-clause-makes_signature
returns-clause-makes_signature c =
    signature_put c.args.words.now c.args.given c.args.b c.args.head c.args.there c.args.count (told_params (Ok c.args.p)) c.args.typed c.args.m c.args.nodes.now _ c.in_ok-e.ensures.by_index refl (sym c.too_long.ensures ∙ c.if-too_long.false) c.signature_choices-choices.ensures c.put.ensures.makes

pub returns-in_err-e-clause-makes_signature : goal.returns-in_err-e-clause-makes_signature
returns-in_err-e-clause-makes_signature c =
    rw (handed_on c.from_residual.ensures.1)
    (signature_stops c.args.words.now c.args.given c.args.b c.args.head c.args.there c.args.count (told_params (Ok c.args.p)) c.args.typed c.args.m c.args.nodes.now _ c.in_err-e.ensures.by_index (refusal_some c.in_err-e.field-0.0.why))
