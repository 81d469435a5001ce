-- The end is refused, or the node is put behind it.
use Rattle.marks.proofs.ToldLaws.{handed_on, refusal_some}
use mathlib.Core.Path.{refl}
use Rattle.members.proofs.EndLaws.{member_stops, member_puts}
use Rattle.members.proofs.object.member_node.Goals as goal

pub returns-clause-makes_member : goal.returns-clause-makes_member
returns-clause-makes_member c =
    member_puts c.args.words.now c.args.given c.args.b c.args.choices c.args.k c.args.m c.args.nodes.now _ c.in_ok-e.ensures.by_index refl c.put.ensures.makes

pub returns-in_err-e-clause-makes_member : goal.returns-in_err-e-clause-makes_member
returns-in_err-e-clause-makes_member c =
    rw (handed_on c.from_residual.ensures.1)
    (member_stops c.args.words.now c.args.given c.args.b c.args.choices c.args.k c.args.m c.args.nodes.now _ c.in_err-e.ensures.by_index (refusal_some c.in_err-e.field-0.0.why))
