-- A child is the first, or the next of the one before it.
use native.Mathlib.Omega.{arith}
use Rattle.key_parts.proofs.Walk.{linked_next, linked_first}
use Rattle.key_parts.proofs.step.link_child.Goals as goal

pub returns-then-s-used : goal.returns-then-s-used
returns-then-s-used c =
    linked_next c.args.nodes.now c.args.s c.args.at _ c.link_node.ensures c.if-s-used.true (omega arith) (omega arith)

pub returns : goal.returns
returns c =
    linked_first c.args.nodes.now c.args.s c.args.at (omega (arith, c.if-s-used.false)) (omega arith)
