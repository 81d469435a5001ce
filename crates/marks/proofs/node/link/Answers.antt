-- The first child, or the next one.
use Rattle.marks.proofs.NodeLaws.{links_first, links_next}
use Rattle.marks.proofs.node.link.Goals as goal

pub returns-then-k-eq0-clause-links : goal.returns-then-k-eq0-clause-links
returns-then-k-eq0-clause-links c =
    links_first c.args.k c.args.before c.args.used c.args.high c.args.nodes.now c.if-k-eq0.true

pub returns-clause-links : goal.returns-clause-links
returns-clause-links c =
    links_next c.args.k c.args.before c.args.used c.args.high c.args.nodes.now c.if-k-eq0.false c.requires.1 c.max.ensures c.link_node.ensures
