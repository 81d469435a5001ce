-- The rules' making of a node, test by test.
use mathlib.Core.Path.{refl}
use native.Mathlib.Omega.{arith}
use Rattle.marks.proofs.NodeLaws.{makes_tall, makes_full, makes_done}
use Rattle.marks.proofs.node.put.Goals as goal

pub returns-then-k-ge-TALLEST-clause-makes : goal.returns-then-k-ge-TALLEST-clause-makes
returns-then-k-ge-TALLEST-clause-makes c =
    makes_tall c.args.words.now c.args.given c.args.b c.args.choices c.args.k c.args.m c.args.nodes.now refl c.if-k-ge-TALLEST.true

pub returns-then-given-m-clause-makes : goal.returns-then-given-m-clause-makes
returns-then-given-m-clause-makes c =
    makes_full c.args.words.now c.args.given c.args.b c.args.choices c.args.k c.args.m c.args.nodes.now refl (omega arith) c.if-given-m.true

pub returns-clause-makes : goal.returns-clause-makes
returns-clause-makes c =
    makes_done c.args.words.now c.args.given c.args.b c.args.choices c.args.k c.args.m c.args.nodes.now (omega arith) (omega arith) (omega arith) c.end_byte.ensures.value c.append_node.ensures
