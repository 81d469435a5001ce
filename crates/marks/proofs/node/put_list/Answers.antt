-- The list's length first, then as any node.
use mathlib.Core.Path.{refl}
use native.Mathlib.Omega.{arith}
use Rattle.marks.proofs.NodeLaws.{makes_long, makes_short}
use Rattle.marks.proofs.node.put_list.Goals as goal

pub returns-then-k-gt-LONGEST-clause-makes_list : goal.returns-then-k-gt-LONGEST-clause-makes_list
returns-then-k-gt-LONGEST-clause-makes_list c =
    makes_long c.args.words.now c.args.given c.args.b c.args.tag c.args.k c.args.m c.args.nodes.now refl c.if-k-gt-LONGEST.true

pub returns-clause-makes_list : goal.returns-clause-makes_list
returns-clause-makes_list c =
    makes_short c.args.words.now c.args.given c.args.b c.args.tag c.args.k c.args.m c.args.nodes.now (omega arith) c.put.ensures.makes
