-- Both lists are short enough, then the node is put.
use mathlib.Core.Logic.{inl, inr}
use Rattle.marks.specs.Told.{told, told_list}
use Rattle.parts.specs.Told.{told_named}
use Rattle.std.specs.Prelude.{Ok}
use native.Mathlib.Omega.{arith}
use Rattle.rules.specs.State.{end}
use Rattle.rules.specs.List.{count}
use Rattle.marks.specs.State.{view, given_of}
use Rattle.parts.specs.Arguments.{name_count, named_node}
use Rattle.marks.proofs.Answers.{says_refused}
use Rattle.parts.proofs.ArgumentLaws.{lists_long, lists_longer, named_made}
use Rattle.parts.proofs.arguments.named_node.Goals as goal

pub returns-then-n-gt-LONGEST-clause-makes_named : goal.returns-then-n-gt-LONGEST-clause-makes_named
returns-then-n-gt-LONGEST-clause-makes_named c =
    λ text B x ts M O built name is there counts nodes.
    let g = given_of text c.args.words.now c.args.given in
    let node = named_node c.args.b.first (end g (view c.args.l.m O)) x ts in
    elim c.then-n-gt-LONGEST.either [
      | inl p ↦ says_refused 6 (lists_long g (name_count x) (count ts) node (view c.args.l.m O) (omega (arith, is.count, p)))
      | inr p ↦ says_refused 6 (lists_longer g (name_count x) (count ts) node (view c.args.l.m O) (omega (arith, is.count, p.0)) (omega (arith, counts, p.1)))
    ]

pub returns-clause-makes_named : goal.returns-clause-makes_named
returns-clause-makes_named c =
    λ text B x ts M O built name is there counts nodes.
    named_made c.args.words.now c.args.given c.args.b (told_named (Ok c.args.n)) (told_list (Ok c.args.l)) c.opt_list.result c.args.nodes.now (told c.put.result) _ c.put.ensures.makes c.opt_list.ensures.value
    (omega (arith, c.if-n-gt-LONGEST.false)) (omega (arith, c.if-k-gt-LONGEST.false)) text B x ts M O built name is there counts nodes
