-- The one child is the tree that was read last.
use mathlib.Core.Path.{subst}
use Rattle.marks.specs.Told.{told}
use Rattle.marks.specs.Node.{Makes}
use Rattle.marks.specs.declared.state.Kids.{Kids}
use Rattle.marks.proofs.node.put_about.Goals as goal

pub returns-clause-makes_about : goal.returns-clause-makes_about
returns-clause-makes_about c =
    subst (λ (k : Kids). Makes c.args.words.now c.args.given c.args.b c.args.choices k c.args.m c.args.nodes.now (told c.put.result) c.put.new.nodes) c.one.ensures c.put.ensures.makes
