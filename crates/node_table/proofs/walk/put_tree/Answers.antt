use mathlib.Core.Path.{sym, subst, ◌∙◌}
use native.Mathlib.Omega.{arith}
use Rattle.node_table.specs.Forms.{Narrow}
use Rattle.node_table.proofs.FormsLaws.{words_narrow}
use Rattle.node_table.proofs.walk.put_tree.Goals as goal

pub put_node-requires : goal.put_node-requires
put_node-requires g c =
    (c.requires.0, omega arith, omega arith, omega (arith, c.ranges.tall.fits), c.requires.1, subst Narrow (sym c.words-forms.ensures) words_narrow, c.words-forms.ensures)

pub returns-then-knows : goal.returns-then-knows
returns-then-knows g c =
    c.at_once.ensures (sym c.knows.ensures ∙ c.if-knows.true) c.args.nodes.now c.args.tall c.args.root (sym c.node_at-own.ensures.0)
