-- Both keys are checked, the left one first; then they are walked together.
use native.Mathlib.Omega.{arith}
use mathlib.Core.Path.{sym, subst, ◌∙◌}
use Rattle.node_table.specs.Forms.{Narrow}
use Rattle.node_table.proofs.FormsLaws.{words_narrow}
use Rattle.comparing.proofs.Differing.{read_left, read_right, too_many, all_listed}
use Rattle.comparing.proofs.differ.differ.Goals as goal

pub invariant_of-sides : goal.invariant_of-sides
invariant_of-sides c =
    record { short = c.in_default.ensures.short; narrow = subst Narrow (sym c.words-forms.ensures) words_narrow }

pub walk_node-p-requires : goal.walk_node-p-requires
walk_node-p-requires c =
    (omega arith, record { left = c.in_default.ensures.long; right = c.in_default-check_whole.ensures.long; few = omega arith }, read_left c.args.left.now c.args.right.now c.args.list.now c.in_default.ensures, read_right c.args.left.now c.args.right.now c.args.list.now c.in_default.ensures (c.words-others.ensures ∙ sym c.words-forms.ensures) c.in_default-check_whole.ensures)

pub returns-then-list-p : goal.returns-then-list-p
returns-then-list-p c =
    too_many c.args.left.now c.args.right.now c.args.list.now c.in_default.ensures (c.words-others.ensures ∙ sym c.words-forms.ensures) c.in_default-check_whole.ensures c.walk_node-p.ensures c.if-list-p.true c.declined-then-list-p.ensures.1 c.declined-then-list-p.ensures.0

pub returns : goal.returns
returns c =
    all_listed c.args.left.now c.args.right.now c.args.list.now c.in_default.ensures (c.words-others.ensures ∙ sym c.words-forms.ensures) c.in_default-check_whole.ensures c.walk_node-p.ensures c.if-list-p.false c.clear.ensures
