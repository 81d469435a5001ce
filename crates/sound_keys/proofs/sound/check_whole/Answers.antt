-- A whole key: too long, of no edition, without a tree, with bits left over, or one.
use native.Mathlib.Omega.{arith}
use mathlib.Core.Path.{sym, subst}
use Rattle.std.proofs.lemmas.Result.{err_from_is_err_and}
use Rattle.keys.proofs.BitsLaws.{length_bytes}
use Rattle.node_table.specs.Forms.{Narrow}
use Rattle.node_table.proofs.FormsLaws.{words_narrow}
use Rattle.sound_keys.proofs.Whole.{whole_four, whole_stop, whole_left, whole_done}
use Rattle.sound_keys.proofs.sound.check_whole.Goals as goal

pub invariant_of-source : goal.invariant_of-source
invariant_of-source c =
    record { short = c.if-key-gt-MOST.false; narrow = subst Narrow (sym c.requires) words_narrow }

pub check_node-requires : goal.check_node-requires
check_node-requires c =
    (whole_four c.args.forms.now c.args.key.now c.if-key-gt-MOST.false c.take_field.ensures c.if-ne.ensures, omega arith)

pub returns-in_err-behind : goal.returns-in_err-behind
returns-in_err-behind c =
    let p = err_from_is_err_and c.from_residual.result c.from_residual.ensures.1 in rw (p.1, p.2) (whole_stop c.args.forms.now c.args.key.now c.if-key-gt-MOST.false c.take_field.ensures c.if-ne.ensures c.requires c.in_err-behind.ensures)

pub pad_end-end-requires : goal.pad_end-end-requires
pad_end-end-requires c =
    (c.if-key-gt-MOST.false, omega (arith, c.in_ok-behind.ensures.in_key, length_bytes c.args.key.now))

pub returns-then-end-key : goal.returns-then-end-key
returns-then-end-key c =
    whole_left c.args.forms.now c.args.key.now c.if-key-gt-MOST.false c.take_field.ensures c.if-ne.ensures c.requires c.in_ok-behind.ensures c.pad_end-end.ensures c.if-end-key.true c.bad_key-then-end-key.ensures

pub returns : goal.returns
returns c =
    whole_done c.args.forms.now c.args.key.now c.if-key-gt-MOST.false c.take_field.ensures c.if-ne.ensures c.requires c.in_ok-behind.ensures c.pad_end-end.ensures c.if-end-key.false
