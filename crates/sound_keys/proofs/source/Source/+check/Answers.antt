-- A node, its fields in order, and nodes one after the other.
use native.Mathlib.Omega.{arith}
use Rattle.std.proofs.lemmas.Result.{err_from_is_err_and}
use Rattle.keys.proofs.BitsLaws.{length_bytes}
use Rattle.key_parts.proofs.NeverLaws.{before_one}
use Rattle.sound_keys.specs.Sound.{bits, nodes_of}
use Rattle.sound_keys.proofs.Nodes.{tag_fits, node_bad, node_tall, tag_placed, node_done, turn_none, turn_stop, turn_off, turn_more, row_fits, going_none, going_end, going_stop, going_more, nodes_stop, nodes_more}
use Rattle.sound_keys.proofs.source.Source.+check.Goals as goal

pub check_node-check_choice-requires : goal.check_node-check_choice-requires
check_node-check_choice-requires t c =
    (c.requires.0, tag_fits c.args.self.now c.args.class c.args.bit c.requires.0 c.word_at-steps.ensures.0 c.class_at.ensures, omega arith)

pub check_node-returns-in_err-tag : goal.check_node-returns-in_err-tag
check_node-returns-in_err-tag t c =
    let p = err_from_is_err_and c.from_residual.result c.from_residual.ensures.1 in rw (p.1, p.2) (node_bad c.args.self.now c.args.class c.args.bit c.requires.0 c.word_at-steps.ensures.0 c.class_at.ensures c.args.left c.in_err-tag.ensures)

pub check_node-returns-then-left-eq0 : goal.check_node-returns-then-left-eq0
check_node-returns-then-left-eq0 t c =
    node_tall c.args.self.now c.args.class c.args.bit c.requires.0 c.word_at-steps.ensures.0 c.class_at.ensures c.in_ok-tag.ensures c.args.left c.if-left-eq0.true

pub check_node-check_rest-requires : goal.check_node-check_rest-requires
check_node-check_rest-requires t c =
    (omega (arith, before_one c.args.left c.if-left-eq0.false), tag_placed c.args.self.now c.args.class c.args.bit c.requires.0 c.word_at-steps.ensures.0 c.class_at.ensures c.in_ok-tag.ensures)

pub check_node-returns : goal.check_node-returns
check_node-returns t c =
    node_done c.args.self.now c.args.class c.args.bit c.requires.0 c.word_at-steps.ensures.0 c.class_at.ensures c.in_ok-tag.ensures c.args.left c.if-left-eq0.false _ c.check_rest.ensures

pub check_nodes-loop-init : goal.check_nodes-loop-init
check_nodes-loop-init t c =
    turn_none (bits c.args.self.now) (nodes_of c.args.self.now c.args.left) c.args.r.a c.args.r.w c.args.s.n c.args.s.bit (omega (arith, c.requires.0.in_key, length_bytes c.args.self.now.key.now))

pub check_nodes-check_node-requires : goal.check_nodes-check_node-requires
check_nodes-check_node-requires t c =
    (omega arith, (omega (arith, c.loop.invariant.in_key, length_bytes c.args.self.now.key.now), c.requires.1.a))

pub check_nodes-returns-in_err-at : goal.check_nodes-returns-in_err-at
check_nodes-returns-in_err-at t c =
    let p = err_from_is_err_and c.from_residual.result c.from_residual.ensures.1 in rw (p.1, p.2) (turn_stop c.loop.invariant c.loop-test.true c.in_err-at.ensures)

pub check_nodes-check_after-requires : goal.check_nodes-check_after-requires
check_nodes-check_after-requires t c =
    (omega (arith, c.in_ok-at.ensures.in_key, length_bytes c.args.self.now.key.now), c.requires.1.w)

pub check_nodes-returns-in_err-at-2 : goal.check_nodes-returns-in_err-at-2
check_nodes-returns-in_err-at-2 t c =
    let p = err_from_is_err_and c.from_residual-in_err-at-2.result c.from_residual-in_err-at-2.ensures.1 in rw (p.1, p.2) (turn_off c.loop.invariant c.loop-test.true c.in_ok-at.ensures c.in_err-at-2.ensures)

pub check_nodes-loop-preserved : goal.check_nodes-loop-preserved
check_nodes-loop-preserved t c =
    turn_more c.loop.invariant c.loop-test.true c.in_ok-at.ensures c.in_ok-at-2.ensures

pub check_rest-loop-depth-init : goal.check_rest-loop-depth-init
check_rest-loop-depth-init t c =
    going_none c.args.self.now c.args.left c.args.steps c.args.from c.requires

pub check_rest-returns-in-1 : goal.check_rest-returns-in-1
check_rest-returns-in-1 t c =
    going_end c.loop-depth.invariant c.loop-depth-test.true c.row_at-r.ensures c.in-1.is

pub check_rest-check_nodes-requires : goal.check_rest-check_nodes-requires
check_rest-check_nodes-requires t c =
    (omega arith, (c.loop-depth.invariant.placed, row_fits c.loop-depth.invariant c.loop-depth-test.true c.row_at-r.ensures))

pub check_rest-returns-in_err-check_nodes-in-3 : goal.check_rest-returns-in_err-check_nodes-in-3
check_rest-returns-in_err-check_nodes-in-3 t c =
    let p = err_from_is_err_and c.from_residual.result c.from_residual.ensures.1 in rw (p.1, p.2) (nodes_stop c.loop-depth.invariant c.loop-depth-test.true c.row_at-r.ensures c.in-3.is c.in_err-check_nodes-in-3.ensures)

pub check_rest-loop-depth-preserved-in-3 : goal.check_rest-loop-depth-preserved-in-3
check_rest-loop-depth-preserved-in-3 t c =
    nodes_more c.loop-depth.invariant c.loop-depth-test.true c.row_at-r.ensures c.in-3.is c.in_ok-check_nodes-in-3.ensures

pub check_rest-check_plain-requires : goal.check_rest-check_plain-requires
check_rest-check_plain-requires t c =
    (c.loop-depth.invariant.placed, row_fits c.loop-depth.invariant c.loop-depth-test.true c.row_at-r.ensures, (λ e. omega arith), λ e. omega arith)

pub check_rest-returns-in_err-s-in_default : goal.check_rest-returns-in_err-s-in_default
check_rest-returns-in_err-s-in_default t c =
    let p = err_from_is_err_and c.from_residual-in_err-s-in_default.result c.from_residual-in_err-s-in_default.ensures.1 in rw (p.1, p.2) (going_stop c.loop-depth.invariant c.loop-depth-test.true c.row_at-r.ensures c.in_err-s-in_default.ensures)

pub check_rest-loop-depth-preserved : goal.check_rest-loop-depth-preserved
check_rest-loop-depth-preserved t c =
    going_more c.loop-depth.invariant c.loop-depth-test.true c.row_at-r.ensures c.in_ok-s-in_default.ensures
