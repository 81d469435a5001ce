-- Two nodes walked together.
use native.Mathlib.Omega.{arith}
use Rattle.keys.specs.Form.{one}
use Rattle.walks.specs.Walk.{left_bits, right_bits, grammar}
use Rattle.walks.proofs.Rests.{tag_left, tag_right, apart_asks, apart_walks, rest_asks, rest_walks, some_height, coming_none, rest_end, some_op, nodes_ask, nodes_on, words_ask, words_on, word_asks, word_on, choice_left, choice_right, choice_on, choice_asks, choice_apart}
use Rattle.walks.proofs.Walking.{inside_bits, inside_bytes, turn_none, node_left, node_right, word_left as next_left, word_right as next_right, turn_more}
use Rattle.walks.proofs.sides.Sides.+walk.Goals as goal

pub walk_node-number-t-requires : goal.walk_node-number-t-requires
walk_node-number-t-requires t c =
    tag_left c.args.self.now c.args.high c.args.class c.args.p c.requires c.tags.ensures.0 c.tags.ensures.1

pub walk_node-number-u-requires : goal.walk_node-number-u-requires
walk_node-number-u-requires t c =
    tag_right c.args.self.now c.args.high c.args.class c.args.p c.requires c.tags.ensures.0 c.tags.ensures.1

pub walk_node-apart-requires : goal.walk_node-apart-requires
walk_node-apart-requires t c =
    rw c.past-at.ensures (apart_asks c.args.self.now c.args.high c.args.class c.args.p c.requires c.tags.ensures.0 c.tags.ensures.1 c.word_at-steps.ensures.0 c.number-t.ensures.0 c.number-u.ensures.0 c.listed_at-j.ensures c.if-t-u.true c.listed_at-k.ensures)

pub walk_node-returns-then-t-u : goal.walk_node-returns-then-t-u
walk_node-returns-then-t-u t c =
    apart_walks c.args.self.now c.args.high c.args.class c.args.p c.requires c.tags.ensures.0 c.tags.ensures.1 c.word_at-steps.ensures.0 c.number-t.ensures.0 c.number-u.ensures.0 c.listed_at-j.ensures c.if-t-u.true c.listed_at-k.ensures (rw c.past-at.ensures at c.apart.ensures)

pub walk_node-walk_rest-requires : goal.walk_node-walk_rest-requires
walk_node-walk_rest-requires t c =
    (omega (arith, some_height (left_bits c.args.self.now) c.args.self.now.left.forms.now c.args.high c.args.class c.args.p.left c.requires.2), rw c.past-at.ensures (rest_asks c.args.self.now c.args.high c.args.class c.args.p c.requires c.tags.ensures.0 c.tags.ensures.1 c.word_at-steps.ensures.0 c.number-t.ensures.0 c.number-u.ensures.0 c.listed_at-j.ensures c.if-t-u.false))

pub walk_node-returns : goal.walk_node-returns
walk_node-returns t c =
    rest_walks c.args.self.now c.args.high c.args.class c.args.p c.requires c.tags.ensures.0 c.tags.ensures.1 c.word_at-steps.ensures.0 c.number-t.ensures.0 c.number-u.ensures.0 c.listed_at-j.ensures c.if-t-u.false (rw c.past-at.ensures at c.walk_rest.ensures)

pub walk_nodes-loop-init : goal.walk_nodes-loop-init
walk_nodes-loop-init t c =
    turn_none (left_bits c.args.self.now) (right_bits c.args.self.now) (grammar c.args.self.now) c.args.high c.args.class c.args.w.left c.args.w.right c.args.n c.args.p c.args.list.now (inside_bits c.args.self.now.left.key.now c.args.self.now.right.key.now c.requires.3)

pub walk_nodes-walk_node-q-requires : goal.walk_nodes-walk_node-q-requires
walk_nodes-walk_node-q-requires t c =
    (omega arith, (c.requires.0, inside_bytes c.args.self.now.left.key.now c.args.self.now.right.key.now (c.loop.invariant.on one one).inside, node_left c.loop.invariant c.loop-test.true c.requires.4, node_right c.loop.invariant c.loop-test.true c.requires.5))

pub walk_nodes-walk_after-q-requires : goal.walk_nodes-walk_after-q-requires
walk_nodes-walk_after-q-requires t c =
    (c.requires.1, c.requires.2, inside_bytes c.args.self.now.left.key.now c.args.self.now.right.key.now c.walk_node-q.ensures.inside, next_left c.loop.invariant c.loop-test.true c.walk_node-q.ensures c.requires.4, next_right c.loop.invariant c.loop-test.true c.walk_node-q.ensures c.requires.5)

pub walk_nodes-loop-preserved : goal.walk_nodes-loop-preserved
walk_nodes-loop-preserved t c =
    turn_more c.loop.invariant c.loop-test.true c.walk_node-q.ensures c.walk_after-q.ensures

pub walk_rest-loop-depth-init : goal.walk_rest-loop-depth-init
walk_rest-loop-depth-init t c =
    coming_none c.args.self.now c.args.high c.args.steps c.args.from c.args.at c.args.first c.args.list.now c.requires

pub walk_rest-returns-in-1 : goal.walk_rest-returns-in-1
walk_rest-returns-in-1 t c =
    rest_end c.loop-depth.invariant c.loop-depth-test.true c.rows.ensures.0 c.rows.ensures.1 c.in-1.is

pub walk_rest-walk_spellings-p-requires : goal.walk_rest-walk_spellings-p-requires
walk_rest-walk_spellings-p-requires t c =
    words_ask c.loop-depth.invariant c.loop-depth-test.true c.rows.ensures.0 c.rows.ensures.1 c.in-2.is

pub walk_rest-loop-depth-preserved-in-2 : goal.walk_rest-loop-depth-preserved-in-2
walk_rest-loop-depth-preserved-in-2 t c =
    words_on c.loop-depth.invariant c.loop-depth-test.true c.rows.ensures.0 c.rows.ensures.1 c.in-2.is c.walk_spellings-p.ensures

pub walk_rest-walk_nodes-p-requires : goal.walk_rest-walk_nodes-p-requires
walk_rest-walk_nodes-p-requires t c =
    (omega arith, nodes_ask c.loop-depth.invariant c.loop-depth-test.true c.rows.ensures.0 c.rows.ensures.1 c.in-3.is)

pub walk_rest-loop-depth-preserved-in-3 : goal.walk_rest-loop-depth-preserved-in-3
walk_rest-loop-depth-preserved-in-3 t c =
    nodes_on c.loop-depth.invariant c.loop-depth-test.true c.rows.ensures.0 c.rows.ensures.1 c.in-3.is c.walk_nodes-p.ensures

pub walk_rest-walk_spelling-p-requires : goal.walk_rest-walk_spelling-p-requires
walk_rest-walk_spelling-p-requires t c =
    word_asks c.loop-depth.invariant c.loop-depth-test.true c.rows.ensures.0 c.rows.ensures.1 (omega (arith, some_op c.loop-depth.invariant c.loop-depth-test.true c.rows.ensures.0 c.rows.ensures.1))

pub walk_rest-loop-depth-preserved-then-r-lt5 : goal.walk_rest-loop-depth-preserved-then-r-lt5
walk_rest-loop-depth-preserved-then-r-lt5 t c =
    word_on c.loop-depth.invariant c.loop-depth-test.true c.rows.ensures.0 c.rows.ensures.1 (omega (arith, some_op c.loop-depth.invariant c.loop-depth-test.true c.rows.ensures.0 c.rows.ensures.1)) c.walk_spelling-p.ensures

pub walk_rest-number-t-requires : goal.walk_rest-number-t-requires
walk_rest-number-t-requires t c =
    choice_left c.loop-depth.invariant c.loop-depth-test.true c.rows.ensures.0 c.rows.ensures.1 (omega arith)

pub walk_rest-number-u-requires : goal.walk_rest-number-u-requires
walk_rest-number-u-requires t c =
    choice_right c.loop-depth.invariant c.loop-depth-test.true c.rows.ensures.0 c.rows.ensures.1 (omega arith)

pub walk_rest-past-next-requires : goal.walk_rest-past-next-requires
walk_rest-past-next-requires t c =
    (omega (arith, choice_left c.loop-depth.invariant c.loop-depth-test.true c.rows.ensures.0 c.rows.ensures.1 (omega arith), c.args.self.now.left.short), omega (arith, choice_right c.loop-depth.invariant c.loop-depth-test.true c.rows.ensures.0 c.rows.ensures.1 (omega arith), c.args.self.now.right.short))

pub walk_rest-apart-requires : goal.walk_rest-apart-requires
walk_rest-apart-requires t c =
    rw c.past-next.ensures (choice_asks c.loop-depth.invariant c.loop-depth-test.true c.rows.ensures.0 c.rows.ensures.1 (omega arith) c.number-t.ensures.0 c.number-u.ensures.0 c.if-t-u.true c.jump_at-j.ensures c.jump_at-k.ensures)

pub walk_rest-returns-then-t-u : goal.walk_rest-returns-then-t-u
walk_rest-returns-then-t-u t c =
    choice_apart c.loop-depth.invariant c.loop-depth-test.true c.rows.ensures.0 c.rows.ensures.1 (omega arith) c.number-t.ensures.0 c.number-u.ensures.0 c.if-t-u.true c.jump_at-j.ensures c.jump_at-k.ensures (rw c.past-next.ensures at c.apart.ensures)

pub walk_rest-loop-depth-preserved : goal.walk_rest-loop-depth-preserved
walk_rest-loop-depth-preserved t c =
    rw c.past-next.ensures (choice_on c.loop-depth.invariant c.loop-depth-test.true c.rows.ensures.0 c.rows.ensures.1 (omega arith) c.number-t.ensures.0 c.number-u.ensures.0 c.if-t-u.false c.jump_at-j.ensures)
