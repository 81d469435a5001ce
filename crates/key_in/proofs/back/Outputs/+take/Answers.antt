use mathlib.Core.Path.{◌≡◌, refl, sym, subst, ◌∙◌}
use Prim.Native.Nat.{◌+◌, ◌-◌, ◌≤◌}
use native.Mathlib.Omega.{arith}
use lib.ListN.{length}
use Rattle.keys.specs.Limits.{widest}
use Rattle.keys.specs.Bits.{bits_of_bytes}
use Rattle.keys.proofs.BitsLaws.{length_bytes}
use Rattle.node_table.specs.Forms.{Entry, grammar_of}
use Rattle.std.proofs.lemmas.Result.{err_from_is_err_and}
use Rattle.key_parts.specs.Runs.{node_run}
use Rattle.key_parts.proofs.NeverLaws.{before_one}
use Rattle.key_parts.proofs.Walk.{row_sized, went_none, steady_as}
use Rattle.key_in.proofs.Nodes.{same_then, node_bad, node_tall, node_full, start_steady, start_housed, start_spans, node_stop, node_done, form_is, at_op, plain_on, plain_off, nodes_on, nodes_off, never_off, node_as, after_as, kids_none, kids_steady, kids_housed, kids_names, kids_text, kids_bad, kids_cut, kids_more, kids_all}
use Rattle.key_parts.proofs.Steps.{inside_as}
use Rattle.key_in.proofs.back.Outputs.+take.Goals as goal
use Rattle.key_in.proofs.back.Outputs.+take.Goals.{node-then-r-eq-NODES+in_ok-s, node-else-r-eq-NODES+in_ok-s-2}

pub node-take_tag-requires : goal.node-take_tag-requires
node-take_tag-requires t c =
    (c.requires.0, omega (arith, c.requires.1.inside.in_key, length_bytes c.args.key.now), subst (λ (x : Entry). x.w ≤ widest) (sym c.class_at-tags.ensures.is) (c.requires.1.slim.narrow.tag c.args.class), c.class_at-tags.ensures.from)

pub node-returns-in_err-tag-clause-takes : goal.node-returns-in_err-tag-clause-takes
node-returns-in_err-tag-clause-takes t c =
    let p = err_from_is_err_and c.from_residual.result c.from_residual.ensures.1 in
    rw (p.1, p.2) (node_bad c.requires.1 c.word_at-steps.ensures.0 c.class_at-tags.ensures c.args.left c.args.self.now.nodes.now c.args.self.now.names.now c.args.self.now.text.now c.in_err-tag.ensures)

pub node-returns-then-left-eq0-clause-takes : goal.node-returns-then-left-eq0-clause-takes
node-returns-then-left-eq0-clause-takes t c =
    node_tall c.requires.1 c.word_at-steps.ensures.0 c.class_at-tags.ensures c.in_ok-tag.ensures c.args.left c.args.self.now.nodes.now c.args.self.now.names.now c.args.self.now.text.now c.if-left-eq0.true

pub node-returns-then-p-eq0-clause-takes : goal.node-returns-then-p-eq0-clause-takes
node-returns-then-p-eq0-clause-takes t c =
    node_full c.requires.1 c.word_at-steps.ensures.0 c.class_at-tags.ensures c.in_ok-tag.ensures (before_one c.args.left c.if-left-eq0.false) c.args.self.now.nodes.now c.args.self.now.names.now c.args.self.now.text.now c.if-p-eq0.true

pub node-loop-done-init : goal.node-loop-done-init
node-loop-done-init t c =
    let e : c.word_at-steps.result ≡ c.word_at-steps.result - 0 = omega arith in (
      record { nodes = refl; names = refl; text = refl },
      rw (← e)
          (went_none (bits_of_bytes c.args.key.now) (length c.args.self.now.names.now) (length c.args.self.now.text.now) (node_run (length c.args.self.now.text.now) (grammar_of c.args.forms.now) (c.args.left - 1)) _ _ c.args.self.now.nodes.now c.args.self.now.names.now c.args.self.now.text.now (start_steady c.requires.1 c.word_at-steps.ensures.0 c.class_at-tags.ensures c.in_ok-tag.ensures (before_one c.args.left c.if-left-eq0.false) (before_one c.args.p.nodes c.if-p-eq0.false)) (start_spans c.requires.1 c.word_at-steps.ensures.0 c.class_at-tags.ensures c.in_ok-tag.ensures (before_one c.args.left c.if-left-eq0.false) (before_one c.args.p.nodes c.if-p-eq0.false))),
    )

pub node-append_node-requires : goal.node-append_node-requires
node-append_node-requires t c =
    let g = (c.loop-done.invariant.1.housed (start_housed c.requires.1 c.word_at-steps.ensures.0 c.class_at-tags.ensures c.in_ok-tag.ensures (before_one c.args.left c.if-left-eq0.false) (before_one c.args.p.nodes c.if-p-eq0.false))) in
    (omega (arith, g.nodes_fit), omega arith, omega arith, omega (arith, g.in_nodes, c.loop-done.invariant.1.nodes_same, c.well_formed, c.ranges), omega (arith, c.requires.1.inside.few_names, c.requires.1.inside.few_chars, c.requires.1.inside.in_key, c.requires.0, length_bytes c.args.key.now))

pub node-returns-then-r-eq-END-clause-takes : goal.node-returns-then-r-eq-END-clause-takes
node-returns-then-r-eq-END-clause-takes t c =
    node_done c.requires.1 c.word_at-steps.ensures.0 c.class_at-tags.ensures c.in_ok-tag.ensures (before_one c.args.left c.if-left-eq0.false) (before_one c.args.p.nodes c.if-p-eq0.false) c.loop-done.invariant.1 (form_is c.args.forms.now (c.word_at-steps.result - c.loop-done.done) c.loop-done.invariant.1 (c.word_at-steps.result - (c.loop-done.done + 1)) (omega arith) c.row_at-r.result c.row_at-r.ensures 1 c.if-r-eq-END.true) _ c.append_node.auto.nodes c.append_node.ensures

pub node-returns-in_err-s-clause-takes : goal.node-returns-in_err-s-clause-takes
node-returns-in_err-s-clause-takes t c =
    let p = err_from_is_err_and c.from_residual-in_err-s.result c.from_residual-in_err-s.ensures.1 in
    rw (p.1, p.2) (node_stop c.requires.1 c.word_at-steps.ensures.0 c.class_at-tags.ensures c.in_ok-tag.ensures (before_one c.args.left c.if-left-eq0.false) (before_one c.args.p.nodes c.if-p-eq0.false) c.loop-done.invariant.1 (nodes_off c.args.forms.now (grammar_of c.args.forms.now) (c.args.left - 1) (c.word_at-steps.result - c.loop-done.done) c.loop-done.invariant.1 (c.word_at-steps.result - (c.loop-done.done + 1)) (omega arith) c.row_at-r.result c.row_at-r.ensures c.if-r-eq-NODES.true _ _ c.loop-done.invariant.1.names_same c.loop-done.invariant.1.text_same c.in_err-s.ensures.takes) _ _ _ c.in_err-s.ensures.takes.nodes_same c.in_err-s.ensures.takes.names_same c.in_err-s.ensures.takes.text_same)

pub node-take_plain-requires : goal.node-take_plain-requires
node-take_plain-requires t c =
    (c.requires.0, steady_as c.loop-done.invariant.1.steady c.loop-done.invariant.1.names_same c.loop-done.invariant.1.text_same, row_sized c.args.forms.now c.loop-done.s.form c.row_at-r.ensures c.requires.1.slim.narrow, c.if-r-eq-END.false, c.if-r-eq-NODES.false, (at_op c.args.forms.now (c.word_at-steps.result - c.loop-done.done) c.loop-done.invariant.1 (c.word_at-steps.result - (c.loop-done.done + 1)) (omega arith) c.row_at-r.result c.row_at-r.ensures c.row_at-r.result.op refl).spans)

pub node-returns-in_err-s-2-clause-takes : goal.node-returns-in_err-s-2-clause-takes
node-returns-in_err-s-2-clause-takes t c =
    let p = err_from_is_err_and c.from_residual-in_err-s-2.result c.from_residual-in_err-s-2.ensures.1 in
    rw (p.1, p.2) (node_stop c.requires.1 c.word_at-steps.ensures.0 c.class_at-tags.ensures c.in_ok-tag.ensures (before_one c.args.left c.if-left-eq0.false) (before_one c.args.p.nodes c.if-p-eq0.false) c.loop-done.invariant.1 (plain_off c.args.forms.now (c.word_at-steps.result - c.loop-done.done) c.loop-done.invariant.1 (c.word_at-steps.result - (c.loop-done.done + 1)) (omega arith) c.row_at-r.result c.row_at-r.ensures _ _ c.loop-done.invariant.1.names_same c.loop-done.invariant.1.text_same c.in_err-s-2.ensures) _ _ _ refl c.take_plain.auto.names c.take_plain.auto.text)

pub node-loop-done-preserved : goal.node-loop-done-preserved
node-loop-done-preserved t c =
    elim c.if-r-eq-NODES.branch [
      | node-then-r-eq-NODES+in_ok-s w ↦ rw (w.s-is, w.self-is) (same_then c.loop-done.invariant.0 w.in_ok-s.ensures.same, nodes_on c.args.forms.now (grammar_of c.args.forms.now) (c.args.left - 1) (c.word_at-steps.result - c.loop-done.done) c.loop-done.invariant.1 (c.word_at-steps.result - (c.loop-done.done + 1)) (omega arith) c.row_at-r.result c.row_at-r.ensures w.if-r-eq-NODES.true _ _ c.loop-done.invariant.1.names_same c.loop-done.invariant.1.text_same w.in_ok-s.ensures.takes)
      | node-else-r-eq-NODES+in_ok-s-2 w ↦ rw (w.s-is, w.self-is) (record { nodes = c.loop-done.invariant.0.nodes; names = c.loop-done.invariant.0.names; text = c.loop-done.invariant.0.text }, plain_on c.args.forms.now (c.word_at-steps.result - c.loop-done.done) c.loop-done.invariant.1 (c.word_at-steps.result - (c.loop-done.done + 1)) (omega arith) c.row_at-r.result c.row_at-r.ensures _ _ c.loop-done.invariant.1.names_same c.loop-done.invariant.1.text_same w.in_ok-s-2.ensures)
    ]

pub node-returns-clause-takes : goal.node-returns-clause-takes
node-returns-clause-takes t c =
    node_stop c.requires.1 c.word_at-steps.ensures.0 c.class_at-tags.ensures c.in_ok-tag.ensures (before_one c.args.left c.if-left-eq0.false) (before_one c.args.p.nodes c.if-p-eq0.false) c.loop-done.invariant.1 (never_off c.args.forms.now _ (bits_of_bytes c.args.key.now) (length c.args.self.now.names.now) (length c.args.self.now.text.now) (c.word_at-steps.result - c.loop-done.done) c.loop-done.s (omega arith) c.loop-done.invariant.1.steady.inside.in_key) _ _ _ refl refl refl

pub row-loop-init : goal.row-loop-init
row-loop-init t c =
    (record { nodes = refl; names = refl; text = refl }, kids_none (bits_of_bytes c.args.key.now) (length c.args.self.now.names.now) (length c.args.self.now.text.now) (grammar_of c.args.forms.now) c.args.left c.args.r c.args.s c.args.self.now.nodes.now c.args.self.now.names.now c.args.self.now.text.now c.requires.1)

pub row-node-requires : goal.row-node-requires
row-node-requires t c =
    let d = c.loop.invariant.1 in
    (omega arith, (c.requires.0, record { inside = inside_as (kids_steady d).inside (kids_names d) (kids_text d); nodes_fit = omega (arith, (kids_housed d c.requires.2).nodes_fit); in_table = c.requires.3.a; slim = c.requires.4 }))

pub row-returns-in_err-at-clause-takes : goal.row-returns-in_err-at-clause-takes
row-returns-in_err-at-clause-takes t c =
    let d = c.loop.invariant.1 in
    let p = err_from_is_err_and c.from_residual.result c.from_residual.ensures.1 in
    rw (p.1, p.2) (kids_bad d c.loop-test.true (node_as (kids_names d) (kids_text d) c.in_err-at.ensures.takes))

pub row-link_child-q-requires : goal.row-link_child-q-requires
row-link_child-q-requires t c =
    let g = c.in_ok-at.ensures.takes.grown in
    let o = kids_housed c.loop.invariant.1 c.requires.2 in
    (o.above, omega (arith, g.stored.used), omega (arith, g.total, o.nodes_fit, c.in_ok-at.ensures.takes.nodes_same), omega (arith, o.in_nodes, c.in_ok-at.ensures.takes.nodes_same))

pub row-returns-in_err-q-clause-takes : goal.row-returns-in_err-q-clause-takes
row-returns-in_err-q-clause-takes t c =
    let d = c.loop.invariant.1 in
    let p = err_from_is_err_and c.from_residual-in_err-q.result c.from_residual-in_err-q.ensures.1 in
    rw (p.1, p.2) (kids_cut d c.loop-test.true (node_as (kids_names d) (kids_text d) c.in_ok-at.ensures.takes) c.link_child-q.ensures (after_as (c.in_ok-at.ensures.takes.names_same ∙ kids_names d) (c.in_ok-at.ensures.takes.text_same ∙ kids_text d) c.in_err-q.ensures))

pub row-loop-preserved : goal.row-loop-preserved
row-loop-preserved t c =
    let d = c.loop.invariant.1 in
    let same = same_then c.loop.invariant.0 c.in_ok-at.ensures.same in
    (record { nodes = same.nodes; names = same.names; text = same.text }, kids_more d c.loop-test.true (node_as (kids_names d) (kids_text d) c.in_ok-at.ensures.takes) c.link_child-q.ensures (after_as (c.in_ok-at.ensures.takes.names_same ∙ kids_names d) (c.in_ok-at.ensures.takes.text_same ∙ kids_text d) c.in_ok-q.ensures))

pub row-returns-clause-takes : goal.row-returns-clause-takes
row-returns-clause-takes t c =
    kids_all c.loop.invariant.1 (omega arith) c.requires.3.b
