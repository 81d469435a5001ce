use Prim.Native.Nat.{ℕ, ◌-◌, ◌≤◌}
use mathlib.Core.Path.{refl, sym, ap, subst, ◌∙◌}
use native.Mathlib.Omega.{arith}
use Rattle.keys.specs.Limits.{widest}
use Rattle.node_table.specs.Forms.{Entry, entry_at, IsRow, grammar_of}
use Rattle.node_table.specs.Moves.{Noded}
use Rattle.node_table.proofs.MovesLaws.{Along, noded_as, along_none, along_own, along_child, along_past, walked, walked_out, one_less}
use Rattle.node_table.proofs.walk.+put_node.Goals as goal
use Rattle.node_table.proofs.walk.+put_node.Goals.{then-knows, else-knows}

pub loop-s-init : goal.loop-s-init
loop-s-init g t c =
    let o = g.S.Sink in
    along_none o.out g.met.S.Sink.sound c.args.forms.now c.args.nodes.now (o.asks c.args.sink) (o.most c.args.sink) (c.args.left - 1) c.under-under.result c.begun-s.result (o.seen c.begun-s.new.items) (c.begun-s.ensures.ready (o.most c.args.sink) c.requires.1)

pub returns-then-r-eq-END : goal.returns-then-r-eq-END
returns-then-r-eq-END g t c =
    let o = g.S.Sink in
    walked o.out g.met.S.Sink.sound c.args.forms.now c.args.nodes.now (o.asks c.args.sink) (o.most c.args.sink) (c.args.left - 1) c.args.depth c.begun-s.result (o.seen c.begun-s.new.items) c.args.class c.args.at c.args.o (o.seen c.args.items.now) c.begun-s.ensures c.args.left (one_less c.args.left c.if-left-eq0.false)
    (subst (λ (d : ℕ). Along o.out g.met.S.Sink.sound c.args.forms.now c.args.nodes.now (o.asks c.args.sink) (o.most c.args.sink) (c.args.left - 1) d c.begun-s.result (o.seen c.begun-s.new.items) c.loop-s.s (o.seen c.loop-s.items)) c.under-under.ensures.0 c.loop-s.invariant)
    c.row_at-r.result c.row_at-r.ensures c.loop-s-test.true c.if-r-eq-END.true

pub after_child-requires : goal.after_child-requires
after_child-requires g t c =
    let o = g.S.Sink in
    (let put : Noded o.out (grammar_of c.args.forms.now) c.args.nodes.now (o.asks c.args.sink) (c.args.left - 1) c.under-under.result (o.most c.args.sink) c.row_at-r.result.a c.loop-s.s.child c.loop-s.s.mark.name c.loop-s.s.mark.to (o.seen c.loop-s.items) c.if-knows.q.name c.if-knows.q.to (o.seen c.if-knows.items) =
    elim c.if-knows.branch [
      | then-knows w ↦ noded_as c.requires.6 refl w.q-is (ap o.seen w.items-is) (w.at_once-q.ensures (sym c.knows.ensures ∙ w.if-knows.true) c.args.nodes.now (c.args.left - 1) c.loop-s.s.child (sym c.node_at-child.ensures.0))
      | else-knows w ↦ noded_as {T = c.args.forms.now} refl refl w.q-is (ap o.seen w.items-is) w.put_node-q.ensures
    ] in
    (omega (arith, put.short, put.same), put.stays, put.in_names, subst (λ (x : Entry). x.w ≤ widest) (sym c.row_at-r.ensures.is) (c.requires.5.at c.loop-s.s.form), c.loop-s.invariant.ready.in_nodes, c.loop-s.invariant.ready.in_table, (c.into_child.ensures.0 c.if-into_child.true).1, c.loop-s.invariant.ready.few, c.loop-s.invariant.ready.steps))

pub loop-s-preserved-then-into_child : goal.loop-s-preserved-then-into_child
loop-s-preserved-then-into_child g t c =
    let o = g.S.Sink in
    (let put : Noded o.out (grammar_of c.args.forms.now) c.args.nodes.now (o.asks c.args.sink) (c.args.left - 1) c.under-under.result (o.most c.args.sink) c.row_at-r.result.a c.loop-s.s.child c.loop-s.s.mark.name c.loop-s.s.mark.to (o.seen c.loop-s.items) c.if-knows.q.name c.if-knows.q.to (o.seen c.if-knows.items) =
    elim c.if-knows.branch [
      | then-knows w ↦ noded_as c.requires.6 refl w.q-is (ap o.seen w.items-is) (w.at_once-q.ensures (sym c.knows.ensures ∙ w.if-knows.true) c.args.nodes.now (c.args.left - 1) c.loop-s.s.child (sym c.node_at-child.ensures.0))
      | else-knows w ↦ noded_as {T = c.args.forms.now} refl refl w.q-is (ap o.seen w.items-is) w.put_node-q.ensures
    ] in
    along_past o.out g.met.S.Sink.sound c.args.forms.now c.args.nodes.now (o.asks c.args.sink) (o.most c.args.sink) (c.args.left - 1) c.under-under.result c.begun-s.result (o.seen c.begun-s.new.items) c.after_child.result c.past_last-s.result c.row_at-r.result (omega (arith, c.after_child.ensures.steps, c.loop-s-test.true)) c.past_last-s.ensures.0 c.past_last-s.ensures.1 (c.into_child.ensures.0 c.if-into_child.true).0 (subst (λ (x : ℕ). IsRow (entry_at c.args.forms.now x) c.row_at-r.result) (sym c.after_child.ensures.form) c.row_at-r.ensures)
    (along_child o.out g.met.S.Sink.sound c.args.forms.now c.args.nodes.now (o.asks c.args.sink) (o.most c.args.sink) (c.args.left - 1) c.under-under.result c.begun-s.result (o.seen c.begun-s.new.items) c.loop-s.invariant c.row_at-r.result c.row_at-r.ensures c.loop-s-test.true (c.into_child.ensures.0 c.if-into_child.true).0 (c.into_child.ensures.0 c.if-into_child.true).1 put c.after_child.ensures))

pub loop-s-preserved : goal.loop-s-preserved
loop-s-preserved g t c =
    let o = g.S.Sink in
    along_own o.out g.met.S.Sink.sound c.args.forms.now c.args.nodes.now (o.asks c.args.sink) (o.most c.args.sink) (c.args.left - 1) c.under-under.result c.begun-s.result (o.seen c.begun-s.new.items) c.loop-s.invariant c.own-s.ensures

pub returns : goal.returns
returns g t c =
    let o = g.S.Sink in
    walked_out o.out g.met.S.Sink.sound c.args.forms.now c.args.nodes.now (o.asks c.args.sink) (o.most c.args.sink) (c.args.left - 1) c.args.depth c.begun-s.result (o.seen c.begun-s.new.items) c.args.class c.args.at c.args.o (o.seen c.args.items.now) c.begun-s.ensures c.args.left (one_less c.args.left c.if-left-eq0.false)
    (subst (λ (d : ℕ). Along o.out g.met.S.Sink.sound c.args.forms.now c.args.nodes.now (o.asks c.args.sink) (o.most c.args.sink) (c.args.left - 1) d c.begun-s.result (o.seen c.begun-s.new.items) c.loop-s.s (o.seen c.loop-s.items)) c.under-under.ensures.0 c.loop-s.invariant)
    (omega (arith, c.loop-s-test.false))
