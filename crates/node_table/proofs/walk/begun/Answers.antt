use Prim.Native.Nat.{ℕ}
use mathlib.Core.Path.{subst}
use Rattle.node_table.proofs.MovesLaws.{begun}
use Rattle.node_table.proofs.walk.begun.Goals as goal

pub returns : goal.returns
returns g c =
    let o = g.S.Sink in
    begun o.out g.met.S.Sink.sound c.args.forms.now c.args.nodes.now (o.asks c.args.sink) c.args.depth c.args.class c.args.at c.args.o (o.seen c.args.items.now) c.node_at-own.result.word c.node_at-own.result.child c.class_at-tags.result c.choice_of-tag.result.number c.choice_of-tag.result.word c.node-inside.result (o.seen c.node-inside.new.items) c.choice-to.result (o.seen c.choice-to.new.items) c.listed_at-row.result c.word_at.result c.node_at-own.ensures.0 c.node_at-own.ensures.1 c.node_at-own.ensures.2 c.class_at-tags.ensures c.choice_of-tag.ensures.0 c.choice_of-tag.ensures.1 c.node-inside.ensures
    (subst (λ (d : ℕ). o.out.Puts c.node-inside.result (o.out.choice c.class_at-tags.result.w c.choice_of-tag.result.number d) c.choice-to.result (o.seen c.node-inside.new.items) (o.seen c.choice-to.new.items)) c.under-under.ensures.0 c.choice-to.ensures)
    c.listed_at-row.ensures c.word_at.ensures.0 c.word_at.ensures.1
