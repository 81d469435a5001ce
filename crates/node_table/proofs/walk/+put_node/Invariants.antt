use Prim.Native.Nat.{◌-◌}
use Rattle.node_table.specs.Moves.{to_do}
use Rattle.node_table.proofs.MovesLaws.{Along}
use Rattle.node_table.proofs.walk.+put_node.Given as goal

abbrev pub decreases-put_node : goal.decreases-put_node
decreases-put_node g l = l.left

abbrev pub invariant-loop-s : goal.invariant-loop-s
invariant-loop-s g l =
    let o = g.S.Sink in
    Along o.out g.met.S.Sink.sound l.forms l.nodes (o.asks l.sink) (o.most l.sink) (l.left - 1) l.under l.initial.s (o.seen l.initial.items) l.s (o.seen l.items)

abbrev pub decreases-loop-s : goal.decreases-loop-s
decreases-loop-s g l = to_do l.s
