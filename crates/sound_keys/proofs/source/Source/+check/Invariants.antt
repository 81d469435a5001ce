use Prim.Native.Nat.{◌+◌, ◌*◌}
use Rattle.sound_keys.specs.Sound.{bits, nodes_of}
use Rattle.sound_keys.proofs.Nodes.{Turn, Going}
use Rattle.sound_keys.proofs.source.Source.+check.Given as goal

abbrev pub decreases-check_node : goal.decreases-check_node
decreases-check_node l = l.left * 3

abbrev pub decreases-check_nodes : goal.decreases-check_nodes
decreases-check_nodes l = l.left * 3 + 1

abbrev pub decreases-check_rest : goal.decreases-check_rest
decreases-check_rest l = l.left * 3 + 2

abbrev pub invariant-check_nodes-loop : goal.invariant-check_nodes-loop
invariant-check_nodes-loop l = Turn (bits l.self) (nodes_of l.self l.left) l.r.a l.r.w l.end l.initial.at l.counter l.at

abbrev pub invariant-check_rest-loop-depth : goal.invariant-check_rest-loop-depth
invariant-check_rest-loop-depth l = Going l.self l.left l.steps l.initial.s l.depth l.s
