use Prim.Native.Nat.{◌+◌, ◌*◌, ◌-◌}
use lib.ListN.{length}
use Rattle.keys.specs.Bits.{bits_of_bytes}
use Rattle.node_table.specs.Forms.{form_of, grammar_of}
use Rattle.key_parts.specs.Runs.{node_run}
use Rattle.key_parts.specs.Step.{Went}
use Rattle.key_in.specs.Back.{Same}
use Rattle.key_in.proofs.Nodes.{Kids}
use Rattle.key_in.proofs.back.Outputs.+take.Given as goal

abbrev pub decreases-node : goal.decreases-node
decreases-node l = l.left * 2

abbrev pub decreases-row : goal.decreases-row
decreases-row l = l.left * 2 + 1

abbrev pub invariant-node-loop-done : goal.invariant-node-loop-done
invariant-node-loop-done l =
    Same l.initial.self l.self
    × Went (bits_of_bytes l.key) (length l.initial.self.names.now) (length l.initial.self.text.now) (node_run (length l.initial.self.text.now) (grammar_of l.forms) (l.left - 1)) (form_of l.forms l.steps l.initial.s.n l.initial.s.form) (form_of l.forms (l.steps - l.done) l.s.n l.s.form) l.initial.s l.initial.self.nodes.now l.initial.self.names.now l.initial.self.text.now l.s l.self.nodes.now l.self.names.now l.self.text.now

abbrev pub invariant-row-loop : goal.invariant-row-loop
invariant-row-loop l =
    Same l.initial.self l.self
    × Kids (bits_of_bytes l.key) (length l.initial.self.names.now) (length l.initial.self.text.now) (grammar_of l.forms) l.left l.r l.initial.q l.initial.self.nodes.now l.initial.self.names.now l.initial.self.text.now l.counter l.q l.self.nodes.now l.self.names.now l.self.text.now
