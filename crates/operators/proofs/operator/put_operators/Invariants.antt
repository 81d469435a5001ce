-- The prefixes that are still to be put stand about the tree that stands.
use mathlib.Core.Path.{◌≡◌}
use mathlib.Core.List.{List}
use Prim.Native.Nat.{ℕ, ◌-◌, ◌≤◌}
use lib.ListN.{length}
use Rattle.words.specs.Limits.{tallest}
use Rattle.keys.specs.Placed.{Placed}
use Rattle.rules.specs.State.{read}
use Rattle.marks.specs.State.{view, given_of}
use Rattle.marks.specs.Laid.{Was, Stands}
use Rattle.operators.proofs.OperatorLaws.{Left}
use Rattle.operators.proofs.operator.put_operators.Given as goal

abbrev pub invariant-loop-i : goal.invariant-loop-i
invariant-loop-i l =
    (length l.nodes ≡ length l.initial.nodes) × (l.from ≤ l.i) × (l.i ≤ l.to) × (l.r.m.at ≡ l.initial.r.m.at) × (l.r.m.half ≡ l.initial.r.m.half) × (l.r.m.named ≡ l.initial.r.m.named) × (l.r.m.noted ≡ l.initial.r.m.noted)
    × (l.initial.r.m.used ≤ l.r.m.used) × (l.r.m.used ≤ l.given.room) × (l.r.high ≤ tallest)
    × ((text : List ℕ) (B : Was) (t : Placed) (M O : List ℕ) → Stands 0 B t l.initial.r.high l.initial.r.m l.initial.nodes M O → l.name ≡ B.named
    → Left (given_of text l.words l.given) l.from (l.to - l.from) (l.i - l.from) (read t (view l.initial.r.m O)) B l.r.high l.r.m l.nodes M O)
