-- A predicate as a return type: where its subject ends, and what it may begin with.
use mathlib.Core.Path.{◌≡◌, refl, ap, ◌∙◌}
use mathlib.Core.Bool.{Bool, true, false}
use mathlib.Core.List.{List, []}
use Prim.Native.Nat.{ℕ, ◌+◌, ◌≤◌, ◌<◌}
use native.Mathlib.Omega.{arith}
use lib.ListN.{length}
use Rattle.words.specs.Test.{test}
use Rattle.words.specs.Kind.{Is, This}
use Rattle.words.specs.Class as class
use Rattle.keys.specs.Bits.{unit}
use Rattle.keys.specs.Placed as node
use Rattle.keys.specs.Placed.{absent, present}
use Rattle.rules.proofs.TokenLaws.{both_true}
use Rattle.rules.specs.State as rule
use Rattle.rules.specs.State.{State, Reader, then, next, kind, first, end, spelling, optional, make}
use Rattle.rules.specs.Function.{subject, predicates}
use Rattle.marks.specs.State.{view, given_of, next_mark}
use Rattle.marks.specs.List.{here}
use Rattle.primaries.specs.Onward.{subject_at, subject_mark, predicate}
use Rattle.marks.proofs.MarkLaws.{kind_inside}
use Rattle.parts.proofs.RingLaws.{predicate_is}
use Rattle.primaries.proofs.RingShapes.{is_this}
use Rattle.marks.specs.declared.state.Given.{Given}
use Rattle.marks.specs.declared.state.Mark.{Mark}

-- Behind the subject.
subject_view : (asserts : Bool) (m q : Mark) (O : List ℕ) → q.at ≡ m.at + unit asserts + 1 → q.half ≡ 0 → q.used ≡ m.used → q.noted ≡ m.noted
    → next (subject_at asserts (view m O)) ≡ view q O
subject_view true m q O a b c d = rw (a, b, c, d)
subject_view false m q O a b c d = rw (a, b, c, d, (let z : m.at + 0 + 1 ≡ m.at + 1 = omega arith in z))

-- A predicate from there on, as the code finds the place.
pub predicate_starts : (g : rule.Given) (T : Reader) (asserts : Bool) (m q : Mark) (O : List ℕ)
    → (q.at ≡ m.at + unit asserts + 1) × (q.half ≡ 0) × (q.used ≡ m.used) × (q.noted ≡ m.noted) × (m.named ≤ q.named) × (q.named ≤ m.named + 1)
    → predicate g T asserts (view m O)
    ≡ then (optional g Is (T true) (view q O)) (λ t r. make g [] (node.predicate (first g (view m O)) (end g r) asserts (subject g (subject_at asserts (view m O))) t) r)
predicate_starts g T asserts m q O h =
    predicate_is g T asserts (view m O)
    ∙ ap (λ (s : State). then (optional g Is (T true) s) (λ t r. make g [] (node.predicate (first g (view m O)) (end g r) asserts (subject g (subject_at asserts (view m O))) t) r))
    (subject_view asserts m q O h.0 h.1 h.2 h.3)

-- Whether the subject is this, as the code tests it.
pub subject_this : (text W : List ℕ) (given : Given) (asserts : Bool) (m : Mark) (O : List ℕ)
    → here W This (subject_mark asserts m) ≡ is_this (subject (given_of text W given) (subject_at asserts (view m O)))
subject_this text W given asserts m O = by asserts
  where
    at : (g : rule.Given) (s : State) (b : Bool) → b ≡ is_this (test b (λ _. absent) (λ _. present (spelling g s)))
    at g s true = refl
    at g s false = refl

    by : (a : Bool) → here W This (subject_mark a m) ≡ is_this (subject (given_of text W given) (subject_at a (view m O)))
    by true = at (given_of text W given) (next (view m O)) (here W This (next_mark m))
    by false = at (given_of text W given) (view m O) (here W This m)

-- A return type that begins as a predicate begins with a token.
pub predicates_inside : (g : rule.Given) (s : State) → predicates g s ≡ true → s.at < length g.words
predicates_inside g s h = kind_inside class.name g.words s.at s.half refl (both_true (class.name (kind g s)) _ h).0
