-- Infer and its trial (01, "Reading rules": Infer).
use Rattle.std.specs.Prelude.{ℕ, ◌+◌, Bool, true, false, not, leb, []}
use Rattle.words.specs.Limits.{most_trials}
use Rattle.words.specs.Test.{◌and◌, test}
use Rattle.words.specs.Kind.{Question, Extends}
use Rattle.keys.specs.Placed as node
use Rattle.keys.specs.Placed.{Placed, Opt, absent, present}
use Rattle.rules.specs.Refusal.{many_trials}
use Rattle.rules.specs.State.{Given, State, Result, read, Reader, refused, then, next, stands, first, end, make, tallied}
use Rattle.rules.specs.Names.{bound}

-- what became of a constraint: none stood there; it was kept; it was put back, since the `?` at that token followed
pub data Trial : Type 0 where
  none : Trial
  kept : Placed → Trial
  dropped : (question : ℕ) → Trial

abbrev pub constraint_of : Trial → Opt Placed
constraint_of none = absent
constraint_of (kept t) = present t
constraint_of (dropped i) = absent

-- Infer: a constraint is a trial only where a conditional may stand (02, W4)
abbrev pub with_trial : Bool → ℕ → ℕ
with_trial true n = n + 1
with_trial false n = n

-- Infer: where its constraint is read from
abbrev pub opened : Bool → State → State
opened on s = tallied s s.tally.entered (with_trial on s.tally.trials)

module _ (g : Given) (T : Reader) (on : Bool) where
  -- Infer: a constraint is tried with conditionals off; a `?` behind it, where a conditional may stand, undoes the trial, but for the count of type rules
  unfoldable pub trial : State → Result Trial
  trial s =
      test (not (stands g Extends s)) (λ _. read none s) λ _.
      test (on and leb most_trials s.tally.trials) (λ _. refused many_trials s) λ _.
      then (T false (opened on (next s))) λ t q.
      test (on and stands g Question q) (λ _. read (dropped q.at) (tallied s q.tally.entered s.tally.trials)) λ _.
      read (kept t) (tallied q q.tally.entered s.tally.trials)

  -- Infer: the name that is bound, and what became of its constraint
  unfoldable pub infer : State → Result Placed
  infer s =
      then (bound g (next s)) λ x q.
      then (trial q) λ c q.
      make g [] (node.infer (first g s) (end g q) x (constraint_of c)) q
