-- Infer step by step: what the rules come to by what their tests answer, and the shapes of their nodes.
use mathlib.Core.Path.{◌≡◌, refl, sym, ap, ◌∙◌}
use mathlib.Core.Bool.{Bool, true, false}
use mathlib.Core.List.{[]}
use Prim.Native.Nat.{ℕ}
use native.Mathlib.Omega.{arith}
use lib.Dec.{leb}
use Rattle.words.specs.Limits.{most_trials}
use Rattle.words.specs.Test.{◌and◌, test}
use Rattle.words.specs.Kind.{Question, Extends}
use Rattle.keys.specs.Placed as node
use Rattle.keys.specs.Placed.{Placed, Spelling, Opt, spell, join, maybe, absent, present}
use Rattle.keys.specs.Store.{done, ◌⊕◌}
use Rattle.rules.specs.State.{Given, State, Result, read, refuse, Reader, then, next, stands, first, end, make, tallied}
use Rattle.rules.specs.Refusal.{many_trials}
use Rattle.rules.specs.Names.{bound}
use Rattle.rules.specs.Infer.{constraint_of, kept, dropped, opened, trial, infer}
use Rattle.marks.specs.Laid.{name_run, run_in, IsNode, Shape}
use Rattle.marks.proofs.Answers.{then_read_lem, then_refused}
use Rattle.marks.proofs.ShapeLaws.{packed_node}

-- ---- Infer

module _ (g : Given) (T : Reader) (on : Bool) (s : State) where
  -- The node of an infer of x, up to a state.
  abbrev node_at : Spelling → Opt Placed → State → Result Placed
  node_at x c p = make g [] (node.infer (first g s) (end g p) x c) p

  -- Behind its name x, which ended at q: the constraint that was tried from r on, put back or kept.
  abbrev pub tried : Spelling → State → State → Result Placed
  tried x q r =
      then (T false r) λ t p.
      test (on and stands g Question p) (λ _. node_at x absent (tallied q p.tally.entered q.tally.trials)) λ _.
      node_at x (present t) (tallied p p.tally.entered q.tally.trials)

  infer_name : infer g T on s ≡ then (bound g (next s)) (λ x q. then (trial g T on q) λ c p. node_at x (constraint_of c) p)
  unfolding infer
  infer_name = refl

  pub infer_refused : {n i h : ℕ} → bound g (next s) ≡ refuse n i h → infer g T on s ≡ refuse n i h
  infer_refused e = infer_name ∙ then_refused _ e

  module _ {x : Spelling} {q : State} (named : bound g (next s) ≡ read x q) where
    pub infer_none : stands g Extends q ≡ false → infer g T on s ≡ node_at x absent q
    unfolding trial
    infer_none e = infer_name ∙ then_read_lem _ named ∙ rw e

    module _ (constrained : stands g Extends q ≡ true) where
      -- It would be one trial too many.
      pub infer_many : (on and leb most_trials q.tally.trials) ≡ true → infer g T on s ≡ refuse many_trials q.at q.half
      unfolding trial
      infer_many e = infer_name ∙ then_read_lem _ named ∙ rw (constrained, e)

      module _ (few : (on and leb most_trials q.tally.trials) ≡ false) {r : State} (from : r ≡ opened on (next q)) where
        pub infer_tried : infer g T on s ≡ tried x q r
        unfolding trial
        infer_tried =
            let behind : infer g T on s ≡ tried x q (opened on (next q)) = infer_name ∙ then_read_lem _ named ∙ rw (constrained, few) (go (T false (opened on (next q)))) in
            behind ∙ ap (λ (p : State). tried x q p) (sym from)
          where
            go : (r : Result Placed)
                → then (then r λ t p.
                test (on and stands g Question p) (λ _. read (dropped p.at) (tallied q p.tally.entered q.tally.trials)) (λ _. read (kept t) (tallied p p.tally.entered q.tally.trials)))
                (λ c p. node_at x (constraint_of c) p)
                ≡ then r λ t p.
                test (on and stands g Question p) (λ _. node_at x absent (tallied q p.tally.entered q.tally.trials)) (λ _. node_at x (present t) (tallied p p.tally.entered q.tally.trials))
            go (refuse n i h) = refl
            go (read t p) = by (on and stands g Question p)
              where
                by : (d : Bool)
                    → then (test d (λ _. read (dropped p.at) (tallied q p.tally.entered q.tally.trials)) (λ _. read (kept t) (tallied p p.tally.entered q.tally.trials)))
                    (λ c p. node_at x (constraint_of c) p)
                    ≡ test d (λ _. node_at x absent (tallied q p.tally.entered q.tally.trials)) (λ _. node_at x (present t) (tallied p p.tally.entered q.tally.trials))
                by true = refl
                by false = refl

        module _ {t : Placed} {p : State} (read_is : T false r ≡ read t p) where
          pub infer_dropped : (on and stands g Question p) ≡ true → infer g T on s ≡ node_at x absent (tallied q p.tally.entered q.tally.trials)
          infer_dropped e = infer_tried ∙ then_read_lem _ read_is ∙ rw e

          pub infer_kept : (on and stands g Question p) ≡ false → infer g T on s ≡ node_at x (present t) (tallied p p.tally.entered q.tally.trials)
          infer_kept e = infer_tried ∙ then_read_lem _ read_is ∙ rw e

-- ---- Shapes

-- An infer with no constraint, and with one.
pub shape_infer : (s : Spelling) → Shape 0 10 (join (spell s) (maybe absent)) (name_run s) 10
shape_infer s = record { same = refl; choices_are = refl; allowed_is = tt }

pub shape_constrained : {u : Placed} (s : Spelling) → IsNode 0 u → Shape 0 10 (join (spell s) (maybe (present u))) (name_run s ⊕ run_in 0 u) 74
shape_constrained s n = record { same = refl; choices_are = omega (arith, packed_node done n); allowed_is = tt }
