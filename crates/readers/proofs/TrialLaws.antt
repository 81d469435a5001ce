-- An infer as its reader takes it: the name that is bound, and its constraint that was tried.
use mathlib.Core.Path.{◌≡◌, sym, ap, ap₂, ◌∙◌}
use mathlib.Core.Bool.{Bool, true, false}
use mathlib.Core.List.{List, [], ◌∷◌}
use Prim.Native.Nat.{ℕ, ◌*◌, ◌≤◌}
use native.Mathlib.Omega.{arith}
use lib.Dec.{leb}
use lib.ListN.{length}
use Rattle.words.specs.Limits.{most_trials}
use Rattle.words.specs.Test.{◌and◌}
use Rattle.words.specs.Kind.{Question, Extends}
use Rattle.keys.specs.Placed as node
use Rattle.keys.specs.Placed.{Spelling, Opt, absent, present, join, spell, maybe}
use Rattle.rules.specs.State as rule
use Rattle.rules.specs.State.{State, Result, Reader, next, first, end, make, tallied}
use Rattle.rules.specs.Refusal.{many_trials}
use Rattle.rules.specs.Names.{bound}
use Rattle.rules.specs.Infer.{with_trial, opened, infer}
use Rattle.rules.specs.Notes.{Note}
use Rattle.marks.specs.State.{notes_of, tally_of, view, given_of, next_mark}
use Rattle.marks.specs.Tally.{Tallied}
use Rattle.marks.specs.Laid.{name_run, was, Laid}
use Rattle.marks.specs.Says.{Got, Says, GotBound}
use Rattle.marks.specs.Notes.{refused_at}
use Rattle.marks.specs.Node.{Makes}
use Rattle.operators.specs.Infer.{Infers}
use Rattle.marks.specs.List.{here}
use Rattle.marks.proofs.Answers.{says_same, says_as, says_refused, says_stops}
use Rattle.marks.proofs.BoundLaws.{laid_bound}
use Rattle.marks.proofs.LaidLaws.{laid_on, laid_back}
use Rattle.marks.proofs.TallyLaws.{view_tallied, laid_tallied}
use Rattle.marks.proofs.LeafLaws.{no_kids}
use Rattle.operators.proofs.InferLaws.{infer_none, infer_many, infer_tried, infer_dropped, infer_kept, shape_infer}
use Rattle.marks.specs.declared.state.Given.{Given}
use Rattle.marks.specs.declared.state.Mark.{Mark}
use Rattle.marks.specs.declared.state.Begin.{Begin}
use Rattle.marks.specs.declared.state.Kids.{Kids}
use Rattle.marks.specs.Told.{Answer}
use Rattle.readers.proofs.ChildLaws.{built_bound}

-- The name was read from m to p, with its diagnostic.
module _ (text W : List ℕ) (given : Given) (T : Reader) (on : Bool) {m p : Mark} {M O M' O' : List ℕ}
    (named : GotBound (bound (given_of text W given) (view (next_mark m) O)) m p M O M' O') (N : List ℕ) where
  -- What the reading is given.
  abbrev g : rule.Given
  g = given_of text W given

  -- The name.
  abbrev x : Spelling
  x = named.name

  -- It stands alone since m.
  name_laid : Laid (was m N M O) (name_run x) p.used p.named p.noted N M' O'
  name_laid = laid_bound N named

  -- The node of an infer from a byte on, up to a state.
  abbrev node_at : ℕ → Opt node.Placed → State → Result node.Placed
  node_at f c q = make g [] (node.infer f (end g q) x c) q

  module _ {b : Begin} (first_is : b.first ≡ first g (view m O)) (name_is : b.name ≡ m.named) where
    -- No constraint follows.
    pub bare_put : {k : Kids} {a : Answer} {N' : List ℕ} → here W Extends p ≡ false → k ≡ no_kids → Makes W given b 10 k p N a N'
        → Says 0 (was m N M O) (infer g T on (view m O)) a N' M' O'
    bare_put {k} {a} {N'} h k-is makes =
        says_same (infer_none g T on (view m O) named.is h ∙ ap (λ (f : ℕ). node_at f absent (view p O')) (sym first_is))
        (makes text 0 (was m N M O) (name_run x) 10 (join (spell x) (maybe absent)) M' O'
        (built_bound k-is named) name_is (shape_infer x))

    module _ (h : here W Extends p ≡ true) {many : ℕ} (many_is : many ≡ (tally_of O').trials) where
      -- How many trials are open, as the rule asks it.
      asked : {b : Bool} → (on and leb most_trials many) ≡ b → (on and leb most_trials (tally_of O').trials) ≡ b
      asked e = ap (λ (n : ℕ). on and leb most_trials n) (sym many_is) ∙ e

      -- It would be one trial too many.
      pub trial_many : {a : Answer} → (on and leb most_trials many) ≡ true → a ≡ refused_at many_trials p → Says 0 (was m N M O) (infer g T on (view m O)) a N M' O'
      trial_many e a-is = says_as a-is (says_refused 27 (infer_many g T on (view m O) named.is h (asked e)))

      module _ (few : (on and leb most_trials many) ≡ false) {tries : ℕ} (tries-is : tries ≡ with_trial on many) {O₁ : List ℕ} (opens : Tallied O' (tally_of O').entered tries O₁)
          {t : Answer} {N' M'' O'' : List ℕ} (says : Says 0 (was (next_mark p) N M' O₁) (T false (view (next_mark p) O₁)) t N' M'' O'') where
        -- Where the constraint is read from.
        from : view (next_mark p) O₁ ≡ opened on (next (view p O'))
        from = view_tallied opens (next_mark p) ∙ ap (λ (n : ℕ). tallied (next (view p O')) (tally_of O').entered n) (tries-is ∙ ap (λ (n : ℕ). with_trial on n) many_is)

        -- The constraint is refused.
        pub trial_refused : (t.why ≡ 0 → ⊥) → Says 0 (was m N M O) (infer g T on (view m O)) t N' M'' O''
        trial_refused z = says_stops _ says z (infer_tried g T on (view m O) named.is h (asked few) from)

        -- The constraint is read, and put back or kept.
        module _ (z : t.why ≡ 0) {O₃ : List ℕ} (closes : Tallied O'' (tally_of O'').entered many O₃) where
          abbrev got : Got 0 (was (next_mark p) N M' O₁) (T false (view (next_mark p) O₁)) t.high t.m N' M'' O''
          got = says.done z

          -- The diagnostics before the trial stand.
          notes_back : notes_of O'' p.noted ≡ notes_of O' p.noted
          notes_back = got.stands.laid.notes_are ∙ opens.notes_are p.noted

          -- Before the trial, with the count behind it, with other diagnostics and trials.
          abbrev before : List Note → ℕ → State
          before l n = record { at = p.at; half = p.half; nodes = p.used; notes = l; tally = record { entered = (tally_of O'').entered; trials = n } }

          -- Put back, all but the count is as before the trial.
          put_back : view p O₃ ≡ tallied (view p O') (tally_of O'').entered (tally_of O').trials
          put_back = view_tallied closes p ∙ ap₂ (λ (l : List Note) (n : ℕ). before l n) notes_back many_is

          -- Kept, the trial is open no more.
          closed : view t.m O₃ ≡ tallied (view t.m O'') (tally_of O'').entered (tally_of O').trials
          closed = view_tallied closes t.m ∙ ap (λ (n : ℕ). tallied (view t.m O'') (tally_of O'').entered n) many_is

          pub trial_put : 4 * p.used ≤ length N → {d : Bool} {a : Answer} {N'' : List ℕ}
              → d ≡ (on and here W Question t.m) → Infers W given b d t.high p t.m N' a N''
              → Says 0 (was m N M O) (infer g T on (view m O)) a N'' M'' O₃
          trial_put room {d} {a} {N''} d-is makes = by d (sym d-is) makes
            where
              -- By whether it is put back.
              by : (e : Bool) → (on and here W Question t.m) ≡ e → Infers W given b e t.high p t.m N' a N''
                  → Says 0 (was m N M O) (infer g T on (view m O)) a N'' M'' O₃
              by true e f =
                  says_same
                  (infer_dropped g T on (view m O) named.is h (asked few) from got.is e
                  ∙ ap₂ (λ (i : ℕ) (q : State). node_at i absent q) (sym first_is) (sym put_back))
                  (f text (was m N M O) x M'' O₃ name_is (laid_tallied closes (laid_back p.noted (omega arith) room (laid_tallied opens name_laid) got.stands.laid)))
              by false e f =
                  says_same
                  (infer_kept g T on (view m O) named.is h (asked few) from got.is e
                  ∙ ap₂ (λ (i : ℕ) (q : State). node_at i (present got.tree) q) (sym first_is) (sym closed))
                  (f text (was m N M O) x got.tree M'' O₃ name_is got.stands.is_node got.stands.high_is
                  (laid_tallied closes (laid_on (x ∷ []) (laid_tallied opens name_laid) got.stands.laid)))
