-- A name that is bound, and its diagnostic.
use mathlib.Core.Path.{◌≡◌, refl, sym, ◌∙◌, subst}
use mathlib.Core.List.{List}
use Prim.Native.Nat.{ℕ}
use Rattle.words.specs.Cursor.{kind_at, first_byte, end_byte}
use Rattle.keys.specs.Placed.{Spelling}
use Rattle.keys.specs.Store.{done}
use Rattle.rules.specs.Notes.{note, reserved_name}
use Rattle.rules.specs.State as rule
use Rattle.rules.specs.State.{State, Result, read, then, kind, first, end, report_if}
use Rattle.rules.specs.Names.{binding_word, reserved, bound}
use Rattle.marks.specs.State.{view, given_of, next_mark}
use Rattle.marks.specs.Laid.{name_run, was, Laid}
use Rattle.marks.specs.Says.{GotNames, SaysNames, GotBound, SaysBound, Any, one}
use Rattle.marks.specs.Names.{one_name}
use Rattle.marks.specs.Notes.{Reports, Noted}
use Rattle.marks.proofs.Answers.{then_read_lem, then_refused}
use Rattle.marks.proofs.LaidLaws.{laid_none}
use Rattle.marks.proofs.ReportLaws.{reports_done, reports_refused, laid_reported}
use Rattle.marks.specs.declared.state.Given.{Given}
use Rattle.marks.specs.declared.state.Mark.{Mark}
use Rattle.marks.specs.Told.{Answer}

-- ---- The name

-- What follows the name that begins at s.
abbrev behind_bound : rule.Given → State → Spelling → State → Result Spelling
behind_bound g s x q =
    report_if (reserved (kind g s)) g (note reserved_name (first g s) (end g q)) q λ q.
    read x q

bound_is : (g : rule.Given) (s : State) → bound g s ≡ then (one_name 0 g s) (behind_bound g s)
unfolding bound binding_word
bound_is g s = refl

-- The same answer, of an equal reading.
pub bound_same : {x y : Result Spelling} {m : Mark} {M O : List ℕ} {a : Answer} {M' O' : List ℕ} → y ≡ x → SaysBound x m M O a M' O' → SaysBound y m M O a M' O'
bound_same {m = m} {M = M} {O = O} {a = a} {M' = M'} {O' = O'} e w = subst (λ (z : Result Spelling). SaysBound z m M O a M' O') (sym e) w

-- It is read behind a token that is none.
pub bound_next : (g : rule.Given) {m p : Mark} {M O : List ℕ} {a : Answer} {M' O' : List ℕ} → p ≡ next_mark m → SaysBound (bound g (view p O)) p M O a M' O'
    → SaysBound (bound g (view (next_mark m) O)) m M O a M' O'
bound_next g {M = M} {O = O} {a = a} {M' = M'} {O' = O'} e w =
    let v = subst (λ (p : Mark). SaysBound (bound g (view p O)) p M O a M' O') e w in
    record {
      done = λ z. record { name = (v.done z).name; is = (v.done z).is; spoken = (v.done z).spoken };
      refused = v.refused;
    }

-- At the begin of a node it is laid.
pub laid_bound : {x : Result Spelling} {m q : Mark} {M O M' O' : List ℕ} (N : List ℕ) (w : GotBound x m q M O M' O')
    → Laid (was m N M O) (name_run w.name) q.used q.named q.noted N M' O'
laid_bound {m = m} {M = M} {O = O} N w = w.spoken (was m N M O) done N (laid_none m.used m.named m.noted N M O)

module _ (text W : List ℕ) (given : Given) (m : Mark) (M O : List ℕ) where
  -- No name stands there.
  pub bound_unnamed : {a : Answer} {M' O' : List ℕ} → SaysNames one Any (one_name 0 (given_of text W given) (view m O)) a.why m a.m M M' O → (a.why ≡ 0 → ⊥)
      → SaysBound (bound (given_of text W given) (view m O)) m M O a M' O'
  bound_unnamed w stop =
      record {
        done = λ z. absurd (stop z);
        refused = λ _. bound_is (given_of text W given) (view m O) ∙ then_refused (behind_bound (given_of text W given) (view m O)) (w.refused stop);
      }

  -- One does, which ends at p, and diagnostic 13 is reported if it is reserved.
  pub bound_named : {p : Mark} {M' O' : List ℕ} {a : Answer} → GotNames one Any (one_name 0 (given_of text W given) (view m O)) m p M M' O
      → Reports (reserved (kind_at W m.at m.half)) given (note reserved_name (first_byte W m.at m.half) (end_byte W p.at p.half)) p O a O' → Noted given p a
      → SaysBound (bound (given_of text W given) (view m O)) m M O a M' O'
  bound_named {p} w r k =
      record {
        done = λ z.
            record {
              name = w.what;
              is = named ∙ reports_done text W (read w.what) r z;
              spoken = λ B t N d. laid_reported r k (w.spoken.on B t N O d);
            };
        refused = λ z. named ∙ reports_refused text W (read w.what) r z;
      }
    where
      named : bound (given_of text W given) (view m O) ≡ behind_bound (given_of text W given) (view m O) w.what (view p O)
      named = bound_is (given_of text W given) (view m O) ∙ then_read_lem (behind_bound (given_of text W given) (view m O)) w.is
