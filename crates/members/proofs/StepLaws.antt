-- Steps that move the cursor and report diagnostics alone: what they say.
use mathlib.Core.Path.{◌≡◌, sym, ◌∙◌, subst}
use mathlib.Core.Bool.{Bool}
use mathlib.Core.List.{List}
use Prim.Native.Nat.{ℕ}
use Rattle.rules.specs.Notes.{Note}
use Rattle.rules.specs.State.{State, Result, refuse, report_if}
use Rattle.marks.specs.State.{view, given_of}
use Rattle.marks.specs.Notes.{refused_at, Reports, Noted}
use Rattle.marks.proofs.StepLaws.{laid_at}
use Rattle.marks.proofs.ReportLaws.{reports_done, reports_refused, laid_reported}
use Rattle.members.specs.Object.{SaysStep}
use Rattle.marks.specs.declared.state.Given.{Given}
use Rattle.marks.specs.declared.state.Mark.{Mark}
use Rattle.marks.specs.Told.{Answer}

module _ {A : Type 0} {step : (State → Result A) → Result A} {m : Mark} {O : List ℕ} where
  -- It is refused.
  pub step_stop : {a : Answer} {O' : List ℕ} → (a.why ≡ 0 → ⊥) → ((on : State → Result A) → step on ≡ refuse a.why a.m.at a.m.half) → SaysStep step m O a O'
  step_stop n f = record { done = λ z. absurd (n z); kept = λ z. absurd (n z); refused = λ _ on. f on }

  -- It is refused at a mark.
  pub step_refused : {a : Answer} {O' : List ℕ} (why : ℕ) (q : Mark) → (why ≡ 0 → ⊥) → a ≡ refused_at why q
      → ((on : State → Result A) → step on ≡ refuse why q.at q.half) → SaysStep step m O a O'
  step_refused {a} {O'} why q n e f = subst (λ (x : Answer). SaysStep step m O x O') (sym e) (step_stop n f)

  -- It is a diagnostic that is reported where a test holds, at a mark with the same numbers.
  pub step_reports : {holds : Bool} {given : Given} {n : Note} {p : Mark} {a : Answer} {O' : List ℕ} (text W : List ℕ) → p.used ≡ m.used → p.named ≡ m.named → p.noted ≡ m.noted
      → ((on : State → Result A) → step on ≡ report_if holds (given_of text W given) n (view p O) on) → Reports holds given n p O a O' → Noted given p a → SaysStep step m O a O'
  step_reports {p = p} text W u n o f r k =
      record {
        done = λ z on. f on ∙ reports_done text W on r z;
        kept = λ z B t N M d. laid_reported r k (laid_at m p u n o d);
        refused = λ z on. f on ∙ reports_refused text W on r z;
      }

  -- The same step under another name.
  pub step_same : {other : (State → Result A) → Result A} {a : Answer} {O' : List ℕ} → ((on : State → Result A) → other on ≡ step on) → SaysStep step m O a O' → SaysStep other m O a O'
  step_same e w = record { done = λ z on. e on ∙ w.done z on; kept = w.kept; refused = λ z on. e on ∙ w.refused z on }
