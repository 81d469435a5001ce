-- What the rules' reporting of a diagnostic comes to, by what the code's did.
use mathlib.Core.Path.{◌≡◌, sym, ap, ◌∙◌, subst}
use mathlib.Core.Bool.{Bool}
use mathlib.Core.List.{List}
use Prim.Native.Nat.{ℕ}
use native.Mathlib.Omega.{arith}
use Rattle.rules.specs.Notes.{Note, note}
use Rattle.rules.specs.Refusal.{many_notes}
use Rattle.rules.specs.State.{State, Result, refuse, report_if}
use Rattle.marks.specs.State.{view, given_of, notes_of}
use Rattle.keys.specs.Store.{Run}
use Rattle.marks.specs.Laid.{Was, Laid, BuiltAt}
use Rattle.marks.specs.Notes.{Reports, silent, noted, full, Noted}
use Rattle.marks.proofs.LaidLaws.{length_notes, notes_before, laid_noted}
use Rattle.marks.specs.declared.state.Given.{Given}
use Rattle.marks.specs.declared.state.Mark.{Mark}
use Rattle.marks.specs.declared.state.Kids.{Kids}
use Rattle.marks.specs.Told.{Answer}

-- ---- What was reported

-- The same diagnostic by other numbers that are equal.
pub reports_as : {holds is : Bool} {given : Given} {number f e f' e' : ℕ} {m : Mark} {O : List ℕ} {a : Answer} {O' : List ℕ} → holds ≡ is → f ≡ f' → e ≡ e'
    → Reports holds given (note number f e) m O a O' → Reports is given (note number f' e') m O a O'
reports_as {holds} {is} {given} {number} {f} {e} {f'} {e'} {m} {O} {a} {O'} h i j r =
    subst (λ (x : Bool). Reports x given (note number f' e') m O a O') h
    (subst (λ (x : ℕ). Reports holds given (note number x e') m O a O') i (subst (λ (x : ℕ). Reports holds given (note number f x) m O a O') j r))

module _ {holds : Bool} {given : Given} {n : Note} {m : Mark} {O : List ℕ} {a : Answer} {O' : List ℕ} where
  -- The diagnostics before stand.
  pub reports_before : Reports holds given n m O a O' → notes_of O' m.noted ≡ notes_of O m.noted
  reports_before (silent h e o) = ap (λ (x : List ℕ). notes_of x m.noted) o
  reports_before (noted h f e o t) = notes_before O O' m.noted n o
  reports_before (full h f e o) = ap (λ (x : List ℕ). notes_of x m.noted) o

  -- Reading goes on where the answer stands.
  pub reports_done : {A : Type 0} (text W : List ℕ) (on : State → Result A) → Reports holds given n m O a O' → a.why ≡ 0
      → report_if holds (given_of text W given) n (view m O) on ≡ on (view a.m O')
  reports_done text W on (silent h e o) z = rw (h, e, o)
  reports_done text W on (noted h f e o t) z = rw (h, length_notes O m.noted, f, e, o, t)
  reports_done text W on (full h f e o) z = absurd (let i : many_notes ≡ 0 = sym (ap (λ (x : Answer). x.why) e) ∙ z in omega arith)

  -- There is no record for it.
  pub reports_refused : {A : Type 0} (text W : List ℕ) (on : State → Result A) → Reports holds given n m O a O' → (a.why ≡ 0 → ⊥)
      → report_if holds (given_of text W given) n (view m O) on ≡ refuse a.why a.m.at a.m.half
  reports_refused text W on (silent h e o) z = absurd (z (ap (λ (x : Answer). x.why) e))
  reports_refused text W on (noted h f e o t) z = absurd (z (ap (λ (x : Answer). x.why) e))
  reports_refused text W on (full h f e o) z = rw (h, length_notes O m.noted, f, e)

  -- What was laid before stands.
  pub laid_reported : {B : Was} {t : Run} {N M : List ℕ} → Reports holds given n m O a O' → Noted given m a
      → Laid B t m.used m.named m.noted N M O → Laid B t a.m.used a.m.named a.m.noted N M O'
  laid_reported {B} {t} {N} {M} r k d =
      subst (λ (u : ℕ). Laid B t u a.m.named a.m.noted N M O') (sym k.used_is)
      (subst (λ (u : ℕ). Laid B t m.used u a.m.noted N M O') (sym k.named_is) (laid_noted a.m.noted O' k.more (reports_before r) d))

  -- The children that were built before stand.
  pub built_reported : {B : Was} {t : Run} {k : Kids} {N M : List ℕ} → Reports holds given n m O a O' → Noted given m a
      → BuiltAt B t k m N M O → BuiltAt B t k a.m N M O'
  built_reported r k b = record { laid = laid_reported r k b.laid; first_is = b.first_is; high_is = b.high_is }
