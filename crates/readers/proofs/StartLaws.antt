-- What is known of what a primary type begins as, in an arm for it.
use mathlib.Core.Path.{◌≡◌, ap, ◌∙◌, subst}
use mathlib.Core.List.{List}
use Prim.Native.Nat.{ℕ}
use Rattle.rules.specs.State.{Reader}
use Rattle.marks.specs.State.{view, given_of}
use Rattle.primaries.specs.Onward.{StartIs}
use Rattle.marks.specs.declared.state.Given.{Given}
use Rattle.marks.specs.declared.state.Mark.{Mark}
use Rattle.std.specs.Prelude.{Result, Ok}
use Rattle.words.specs.declared.refusal.Refusal.{Refusal}
use Rattle.primaries.specs.declared.primary.Start.{Start}

-- The rule is that of the arm.
pub start_is : (W : List ℕ) (m : Mark) {r : Result Start Refusal} {x y : Start} → r ≡ Ok x → x ≡ y
    → ((text O : List ℕ) (given : Given) (T : Reader) → StartIs r (given_of text W given) T (view m O))
    → (text O : List ℕ) (given : Given) (T : Reader) → StartIs (Ok y) (given_of text W given) T (view m O)
start_is W m e f h = subst (λ (z : Result Start Refusal). (text O : List ℕ) (given : Given) (T : Reader) → StartIs z (given_of text W given) T (view m O)) (e ∙ ap Ok f) h
