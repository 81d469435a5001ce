-- What stands behind a chain of prefixes, as the reader of operators takes it.
use mathlib.Core.Path.{◌≡◌, sym, ap, ◌∙◌}
use mathlib.Core.List.{List}
use Prim.Native.Nat.{ℕ, ◌-◌}
use lib.ListN.{length}
use Rattle.keys.specs.Placed.{Placed}
use Rattle.rules.specs.State.{Result, read}
use Rattle.marks.specs.State.{view, given_of, Moved}
use Rattle.marks.specs.Laid.{Was, was, Stands}
use Rattle.marks.specs.Says.{Says}
use Rattle.operators.specs.Operator.{operators_about}
use Rattle.marks.proofs.Answers.{says_same, says_stop}
use Rattle.operators.proofs.OperatorLaws.{operators_refused}
use Rattle.marks.specs.declared.state.Given.{Given}
use Rattle.marks.specs.declared.state.Mark.{Mark}
use Rattle.marks.specs.Told.{Answer}
use Rattle.readers.proofs.MovedLaws.{says_moved}

-- An operand y that begins at q, behind the prefixes from m on, which make x of it.
module _ (text W : List ℕ) (given : Given) {x y z : Result Placed} (m q : Mark) (N M O : List ℕ) {N' M' O' : List ℕ} {a : Answer}
    (is : x ≡ operators_about (given_of text W given) m.at (q.at - m.at) y) (y-is : y ≡ z) (moved : Moved (length W) m q) (says : Says 0 (was q N M O) z a N' M' O') where
  -- The prefixes about what is read behind them.
  abbrev about : Result Placed → Result Placed
  about r = operators_about (given_of text W given) m.at (q.at - m.at) r

  -- It is refused.
  pub operand_refused : (a.why ≡ 0 → ⊥) → Says 0 (was m N M O) x a N' M' O'
  operand_refused h =
      says_stop h (is ∙ ap about (y-is ∙ says.refused h) ∙ operators_refused (given_of text W given) m.at (q.at - m.at) a.why a.m.at a.m.half)

  -- It is read, and the prefixes are put about it.
  pub operand_about : {r : Answer} {N'' : List ℕ} → a.why ≡ 0
      → ((B : Was) (t : Placed) → Stands 0 B t a.high a.m N' M' O' → m.named ≡ B.named → Says 0 B (about (read t (view a.m O'))) r N'' M' O')
      → Says 0 (was m N M O) x r N'' M' O'
  operand_about h f =
      let got = says.done h in
      says_moved N M O moved (says_same (is ∙ ap about (y-is ∙ got.is)) (f (was q N M O) got.tree got.stands (sym moved.named_is)))
