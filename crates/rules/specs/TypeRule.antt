-- Type (01, "Reading rules": Type, Function start).
use Rattle.std.specs.Prelude.{Bool, true, false, [], ℕ}
use Rattle.words.specs.Test.{◌and◌, test}
use Rattle.words.specs.Kind.{Question, Colon, Extends}
use Rattle.words.specs.Ahead.{function_start}
use Rattle.words.specs.declared.ahead.FunctionStart.{FunctionStart}
use Rattle.words.specs.declared.ahead.FunctionStart.TheVariants.{TypeParameters, New, AbstractNew, Empty, Rest, Parameter, LoneParameter, Nothing}
use Rattle.keys.specs.Placed as node
use Rattle.keys.specs.Placed.{Placed}
use Rattle.rules.specs.State.{Given, State, Result, read, Reader, then, expect, next, stands, on_line, first, end, make}
use Rattle.rules.specs.Function.{function}
use Rattle.rules.specs.Union.{union}

-- Function start: one of its cases holds
abbrev pub begins : FunctionStart → Bool
begins TypeParameters = true
begins New = true
begins AbstractNew = true
begins Empty = true
begins Rest = true
begins (Parameter i) = true
begins (LoneParameter i) = true
begins Nothing = false

module _ (g : Given) (T : Reader) where
  -- Type: a conditional about t, which begins at byte b; only what t extends is read with conditionals off
  unfoldable pub conditional : ℕ → Placed → State → Result Placed
  conditional b t s =
      then (T false (next s)) λ x q.
      expect g Question q λ q.
      then (T true q) λ y q.
      expect g Colon q λ q.
      then (T true q) λ z q.
      make g [] (node.conditional b (end g q) t x y z) q

  -- Type: a union, which `extends` on its line makes a conditional where that is allowed
  unfoldable pub union_or_conditional : Reader
  union_or_conditional on s =
      then (union g T on s) λ t q.
      test (on and on_line g q and stands g Extends q) (λ _. conditional (first g s) t q) λ _.
      read t q

  -- Type: by the function start
  unfoldable pub type : Reader
  type on s =
      test (begins (function_start g.words s.at s.half)) (λ _. function g T on s) λ _.
      union_or_conditional on s
