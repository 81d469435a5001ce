-- Operators (01, "Reading rules": Operator).
use Rattle.std.specs.Prelude.{ℕ, zero, suc, Bool, not, List, [], ◌∷◌}
use Rattle.words.specs.Test.{among, test}
use Rattle.words.specs.Kind.{Infer, KeyOf, Readonly, Unique}
use Rattle.keys.specs.Placed as node
use Rattle.keys.specs.Placed.{Placed}
use Rattle.rules.specs.Refusal.{unexpected}
use Rattle.rules.specs.State.{Given, State, Result, Reader, refused, then, next, kind, stands, first, end, turns, make}
use Rattle.rules.specs.List.{position}
use Rattle.rules.specs.Infer.{infer}
use Rattle.rules.specs.Postfix.{postfix}

-- keyof, unique, readonly, in the order of their numbers in the node table
abbrev pub operators : List ℕ
operators = KeyOf ∷ Unique ∷ Readonly ∷ []

module _ (g : Given) (T : Reader) (on : Bool) where
  -- Operator: what stands behind the last prefix; a postfix type is read with conditionals on
  unfoldable pub operand : State → Result Placed
  operand s = test (stands g Infer s) (λ _. infer g T on s) λ _. postfix g T s

  -- Operator: prefixes one before the other; such a chain opens no type rule
  unfoldable pub operator_from : ℕ → State → Result Placed
  operator_from zero s = refused unexpected s
  operator_from (suc n) s =
      test (not (among operators (kind g s))) (λ _. operand s) λ _.
      then (operator_from n (next s)) λ t q.
      make g [] (node.operator (first g s) (end g q) (position (kind g s) operators) t) q

  -- Operator: a chain as long as it is
  unfoldable pub operator : State → Result Placed
  operator s = operator_from (turns g) s
