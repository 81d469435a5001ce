-- Templates (01, "Reading rules": Template).
use Rattle.std.specs.Prelude.{ℕ, zero, suc, true, List, [], ◌∷◌, ◌++◌, length}
use Rattle.words.specs.Test.{test}
use Rattle.words.specs.Kind.{NoSubstitutionTemplate, TemplateMiddle, TemplateTail}
use Rattle.keys.specs.Placed as node
use Rattle.keys.specs.Placed.{Placed, Spelling}
use Rattle.rules.specs.Refusal.{unexpected}
use Rattle.rules.specs.State.{Given, State, Result, read, Reader, refused, then, next, stands, first, end, spelling, turns, make}

module _ (g : Given) (T : Reader) where
  -- Template: one type and the token behind it, until that is a tail; l stand before
  unfoldable pub pieces_from : ℕ → List (Placed × Spelling) → State → Result (List (Placed × Spelling))
  pieces_from zero l s = refused unexpected s
  pieces_from (suc n) l s =
      then (T true s) λ t q.
      test (stands g TemplateMiddle q) (λ _. pieces_from n (l ++ ((t, spelling g q) ∷ [])) (next q)) λ _.
      test (stands g TemplateTail q) (λ _. read (l ++ ((t, spelling g q) ∷ [])) (next q)) λ _.
      refused unexpected q

  -- Template: what follows its first token, which is nothing if that is the whole
  unfoldable pub pieces : State → Result (List (Placed × Spelling))
  pieces s = test (stands g NoSubstitutionTemplate s) (λ _. read [] (next s)) λ _. pieces_from (turns g) [] (next s)

  -- Template: the first token and all pieces
  unfoldable pub template : State → Result Placed
  template s = then (pieces s) λ l q. make g (length l ∷ []) (node.template (first g s) (end g q) (spelling g s) l) q
