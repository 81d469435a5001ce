-- Postfix marks (01, "Reading rules": Postfix).
use Rattle.std.specs.Prelude.{ℕ, zero, suc, ◌+◌, Bool, true, not, []}
use Rattle.words.specs.Test.{◌and◌, ◌or◌, test}
use Rattle.words.specs.Kind.{LBrack, RBrack, Question, Bang}
use Rattle.words.specs.Ahead.{starter}
use Rattle.keys.specs.Placed as node
use Rattle.keys.specs.Placed.{Placed}
use Rattle.rules.specs.Refusal.{unexpected}
use Rattle.rules.specs.State.{Given, State, Result, read, Reader, refused, then, next, stands, on_line, first, end, turns, expect, make}
use Rattle.rules.specs.Primary.{primary}

-- Postfix: a mark follows on the line; a `?` that a type could follow is none
abbrev pub suffixed : Given → State → Bool
suffixed g s =
    on_line g s and (stands g Bang s or (stands g Question s and not (starter g.words (s.at + 1))) or stands g LBrack s)

module _ (g : Given) (T : Reader) where
  -- Postfix: behind a `[`, an index where a type can start, else the end of an array
  unfoldable pub bracketed : ℕ → Placed → State → Result Placed
  bracketed b t s =
      test (not (starter g.words s.at)) (λ _. expect g RBrack s λ q. make g [] (node.array b (end g q) t) q) λ _.
      then (T true s) λ x q.
      expect g RBrack q λ q.
      make g [] (node.indexed b (end g q) t x) q

  -- Postfix: the mark here makes a node of t, which begins at byte b
  unfoldable pub suffix : ℕ → Placed → State → Result Placed
  suffix b t s =
      test (stands g Bang s) (λ _. make g [] (node.non_null b (end g (next s)) t) (next s)) λ _.
      test (stands g Question s) (λ _. make g [] (node.asked b (end g (next s)) t) (next s)) λ _.
      bracketed b t (next s)

  -- Postfix: as many marks as follow
  unfoldable pub postfix_from : ℕ → ℕ → Placed → State → Result Placed
  postfix_from b zero t s = refused unexpected s
  postfix_from b (suc n) t s =
      test (suffixed g s) (λ _. then (suffix b t s) λ u q. postfix_from b n u q) λ _.
      read t s

  -- Postfix: a primary type and its marks
  unfoldable pub postfix : State → Result Placed
  postfix s = then (primary g T s) λ t q. postfix_from (first g s) (turns g) t q
