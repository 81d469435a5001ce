-- Unions and intersections (01, "Reading rules": Union, intersection).
use Rattle.std.specs.Prelude.{ℕ, zero, suc, not, List, [], ◌∷◌, ◌++◌, length}
use Rattle.words.specs.Test.{◌or◌, test}
use Rattle.words.specs.Kind.{Pipe, Amp}
use Rattle.keys.specs.Placed as node
use Rattle.keys.specs.Placed.{Placed}
use Rattle.rules.specs.Refusal.{unexpected}
use Rattle.rules.specs.State.{Given, State, Result, read, Reader, refused, then, next, stands, first, end, turns, past, make}
use Rattle.rules.specs.Operator.{operator}

-- Union, intersection: as many marks as follow, each with a part, where l stand before
unfoldable pub parts_from : Given → ℕ → (State → Result Placed) → ℕ → List Placed → State → Result (List Placed)
parts_from g mark part zero l s = refused unexpected s
parts_from g mark part (suc n) l s =
    test (stands g mark s) (λ _. then (part (next s)) λ t q. parts_from g mark part n (l ++ (t ∷ [])) q) λ _.
    read l s

-- Union, intersection: one part alone is just that part, unless a mark stood before it
unfoldable pub joined : Given → ℕ → (ℕ → ℕ → List Placed → Placed) → (State → Result Placed) → State → Result Placed
joined g mark node part s =
    then (part (past g mark s)) λ t q.
    test (not (stands g mark s or stands g mark q)) (λ _. read t q) λ _.
    then (parts_from g mark part (turns g) (t ∷ []) q) λ l q.
    make g (length l ∷ []) (node (first g s) (end g q) l) q

module _ (g : Given) (T : Reader) where
  -- Intersection: operators with `&` between
  unfoldable pub intersection : Reader
  intersection on s = joined g Amp node.intersection (operator g T on) s

  -- Union: intersections with `|` between
  unfoldable pub union : Reader
  union on s = joined g Pipe node.union (intersection on) s
