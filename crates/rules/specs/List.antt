-- Lists (01, "Reading rules": Lists).
use Rattle.std.specs.Prelude.{Bool, true, false, eqb, length, ℕ, zero, suc, List, [], ◌∷◌, ◌++◌}
use Rattle.words.specs.Test.{test}
use Rattle.words.specs.Kind.{Comma}
use Rattle.keys.specs.Placed.{Placed, Opt, absent, present}
use Rattle.rules.specs.Refusal.{unexpected}
use Rattle.rules.specs.State.{Given, State, Result, read, refused, then, expect, next, stands, turns}

-- a list has no entry
abbrev pub no_entry : List Placed → Bool
no_entry [] = true
no_entry (t ∷ l) = false

-- how many entries an optional list has
abbrev pub count : Opt (List Placed) → ℕ
count absent = 0
count (present l) = length l

-- where a kind stands among others, from 0
abbrev pub position : ℕ → List ℕ → ℕ
position k [] = 0
position k (x ∷ l) = test (eqb x k) (λ _. 0) (λ _. suc (position k l))

-- Lists: the entries from here to the closing mark, where l stand before; a comma may be the last thing, and an entry's rule is told l
unfoldable pub list_from : Given → ℕ → (List Placed → State → Result Placed) → ℕ → List Placed → State → Result (List Placed)
list_from g close entry zero l s = refused unexpected s
list_from g close entry (suc n) l s =
    test (stands g close s) (λ _. read l (next s)) λ _.
    then (entry l s) λ t q.
    test (stands g close q) (λ _. read (l ++ (t ∷ [])) (next q)) λ _.
    expect g Comma q λ p. list_from g close entry n (l ++ (t ∷ [])) p

-- Lists: a whole list but for its opening mark
unfoldable pub list : Given → ℕ → (List Placed → State → Result Placed) → State → Result (List Placed)
list g close entry s = list_from g close entry (turns g) [] s
