-- Names, names that are bound, and names with dots between (01, "Token words": Binding word, Name; "Reading rules": Primary; 02, W3).
use Rattle.std.specs.Prelude.{ℕ, zero, suc, List, [], ◌∷◌, ◌++◌, Bool}
use Rattle.words.specs.Test.{between, test}
use Rattle.words.specs.Kind.{Dot, Any, Unknown}
use Rattle.words.specs.Class as class
use Rattle.keys.specs.Placed.{Spelling}
use Rattle.rules.specs.Refusal.{unexpected}
use Rattle.rules.specs.Notes.{note, reserved_name}
use Rattle.rules.specs.State.{Given, State, Result, read, refused, then, next, kind, stands, first, end, spelling, turns, report_if}

-- one name
unfoldable pub name : Given → State → Result Spelling
name g s = test (class.name (kind g s)) (λ _. read (spelling g s) (next s)) (λ _. refused unexpected s)

-- one binding word
unfoldable pub binding_word : Given → State → Result Spelling
binding_word g s = test (class.binding_word (kind g s)) (λ _. read (spelling g s) (next s)) (λ _. refused unexpected s)

-- a word that names a type of its own (02, W3)
abbrev pub reserved : ℕ → Bool
reserved k = between Any Unknown k

-- one binding word that is bound to a type; diagnostic 13 if it is reserved
unfoldable pub bound : Given → State → Result Spelling
bound g s =
    then (binding_word g s) λ x q.
    report_if (reserved (kind g s)) g (note reserved_name (first g s) (end g q)) q λ q.
    read x q

-- as many dots as follow, each with a name, where l stand before
unfoldable pub dots_from : Given → ℕ → List Spelling → State → Result (List Spelling)
dots_from g zero l s = refused unexpected s
dots_from g (suc n) l s =
    test (stands g Dot s) (λ _. then (name g (next s)) λ x q. dots_from g n (l ++ (x ∷ [])) q) (λ _. read l s)

-- names with dots between
unfoldable pub dotted : Given → State → Result (List Spelling)
dotted g s = then (name g s) λ x q. dots_from g (turns g) (x ∷ []) q
