-- Type arguments, and the references that have them (01, "Reading rules": Arguments, Primary).
use Rattle.std.specs.Prelude.{ℕ, Bool, true, not, List, [], ◌∷◌, eqb, length}
use Rattle.words.specs.Test.{◌and◌, among, test}
use Rattle.words.specs.Kind.{Str, LParen, RParen, LAngle, RAngle, ShiftLeft, LtEq, ShiftLeftEq, Comma, Import}
use Rattle.keys.specs.Placed as node
use Rattle.keys.specs.Placed.{Placed, Spelling, Opt, absent, present}
use Rattle.rules.specs.Refusal.{import_source, import_options}
use Rattle.rules.specs.Notes.{note, empty_arguments}
use Rattle.rules.specs.State.{Given, State, Result, read, Reader, refused, then, next, halved, kind, stands, on_line, first, end, spelling, turns, expect, make, report_if}
use Rattle.rules.specs.Names.{dots_from, dotted}
use Rattle.rules.specs.List.{count, no_entry, list}

-- Arguments: a list opens here if a token that begins with `<` stands whole on the name's line
abbrev pub opens : Given → State → Bool
opens g s = on_line g s and eqb s.half 0 and among (LAngle ∷ ShiftLeft ∷ LtEq ∷ ShiftLeftEq ∷ []) (kind g s)

-- past that `<`, be it the whole token or the half of one
abbrev pub opened : Given → State → State
opened g s = test (stands g LAngle s) (λ _. next s) (λ _. halved s)

module _ (g : Given) (T : Reader) where
  -- Arguments, or none where no list opens; diagnostic 2 if nothing is in it
  unfoldable pub arguments : State → Result (Opt (List Placed))
  arguments s =
      test (not (opens g s)) (λ _. read absent s) λ _.
      then (list g RAngle (λ l. T true) (opened g s)) λ l q.
      report_if (no_entry l) g (note empty_arguments (first g s) (end g q)) q λ q.
      read (present l) q

  -- Primary: a name with its dots, and the arguments of it; references and typeof
  unfoldable pub named : (ℕ → ℕ → List Spelling → Opt (List Placed) → Placed) → ℕ → State → Result Placed
  named node b s =
      then (dotted g s) λ l q.
      then (arguments q) λ ts q.
      make g (length l ∷ count ts ∷ []) (node b (end g q) l ts) q

  -- Primary: an import from the token after its source on; options would begin with a comma
  unfoldable pub import_from : ℕ → Bool → Spelling → State → Result Placed
  import_from b isTypeof x s =
      test (stands g Comma s) (λ _. refused import_options s) λ _.
      expect g RParen s λ q.
      then (dots_from g (turns g) [] q) λ l q.
      then (arguments q) λ ts q.
      make g (length l ∷ count ts ∷ []) (node.import_type b (end g q) isTypeof x l ts) q

  -- Primary: an import, whose source has to be a string
  unfoldable pub import_type : ℕ → Bool → State → Result Placed
  import_type b isTypeof s =
      expect g Import s λ q.
      expect g LParen q λ q.
      test (stands g Str q) (λ _. import_from b isTypeof (spelling g q) (next q)) λ _.
      refused import_source q
