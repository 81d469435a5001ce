-- Type parameters (01, "Reading rules": Type parameters).
use Rattle.std.specs.Prelude.{Bool, not, List, []}
use Rattle.words.specs.Test.{◌and◌, ◌or◌, test}
use Rattle.words.specs.Kind.{LAngle, RAngle, Eq, Out, Extends, In, Const}
use Rattle.words.specs.Class as class
use Rattle.keys.specs.Placed as node
use Rattle.keys.specs.Placed.{Placed, Opt, absent, present}
use Rattle.rules.specs.Refusal.{type_parameter_modifier}
use Rattle.rules.specs.Notes.{note, empty_type_parameters}
use Rattle.rules.specs.State.{Given, State, Result, read, Reader, refused, then, next, kind_after, stands, first, end, optional, make, report_if}
use Rattle.rules.specs.Names.{bound}
use Rattle.rules.specs.List.{no_entry, list}

-- Type parameters: a modifier stands here, which is refused; an `out` that no name follows is itself the name
abbrev pub varies : Given → State → Bool
varies g s = stands g Const s or stands g In s or (stands g Out s and class.binding_word (kind_after g 1 s))

module _ (g : Given) (T : Reader) (on : Bool) where
  -- Type parameters: a name, its constraint and its default, if they stand there
  unfoldable pub type_parameter : State → Result Placed
  type_parameter s =
      test (varies g s) (λ _. refused type_parameter_modifier s) λ _.
      then (bound g s) λ x q.
      then (optional g Extends (T on) q) λ t q.
      then (optional g Eq (T on) q) λ d q.
      make g [] (node.type_parameter (first g s) (end g q) x t d) q

  -- Type parameters, or none where no `<` stands; diagnostic 1 if nothing is between
  unfoldable pub type_parameters : State → Result (Opt (List Placed))
  type_parameters s =
      test (not (stands g LAngle s)) (λ _. read absent s) λ _.
      then (list g RAngle (λ l. type_parameter) (next s)) λ l q.
      report_if (no_entry l) g (note empty_type_parameters (first g s) (end g q)) q λ q.
      read (present l) q
