-- The numbers of refusals that only reading meets (01, "Refusal numbers"). 1 and 2 are the token check's; 6, 8 and 11 have their names in keys.
use Rattle.std.specs.Prelude.{Bool, ℕ, eqb}
use Rattle.words.specs.Test.{◌or◌, between}

-- no rule takes the token
abbrev pub unexpected : ℕ
unexpected = 3

-- a type rule opens that is one too many
abbrev pub too_deep : ℕ
too_deep = 5

-- a list is too long
abbrev pub too_long : ℕ
too_long = 7

-- a diagnostic is one too many, or has no record
abbrev pub many_notes : ℕ
many_notes = 9

-- ---- Forms that are known but not read (02, W2)

-- a `?`, `!` or `*` before a type
abbrev pub prefix_mark : ℕ
prefix_mark = 20

-- a modifier word before a parameter
abbrev pub parameter_modifier : ℕ
parameter_modifier = 21

-- a default for a parameter
abbrev pub default_value : ℕ
default_value = 22

-- a `this` that is not the first parameter, or a rest
abbrev pub misplaced_this : ℕ
misplaced_this = 23

-- a comma after a rest parameter
abbrev pub rest_not_last : ℕ
rest_not_last = 24

-- const, in, or out before a type parameter
abbrev pub type_parameter_modifier : ℕ
type_parameter_modifier = 25

-- an import from something that is no string
abbrev pub import_source : ℕ
import_source = 26

-- a comma after an import's source
abbrev pub import_options : ℕ
import_options = 27

-- a trial opens that is one too many
abbrev pub many_trials : ℕ
many_trials = 28

-- a member with a computed name, an accessor, or a modifier other than readonly
abbrev pub member_form : ℕ
member_form = 31

-- ---- Groups of numbers

-- a form that is not read
abbrev pub is_form : ℕ → Bool
is_form n = between prefix_mark import_options n or eqb n member_form

-- the numbers of the refusals that the reading rules meet
abbrev pub is_rule : ℕ → Bool
is_rule n = eqb n unexpected or between too_deep many_notes n or eqb n many_trials or is_form n
