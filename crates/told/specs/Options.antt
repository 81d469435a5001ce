-- What the word of options says.
use Rattle.std.specs.Prelude.{Bool, ℕ, ◌%◌, eqb}

-- The lowest bit of the options is preserve_parens; the others say nothing.
abbrev pub preserve_parens : ℕ → Bool
preserve_parens options = eqb (options % 2) 1
