-- A reference, typeof or import up to its arguments, as contracts speak of it.
use Rattle.std.specs.Prelude.{ℕ, Result, Ok, Err}
use Rattle.words.specs.Refusal.{number_of}
use Rattle.marks.specs.declared.state.Mark.{Mark}
use Rattle.marks.specs.declared.state.Stop.{Stop}
use Rattle.parts.specs.declared.arguments.Named as found

-- It, or a refusal.
pub record Named : Type 0 where
  pub why : ℕ
  pub choices : ℕ
  pub scale : ℕ
  pub count : ℕ
  pub m : Mark

abbrev pub told_named : Result found.Named Stop → Named
told_named (Ok n) = record { why = 0; choices = n.choices; scale = n.scale; count = n.count; m = n.m }
told_named (Err e) = record { why = number_of e.why; choices = 0; scale = 0; count = 0; m = e.m }
