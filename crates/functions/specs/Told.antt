-- What parameters come to, as contracts speak of it, and why none can begin.
use Rattle.std.specs.Prelude.{ℕ, Option, Some, None, Result, Ok, Err}
use Rattle.words.specs.declared.refusal.Refusal.{Refusal}
use Rattle.words.specs.Refusal.{number_of}
use Rattle.marks.specs.declared.state.Mark.{Mark}
use Rattle.marks.specs.declared.state.Kids.{Kids}
use Rattle.marks.specs.declared.state.Stop.{Stop}
use Rattle.functions.specs.declared.function.This.{This}
use Rattle.functions.specs.declared.function.Params as found

-- Parameters, or a refusal.
pub record Params : Type 0 where
  pub why : ℕ
  pub count : ℕ
  pub this : This
  pub kids : Kids
  pub m : Mark

abbrev pub told_params : Result found.Params Stop → Params
told_params (Ok p) = record { why = 0; count = p.count; this = p.this; kids = p.kids; m = p.m }
told_params (Err e) = record { why = number_of e.why; count = 0; this = record { bits = 0; first = 0; end = 0 }; kids = record { first = 0; count = 0; high = 0 }; m = e.m }

-- A refusal's number, 0 for none.
abbrev pub told_why : Option Refusal → ℕ
told_why None = 0
told_why (Some r) = number_of r
