-- What functions answer, as contracts speak of it: what was read, where the number is 0, or the number of a refusal; and where reading stands.
use Rattle.std.specs.Prelude.{Bool, false, ℕ, Result, Ok, Err}
use Rattle.words.specs.Refusal.{number_of}
use Rattle.marks.specs.declared.state.Mark.{Mark}
use Rattle.marks.specs.declared.state.Kids.{Kids}
use Rattle.marks.specs.declared.state.Read.{Read}
use Rattle.marks.specs.declared.state.Entries.{Entries}
use Rattle.marks.specs.declared.state.Head as found
use Rattle.marks.specs.declared.state.Stop.{Stop}

-- A tree, or a refusal.
pub record Answer : Type 0 where
  pub why : ℕ
  pub high : ℕ
  pub m : Mark

abbrev pub told : Result Read Stop → Answer
told (Ok r) = record { why = 0; high = r.high; m = r.m }
told (Err e) = record { why = number_of e.why; high = 0; m = e.m }

-- Only where reading stands, which has no height.
abbrev pub told_mark : Result Mark Stop → Answer
told_mark (Ok m) = record { why = 0; high = 0; m = m }
told_mark (Err e) = record { why = number_of e.why; high = 0; m = e.m }

-- A list, or a refusal.
pub record Listed : Type 0 where
  pub why : ℕ
  pub there : Bool
  pub kids : Kids
  pub m : Mark

abbrev pub told_list : Result Entries Stop → Listed
told_list (Ok l) = record { why = 0; there = l.there; kids = l.kids; m = l.m }
told_list (Err e) = record { why = number_of e.why; there = false; kids = record { first = 0; count = 0; high = 0 }; m = e.m }

-- Choices before a node's first type, or a refusal.
pub record Head : Type 0 where
  pub why : ℕ
  pub choices : ℕ
  pub m : Mark

abbrev pub told_head : Result found.Head Stop → Head
told_head (Ok h) = record { why = 0; choices = h.choices; m = h.m }
told_head (Err e) = record { why = number_of e.why; choices = 0; m = e.m }
