-- What a tuple knows of its elements, as contracts speak of it.
use Rattle.std.specs.Prelude.{Bool, true, false, ℕ, Option, Some, None, Result, Ok, Err}
use Rattle.words.specs.Refusal.{number_of}
use Rattle.keys.specs.declared.store.Place.{Place}
use Rattle.marks.specs.declared.state.Mark.{Mark}
use Rattle.marks.specs.declared.state.Stop.{Stop}
use Rattle.tuples.specs.declared.tuple.Seen as found

-- The latest optional element, if there is one, by its place.
pub record Latest : Type 0 where
  pub there : Bool
  pub place : Place

abbrev pub told_latest : Option Place → Latest
told_latest None = record { there = false; place = record { first = 0; end = 0 } }
told_latest (Some p) = record { there = true; place = p }

-- The latest optional element, and where reading stands; or a refusal.
pub record Seen : Type 0 where
  pub why : ℕ
  pub latest : Latest
  pub m : Mark

abbrev pub told_seen : Result found.Seen Stop → Seen
told_seen (Ok s) = record { why = 0; latest = told_latest s.latest; m = s.m }
told_seen (Err e) = record { why = number_of e.why; latest = told_latest None; m = e.m }
