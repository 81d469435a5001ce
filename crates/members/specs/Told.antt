-- A member up to its first type, as contracts speak of it.
use Rattle.std.specs.Prelude.{ℕ, Result, Ok, Err}
use Rattle.words.specs.Refusal.{number_of}
use Rattle.marks.specs.declared.state.Mark.{Mark}
use Rattle.marks.specs.declared.state.Stop.{Stop}
use Rattle.members.specs.declared.object.Sort.{Sort}
use Rattle.members.specs.declared.object.Sort.TheVariants.{Property, Method, Call, Construct, Index}
use Rattle.members.specs.declared.object.MemberHead as found

-- The number of a sort in the node table.
abbrev pub sort_number : Sort → ℕ
sort_number Property = 0
sort_number Method = 1
sort_number Call = 2
sort_number Construct = 3
sort_number Index = 4

-- It, or a refusal.
pub record MemberHead : Type 0 where
  pub why : ℕ
  pub sort : ℕ
  pub choices : ℕ
  pub m : Mark

abbrev pub told_member : Result found.MemberHead Stop → MemberHead
told_member (Ok h) = record { why = 0; sort = sort_number h.sort; choices = h.choices; m = h.m }
told_member (Err e) = record { why = number_of e.why; sort = 0; choices = 0; m = e.m }
