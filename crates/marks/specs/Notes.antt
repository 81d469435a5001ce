-- What reporting a diagnostic comes to, where a test holds.
use Rattle.std.specs.Prelude.{◌≡◌, Bool, true, false, List, [], ◌∷◌, ◌++◌, ℕ, ◌+◌, ◌≤◌, leb}
use Rattle.words.specs.Limits.{most_notes}
use Rattle.words.specs.Test.{◌or◌}
use Rattle.rules.specs.Notes.{Note}
use Rattle.rules.specs.Refusal.{many_notes}
use Rattle.marks.specs.State.{noted_mark, notes_of, tally_of}
use Rattle.marks.specs.declared.state.Given.{Given}
use Rattle.marks.specs.declared.state.Mark.{Mark}
use Rattle.marks.specs.Told.{Answer}

-- There is no record for one diagnostic more.
abbrev pub is_full : Given → Mark → Bool
is_full given m = leb most_notes m.noted or leb given.records m.noted

-- An answer that only says where reading stands.
abbrev pub taken_at : Mark → Answer
taken_at m = record { why = 0; high = 0; m = m }

-- A refusal at a mark.
abbrev pub refused_at : ℕ → Mark → Answer
refused_at why m = record { why = why; high = 0; m = m }

-- Nothing is reported; or one diagnostic more is in the words, and the tally stays; or there is no record for it.
pub data Reports (holds : Bool) (given : Given) (n : Note) (m : Mark) (O : List ℕ) (a : Answer) (O' : List ℕ) : Type 0 where
  silent : holds ≡ false → a ≡ taken_at m → O' ≡ O → Reports holds given n m O a O'
  noted : holds ≡ true → is_full given m ≡ false → a ≡ taken_at (noted_mark m) → notes_of O' (m.noted + 1) ≡ notes_of O m.noted ++ (n ∷ []) → tally_of O' ≡ tally_of O → Reports holds given n m O a O'
  full : holds ≡ true → is_full given m ≡ true → a ≡ refused_at many_notes m → O' ≡ O → Reports holds given n m O a O'

-- Nothing but the number of diagnostics has changed, and it keeps its limit.
pub record Noted (given : Given) (m : Mark) (a : Answer) : Type 0 where
  pub at_is : a.m.at ≡ m.at
  pub half_is : a.m.half ≡ m.half
  pub used_is : a.m.used ≡ m.used
  pub named_is : a.m.named ≡ m.named
  pub more : m.noted ≤ a.m.noted
  pub recorded : a.m.noted ≤ given.records
