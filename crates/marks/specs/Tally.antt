-- The tally at the begin of a reading, and what a change of it leaves.
use Rattle.std.specs.Prelude.{◌≡◌, List, ℕ}
use Rattle.marks.specs.State.{tally_of, notes_of}

-- Nothing is counted yet.
pub record Untallied (O : List ℕ) : Type 0 where
  pub none_entered : (tally_of O).entered ≡ 0
  pub none_tried : (tally_of O).trials ≡ 0

-- The tally is another, and every diagnostic stands as it did.
pub record Tallied (O : List ℕ) (entered trials : ℕ) (O' : List ℕ) : Type 0 where
  pub entered_is : (tally_of O').entered ≡ entered
  pub trials_is : (tally_of O').trials ≡ trials
  pub notes_are : (n : ℕ) → notes_of O' n ≡ notes_of O n
