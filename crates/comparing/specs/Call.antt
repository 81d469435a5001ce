-- What the call that says what differs promises, over the list that it is lent (02, W9).
use Rattle.std.specs.Prelude.{List, ◌≡◌, ℕ, length, Result, Ok, Err}
use Rattle.words.specs.Refusal.{number_of}
use Rattle.differs.specs.Differ.{no_side, left_side, right_side, Answer, found, no, Differed, differ}
use Rattle.comparing.specs.declared.differ.Undiffered.{Undiffered}
use Rattle.comparing.specs.declared.differ.Whose.{Whose}
use Rattle.comparing.specs.declared.differ.Whose.TheVariants.{Neither, Left, Right}

-- The number of a side.
abbrev pub side_of : Whose → ℕ
side_of Neither = no_side
side_of Left = left_side
side_of Right = right_side

-- What the code answers.
abbrev pub Differing : Type 0
Differing = Result ℕ Undiffered

-- The code's answer in the words of the definitions.
abbrev pub answer_of : Differing → Answer
answer_of (Ok n) = found n
answer_of (Err r) = no (number_of r.why) (side_of r.side) r.bit

-- What the caller sees: the answer, and the final content of the list.
abbrev pub seen : Differing → List ℕ → Differed
seen r l = record { answer = answer_of r; list = l }

-- The call's promise, whatever keys it is given and list it is lent: the caller sees what differs.
abbrev pub Differs : (left right list : List ℕ) → Differing → (after : List ℕ) → Type 0
Differs left right list r after = seen r after ≡ differ (length list) left right
