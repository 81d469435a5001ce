-- What the call that takes a key back promises, over the slices that it is lent ("The two calls", "Refusal numbers").
use Rattle.words.specs.Refusal.{number_of}
use Rattle.std.specs.Prelude.{Result, Ok, Err, ◌≡◌, List, ℕ, length}
use Rattle.std.specs.Borrow.{Bor, MutBor}
use denote.Triple.Both.{Both}
use Rattle.keys.specs.Store.{Answer, back, no, TakenBack, take_back}
use Rattle.taking_back.specs.declared.call.Used.{Used}
use Rattle.key_parts.specs.declared.refusal.Stop.{Stop}

-- A slice at a function's two moments, lent to be read.
abbrev pub Slice : Type 0
Slice = Both (Bor (List ℕ)) (Bor (List ℕ))

-- The same, lent to be written.
abbrev pub Filled : Type 0
Filled = Both (MutBor (List ℕ)) (MutBor (List ℕ))

-- What the code answers.
abbrev pub Taking : Type 0
Taking = Result Used Stop

-- The code's answer in the words of the definitions.
abbrev pub answer_of : Taking → Answer
answer_of (Ok u) = back u.nodes u.names u.letters
answer_of (Err n) = no (number_of n.why) n.bit

-- What the caller sees: the answer, and the final content of every slice.
abbrev pub seen : Taking → (N M X : List ℕ) → TakenBack
seen r N M X = record { answer = answer_of r; node_words = N; name_words = M; text = X }

-- The call's promise, whatever it is given and lent: the caller sees what the call leaves.
abbrev pub TakesBack : (key : Slice) (nodes names text : Filled) → Taking → Type 0
TakesBack key nodes names text r =
    seen r nodes.exit.now names.exit.now text.exit.now
    ≡ take_back key.entry.now (length nodes.entry.now) (length names.entry.now) (length text.entry.now)
