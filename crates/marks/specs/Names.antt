-- What reading names comes to.
use Rattle.std.specs.Prelude.{◌≡◌, List, [], ◌∷◌, ◌++◌, ℕ, ◌≤◌, length}
use Rattle.words.specs.Test.{test}
use Rattle.words.specs.Class.{in_class}
use Rattle.words.specs.Word.{start}
use Rattle.words.specs.Check.{spelled}
use Rattle.words.specs.Cursor.{word_at}
use Rattle.keys.specs.Placed.{Spelling}
use Rattle.rules.specs.Refusal.{unexpected}
use Rattle.rules.specs.Names as names
use Rattle.rules.specs.State.{Given, State, Result, read, refused, next, kind, spelling, turns}
use Rattle.marks.specs.State.{AnyGiven, view, given_of, Declined, Sound, Spelt, Inside, Fine, named_mark}
use Rattle.marks.specs.Laid.{Spoken}
use Rattle.marks.specs.declared.state.Mark.{Mark}
use Rattle.marks.specs.Told.{Answer}

-- Names may be read from a mark on: a sound list, the mark within it, and no more names than tokens before it.
abbrev pub MayName : (W : List ℕ) (m : Mark) → Type 0
MayName W m = Sound W × Inside (length W) m × (m.named ≤ m.at)

-- A name may be bound from a mark on: the same, and the mark within what there is.
abbrev pub MayBind : (W : List ℕ) (given : AnyGiven) (m : Mark) → Type 0
MayBind W given m = Sound W × Fine (length W) given m

-- The token at a mark is one name more.
abbrev pub Speaks : (W : List ℕ) (m : Mark) (M M' : List ℕ) → Type 0
Speaks W m M M' = (text : List ℕ) → Spelt text W → Spoken ((start (word_at W m.at), spelled text (word_at W m.at)) ∷ []) m (named_mark m) M M'

-- One name of a class: a binding word's is 0, a name's 1.
abbrev pub one_name : ℕ → Given → State → Result Spelling
one_name class g s = test (in_class class (kind g s)) (λ _. read (spelling g s) (next s)) (λ _. refused unexpected s)

-- Names behind those of l were read, and nothing else was written.
pub record GotDots (l : List Spelling) (x : Result (List Spelling)) (m q : Mark) (M M' O : List ℕ) : Type 0 where
  pub more : List Spelling
  pub is : x ≡ read (l ++ more) (view q O)
  pub spoken : Spoken more m q M M'

-- They were read, or refused.
pub record SaysDots (l : List Spelling) (x : Result (List Spelling)) (why : ℕ) (m q : Mark) (M M' O : List ℕ) : Type 0 where
  pub done : why ≡ 0 → GotDots l x m q M M' O
  pub refused : Declined x why q

-- Dots, each with a name, from a mark on, behind any names l.
abbrev pub StartsDots : (W : List ℕ) (m : Mark) (M : List ℕ) (a : Answer) (M' : List ℕ) → Type 0
StartsDots W m M a M' =
    (text O : List ℕ) (given : AnyGiven) (l : List Spelling) → Spelt text W
    → SaysDots l (names.dots_from (given_of text W given) (turns (given_of text W given)) l (view m O)) a.why m a.m M M' O
