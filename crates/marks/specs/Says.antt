-- What the functions answer: what the rules read, and that it stands in the slices; or the rules' refusal.
use Rattle.std.specs.Prelude.{◌≡◌, Bool, true, false, List, [], ◌∷◌, ℕ}
use Rattle.keys.specs.Bits.{unit}
use Rattle.keys.specs.Placed.{Placed, Spelling, Opt, absent, present}
use Rattle.keys.specs.Store.{Run, ◌⊕◌}
use Rattle.rules.specs.State as rule
use Rattle.rules.specs.State.{State, Result, read}
use Rattle.rules.specs.List.{count}
use Rattle.marks.specs.State.{view, given_of, Spelt, Declined}
use Rattle.marks.specs.Laid.{run_in, run_opt, opt_bit, runs_opt, name_run, IsNode, IsOpt, AllOpt, Was, was, Laid, BuiltAt, Stands, Spoken}
use Rattle.marks.specs.declared.state.Given.{Given}
use Rattle.marks.specs.declared.state.Mark.{Mark}
use Rattle.marks.specs.declared.state.Kids.{Kids}
use Rattle.marks.specs.Told.{Answer}
use Rattle.marks.specs.Told.{Head}
use Rattle.marks.specs.Told.{Listed}

-- ---- A tree

-- It was read, and stands since B.
pub record Got (c : ℕ) (B : Was) (x : Result Placed) (high : ℕ) (m : Mark) (N M O : List ℕ) : Type 0 where
  pub tree : Placed
  pub is : x ≡ read tree (view m O)
  pub stands : Stands c B tree high m N M O

-- It was read, or refused.
pub record Says (c : ℕ) (B : Was) (x : Result Placed) (a : Answer) (N M O : List ℕ) : Type 0 where
  pub done : a.why ≡ 0 → Got c B x a.high a.m N M O
  pub refused : Declined x a.why a.m

-- A rule that begins at a mark: what it reads, from any text that is spelled so.
abbrev pub Starts : (c : ℕ) (rule : rule.Given → State → Result Placed) (W : List ℕ) (given : Given) (m : Mark) (N M O : List ℕ) (a : Answer) (N' M' O' : List ℕ) → Type 0
Starts c rule W given m N M O a N' M' O' = (text : List ℕ) → Spelt text W → Says c (was m N M O) (rule (given_of text W given) (view m O)) a N' M' O'

-- ---- A type that is one child more

-- It was read, and stands behind the run t.
pub record GotChild (B : Was) (t : Run) (x : Result Placed) (k : Kids) (m : Mark) (N M O : List ℕ) : Type 0 where
  pub tree : Placed
  pub is : x ≡ read tree (view m O)
  pub is_node : IsNode 0 tree
  pub built : BuiltAt B (t ⊕ run_in 0 tree) k m N M O

pub record SaysChild (B : Was) (t : Run) (x : Result Placed) (l : Listed) (N M O : List ℕ) : Type 0 where
  pub done : l.why ≡ 0 → GotChild B t x l.kids l.m N M O
  pub refused : Declined x l.why l.m

-- The same of a type that may be absent.
pub record GotOption (B : Was) (t : Run) (x : Result (Opt Placed)) (there : Bool) (k : Kids) (m : Mark) (N M O : List ℕ) : Type 0 where
  pub tree : Opt Placed
  pub is : x ≡ read tree (view m O)
  pub is_opt : IsOpt 0 tree
  pub there_is : unit there ≡ opt_bit tree
  pub built : BuiltAt B (t ⊕ run_opt 0 tree) k m N M O

pub record SaysOption (B : Was) (t : Run) (x : Result (Opt Placed)) (l : Listed) (N M O : List ℕ) : Type 0 where
  pub done : l.why ≡ 0 → GotOption B t x l.there l.kids l.m N M O
  pub refused : Declined x l.why l.m

-- ---- Names

-- From m to q names were read, and nothing else was written; what was read is such.
pub record GotNames {A : Type 0} (R : A → List Spelling) (P : A → Type 0) (x : Result A) (m q : Mark) (M M' O : List ℕ) : Type 0 where
  pub what : A
  pub is : x ≡ read what (view q O)
  pub such : P what
  pub spoken : Spoken (R what) m q M M'

pub record SaysNames {A : Type 0} (R : A → List Spelling) (P : A → Type 0) (x : Result A) (why : ℕ) (m q : Mark) (M M' O : List ℕ) : Type 0 where
  pub done : why ≡ 0 → GotNames R P x m q M M' O
  pub refused : Declined x why q

-- A rule that begins at a mark and reads names alone: what it reads, from any text that is spelled so.
abbrev pub StartsNames : {A : Type 0} (R : A → List Spelling) (P : A → Type 0) (rule : rule.Given → State → Result A) (W : List ℕ) (m : Mark) (M : List ℕ) (why : ℕ) (q : Mark) (M' : List ℕ) → Type 0
StartsNames R P rule W m M why q M' = (text O : List ℕ) (given : Given) → Spelt text W → SaysNames R P (rule (given_of text W given) (view m O)) why m q M M' O

-- Nothing is asked of what was read.
abbrev pub Any : {A : Type 0} → A → Type 0
Any a = Unit {0}

-- One name.
abbrev pub one : Spelling → List Spelling
one s = s ∷ []

-- No names.
abbrev pub no_names : {A : Type 0} → A → List Spelling
no_names a = []

-- The name of a part that may be absent.
abbrev pub opt_names : Opt Spelling → List Spelling
opt_names absent = []
opt_names (present s) = s ∷ []

-- From m to q one name was read, and nothing but it and diagnostics was written.
pub record GotBound (x : Result Spelling) (m q : Mark) (M O M' O' : List ℕ) : Type 0 where
  pub name : Spelling
  pub is : x ≡ read name (view q O')
  pub spoken : (B : Was) (t : Run) (N : List ℕ) → Laid B t m.used m.named m.noted N M O → Laid B (t ⊕ name_run name) q.used q.named q.noted N M' O'

-- It was read, or refused.
pub record SaysBound (x : Result Spelling) (m : Mark) (M O : List ℕ) (a : Answer) (M' O' : List ℕ) : Type 0 where
  pub done : a.why ≡ 0 → GotBound x m a.m M O M' O'
  pub refused : Declined x a.why a.m

-- A rule that begins at a mark and reads one name: what it reads, from any text that is spelled so.
abbrev pub StartsBound : (rule : rule.Given → State → Result Spelling) (W : List ℕ) (given : Given) (m : Mark) (M O : List ℕ) (a : Answer) (M' O' : List ℕ) → Type 0
StartsBound rule W given m M O a M' O' = (text : List ℕ) → Spelt text W → SaysBound (rule (given_of text W given) (view m O)) m M O a M' O'

-- Only the cursor moved: a number was read, or refused.
pub record SaysNumber (x : Result ℕ) (h : Head) (O : List ℕ) : Type 0 where
  pub done : h.why ≡ 0 → x ≡ read h.choices (view h.m O)
  pub refused : Declined x h.why h.m

-- ---- Lists

-- Whether an optional list is there.
abbrev pub is_there : Opt (List Placed) → Bool
is_there absent = false
is_there (present l) = true

-- An optional list of trees of a class was read, and its entries stand behind the run t.
pub record GotList (c : ℕ) (B : Was) (t : Run) (x : Result (Opt (List Placed))) (there : Bool) (k : Kids) (m : Mark) (N M O : List ℕ) : Type 0 where
  pub list : Opt (List Placed)
  pub is : x ≡ read list (view m O)
  pub there_is : there ≡ is_there list
  pub count_is : k.count ≡ count list
  pub each : AllOpt c list
  pub built : BuiltAt B (t ⊕ runs_opt c list) k m N M O

pub record SaysList (c : ℕ) (B : Was) (t : Run) (x : Result (Opt (List Placed))) (l : Listed) (N M O : List ℕ) : Type 0 where
  pub done : l.why ≡ 0 → GotList c B t x l.there l.kids l.m N M O
  pub refused : Declined x l.why l.m
