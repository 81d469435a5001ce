-- What putting a node and linking a child come to.
use Rattle.std.specs.Prelude.{◌≡◌, Bool, true, false, List, [], ◌∷◌, ℕ, ◌+◌, ◌-◌, ◌*◌, ◌^◌, ◌≤◌, ◌<◌, length}
use Rattle.words.specs.Limits.{most_tokens, tallest}
use Rattle.keys.specs.Limits.{record_words, tags, counts}
use Rattle.keys.specs.Placed.{Placed, tree}
use Rattle.keys.specs.Store.{Run, ◌⊕◌}
use Rattle.rules.specs.State.{make, end}
use Rattle.marks.specs.State.{view, given_of, Sound, Fine, Under}
use Rattle.marks.specs.Laid.{heights, run_in, IsNode, Was, was_at, Laid, Built, BuiltAt, Shape}
use Rattle.marks.specs.Says.{Says}
use Rattle.marks.specs.declared.state.Given.{Given}
use Rattle.marks.specs.declared.state.Mark.{Mark}
use Rattle.marks.specs.declared.state.Begin.{Begin}
use Rattle.marks.specs.declared.state.Kids.{Kids}
use Rattle.marks.specs.Told.{Answer}

-- ---- A node

-- A node over children may be put: a sound list, room as told, a mark within what there is, and numbers that a record holds.
abbrev pub MayPut : (W N : List ℕ) (given : Given) (b : Begin) (k : Kids) (m : Mark) → Type 0
MayPut W N given b k m =
    Sound W × (given.room * record_words ≤ length N) × Fine (length W) given m × Under m.used k × (b.first < 2 ^ 32) × (b.name ≤ most_tokens)

-- The same of a node whose one list are its children.
abbrev pub MayPutList : (W N : List ℕ) (given : Given) (b : Begin) (tag : ℕ) (k : Kids) (m : Mark) → Type 0
MayPutList W N given b tag k m =
    Sound W × (given.room * record_words ≤ length N) × Fine (length W) given m × Under m.used k × (b.first < 2 ^ 32) × (b.name ≤ most_tokens) × (tag < tags)

-- The same of a node about the tree that was read last.
abbrev pub MayPutAbout : (W N : List ℕ) (given : Given) (b : Begin) (high : ℕ) (m : Mark) → Type 0
MayPutAbout W N given b high m =
    Sound W × (given.room * record_words ≤ length N) × Fine (length W) given m × (1 ≤ m.used) × (high ≤ tallest) × (b.first < 2 ^ 32) × (b.name ≤ most_tokens)

-- At the same place there is one node more, or a refusal.
pub record Put (given : Given) (m : Mark) (a : Answer) : Type 0 where
  pub at_is : a.m.at ≡ m.at
  pub half_is : a.m.half ≡ m.half
  pub named_is : a.m.named ≡ m.named
  pub noted_is : a.m.noted ≡ m.noted
  pub more : m.used < a.m.used + a.why
  pub roomy : a.m.used ≤ given.room
  pub low : a.high ≤ tallest

-- Over children that stand since B, a node of any shape that fits them is what the rules make.
abbrev pub Makes : (W : List ℕ) (given : Given) (b : Begin) (choices : ℕ) (k : Kids) (m : Mark) (N : List ℕ) (a : Answer) (N' : List ℕ) → Type 0
Makes W given b choices k m N a N' =
    (text : List ℕ) (c : ℕ) (B : Was) (t : Run) (tag : ℕ) (p : Placed) (M O : List ℕ)
    → BuiltAt B t k m N M O → b.name ≡ B.named → Shape c tag p t choices
    → Says c B (make (given_of text W given) [] (tree tag b.first (end (given_of text W given) (view m O)) p) (view m O)) a N' M O

-- The same of a type whose one list are its children.
abbrev pub MakesList : (W : List ℕ) (given : Given) (b : Begin) (tag : ℕ) (k : Kids) (m : Mark) (N : List ℕ) (a : Answer) (N' : List ℕ) → Type 0
MakesList W given b tag k m N a N' =
    (text : List ℕ) (B : Was) (t : Run) (p : Placed) (M O : List ℕ)
    → BuiltAt B t k m N M O → b.name ≡ B.named → Shape 0 tag p t (tag + tags * k.count)
    → Says 0 B (make (given_of text W given) (k.count ∷ []) (tree tag b.first (end (given_of text W given) (view m O)) p) (view m O)) a N' M O

-- The same of a node whose one child is the tree that was read last.
abbrev pub MakesAbout : (W : List ℕ) (given : Given) (b : Begin) (choices high : ℕ) (m : Mark) (N : List ℕ) (a : Answer) (N' : List ℕ) → Type 0
MakesAbout W given b choices high m N a N' = Makes W given b choices (record { first = m.used - 1; count = 1; high = high }) m N a N'

-- ---- A child

-- The tree u, which was read since the children of k stood, is one child more.
abbrev pub Links : (k : Kids) (before used high : ℕ) (N : List ℕ) (r : Kids) (N' : List ℕ) → Type 0
Links k before used high N r N' =
    (c : ℕ) (B : Was) (t : Run) (u : Placed) (N₀ M₀ O₀ M O : List ℕ) (named noted named' noted' : ℕ)
    → Built B t k before named noted N₀ M₀ O₀ → length N₀ ≡ length N
    → IsNode c u → high ≡ heights (run_in c u) → Laid (was_at before named noted N₀ M₀ O₀) (run_in c u) used named' noted' N M O
    → Built B (t ⊕ run_in c u) r used named' noted' N' M O

-- ---- Choices

-- An optional list as choices: its bit, and its count.
abbrev pub opt_list : Bool → ℕ → ℕ
opt_list true count = 1 + 2 * count
opt_list false count = 0

-- How many numbers such choices can be, with a list and without.
abbrev pub list_choices : ℕ
list_choices = 2 * counts

abbrev pub list_scale : Bool → ℕ
list_scale true = list_choices
list_scale false = 2
