-- What became of a trial, and the node of an infer.
use Rattle.std.specs.Prelude.{◌≡◌, Bool, true, false, List, [], ℕ, ◌*◌, ◌^◌, ◌≤◌, ◌<◌, length}
use Rattle.words.specs.Limits.{most_tokens, tallest}
use Rattle.keys.specs.Limits.{record_words}
use Rattle.keys.specs.Placed as node
use Rattle.keys.specs.Placed.{Placed, Spelling, absent, present}
use Rattle.keys.specs.Store.{◌⊕◌}
use Rattle.rules.specs.State.{next, end, make}
use Rattle.rules.specs.Names.{bound}
use Rattle.marks.specs.State.{view, given_of, Sound, Fine, place_of}
use Rattle.marks.specs.Laid.{heights, run_in, name_run, IsNode, Was, Laid}
use Rattle.marks.specs.Says.{Says, StartsBound}
use Rattle.marks.specs.declared.state.Given.{Given}
use Rattle.marks.specs.declared.state.Mark.{Mark}
use Rattle.marks.specs.declared.state.Begin.{Begin}
use Rattle.marks.specs.Told.{Answer}

-- The name behind the infer at m.
abbrev pub StartsInfer : (W : List ℕ) (given : Given) (m : Mark) (M O : List ℕ) (a : Answer) (M' O' : List ℕ) → Type 0
StartsInfer W given m M O a M' O' = StartsBound (λ g s. bound g (next s)) W given m M O a M' O'

-- The node may be put after a trial from m to q, which read a tree of a height.
abbrev pub MayPutInfer : (W N : List ℕ) (given : Given) (b : Begin) (high : ℕ) (m q : Mark) → Type 0
MayPutInfer W N given b high m q =
    Sound W × (given.room * record_words ≤ length N) × Fine (length W) given m × Fine (length W) given q × (place_of m ≤ place_of q) × (m.used < q.used)
    × (high ≤ tallest) × (b.first < 2 ^ 32) × (b.name ≤ most_tokens)

-- Over a name, and a constraint of a height if the trial was not dropped, the node that the rules make; the slices may hold more behind a dropped trial.
abbrev pub Infers : (W : List ℕ) (given : Given) (b : Begin) (dropped : Bool) (high : ℕ) (m q : Mark) (N : List ℕ) (a : Answer) (N' : List ℕ) → Type 0
Infers W given b true high m q N a N' =
    (text : List ℕ) (B : Was) (s : Spelling) (M O : List ℕ) → b.name ≡ B.named
    → Laid B (name_run s) m.used m.named m.noted N M O
    → Says 0 B (make (given_of text W given) [] (node.infer b.first (end (given_of text W given) (view m O)) s absent) (view m O)) a N' M O
Infers W given b false high m q N a N' =
    (text : List ℕ) (B : Was) (s : Spelling) (u : Placed) (M O : List ℕ) → b.name ≡ B.named
    → IsNode 0 u → high ≡ heights (run_in 0 u) → Laid B (name_run s ⊕ run_in 0 u) q.used q.named q.noted N M O
    → Says 0 B (make (given_of text W given) [] (node.infer b.first (end (given_of text W given) (view q O)) s (present u)) (view q O)) a N' M O
