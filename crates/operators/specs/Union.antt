-- Unions and intersections: what the last part and those before it come to.
use Rattle.std.specs.Prelude.{◌≡◌, Bool, true, false, not, List, ℕ, ◌+◌, ◌≤◌, eqb}
use Rattle.words.specs.Test.{◌and◌}
use Rattle.words.specs.Limits.{tallest}
use Rattle.words.specs.Cursor.{first_byte}
use Rattle.marks.specs.Node.{Links, MakesList}
use Rattle.marks.specs.List.{here}
use Rattle.marks.specs.declared.state.Given.{Given}
use Rattle.marks.specs.declared.state.Mark.{Mark}
use Rattle.marks.specs.declared.state.Begin.{Begin}
use Rattle.marks.specs.declared.state.Kids.{Kids}
use Rattle.marks.specs.Told.{Answer}

-- A part is alone behind those before it: there are none, and no mark stood before it.
abbrev pub is_alone : (W : List ℕ) (mark : ℕ) (k : Kids) (m : Mark) → Bool
is_alone W mark k m = eqb k.count 0 and not (here W mark m)

-- The last part is alone, if none stood before it and no mark either; else it is linked, and the node over all of them is put.
pub data Joins (W : List ℕ) (given : Given) (mark tag : ℕ) (k : Kids) (before : ℕ) (m : Mark) (N : List ℕ) (a r : Answer) (N' : List ℕ) : Type 0 where
  alone : is_alone W mark k m ≡ true → r ≡ a → N' ≡ N → Joins W given mark tag k before m N a r N'
  joins : is_alone W mark k m ≡ false → (b : Begin) → b.first ≡ first_byte W m.at m.half → b.name ≡ m.named
      → (l : Kids) (N₁ : List ℕ) → Links k before a.m.used a.high N l N₁ → l.count ≡ k.count + 1
      → MakesList W given b tag l a.m N₁ r N' → Joins W given mark tag k before m N a r N'

-- At the same place there may be one node more, or a refusal.
pub record JoinedAt (given : Given) (a r : Answer) : Type 0 where
  pub at_is : r.m.at ≡ a.m.at
  pub half_is : r.m.half ≡ a.m.half
  pub named_is : r.m.named ≡ a.m.named
  pub noted_is : r.m.noted ≡ a.m.noted
  pub more : a.m.used ≤ r.m.used + r.why
  pub roomy : r.m.used ≤ given.room
  pub low : r.high ≤ tallest
