-- The node of an array.
use Rattle.std.specs.Prelude.{◌≡◌, List, [], ℕ}
use Rattle.keys.specs.Placed as node
use Rattle.keys.specs.Placed.{Placed}
use Rattle.rules.specs.State.{end, make}
use Rattle.marks.specs.State.{view, given_of}
use Rattle.marks.specs.Laid.{Was, Stands}
use Rattle.marks.specs.Says.{Says}
use Rattle.parts.specs.Mapped.{close_square}
use Rattle.marks.specs.declared.state.Given.{Given}
use Rattle.marks.specs.declared.state.Mark.{Mark}
use Rattle.marks.specs.declared.state.Begin.{Begin}
use Rattle.marks.specs.Told.{Answer}

-- Over its element, which stands since B, the array that the rules make once its `]` is passed.
abbrev pub MakesArray : (W : List ℕ) (given : Given) (b : Begin) (high : ℕ) (m : Mark) (N : List ℕ) (a : Answer) (N' : List ℕ) → Type 0
MakesArray W given b high m N a N' =
    (text : List ℕ) (B : Was) (t : Placed) (M O : List ℕ) → Stands 0 B t high m N M O → b.name ≡ B.named
    → Says 0 B (close_square (given_of text W given) (view m O) λ q. make (given_of text W given) [] (node.array b.first (end (given_of text W given) q) t) q) a N' M O
