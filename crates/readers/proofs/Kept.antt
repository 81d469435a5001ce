-- What a loop of the ring keeps of slices and mark.
use mathlib.Core.Path.{◌≡◌}
use mathlib.Core.List.{List}
use Prim.Native.Nat.{ℕ, ◌≤◌}
use lib.ListN.{length}
use Rattle.marks.specs.State.{Fine, place_of}
use Rattle.marks.specs.declared.state.Given.{Given}
use Rattle.marks.specs.declared.state.Mark.{Mark}

-- The slices are as long as they were, and the mark went on from p₀ within what there is.
pub record Kept (len : ℕ) (given : Given) (N₀ M₀ : List ℕ) (p₀ : Mark) (N M : List ℕ) (p : Mark) : Type 0 where
  pub nodes : length N ≡ length N₀
  pub names : length M ≡ length M₀
  pub onward : place_of p₀ ≤ place_of p
  pub more : p₀.used ≤ p.used
  pub fine : Fine len given p
