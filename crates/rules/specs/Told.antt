-- Every name of a tree stands in the text that it was read from, where its word points.
use Rattle.std.specs.Prelude.{◌≡◌, List, ℕ}
use Rattle.keys.specs.Placed.{Placed, void, said, pick, join, tree}
use Rattle.keys.specs.Store.{name_of, pointed}

-- The bytes at which each name of a value points are its spelling.
abbrev pub Told : List ℕ → Placed → Type 0
Told text void = Unit {0}
Told text (said x s) = pointed text (name_of x s) ≡ s
Told text (pick k p) = Told text p
Told text (join p q) = Told text p × Told text q
Told text (tree t first end p) = Told text p
