-- When the bytes of a tree's nodes stand as they should.
use Rattle.std.specs.Prelude.{ℕ, ◌≤◌, ◌<◌}
use Rattle.keys.specs.Placed.{Placed, void, said, pick, join, tree}

-- where the last node of p ends; a where there is none
abbrev pub after : ℕ → Placed → ℕ
after a void = a
after a (said x s) = a
after a (pick k p) = after a p
after a (join p q) = after (after a p) q
after a (tree t first end p) = end

-- From byte a on: a node's first byte is below its end byte, what it holds lies inside of it, and of two values the second begins no earlier than the first ends.
abbrev pub InOrder : ℕ → Placed → Type 0
InOrder a void = Unit {0}
InOrder a (said x s) = Unit {0}
InOrder a (pick k p) = InOrder a p
InOrder a (join p q) = InOrder a p × InOrder (after a p) q
InOrder a (tree t first end p) = (a ≤ first) × (first < end) × InOrder first p × (after first p ≤ end)
