-- How many bytes of a key a value takes at most, whatever its form.
use Rattle.std.specs.Prelude.{ℕ, ◌+◌, length}
use Rattle.keys.specs.Form.{Value, nothing, spelt, choice, pair, node}

-- Two bytes for each choice, each tag and the length of each spelling, and the bytes of the spellings.
abbrev pub weight : Value → ℕ
weight nothing = 0
weight (spelt s) = 2 + length s
weight (choice k v) = 2 + weight v
weight (pair a b) = weight a + weight b
weight (node t v) = 2 + weight v
