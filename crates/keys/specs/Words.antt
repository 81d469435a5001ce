-- The part of the lent words that is used: the first n nodes, the first n names (01, The two calls).
use Rattle.std.specs.Prelude.{List, ℕ, ◌*◌, take}
use Rattle.keys.specs.Limits.{record_words}

-- The words of the first n nodes.
unfoldable pub first_nodes : List ℕ → ℕ → List ℕ
first_nodes words n = take (record_words * n) words

-- The words of the first n names.
unfoldable pub first_names : List ℕ → ℕ → List ℕ
first_names words n = take n words
