-- The key as the output of a walk, and what key out answers.
use Rattle.std.specs.Prelude.{◌≡◌, Bool, List, [], ◌++◌, ℕ, ◌+◌, ◌%◌, ◌^◌, ◌≤◌, min, eqb, length}
use Rattle.words.specs.Test.{◌and◌, ◌or◌}
use Rattle.keys.specs.Bits.{bits_of, bits_of_bytes}
use Rattle.keys.specs.Form.{height, nodes}
use Rattle.keys.specs.Placed.{Placed, bare}
use Rattle.keys.specs.Key.{key_of}
use Rattle.keys.specs.Holds.{Stands}
use Rattle.fields.specs.Put.{Put, fitted}
use Rattle.node_table.specs.Moves.{Output}

-- The key as an output: the bits of a choice, of a spelling's length and bytes, none of a node but what it holds.
abbrev pub key_bits : Output
key_bits =
    record {
      Item = Bool;
      choice = λ w k d. bits_of w k;
      said = λ w m s d. bits_of w (length s) ++ bits_of_bytes s;
      node = λ i d. [];
      under = λ d. d;
      Puts = Put;
    }

-- ---- Nodes that are put at once

-- The word of a reference of one name and no arguments.
abbrev pub one_name : ℕ
one_name = 65

-- The word of a string.
abbrev pub a_string : ℕ
a_string = 3

-- The tag of keywords.
abbrev pub keyword_tag : ℕ
keyword_tag = 2

-- Whether a node of a class is one of them, by its word.
abbrev pub is_once : (class word : ℕ) → Bool
is_once class w = eqb class 0 and (eqb w one_name or eqb w a_string or eqb (w % 64) keyword_tag)

-- The key of every tree that stands in the store with its root there and is not too tall: how many bytes it has, and as many of them as fit, then zeros.
pub record Keyed (N M X : List ℕ) (root tall n r : ℕ) (k : List ℕ) : Type 0 where
  pub long : (p : Placed) → Stands N M X p → root + 1 ≡ nodes (bare p) → height (bare p) ≤ tall → r ≡ min (2 ^ 57) (length (key_of (bare p)))
  pub is : (p : Placed) → Stands N M X p → root + 1 ≡ nodes (bare p) → height (bare p) ≤ tall → k ≡ fitted n (key_of (bare p))
