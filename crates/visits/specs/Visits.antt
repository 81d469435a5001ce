-- Visits as the output of a walk, and what a walk answers.
use Rattle.std.specs.Prelude.{◌≡◌, List, ℕ, ◌+◌, ◌*◌, ◌/◌, ◌≤◌, ◌<◌, min, length, get_or}
use Rattle.std.proofs.lemmas.List.Edits.{sets}
use Rattle.keys.specs.Limits.{visit_wide}
use Rattle.keys.specs.Form.{height, nodes}
use Rattle.keys.specs.Placed.{Placed, bare}
use Rattle.keys.specs.Store.{node_visit, choice_visit, name_visit, visit, visits_of}
use Rattle.keys.specs.Holds.{Stands}
use Rattle.fields.specs.Put.{far, onward, fitted}
use Rattle.node_table.specs.Moves.{Output}

-- The visits of every tree that stands in the store with its root there and is not too tall: how many words they have, and as many of them as fit, then zeros.
pub record Visited (N M : List ℕ) (root tall n r : ℕ) (k : List ℕ) : Type 0 where
  pub long : (X : List ℕ) (p : Placed) → Stands N M X p → root + 1 ≡ nodes (bare p) → height (bare p) ≤ tall → r ≡ min far (length (visits_of p))
  pub is : (X : List ℕ) (p : Placed) → Stands N M X p → root + 1 ≡ nodes (bare p) → height (bare p) ≤ tall → k ≡ fitted n (visits_of p)

-- The visit of a number among words: three words where they are all there, zeros past the last.
pub record VisitAt (ws : List ℕ) (at kind number depth : ℕ) : Type 0 where
  pub there : at < length ws / visit_wide → (kind ≡ get_or ws (at * visit_wide) 0) × (number ≡ get_or ws (at * visit_wide + 1) 0) × (depth ≡ get_or ws (at * visit_wide + 2) 0)
  pub past : length ws / visit_wide ≤ at → (kind ≡ 0) × (number ≡ 0) × (depth ≡ 0)

-- ---- Visits as an output of a walk

-- Words listed at a position: the next position, and the words as they were and are.
pub record Listed (to : ℕ) (ws : List ℕ) (to' : ℕ) (old new : List ℕ) : Type 0 where
  pub short : length old * 8 ≤ far
  pub next : to' ≡ onward to (length ws)
  pub same : length new ≡ length old
  pub is : new ≡ sets old to ws

-- Visits as an output.
abbrev pub visit_words : Output
visit_words =
    record {
      Item = ℕ;
      choice = λ w k d. visit choice_visit k d;
      said = λ w m s d. visit name_visit m d;
      node = λ i d. visit node_visit i d;
      under = λ d. d + 1;
      Puts = Listed;
    }

-- There is a name m; nothing is asked of its spelling.
abbrev pub Named : List ℕ → ℕ → List ℕ → Type 0
Named M m s = m < length M
