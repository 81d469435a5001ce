-- How wide the choices of forms and rows are.
use Rattle.std.specs.Prelude.{List, ℕ, ◌-◌, ◌≤◌, ◌<◌}
use Rattle.keys.specs.Form.{Form, never, one, word, choose, both, child, wider}
use Rattle.keys.specs.Limits.{widest, choices_wide}
use Rattle.node_table.specs.Forms.{class_at, grammar_of, Narrow, table_most}
use Rattle.node_table.specs.declared.forms.Row.{Row}

-- How many bits the choices of a form in line have: at most n.
abbrev pub Spans : Form → ℕ → Type 0
Spans never n = Unit {0}
Spans one n = Unit {0}
Spans (word w) n = Unit {0}
Spans (choose w x fs) n = (wider w x ≤ n) × ((k : ℕ) → Spans (fs k) (n - wider w x))
Spans (both f g) n = Spans g n
Spans (child c) n = Unit {0}

-- The table's choices fit: each in 24 bits, all of a node's in 60.
pub record Slim (T : List ℕ) : Type 0 where
  pub narrow : Narrow T
  pub rows : (c t : ℕ) → Spans ((grammar_of T).row c t) (choices_wide - (class_at T c).w)

-- What a row that was read has: widths to 24 bits, numbers that fit the table.
pub record Sized (r : Row) : Type 0 where
  pub w : r.w ≤ widest
  pub a : r.a < table_most
  pub b : r.b < table_most
