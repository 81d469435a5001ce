-- Forms in line, the runs that they have, and the bits of a run.
use Rattle.std.specs.Prelude.{List, [], ◌++◌, ℕ, suc, max, length}
use Rattle.keys.specs.Bits.{Bits, bits_of, bits_of_bytes}
use Rattle.keys.specs.Form.{Form, never, one, word, choose, both, child, Grammar, width, wider, branch, left, right, class}
use Rattle.keys.specs.Store.{Run, done, chose, name, kid}

-- ---- Forms in line: one field, and then the others

-- A form and then another: its fields in a row, each choice with all that comes after it.
abbrev pub in_line : Form → Form → Form
in_line never g = never
in_line one g = g
in_line (word w) g = both (word w) g
in_line (choose w x fs) g = choose w x (λ k. in_line (fs k) g)
in_line (both f h) g = in_line f (in_line h g)
in_line (child c) g = both (child c) g

-- A node table with its rows in line.
abbrev pub lined : Grammar → Grammar
lined G = record { tag_width = G.tag_width; row = λ c t. in_line (G.row c t) one }

-- ---- Runs of a form in line

module _ (G : Grammar) where
  -- The tag of a class, and what it leads to.
  abbrev pub tagged : ℕ → Form
  tagged c = choose (G.tag_width c) 0 (G.row c)

  -- A run that a form in line has.
  pub data Of : Form → Run → Type 0 where
    of_one : Of one done
    of_word : {w x : ℕ} {s : List ℕ} {g : Form} {r : Run} → Of g r → Of (both (word w) g) (name x s r)
    of_choose : {w x k : ℕ} {fs : ℕ → Form} {r : Run} → Of (fs k) r → Of (choose w x fs) (chose (wider w x) k r)
    of_child : {c first end : ℕ} {g : Form} {a r : Run} → Of (tagged c) a → Of g r → Of (both (child c) g) (kid first end a r)

-- How many nodes stand one above the other under a node.
abbrev pub levels : Run → ℕ
levels done = 0
levels (chose w k r) = levels r
levels (name x s r) = levels r
levels (kid first end a r) = max (suc (levels a)) (levels r)

-- The bits of a run of a form in line.
abbrev pub written : Grammar → Form → Run → Bits
written G f done = []
written G f (chose w k r) = bits_of (width f) k ++ written G (branch f k) r
written G f (name x s r) = (bits_of (width (left f)) (length s) ++ bits_of_bytes s) ++ written G (right f) r
written G f (kid first end a r) = written G (tagged G (class (left f))) a ++ written G (right f) r
