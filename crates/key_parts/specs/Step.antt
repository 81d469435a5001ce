-- What a step of a node's walk answers, and what it leaves in the outputs (01, The two calls; Refusal numbers).
use Rattle.std.specs.Prelude.{◌≡◌, List, ℕ, ◌+◌, ◌-◌, ◌*◌, ◌^◌, ◌≤◌, ◌<◌, length, Result, IfOk, IfErr}
use Rattle.keys.specs.Bits.{Bits, bits_of_bytes}
use Rattle.keys.specs.Form.{Form, State}
use Rattle.keys.specs.Limits.{longest_key, record_words, choices_wide}
use Rattle.keys.specs.Store.{Run, done, kid, ◌⊕◌}
use Rattle.keys.specs.Stored.{Base, base, Stored, Own}
use Rattle.node_table.specs.Forms.{form_of, form_by, entry_of, spelling_if, table_most}
use Rattle.node_table.specs.declared.forms.Row.{Row}
use Rattle.key_parts.specs.Runs.{Ran, after, form_run}
use Rattle.key_parts.specs.Place.{state_at, Inside, Halts, fill_at, Lent, Filled, bits_in, long}
use Rattle.key_parts.specs.Spelling.{Gone}
use Rattle.key_parts.specs.Widths.{Spans, Sized}
use Rattle.key_parts.specs.declared.place.Pos.{Pos}
use Rattle.key_parts.specs.declared.place.Fill.{Fill}
use Rattle.key_parts.specs.declared.refusal.Stop.{Stop}

-- A place inside a node: its choices fit their word, its numbers the table.
pub record Steady (bs : Bits) (lm lx : ℕ) (s : Fill) : Type 0 where
  pub inside : Inside bs lm lx s.at
  pub small : s.word < 2 ^ s.shift
  pub narrow : s.shift ≤ choices_wide
  pub in_table : s.form < table_most
  pub few : s.n < table_most

-- The same of its nodes, of which there are ln words: one is kept for the node itself.
pub record Housed (ln : ℕ) (s : Fill) : Type 0 where
  pub above : s.base ≤ s.at.used
  pub nodes_fit : (s.at.used + s.at.nodes + 1) * record_words ≤ ln
  pub in_nodes : s.child * record_words ≤ ln

-- The walk at another place, with another first child.
abbrev pub with_child : Fill → Pos → ℕ → Fill
with_child s p x = record { at = p; base = s.base; word = s.word; shift = s.shift; child = x; form = s.form; n = s.n }

-- The walk at another place, with another form to come.
abbrev pub fill_on : Fill → Pos → (form n : ℕ) → Fill
fill_on s p f n = record { at = p; base = s.base; word = s.word; shift = s.shift; child = s.child; form = f; n = n }

-- ---- Steps

-- From s to s' the node was filled with the run u, and the form f became f'.
pub record Went (bs : Bits) (lm lx : ℕ) (Y : ℕ → State → Ran) (f f' : Form) (s : Fill) (N M X : List ℕ) (s' : Fill) (N' M' X' : List ℕ) : Type 0 where
  pub steady : Steady bs lm lx s'
  pub housed : Housed (length N) s → Housed (length N') s'
  pub spans : Spans f' (choices_wide - s'.shift)
  pub base_same : s'.base ≡ s.base
  pub total : s'.at.used + s'.at.nodes ≡ s.at.used + s.at.nodes
  pub nodes_same : length N' ≡ length N
  pub names_same : length M' ≡ length M
  pub text_same : length X' ≡ length X
  pub run : Run
  pub same : form_run lx Y f (state_at bs lm lx s.at) ≡ after run (form_run lx Y f' (state_at bs lm lx s'.at))
  pub fill : (B : Base) (t : Run) → B.used ≡ s.base → Stored B t N M X s.at.used s.at.names s.at.chars → Own B t s.word s.shift s.child
      → Stored B (t ⊕ run) N' M' X' s'.at.used s'.at.names s'.at.chars × Own B (t ⊕ run) s'.word s'.shift s'.child

-- A step that goes into no child: refused, or gone on.
pub record PlainIn (bs : Bits) (lm lx : ℕ) (T : List ℕ) (steps : ℕ) (r : Row) (s : Fill) (M X : List ℕ) (q : Result Fill Stop) (M' X' : List ℕ) : Type 0 where
  pub names_same : length M' ≡ length M
  pub text_same : length X' ≡ length X
  pub stopped : IfErr q λ e. (Y : ℕ → State → Ran) → Halts bs (form_run lx Y (form_by T (form_of T steps) s.n (entry_of r) r.op) (state_at bs lm lx s.at)) e
  pub went : IfOk q λ s'. (Y : ℕ → State → Ran) (N : List ℕ)
      → Went bs lm lx Y (form_by T (form_of T steps) s.n (entry_of r) r.op) (form_of T steps s'.n s'.form) s N M X s' N M' X'

-- The walk after a child that stands last in the nodes: x is the first child now.
pub record Linked (N : List ℕ) (s : Fill) (p : Pos) (q : Fill) (N' : List ℕ) : Type 0 where
  pub same : length N' ≡ length N
  pub child : ℕ
  pub is : q ≡ with_child s p child
  pub small : child * record_words ≤ length N
  pub grew : (B : Base) (t a : Run) (N₀ M₀ X₀ M X : List ℕ) → B.used ≡ s.base → length N₀ ≡ length N
      → Stored B t N₀ M₀ X₀ s.at.used s.at.names s.at.chars → Own B t s.word s.shift s.child
      → Stored (base N₀ M₀ X₀ s.at.used s.at.names s.at.chars) (kid 0 0 a done) N M X p.used p.names p.chars
      → Stored B (t ⊕ kid 0 0 a done) N' M X p.used p.names p.chars × Own B (t ⊕ kid 0 0 a done) s.word s.shift child

-- The walk after the spelling that may follow a child: refused, or gone on.
pub record AfterIn (bs : Bits) (lm lx w : ℕ) (s : Fill) (M X : List ℕ) (r : Result Fill Stop) (M' X' : List ℕ) : Type 0 where
  pub names_same : length M' ≡ length M
  pub text_same : length X' ≡ length X
  pub stopped : IfErr r λ e. (g : Form) (Y : ℕ → State → Ran) → Halts bs (form_run lx Y (spelling_if w g) (state_at bs lm lx s.at)) e
  pub gone : IfOk r λ q. (q ≡ fill_at s q.at) × ((g : Form) → Gone bs lm lx (spelling_if w g) g s.at M X q.at M' X')

-- ---- What is asked, and what is answered over what is lent

-- A place inside a node, whose row is no end and no row of nodes, and whose choices fit.
abbrev pub AsksPlain : (forms key names text : List ℕ) (steps : ℕ) (r : Row) (s : Fill) → Type 0
AsksPlain forms key names text steps r s =
    (length key ≤ longest_key) × Steady (bits_of_bytes key) (length names) (length text) s × Sized r × (r.op ≡ 1 → ⊥) × (r.op ≡ 3 → ⊥)
    × Spans (form_by forms (form_of forms steps) s.n (entry_of r) r.op) (choices_wide - s.shift)

abbrev pub TakesPlain : (forms key : Lent) (names text : Filled) (steps : ℕ) (r : Row) (s : Fill) (q : Result Fill Stop) → Type 0
TakesPlain forms key names text steps r s q =
    PlainIn (bits_in key) (long names) (long text) forms.entry.now steps r s names.entry.now text.entry.now q names.exit.now text.exit.now

abbrev pub TakesAfter : (key : Lent) (names text : Filled) (w : ℕ) (s : Fill) (q : Result Fill Stop) → Type 0
TakesAfter key names text w s q =
    AfterIn (bits_in key) (long names) (long text) w s names.entry.now text.entry.now q names.exit.now text.exit.now
