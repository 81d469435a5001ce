-- What taking spellings answers, and what it leaves in the outputs (01, The two calls; Refusal numbers).
use Rattle.std.specs.Prelude.{◌≡◌, List, ℕ, ◌≤◌, length, Result, IfOk, IfErr}
use Rattle.keys.specs.Bits.{Bits, bits_of_bytes}
use Rattle.keys.specs.Form.{Form, word, both, State}
use Rattle.keys.specs.Limits.{longest_key, widest}
use Rattle.keys.specs.Store.{Run, ◌⊕◌}
use Rattle.keys.specs.Stored.{Base, Stored, Own}
use Rattle.node_table.specs.Forms.{spellings_then}
use Rattle.key_parts.specs.Runs.{Ran, after, form_run}
use Rattle.key_parts.specs.Place.{state_at, Inside, Halts, Lent, Filled, bits_in, long}
use Rattle.key_parts.specs.declared.place.Pos.{Pos}
use Rattle.key_parts.specs.declared.refusal.Stop.{Stop}

-- From p to q names were stored, which are the run u: nothing but names and text has changed.
pub record Named (bs : Bits) (lm lx : ℕ) (p : Pos) (M X : List ℕ) (q : Pos) (M' X' : List ℕ) (u : Run) : Type 0 where
  pub inside : Inside bs lm lx q
  pub used : q.used ≡ p.used
  pub nodes : q.nodes ≡ p.nodes
  pub stored : (B : Base) (t : Run) (N : List ℕ) → Stored B t N M X p.used p.names p.chars → Stored B (t ⊕ u) N M' X' q.used q.names q.chars
  pub own : (B : Base) (t : Run) (a b c : ℕ) → Own B t a b c → Own B (t ⊕ u) a b c

-- Some form at p is the form g at q with a run of names before it.
pub record Gone (bs : Bits) (lm lx : ℕ) (f g : Form) (p : Pos) (M X : List ℕ) (q : Pos) (M' X' : List ℕ) : Type 0 where
  pub run : Run
  pub went : (Y : ℕ → State → Ran) → form_run lx Y f (state_at bs lm lx p) ≡ after run (form_run lx Y g (state_at bs lm lx q))
  pub left : Named bs lm lx p M X q M' X' run

-- Some form at p is refused, or it is the form g further on.
pub record NamesIn (bs : Bits) (lm lx : ℕ) (f g : Form) (p : Pos) (M X : List ℕ) (r : Result Pos Stop) (M' X' : List ℕ) : Type 0 where
  pub names_same : length M' ≡ length M
  pub text_same : length X' ≡ length X
  pub stopped : IfErr r λ e. (Y : ℕ → State → Ran) → Halts bs (form_run lx Y f (state_at bs lm lx p)) e
  pub gone : IfOk r λ q. Gone bs lm lx f g p M X q M' X'

-- A spelling, and then any form.
abbrev pub SpellingIn : (bs : Bits) (lm lx w : ℕ) (p : Pos) (M X : List ℕ) (q : Result Pos Stop) (M' X' : List ℕ) → Type 0
SpellingIn bs lm lx w p M X q M' X' = (g : Form) → NamesIn bs lm lx (both (word w) g) g p M X q M' X'

-- n spellings, and then any form.
abbrev pub SpellingsIn : (bs : Bits) (lm lx w n : ℕ) (p : Pos) (M X : List ℕ) (q : Result Pos Stop) (M' X' : List ℕ) → Type 0
SpellingsIn bs lm lx w n p M X q M' X' = (g : Form) → NamesIn bs lm lx (spellings_then n w g) g p M X q M' X'

-- ---- What is asked, and what is answered over what is lent

-- A place inside a key that is not too long, with spellings whose lengths have w bits.
abbrev pub AsksSpelling : (key names text : List ℕ) (w : ℕ) (p : Pos) → Type 0
AsksSpelling key names text w p = (length key ≤ longest_key) × (w ≤ widest) × Inside (bits_of_bytes key) (length names) (length text) p

abbrev pub TakesSpelling : (key : Lent) (names text : Filled) (w : ℕ) (p : Pos) (q : Result Pos Stop) → Type 0
TakesSpelling key names text w p q =
    SpellingIn (bits_in key) (long names) (long text) w p names.entry.now text.entry.now q names.exit.now text.exit.now

abbrev pub TakesSpellings : (key : Lent) (names text : Filled) (w n : ℕ) (p : Pos) (q : Result Pos Stop) → Type 0
TakesSpellings key names text w n p q =
    SpellingsIn (bits_in key) (long names) (long text) w n p names.entry.now text.entry.now q names.exit.now text.exit.now
