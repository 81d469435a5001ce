-- What each function that takes a key back answers, and what it leaves in the outputs (01, The two calls; Refusal numbers).
use Rattle.std.specs.Prelude.{◌≡◌, List, ℕ, ◌+◌, ◌-◌, ◌*◌, ◌/◌, ◌≤◌, ◌<◌, eqb, length, take, Result, Ok, Err, IfOk, IfErr}
use Rattle.keys.specs.Bits.{Bits, bits_of_bytes}
use Rattle.keys.specs.Form.{Value, nodes, names, letters, Form, Grammar}
use Rattle.keys.specs.Limits.{longest_key, record_words, no_space, choices_wide}
use Rattle.keys.specs.Placed.{laid}
use Rattle.keys.specs.Key.{taken, refused, refusal_place, take_key}
use Rattle.keys.specs.Store.{Run, done, kid, nodes_of, names_of, text_of, TakenBack, take_back}
use Rattle.keys.specs.Store as store
use Rattle.keys.specs.Words.{first_nodes, first_names}
use Rattle.keys.specs.Stored.{base, Stored}
use Rattle.node_table.specs.Forms.{grammar_of, nodes_then, table_most}
use Rattle.node_table.specs.declared.forms.Row.{Row}
use Rattle.words.specs.Refusal.{number_of}
use Rattle.key_parts.specs.Runs.{ran, form_run, node_run}
use Rattle.key_parts.specs.Place.{state_at, Inside, Halts, Lent, Filled, bits_in, long}
use Rattle.key_parts.specs.Widths.{Spans, Slim, Sized}
use Rattle.key_parts.specs.Step.{Steady, Housed, Went}
use Rattle.key_in.specs.declared.back.Outputs.{Outputs}
use Rattle.key_parts.specs.declared.place.Pos.{Pos}
use Rattle.key_parts.specs.declared.place.Fill.{Fill}
use Rattle.key_parts.specs.declared.refusal.Stop.{Stop}

-- ---- Nodes

-- The node that was taken is a child, and beyond what stood there the outputs hold it.
pub record Grown (bs : Bits) (lm lx : ℕ) (G : Grammar) (left c : ℕ) (p : Pos) (N M X : List ℕ) (q : Pos) (N' M' X' : List ℕ) : Type 0 where
  pub run : Run
  pub is : node_run lx G left c (state_at bs lm lx p) ≡ ran (kid 0 0 run done) (state_at bs lm lx q)
  pub stored : Stored (base N M X p.used p.names p.chars) (kid 0 0 run done) N' M' X' q.used q.names q.chars
  pub total : q.used + q.nodes ≡ p.used + p.nodes
  pub inside : Inside bs lm lx q

-- A node: refused, or taken.
pub record NodeIn (bs : Bits) (lm lx : ℕ) (G : Grammar) (left c : ℕ) (p : Pos) (N M X : List ℕ) (r : Result Pos Stop) (N' M' X' : List ℕ) : Type 0 where
  pub nodes_same : length N' ≡ length N
  pub names_same : length M' ≡ length M
  pub text_same : length X' ≡ length X
  pub stopped : IfErr r λ e. Halts bs (node_run lx G left c (state_at bs lm lx p)) e
  pub grown : IfOk r λ q. Grown bs lm lx G left c p N M X q N' M' X'

-- What a node asks.
pub record Asks (bs : Bits) (ln lm lx : ℕ) (T : List ℕ) (class : ℕ) (p : Pos) : Type 0 where
  pub inside : Inside bs lm lx p
  pub nodes_fit : (p.used + p.nodes) * record_words ≤ ln
  pub in_table : class < table_most
  pub slim : Slim T

-- n nodes, a spelling after each if w > 0: refused, or gone on to the next form.
pub record NodesIn (bs : Bits) (lm lx : ℕ) (G : Grammar) (left : ℕ) (r : Row) (s : Fill) (N M X : List ℕ) (q : Result Fill Stop) (N' M' X' : List ℕ) : Type 0 where
  pub nodes_same : length N' ≡ length N
  pub names_same : length M' ≡ length M
  pub text_same : length X' ≡ length X
  pub stopped : IfErr q λ e. (g : Form) → Spans g (choices_wide - s.shift) → Halts bs (form_run lx (node_run lx G left) (nodes_then s.n r.a r.w g) (state_at bs lm lx s.at)) e
  pub went : IfOk q λ s'. (g : Form) → Spans g (choices_wide - s.shift)
      → (s'.form ≡ r.b) × (s'.n ≡ 1) × Went bs lm lx (node_run lx G left) (nodes_then s.n r.a r.w g) g s N M X s' N' M' X'

-- ---- The whole key

-- A tree was taken, with room for n nodes, k names and m bytes: the outputs hold it, used as q says.
pub record Held (key : List ℕ) (n k m : ℕ) (q : Pos) (N M X : List ℕ) : Type 0 where
  pub tree : Value
  pub is : take_key n k m key ≡ taken tree
  pub room : q.used ≤ n
  pub used : q.used ≡ nodes tree
  pub named : q.names ≡ length (names tree)
  pub chars : q.chars ≡ letters tree
  pub nodes_are : first_nodes N q.used ≡ nodes_of (laid tree 0)
  pub names_are : first_names M q.names ≡ names_of (laid tree 0)
  pub text_is : take q.chars X ≡ text_of tree

-- A whole key: refused, or taken.
pub record WholeIn (key : List ℕ) (n k m : ℕ) (r : Result Pos Stop) (N M X : List ℕ) : Type 0 where
  pub stopped : IfErr r λ e. take_key n k m key ≡ refused (number_of e.why) (refusal_place (eqb (number_of e.why) no_space) e.bit)
  pub held : IfOk r λ q. Held key n k m q N M X

-- ---- The call

-- What taking back answers: the nodes, names and bytes of text used; or a refusal and its place.
abbrev pub Answer : Type 0
Answer = Result (ℕ × ℕ × ℕ) Stop

-- 01's number and values for each case of the answer.
abbrev pub told : Answer → store.Answer
told (Ok (n, k, m)) = store.back n k m
told (Err e) = store.no (number_of e.why) e.bit

-- The answer and the final content of each output are those of the definition.
pub record Answers (d : TakenBack) (r : Answer) (N M X : List ℕ) : Type 0 where
  pub answer : told r ≡ d.answer
  pub nodes_are : N ≡ d.node_words
  pub names_are : M ≡ d.name_words
  pub text_is : X ≡ d.text

-- ---- What is asked of a key and of what is lent beside it

-- A node is asked to have room for itself, and its table to fit.
abbrev pub AsksNode : (forms key nodes names text : List ℕ) (class : ℕ) (p : Pos) → Type 0
AsksNode forms key nodes names text class p = (length key ≤ longest_key) × Asks (bits_of_bytes key) (length nodes) (length names) (length text) forms class p

-- The same of nodes in a row, inside a node.
abbrev pub AsksNodes : (forms key nodes names text : List ℕ) (r : Row) (s : Fill) → Type 0
AsksNodes forms key nodes names text r s =
    (length key ≤ longest_key) × Steady (bits_of_bytes key) (length names) (length text) s × Housed (length nodes) s × Sized r × Slim forms

-- ---- What is answered over what is lent

-- The same outputs are lent.
pub record Same (t u : Outputs) : Type 0 where
  pub nodes : u.nodes.ghost_name ≡ t.nodes.ghost_name
  pub names : u.names.ghost_name ≡ t.names.ghost_name
  pub text : u.text.ghost_name ≡ t.text.ghost_name

abbrev pub TakesNode : (forms key : Lent) (t : Outputs) (left class : ℕ) (p : Pos) (q : Result Pos Stop) (u : Outputs) → Type 0
TakesNode forms key t left class p q u =
    NodeIn (bits_in key) (length t.names.now) (length t.text.now) (grammar_of forms.entry.now) left class p
    t.nodes.now t.names.now t.text.now q u.nodes.now u.names.now u.text.now

abbrev pub TakesNodes : (forms key : Lent) (t : Outputs) (left : ℕ) (r : Row) (s : Fill) (q : Result Fill Stop) (u : Outputs) → Type 0
TakesNodes forms key t left r s q u =
    NodesIn (bits_in key) (length t.names.now) (length t.text.now) (grammar_of forms.entry.now) left r s
    t.nodes.now t.names.now t.text.now q u.nodes.now u.names.now u.text.now

abbrev pub TakesWhole : (key : Lent) (nodes names text : Filled) (q : Result Pos Stop) → Type 0
TakesWhole key nodes names text q =
    WholeIn key.entry.now (long nodes / record_words) (long names) (long text) q nodes.exit.now names.exit.now text.exit.now

-- The whole call.
abbrev pub GivesBack : (key : Lent) (nodes names text : Filled) (r : Answer) → Type 0
GivesBack key nodes names text r =
    Answers (take_back key.entry.now (long nodes) (long names) (long text)) r nodes.exit.now names.exit.now text.exit.now
