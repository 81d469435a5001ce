-- Walking a node by its form in line: what a walk puts out, its steps, and what its functions answer, whatever the output is.
use Rattle.std.specs.Prelude.{◌≡◌, List, [], ◌++◌, ℕ, ◌+◌, ◌-◌, ◌*◌, ◌/◌, ◌^◌, ◌≤◌, ◌<◌, length}
use Rattle.keys.specs.Limits.{half_word, widest, count_width}
use Rattle.keys.specs.Form.{Form, Grammar, width, branch, left, right, class}
use Rattle.keys.specs.Store.{Run, done, chose, name, kid, called}
use Rattle.keys.specs.Lines.{tagged, Of, levels}
use Rattle.keys.specs.Holds.{word_at, child_at, next_at, Cursor, cursor, HoldsBy}
use Rattle.fields.specs.Put.{far}
use Rattle.node_table.specs.Forms.{spelling_if, form_of, grammar_of, table_words, table_most}
use Rattle.node_table.specs.declared.moves.Mark.{Mark}
use Rattle.node_table.specs.declared.moves.Walk.{Walk}

-- ---- What a walk puts out

-- An output: its items for a choice, for name m, and before what node i holds, each at a depth; the depth under a node; how items are put from one position to another.
pub record Output : Type 1 where
  pub Item : Type 0
  pub choice : (w k d : ℕ) → List Item
  pub said : (w m : ℕ) (s : List ℕ) (d : ℕ) → List Item
  pub node : (i d : ℕ) → List Item
  pub under : ℕ → ℕ
  pub Puts : (to : ℕ) → List Item → (to' : ℕ) (k k' : List ℕ) → Type 0

-- What is asked of an output: no items are put, and items after items; positions and lengths stay small.
pub record Sound (O : Output) : Type 0 where
  pub none : (to : ℕ) (k : List ℕ) → to ≤ far → length k * 8 ≤ far → O.Puts to [] to k k
  pub append : {to to' to'' : ℕ} {a b : List O.Item} {k k' k'' : List ℕ} → O.Puts to a to' k k' → O.Puts to' b to'' k' k'' → O.Puts to (a ++ b) to'' k k''
  pub short : {to to' : ℕ} {a : List O.Item} {k k' : List ℕ} → O.Puts to a to' k k' → length k * 8 ≤ far
  pub stays : {to to' : ℕ} {a : List O.Item} {k k' : List ℕ} → O.Puts to a to' k k' → to' ≤ far
  pub same : {to to' : ℕ} {a : List O.Item} {k k' : List ℕ} → O.Puts to a to' k k' → length k' ≡ length k

module _ (O : Output) (G : Grammar) (N : List ℕ) where
  -- The items of a run of a form in line, which the store holds from a place on.
  abbrev pub items : Form → Run → Cursor → ℕ → List O.Item
  items f done s d = []
  items f (chose w k r) s d = O.choice (width f) k d ++ items (branch f k) r (cursor (s.word / 2 ^ w) s.child s.name) d
  items f (name x u r) s d = O.said (width (left f)) s.name u d ++ items (right f) r (cursor s.word s.child (s.name + 1)) d
  items f (kid first end a r) s d =
      (O.node s.child d ++ items (tagged G (class (left f))) a (cursor (word_at N s.child) (child_at N s.child) s.name) (O.under d))
      ++ items (right f) r (cursor s.word (next_at N s.child) (s.name + called a)) d

-- ---- Steps of a walk

module _ (O : Output) (G : Grammar) (N : List ℕ) (P : ℕ → List ℕ → Type 0) (high d : ℕ) where
  -- Of a run of the form f a walk has put out some items, and come to a run of the form f'.
  pub record Moved (f : Form) (run : Run) (s : Cursor) (to : ℕ) (k : List ℕ) (f' : Form) (s' : Cursor) (to' : ℕ) (k' : List ℕ) : Type 0 where
    pub rest : Run
    pub passed : List O.Item
    pub of : Of G f' rest
    pub low : levels rest ≤ high
    pub holds : HoldsBy N P rest s'
    pub put : O.Puts to passed to' k k'
    pub whole : items O G N f run s d ≡ passed ++ items O G N f' rest s' d
    pub count : s.name + called run ≡ s'.name + called rest

  -- A step from one place, position and output to others, for every run of the form that the store holds.
  pub record Moves (f : Form) (s : Cursor) (to : ℕ) (k : List ℕ) (f' : Form) (s' : Cursor) (to' : ℕ) (k' : List ℕ) : Type 0 where
    pub short : length k * 8 ≤ far
    pub stays : to' ≤ far
    pub same : length k' ≡ length k
    pub on : (run : Run) → Of G f run → levels run ≤ high → HoldsBy N P run s → Moved f run s to k f' s' to' k'

  -- The node i of class c is put out, and the next name is no further than `most`.
  pub record Noded (most c i m to : ℕ) (k : List ℕ) (m' to' : ℕ) (k' : List ℕ) : Type 0 where
    pub short : length k * 8 ≤ far
    pub stays : to' ≤ far
    pub same : length k' ≡ length k
    pub in_names : m' ≤ most
    pub on : (a : Run) → Of G (tagged G c) a → levels a < high → HoldsBy N P a (cursor (word_at N i) (child_at N i) m)
        → O.Puts to (O.node i d ++ items O G N (tagged G c) a (cursor (word_at N i) (child_at N i) m) (O.under d)) to' k k' × (m' ≡ m + called a)

-- A name is put out.
pub record Spelled (O : Output) (P : ℕ → List ℕ → Type 0) (most w d m to : ℕ) (k : List ℕ) (m' to' : ℕ) (k' : List ℕ) : Type 0 where
  pub short : length k * 8 ≤ far
  pub stays : to' ≤ far
  pub same : length k' ≡ length k
  pub in_names : m' ≤ most
  pub on : (s : List ℕ) → P m s → O.Puts to (O.said w m s d) to' k k' × (m' ≡ m + 1)

-- ---- What the functions answer

-- The form at which a walk is.
abbrev pub form_at : List ℕ → Walk → Form
form_at T s = form_of T s.steps s.n s.form

-- The place in the store at which it is.
abbrev pub cursor_of : Walk → Cursor
cursor_of s = cursor s.word s.child s.mark.name

-- A position by its parts.
abbrev pub mark : (to next : ℕ) → Mark
mark to next = record { to = to; name = next }

-- A walk with what was put out of it, at another form.
abbrev pub moved_to : Walk → Mark → (form n steps : ℕ) → Walk
moved_to s o form n steps = record { mark = o; word = s.word; child = s.child; form = form; n = n; steps = steps }

-- A walk with what was put out of it, at the next child.
abbrev pub beside_to : Walk → Mark → (next : ℕ) → Walk
beside_to s o next = record { mark = o; word = s.word; child = next; form = s.form; n = s.n - 1; steps = s.steps }

-- The numbers of a walk are small.
pub record Ready (most : ℕ) (k : List ℕ) (s : Walk) : Type 0 where
  pub short : length k * 8 ≤ far
  pub near : s.mark.to ≤ far
  pub in_names : s.mark.name ≤ most
  pub in_nodes : s.child < half_word
  pub in_table : s.form < table_most
  pub few : s.n < table_most
  pub steps : s.steps < table_most

-- Items may be put at a place: the numbers are small.
abbrev pub MayPut : (k : List ℕ) (to : ℕ) → Type 0
MayPut k to = (length k * 8 ≤ far) × (to ≤ far)

-- A node whose class and word say all is put out, whatever store holds it and however much room is above it.
abbrev pub NodedOnce : (O : Output) (P : ℕ → List ℕ → Type 0) (most d class word : ℕ) (o : Mark) (k : List ℕ) (q : Mark) (k' : List ℕ) → Type 0
NodedOnce O P most d class word o k q k' =
    (N : List ℕ) (left at : ℕ) → word_at N at ≡ word → Noded O (grammar_of (table_words count_width)) N P left d most class at o.name o.to k q.name q.to k'

-- A walk may go on behind a child: there is one, and the numbers are small.
abbrev pub MayGoOn : (most : ℕ) (k : List ℕ) (w : ℕ) (s : Walk) (o : Mark) → Type 0
MayGoOn most k w s o =
    (length k * 8 ≤ far) × (o.to ≤ far) × (o.name ≤ most) × (w ≤ widest) × (s.child < half_word) × (s.form < table_most) × (0 < s.n) × (s.n < table_most)
    × (s.steps < table_most)

-- How much of a node is left to do at most.
abbrev pub to_do : Walk → ℕ
to_do s = s.steps * table_most + s.n

-- A step that goes into no child.
pub record OwnStep (O : Output) (T : List ℕ) (P : ℕ → List ℕ → Type 0) (most d : ℕ) (s : Walk) (k : List ℕ) (q : Walk) (k' : List ℕ) : Type 0 where
  pub ready : Ready most k' q
  pub same : length k' ≡ length k
  pub less : to_do q < to_do s
  pub on : (G : Grammar) (N : List ℕ) (high : ℕ) → Moves O G N P high d (form_at T s) (cursor_of s) s.mark.to k (form_at T q) (cursor_of q) q.mark.to k'

-- What follows a child: a spelling if its length has any bits.
pub record After (O : Output) (N : List ℕ) (P : ℕ → List ℕ → Type 0) (most w d : ℕ) (s : Walk) (o : Mark) (k : List ℕ) (q : Walk) (k' : List ℕ) : Type 0 where
  pub ready : Ready most k' q
  pub same : length k' ≡ length k
  pub form : q.form ≡ s.form
  pub few : q.n ≡ s.n - 1
  pub steps : q.steps ≡ s.steps
  pub on : (G : Grammar) (high : ℕ) (g : Form)
      → Moves O G N P high d (spelling_if w g) (cursor s.word (next_at N s.child) o.name) o.to k g (cursor_of q) q.mark.to k'

-- What stands before a node's run is put out, and its tag; the walk stands behind it.
pub record Begun (O : Output) (T N : List ℕ) (P : ℕ → List ℕ → Type 0) (d c i : ℕ) (o : Mark) (k : List ℕ) (q : Walk) (k' : List ℕ) : Type 0 where
  pub ready : (most : ℕ) → o.name ≤ most → Ready most k' q
  pub same : length k' ≡ length k
  pub to₀ : ℕ
  pub k₀ : List ℕ
  pub first : O.Puts o.to (O.node i d) to₀ k k₀
  pub on : (high : ℕ)
      → Moves O (grammar_of T) N P high (O.under d) (tagged (grammar_of T) c) (cursor (word_at N i) (child_at N i) o.name) to₀ k₀ (form_at T q) (cursor_of q) q.mark.to k'
