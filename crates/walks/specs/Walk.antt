-- The walk of two keys together: what stands in the list, and what its functions answer (02, W9).
use Rattle.std.specs.Prelude.{Bool, drop, List, [], ◌∷◌, ◌++◌, ◌≡◌, ℕ, ◌+◌, ◌*◌, ◌^◌, ◌≤◌, ◌<◌, length, take}
use Rattle.words.specs.Test.{same}
use Rattle.keys.specs.Bits.{Bits, take_bytes}
use Rattle.keys.specs.Key.{bytes_in}
use Rattle.keys.specs.Limits.{widest}
use Rattle.keys.specs.Form.{Form, one, word, both, Grammar}
use Rattle.node_table.specs.Forms.{form_of, grammar_of, spellings_then, spelling_if, nodes_then}
use Rattle.node_table.specs.declared.forms.Jump.{Jump}
use Rattle.differs.specs.Content.{Content, ends, chooses, spells, enters, own, Pair, inside, differences}
use Rattle.differs.specs.Differ.{words_of}
use Rattle.sound_keys.specs.Sound.{Scan, reads, fails, after, read_form, read_node, read_spelling, Goes, bits, rest_of}
use Rattle.sound_keys.specs.declared.source.Source.{Source}
use Rattle.walks.specs.declared.sides.Sides.{Sides}
use Rattle.walks.specs.declared.walk.Both.{Both}
use Rattle.walks.specs.declared.walk.Widths.{Widths}

-- ---- The list

-- The list's first words are the first of the pairs, as far as it has room.
abbrev pub Begins : List ℕ → List Pair → Type 0
Begins l ps = (k : ℕ) → k ≤ length ps → k * 2 ≤ length l → take (k * 2) l ≡ words_of (take k ps)

-- Behind n pairs others were found.
pub record Grows (l : List ℕ) (n : ℕ) (m : List ℕ) (new : List Pair) : Type 0 where
  pub long : length m ≡ length l
  pub kept : (ps : List Pair) → length ps ≡ n → Begins l ps → Begins m (ps ++ new)

-- A pair was put behind n others, if there is room.
pub record Puts (l : List ℕ) (n a b : ℕ) (m : List ℕ) : Type 0 where
  pub long : length m ≡ length l
  pub below : (k : ℕ) → k ≤ n → take (k * 2) m ≡ take (k * 2) l
  pub there : (n + 1) * 2 ≤ length l → take ((n + 1) * 2) m ≡ take (n * 2) l ++ (a ∷ b ∷ [])

-- ---- Two contents beside each other

-- The same choices, and as many spellings and nodes in the same places.
pub data Beside : Content → Content → Type 0 where
  beside_ends : Beside ends ends
  beside_chooses : {k : ℕ} {c d : Content} → Beside c d → Beside (chooses k c) (chooses k d)
  beside_spells : {a b : ℕ} {s t : List ℕ} {c d : Content} → Beside c d → Beside (spells a s c) (spells b t d)
  beside_enters : {a b : ℕ} {u v c d : Content} → Beside c d → Beside (enters a u c) (enters b v d)

-- Something is read.
pub record IsRead (x : Scan) : Type 0 where
  pub content : Content
  pub end : ℕ
  pub is : x ≡ reads content end

-- A walk's bits are inside keys of so many bits, and it has not found more pairs than it has passed bits.
pub record Inside (i j : ℕ) (p : Both) : Type 0 where
  pub left : p.left ≤ i
  pub right : p.right ≤ j
  pub few : p.found ≤ p.left

-- From p to q the walk has passed contents that stand beside each other, from the forms f and f' to g and g', and the list has grown by what differs.
pub record Abreast (bs cs : Bits) (X Y : ℕ → ℕ → Scan) (f f' g g' : Form) (p q : Both) (l m : List ℕ) : Type 0 where
  pub c : Content
  pub d : Content
  pub left : read_form bs X f p.left ≡ after c (read_form bs X g q.left)
  pub right : read_form cs Y f' p.right ≡ after d (read_form cs Y g' q.right)
  pub beside : Beside c d
  pub found : q.found ≡ p.found + length (differences c d)
  pub grows : Grows l p.found m (differences c d)
  pub inside : Inside (length bs) (length cs) q

-- No way to read nodes.
abbrev pub no_node : ℕ → ℕ → Scan
no_node c a = fails 0 0

-- Two spellings, and then any forms.
abbrev pub SpelledOn : (bs cs : Bits) (w v : ℕ) (p q : Both) (l m : List ℕ) → Type 0
SpelledOn bs cs w v p q l m = (X Y : ℕ → ℕ → Scan) (g g' : Form) → Abreast bs cs X Y (both (word w) g) (both (word v) g') g g' p q l m

-- n spellings on each side, and then any forms.
abbrev pub SpelledAll : (bs cs : Bits) (w v n : ℕ) (p q : Both) (l m : List ℕ) → Type 0
SpelledAll bs cs w v n p q l m = (X Y : ℕ → ℕ → Scan) (g g' : Form) → Abreast bs cs X Y (spellings_then n w g) (spellings_then n v g') g g' p q l m

-- The spellings after two children, and then any forms.
abbrev pub SpelledAfter : (bs cs : Bits) (w v : ℕ) (p q : Both) (l m : List ℕ) → Type 0
SpelledAfter bs cs w v p q l m = (X Y : ℕ → ℕ → Scan) (g g' : Form) → Abreast bs cs X Y (spelling_if w g) (spelling_if v g') g g' p q l m

-- Two nodes were walked: the list has grown by what differs of them.
pub record Walked (bs cs : Bits) (G : Grammar) (high class : ℕ) (p q : Both) (l m : List ℕ) : Type 0 where
  pub u : Content
  pub v : Content
  pub left : read_node bs G high class p.left ≡ reads (enters p.left u ends) q.left
  pub right : read_node cs G high class p.right ≡ reads (enters p.right v ends) q.right
  pub found : q.found ≡ p.found + length (differences (enters p.left u ends) (enters p.right v ends))
  pub grows : Grows l p.found m (differences (enters p.left u ends) (enters p.right v ends))
  pub inside : Inside (length bs) (length cs) q

-- n nodes on each side, a spelling after each if its length has any bits, and then any forms.
abbrev pub WalkedAll : (bs cs : Bits) (G : Grammar) (high class w v n : ℕ) (p q : Both) (l m : List ℕ) → Type 0
WalkedAll bs cs G high class w v n p q l m =
    (g g' : Form) → Abreast bs cs (read_node bs G high) (read_node cs G high) (nodes_then n class w g) (nodes_then n class v g') g g' p q l m

-- What is left of two nodes, which begin at `first`, was walked.
pub record Rested (bs cs : Bits) (X Y : ℕ → ℕ → Scan) (f f' : Form) (at first q : Both) (l m : List ℕ) : Type 0 where
  pub c : Content
  pub d : Content
  pub left : read_form bs X f at.left ≡ reads c q.left
  pub right : read_form cs Y f' at.right ≡ reads d q.right
  pub found : q.found ≡ first.found + length (inside (same (own c) (own d)) (first.left, first.right) (differences c d))
  pub grows : Grows l first.found m (inside (same (own c) (own d)) (first.left, first.right) (differences c d))
  pub inside : Inside (length bs) (length cs) q

-- What is left of two nodes, which begin at `first`, was passed over, and their pair put in the place of what was found inside.
pub record Parted (bs cs : Bits) (X Y : ℕ → ℕ → Scan) (f f' : Form) (at first q : Both) (l m : List ℕ) : Type 0 where
  pub c : Content
  pub d : Content
  pub left : read_form bs X f at.left ≡ reads c q.left
  pub right : read_form cs Y f' at.right ≡ reads d q.right
  pub found : q.found ≡ first.found + 1
  pub puts : Puts l first.found first.left first.right m
  pub inside : Inside (length bs) (length cs) q

-- ---- Both sides

-- The bits of the left key.
abbrev pub left_bits : Sides → Bits
left_bits s = bits s.left

-- The bits of the right key.
abbrev pub right_bits : Sides → Bits
right_bits s = bits s.right

-- The forms of both keys.
abbrev pub grammar : Sides → Grammar
grammar s = grammar_of s.left.forms.now

-- The nodes of the left key as they are read, with room for so many one above the other.
abbrev pub left_nodes : Sides → (high : ℕ) → ℕ → ℕ → Scan
left_nodes s high = read_node (left_bits s) (grammar s) high

-- The nodes of the right key.
abbrev pub right_nodes : Sides → (high : ℕ) → ℕ → ℕ → Scan
right_nodes s high = read_node (right_bits s) (grammar s) high

-- The form that a number leads to.
abbrev pub form_at : Sides → (steps : ℕ) → Jump → Form
form_at s steps j = form_of s.left.forms.now steps j.n j.form

-- A form is there on the left, by a way to read nodes.
abbrev pub LeftRead : Sides → (ℕ → ℕ → Scan) → Form → Both → Type 0
LeftRead s X f p = IsRead (read_form (left_bits s) X f p.left)

-- The same on the right.
abbrev pub RightRead : Sides → (ℕ → ℕ → Scan) → Form → Both → Type 0
RightRead s X f p = IsRead (read_form (right_bits s) X f p.right)

-- The place behind so many bits.
abbrev pub past : Both → Widths → Both
past p w = record { left = p.left + w.left; right = p.right + w.right; found = p.found }

-- Whether n bytes on the left of a place are the same as m on the right.
abbrev pub same_at : Sides → (at : Both) (n m : ℕ) → Bool
same_at s at n m = same (bytes_in (take_bytes n (drop at.left (left_bits s)))) (bytes_in (take_bytes m (drop at.right (right_bits s))))

-- A place in both keys.
abbrev pub Within : Sides → Both → Type 0
Within s p = Inside (length s.left.key.now * 8) (length s.right.key.now * 8) p

-- ---- What the functions ask, of a place inside both keys

-- Two spellings are asked to be there.
abbrev pub AsksSpelling : Sides → Widths → (p : Both) → Type 0
AsksSpelling s w p = (w.left ≤ widest) × (w.right ≤ widest) × Within s p × IsRead (read_spelling (left_bits s) w.left p.left) × IsRead (read_spelling (right_bits s) w.right p.right)

-- The same of n spellings on each side.
abbrev pub AsksSpellings : Sides → Widths → (n : ℕ) (p : Both) → Type 0
AsksSpellings s w n p =
    (w.left ≤ widest) × (w.right ≤ widest) × Within s p × LeftRead s no_node (spellings_then n w.left one) p × RightRead s no_node (spellings_then n w.right one) p

-- The same of the spellings after two children.
abbrev pub AsksAfter : Sides → Widths → (p : Both) → Type 0
AsksAfter s w p = (w.left ≤ widest) × (w.right ≡ w.left) × Within s p × LeftRead s no_node (spelling_if w.left one) p × RightRead s no_node (spelling_if w.right one) p

-- What is left of a node is there on one side, from a form on.
abbrev pub AsksEnd : Source → (high steps bit : ℕ) → Jump → Type 0
AsksEnd s high steps bit j =
    (bit ≤ length s.key.now * 8) × (j.form < 2 ^ 32) × (j.n < 2 ^ 32)
    × IsRead (rest_of s high steps j.n j.form bit)

-- What is left of two nodes is there on each side, and no more pairs were found before them than bits passed.
abbrev pub AsksApart : Sides → (high steps : ℕ) (at : Both) (j k : Jump) (first : Both) → Type 0
AsksApart s high steps at j k first =
    (at.left ≤ length s.left.key.now * 8) × (at.right ≤ length s.right.key.now * 8) × (j.form < 2 ^ 32) × (j.n < 2 ^ 32) × (k.form < 2 ^ 32) × (k.n < 2 ^ 32) × (first.found < at.left)
    × LeftRead s (left_nodes s high) (form_at s steps j) at
    × RightRead s (right_nodes s high) (form_at s steps k) at

-- Two nodes are there.
abbrev pub AsksNode : Sides → (class high : ℕ) (p : Both) → Type 0
AsksNode s class high p = (class < 2 ^ 32) × Within s p × IsRead (left_nodes s high class p.left) × IsRead (right_nodes s high class p.right)

-- What is left of two nodes is there from the same form on.
abbrev pub AsksRest : Sides → (high steps : ℕ) (from : Jump) (at first : Both) → Type 0
AsksRest s high steps from at first =
    (from.form < 2 ^ 32) × (from.n < 2 ^ 32) × Within s at × (at.found ≡ first.found)
    × LeftRead s (left_nodes s high) (form_at s steps from) at
    × RightRead s (right_nodes s high) (form_at s steps from) at

-- n nodes are there on each side, of a class, with a spelling after each if its length has any bits.
abbrev pub AsksNodes : Sides → (high class : ℕ) → Widths → (n : ℕ) (p : Both) → Type 0
AsksNodes s high class w n p =
    (class < 2 ^ 32) × (w.left ≤ widest) × (w.right ≡ w.left) × Within s p
    × LeftRead s (left_nodes s high) (nodes_then n class w.left one) p
    × RightRead s (right_nodes s high) (nodes_then n class w.right one) p

-- ---- What the functions answer, over the list before and after

abbrev pub Spells : Sides → Widths → (p q : Both) (l m : List ℕ) → Type 0
Spells s w p q l m = SpelledOn (left_bits s) (right_bits s) w.left w.right p q l m

abbrev pub SpellsAll : Sides → Widths → (n : ℕ) (p q : Both) (l m : List ℕ) → Type 0
SpellsAll s w n p q l m = SpelledAll (left_bits s) (right_bits s) w.left w.right n p q l m

abbrev pub SpellsAfter : Sides → Widths → (p q : Both) (l m : List ℕ) → Type 0
SpellsAfter s w p q l m = SpelledAfter (left_bits s) (right_bits s) w.left w.right p q l m

abbrev pub Ends : Source → (high steps bit : ℕ) → Jump → (end : ℕ) → Type 0
Ends s high steps bit j end =
    Goes (length (bits s)) (rest_of s high steps j.n j.form bit) end

abbrev pub Parts : Sides → (high steps : ℕ) (at : Both) (j k : Jump) (first q : Both) (l m : List ℕ) → Type 0
Parts s high steps at j k first q l m = Parted (left_bits s) (right_bits s) (left_nodes s high) (right_nodes s high) (form_at s steps j) (form_at s steps k) at first q l m

abbrev pub Rests : Sides → (high steps : ℕ) (from : Jump) (at first q : Both) (l m : List ℕ) → Type 0
Rests s high steps from at first q l m = Rested (left_bits s) (right_bits s) (left_nodes s high) (right_nodes s high) (form_at s steps from) (form_at s steps from) at first q l m

abbrev pub Walks : Sides → (high class : ℕ) (p q : Both) (l m : List ℕ) → Type 0
Walks s high class p q l m = Walked (left_bits s) (right_bits s) (grammar s) high class p q l m

abbrev pub WalksAll : Sides → (high class : ℕ) → Widths → (n : ℕ) (p q : Both) (l m : List ℕ) → Type 0
WalksAll s high class w n p q l m = WalkedAll (left_bits s) (right_bits s) (grammar s) high class w.left w.right n p q l m
