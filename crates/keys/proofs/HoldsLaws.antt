-- A store in which a tree stands holds the tree's run, and the run is of the tree's form in line and written as the tree is.
use mathlib.Core.Path.{◌≡◌, refl, sym, ap, ap₂, ◌∙◌, subst}
use mathlib.Core.List.{List, [], ◌∷◌, ◌++◌, append_assoc, append-nil}
use Prim.Native.Nat.{ℕ, zero, suc, ◌+◌, ◌-◌, ◌*◌, ◌/◌, ◌%◌, ◌^◌, ◌≤◌, ◌<◌, max, min}
use native.Mathlib.Nat.{add_comm, add-zero, mul_comm, mod-eq_of_lt}
use native.Mathlib.Omega.{arith}
use lib.Arith.{digits_div, digits_mod}
use lib.Pow.{pow_mono}
use lib.ListN.{length, get_or, take, drop, replicate, length-append, take-append-drop, length-take, length-drop, get_or-append}
use lib.Seq.{get_or-append-add, take-append_seam}
use Rattle.keys.specs.Limits.{half_word}
use Rattle.keys.specs.Bits.{Bits, bits_of}
use Rattle.keys.specs.Form.{Value, Form, one, both, child, Grammar, wider, branch, left, right, class, height, nodes, names, letters, write, Fits, fits_one, fits_word, fits_choose, fits_both, fits_child}
use Rattle.keys.specs.Table.{type}
use Rattle.keys.specs.Placed.{Placed, void, said, pick, join, tree, bare, laid}
use Rattle.keys.specs.Key.{node_table}
use Rattle.keys.specs.Store.{Run, done, chose, name, kid, plant, under, called, packed, first_kid, record_of, records, name_of, names_in, run_of, nodes_of, names_of, text_of, pointed, all_pointed, filled}
use Rattle.keys.proofs.StoreLaws.{length_records, length_names_in, under_plant, bare_laid, names_point}
use Rattle.keys.specs.Lines.{in_line, lined, Of, of_one, of_word, of_choose, of_child, levels, written}
use Rattle.keys.specs.Holds.{word_at, child_at, next_at, start_at, size_at, Spells, cursor, Holds, Stands}

-- ---- The run of a value

-- Every choice fits its width, and every spelling has a byte.
abbrev Neat : Run → Type 0
Neat done = Unit {0}
Neat (chose w k r) = (k < 2 ^ w) × Neat r
Neat (name x s r) = (1 ≤ length s) × Neat r
Neat (kid first end a r) = Neat a × Neat r

-- The spellings of a run.
abbrev spellings : Run → List (List ℕ)
spellings done = []
spellings (chose w k r) = spellings r
spellings (name x s r) = s ∷ spellings r
spellings (kid first end a r) = spellings a ++ spellings r

-- What fits a width fits a wider one.
wider_most : (w x : ℕ) → w ≤ wider w x
wider_most w zero = omega arith
wider_most w (suc x) = omega (arith, wider_most w x)

wider_fits : (w x k : ℕ) → k < 2 ^ w → k < 2 ^ wider w x
wider_fits w x k h = omega (arith, h, pow_mono {i = w} {j = wider w x} (wider_most w x))

module _ (G : Grammar) where
  neat_plant : {f : Form} (p : Placed) → Fits G f (bare p) → (r : Run) → Neat r → Neat (plant G f p r)
  neat_plant void fits_one r h = h
  neat_plant (said x s) (fits_word a b c) r h = (a, h)
  neat_plant (pick k p) (fits_choose {w = w} {x = x} {fs = fs} a b) r h = (wider_fits w x k a, neat_plant {f = fs k} p b r h)
  neat_plant (join p q) (fits_both {f = f} {g = g} a b) r h = neat_plant {f = f} p a (plant G g q r) (neat_plant {f = g} q b r h)
  neat_plant (tree t first end p) (fits_child {c = c} a b) r h = ((a, neat_plant {f = G.row c t} p b done tt), h)

  spellings_plant : (f : Form) (p : Placed) (r : Run) → spellings (plant G f p r) ≡ names (bare p) ++ spellings r
  spellings_plant f void r = refl
  spellings_plant f (said x s) r = refl
  spellings_plant f (pick k p) r = spellings_plant (branch f k) p r
  spellings_plant f (join p q) r =
      spellings_plant (left f) p (plant G (right f) q r) ∙ ap (λ (x : List (List ℕ)). names (bare p) ++ x) (spellings_plant (right f) q r)
      ∙ sym (append_assoc (names (bare p)) (names (bare q)) (spellings r))
  spellings_plant f (tree t first end p) r = ap (λ (x : List (List ℕ)). x ++ spellings r) (spellings_plant (G.row (class f) t) p done ∙ append-nil (names (bare p)))

  levels_plant : (f : Form) (p : Placed) (r : Run) → levels (plant G f p r) ≡ max (height (bare p)) (levels r)
  levels_plant f void r = omega arith
  levels_plant f (said x s) r = omega arith
  levels_plant f (pick k p) r = levels_plant (branch f k) p r
  levels_plant f (join p q) r = omega (arith, levels_plant (left f) p (plant G (right f) q r), levels_plant (right f) q r)
  levels_plant f (tree t first end p) r = omega (arith, levels_plant (G.row (class f) t) p done)

  -- What a value of a form puts before a run of another is a run of the two in line.
  of_plant : {f g : Form} (p : Placed) → Fits G f (bare p) → (r : Run) → Of (lined G) g r → Of (lined G) (in_line f g) (plant G f p r)
  of_plant void fits_one r o = o
  of_plant (said x s) (fits_word a b c) r o = of_word o
  of_plant {g = g} (pick k p) (fits_choose {w = w} {x = x} {fs = fs} a b) r o = of_choose (of_plant {f = fs k} {g = g} p b r o)
  of_plant {g = g} (join p q) (fits_both {f = f} {g = h} a b) r o = of_plant {f = f} {g = in_line h g} p a (plant G h q r) (of_plant {f = h} {g = g} q b r o)
  of_plant (tree t first end p) (fits_child {c = c} a b) r o = of_child (of_choose (of_plant {f = G.row c t} {g = one} p b done of_one)) o

  -- And it is written as the value is, and then as the other.
  written_plant : {f : Form} (g : Form) (p : Placed) → Fits G f (bare p) → (r : Run)
      → written (lined G) (in_line f g) (plant G f p r) ≡ write G f (bare p) ++ written (lined G) g r
  written_plant g void fits_one r = refl
  written_plant g (said x s) (fits_word a b c) r = refl
  written_plant g (pick k p) (fits_choose {w = w} {x = x} {fs = fs} a b) r =
      ap (λ (x : Bits). bits_of w k ++ x) (written_plant {f = fs k} g p b r) ∙ sym (append_assoc (bits_of w k) (write G (fs k) (bare p)) (written (lined G) g r))
  written_plant g (join p q) (fits_both {f = f} {g = h} a b) r =
      written_plant {f = f} (in_line h g) p a (plant G h q r) ∙ ap (λ (x : Bits). write G f (bare p) ++ x) (written_plant {f = h} g q b r)
      ∙ sym (append_assoc (write G f (bare p)) (write G h (bare q)) (written (lined G) g r))
  written_plant g (tree t first end p) (fits_child {c = c} a b) r =
      ap (λ (x : Bits). (bits_of (G.tag_width c) t ++ x) ++ written (lined G) g r) (written_plant {f = G.row c t} one p b done ∙ append-nil (write G (G.row c t) (bare p)))

-- ---- The run of a type

-- A run of one child alone: no choice, and the child is the last node under it.
record Alone (r : Run) : Type 0 where
  word : packed r ≡ 0
  last : first_kid r 0 0 + 1 ≡ under r

-- Such is a run of the form of a node with nothing behind it.
alone : {G : Grammar} {c : ℕ} {r : Run} → Of G (both (child c) one) r → Alone r
alone (of_child o of_one) = record { word = refl; last = omega arith }

-- The run of a type is of its form in line.
pub of_type : (p : Placed) → Fits node_table type (bare p) → Of (lined node_table) (both (child 0) one) (run_of p)
of_type p f = of_plant node_table p f done of_one

-- Its root is the last of its nodes.
pub root_is : (p : Placed) → Fits node_table type (bare p) → first_kid (run_of p) 0 0 + 1 ≡ nodes (bare p)
root_is p f = omega (arith, under_plant node_table type p done, (alone (of_type p f)).last)

-- ---- A list that stands in another from a place

pub record In (L : List ℕ) (at : ℕ) (l : List ℕ) : Type 0 where
  pub before : List ℕ
  pub after : List ℕ
  pub is : L ≡ before ++ (l ++ after)
  pub size : length before ≡ at

in_left : {L : List ℕ} {at : ℕ} (l r : List ℕ) → In L at (l ++ r) → In L at l
in_left l r d = record { before = d.before; after = r ++ d.after; is = d.is ∙ ap (λ (x : List ℕ). d.before ++ x) (append_assoc l r d.after); size = d.size }

in_right : {L : List ℕ} {at : ℕ} (l r : List ℕ) (n : ℕ) → n ≡ at + length l → In L at (l ++ r) → In L n r
in_right l r n e d =
    record {
      before = d.before ++ l;
      after = d.after;
      is = d.is ∙ ap (λ (x : List ℕ). d.before ++ x) (append_assoc l r d.after) ∙ sym (append_assoc d.before l (r ++ d.after));
      size = length-append d.before l ∙ ap (λ (x : ℕ). x + length l) d.size ∙ sym e;
    }

-- A word of the list stands as far behind the list's place.
in_at : {L : List ℕ} {at : ℕ} (l : List ℕ) (i n : ℕ) → n ≡ at + i → i < length l → In L at l → get_or L n 0 ≡ get_or l i 0
in_at l i n e h d =
    ap₂ (λ (x : List ℕ) (k : ℕ). get_or x k 0) d.is (e ∙ ap (λ (k : ℕ). k + i) (sym d.size))
    ∙ get_or-append-add d.before (l ++ d.after) i 0 ∙ get_or-append l d.after 0 i h

in_tail : {L : List ℕ} {at : ℕ} (x : ℕ) (r : List ℕ) (n : ℕ) → n ≡ at + 1 → In L at (x ∷ r) → In L n r
in_tail x r n e d = in_right (x ∷ []) r n e d

in_long : {L : List ℕ} {at : ℕ} (l : List ℕ) → In L at l → at + length l ≤ length L
in_long {L} {at} l d = omega (arith, ap length d.is, length-append d.before (l ++ d.after), length-append l d.after, d.size)

pub in_front : (L l : List ℕ) → take (length l) L ≡ l → In L 0 l
in_front L l e =
    record { before = []; after = drop (length l) L; is = sym (take-append-drop (length l) L) ∙ ap (λ (x : List ℕ). x ++ drop (length l) L) e; size = refl }

-- ---- Names that point at spellings

-- Every name of a run points at its spelling.
abbrev Points : List ℕ → Run → Type 0
Points X done = Unit {0}
Points X (chose w k r) = Points X r
Points X (name x s r) = (pointed X (name_of x s) ≡ s) × Points X r
Points X (kid first end a r) = Points X a × Points X r

record Same (xs ys zs ws : List (List ℕ)) : Type 0 where
  front : xs ≡ zs
  back : ys ≡ ws

same_parts : (xs ys zs ws : List (List ℕ)) → length xs ≡ length zs → xs ++ ys ≡ zs ++ ws → Same xs ys zs ws
same_parts [] ys [] ws l e = record { front = refl; back = e }
same_parts [] ys (z ∷ zs) ws l e = absurd (omega arith)
same_parts (x ∷ xs) ys [] ws l e = absurd (omega arith)
same_parts (x ∷ xs) ys (z ∷ zs) ws l e =
    let h : x ≡ z = cc in
    let t : xs ++ ys ≡ zs ++ ws = cc in
    let d = same_parts xs ys zs ws (omega arith) t in
    record { front = ap₂ (λ (u : List ℕ) (v : List (List ℕ)). u ∷ v) h d.front; back = d.back }

pointed_append : (X xs ys : List ℕ) → all_pointed X (xs ++ ys) ≡ all_pointed X xs ++ all_pointed X ys
pointed_append X [] ys = refl
pointed_append X (x ∷ xs) ys = ap (λ (l : List (List ℕ)). pointed X x ∷ l) (pointed_append X xs ys)

length_pointed : (X ws : List ℕ) → length (all_pointed X ws) ≡ length ws
length_pointed X [] = refl
length_pointed X (w ∷ ws) = ap suc (length_pointed X ws)

length_spellings : (a : Run) → length (spellings a) ≡ called a
length_spellings done = refl
length_spellings (chose w k r) = length_spellings r
length_spellings (name x s r) = omega (arith, length_spellings r)
length_spellings (kid first end a r) = omega (arith, length-append (spellings a) (spellings r), length_spellings a, length_spellings r)

points : (X : List ℕ) (a : Run) → all_pointed X (names_in a) ≡ spellings a → Points X a
points X done e = tt
points X (chose w k r) e = points X r e
points X (name x s r) e =
    let h : pointed X (name_of x s) ≡ s = cc in
    let t : all_pointed X (names_in r) ≡ spellings r = cc in
    (h, points X r t)
points X (kid first end a r) e =
    let d = same_parts (all_pointed X (names_in a)) (all_pointed X (names_in r)) (spellings a) (spellings r)
    (length_pointed X (names_in a) ∙ length_names_in a ∙ sym (length_spellings a)) (sym (pointed_append X (names_in a) (names_in r)) ∙ e) in
    (points X a d.front, points X r d.back)

-- ---- A store with the content of a run holds it

first_lt : (t : Run) (b n : ℕ) → b + under t < half_word → n < half_word → first_kid t b n < half_word
first_lt done b n h l = l
first_lt (chose w k t) b n h l = first_lt t b n h l
first_lt (name x s t) b n h l = first_lt t b n h l
first_lt (kid first end a t) b n h l = omega arith

low_is : (x y : ℕ) → x < half_word → (x + half_word * y) % half_word ≡ x
low_is x y h = omega arith

mod_is : (k p y : ℕ) → k < p → (k + p * y) % p ≡ k
mod_is k p y h = ap (λ (x : ℕ). x % p) (add_comm k (p * y) ∙ ap (λ (x : ℕ). x + k) (mul_comm p y)) ∙ digits_mod y h

div_is : (k p y : ℕ) → k < p → (k + p * y) / p ≡ y
div_is k p y h = ap (λ (x : ℕ). x / p) (add_comm k (p * y) ∙ ap (λ (x : ℕ). x + k) (mul_comm p y)) ∙ digits_div y h

-- What stands of a first child and of the others: the child's choices as its record has them, its links, and where its records and those of the others are.
pub record Kid (N : List ℕ) (first end : ℕ) (a t : Run) (b m n next : ℕ) : Type 0 where
  pub inside : In N (b * 4) (records a b m 0)
  pub others : In N ((b + under a + 1) * 4) (records t (b + under a + 1) (m + called a) n)
  pub word : word_at N next ≡ get_or (record_of first end a b m (first_kid t (b + under a + 1) n)) 0 0
  pub child : child_at N next ≡ first_kid a b 0
  pub sibling : next_at N next ≡ first_kid t (b + under a + 1) n

pub kid_in : (N : List ℕ) (first end : ℕ) (a t : Run) (b m n next : ℕ) → In N (b * 4) (records (kid first end a t) b m n) → b + under (kid first end a t) < half_word → n < half_word
    → next ≡ first_kid (kid first end a t) b n → Kid N first end a t b m n next
kid_in N first end a t b m n next p h l f =
    record {
      inside = in_left (records a b m 0) own (in_left (records a b m 0 ++ own) rest p);
      others = in_right (records a b m 0 ++ own) rest ((b + under a + 1) * 4) (omega (arith, size, length-append (records a b m 0) own)) p;
      word = in_at own 0 (next * 4) (omega arith) (omega arith) here;
      child = ap (λ (i : ℕ). i % half_word) (in_at own 2 (next * 4 + 2) refl (omega arith) here) ∙ low_is (first_kid a b 0) m (first_lt a b 0 (omega arith) (omega arith));
      sibling = ap (λ (i : ℕ). i % half_word) (in_at own 3 (next * 4 + 3) refl (omega arith) here) ∙ mod-eq_of_lt (first_lt t (b + under a + 1) n (omega arith) l);
    }
  where
    own : List ℕ
    own = record_of first end a b m (first_kid t (b + under a + 1) n)

    rest : List ℕ
    rest = records t (b + under a + 1) (m + called a) n

    size : length (records a b m 0) ≡ 4 * under a
    size = length_records a b m 0

    here : In N (next * 4) own
    here = in_right (records a b m 0) own (next * 4) (omega (arith, size, f)) (in_left (records a b m 0 ++ own) rest p)

module _ (N M X : List ℕ) where
  spells_in : (m x : ℕ) (s r : List ℕ) → 1 ≤ length s → In M m (name_of x s ∷ r) → pointed X (name_of x s) ≡ s → Spells M X m s
  spells_in m x s r h d e =
      let g : get_or M m 0 ≡ name_of x s = in_at (name_of x s ∷ r) 0 m (sym (add-zero m)) (omega arith) d in
      let p : take (size_at M m) (drop (start_at M m) X) ≡ s = ap (pointed X) g ∙ e in
      let l : length (take (size_at M m) (drop (start_at M m) X)) ≡ length s = ap length p in
      record {
        there = omega (arith, in_long (name_of x s ∷ r) d);
        inside = inside_by (get_or M m 0) x (length s) (length X) g h
            (sym l ∙ length-take (size_at M m) (drop (start_at M m) X)) (length-drop (start_at M m) X);
        is = p;
      }
    where
      inside_by : (w x n all : ℕ) → w ≡ x * half_word + n → 1 ≤ n → {d : ℕ} → n ≡ min (w % half_word) d → d ≡ all - w / half_word → w / half_word + w % half_word ≤ all
      inside_by w x n all e h {d} q z = omega arith

  holds_run : (t : Run) (b m n : ℕ) → In N (b * 4) (records t b m n) → In M m (names_in t) → Points X t
      → b + under t < half_word → n < half_word → Neat t → (choices next : ℕ) → choices ≡ packed t → next ≡ first_kid t b n → Holds N M X t (cursor choices next m)
  holds_run done b m n p q r h l z choices next e f = tt
  holds_run (chose w k t) b m n p q r h l (z, y) choices next e f = (
    ap (λ (i : ℕ). i % 2 ^ w) e ∙ mod_is k (2 ^ w) (packed t) z,
    holds_run t b m n p q r h l y (choices / 2 ^ w) next (ap (λ (i : ℕ). i / 2 ^ w) e ∙ div_is k (2 ^ w) (packed t) z) f,
  )
  holds_run (name x s t) b m n p q (r, u) h l (z, y) choices next e f =
      (spells_in m x s (names_in t) z q r, holds_run t b (m + 1) n p (in_tail (name_of x s) (names_in t) (m + 1) refl q) u h l y choices next e f)
  holds_run (kid first end a t) b m n p q (r, u) h l (z, y) choices next e f =
      let d = kid_in N first end a t b m n next p h l f in (
        holds_run a b m 0 d.inside (in_left (names_in a) (names_in t) q) r (omega arith) (omega arith) z (word_at N next) (child_at N next) d.word d.child,
        holds_run t (b + under a + 1) (m + called a) n d.others
            (in_right (names_in a) (names_in t) (m + called a) (ap (λ (i : ℕ). m + i) (sym (length_names_in a))) q) u
            (omega arith) l y choices (next_at N next) e d.sibling,
      )

  -- ---- A tree that stands in a store

  -- The store holds the run of the tree, from its root.
  pub stands_holds : (p : Placed) → Stands N M X p → (root : ℕ) → root + 1 ≡ nodes (bare p) → Holds N M X (run_of p) (cursor 0 root 0)
  stands_holds p d root e =
      holds_run (run_of p) 0 0 0 (in_front N (nodes_of p) d.nodes_there) (in_front M (names_of p) d.names_there)
      (points X (run_of p) (d.spelled ∙ sym (spellings_plant node_table type p done ∙ append-nil (names (bare p)))))
      (omega (arith, d.few, under_plant node_table type p done)) (omega arith) (neat_plant node_table p d.fits done tt)
      0 root (sym (alone (of_type p d.fits)).word) (omega (arith, e, root_is p d.fits))

  -- The run is as high as the tree, and written as it is.
  pub stands_low : (p : Placed) (tall : ℕ) → height (bare p) ≤ tall → levels (run_of p) ≤ tall
  stands_low p tall h = omega (arith, levels_plant node_table type p done)

  pub stands_written : (p : Placed) → Stands N M X p → written (lined node_table) (both (child 0) one) (run_of p) ≡ write node_table type (bare p)
  stands_written p d = written_plant node_table one p d.fits done ∙ append-nil (write node_table type (bare p))

-- What taking back leaves of a tree stands in its outputs.
pub stands_laid : (t : Value) (a b c : ℕ) → Fits node_table type t → nodes t < half_word → letters t < half_word
    → Stands (filled a (nodes_of (laid t 0))) (filled b (names_of (laid t 0))) (filled c (text_of t)) (laid t 0)
stands_laid t a b c f h l =
    record {
      fits = subst (Fits node_table type) (sym (bare_laid t 0)) f;
      few = subst (λ (v : Value). nodes v < half_word) (sym (bare_laid t 0)) h;
      nodes_there = take-append_seam (nodes_of (laid t 0)) (replicate (a - length (nodes_of (laid t 0))) 0);
      names_there = take-append_seam (names_of (laid t 0)) (replicate (b - length (names_of (laid t 0))) 0);
      spelled = names_point node_table type t (replicate (c - length (text_of t)) 0) l ∙ ap names (sym (bare_laid t 0));
    }
