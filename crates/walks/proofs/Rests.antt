-- Two nodes walked together: what is left of them from a form on, and the nodes by their tags.
use mathlib.Core.Path.{◌≡◌, refl, sym, ap, ap₂, ◌∙◌, subst}
use mathlib.Core.Bool.{Bool, true, false}
use mathlib.Core.List.{List, [], ◌∷◌, append-nil}
use Rattle.std.proofs.Common.{Result, Ok, Err, is_ok}
use Prim.Native.Nat.{ℕ, zero, suc, ◌+◌, ◌-◌, ◌*◌, ◌^◌, ◌≤◌, ◌<◌}
use native.Mathlib.Omega.{arith}
use borrow.Author.Tests.{eq-eqb, ne_eqb}
use lib.Dec.{eqb}
use lib.ListN.{length, drop}
use Rattle.words.specs.Test.{◌and◌, same}
use Rattle.keys.specs.Bits.{Bits, Field, short, field, take_field, Row, cut, row, take_bytes}
use Rattle.keys.specs.Limits.{widest}
use Rattle.keys.proofs.BitsLaws.{clash, length_bytes}
use Rattle.keys.specs.Form.{Form, never, one, word, choose, both, child, Grammar, is_never}
use Rattle.fields.specs.Take.{answered}
use Rattle.std.proofs.Common.{Some}
use Rattle.fields.proofs.Chunks.{Told, number_told}
use Rattle.node_table.specs.Forms.{Entry, form_of, form_by, leads, grammar_of, entry_of, entry_at, class_at, steps_of, IsRow, Lists, Jumps, spellings_then, spelling_if, nodes_then}
use Rattle.node_table.proofs.FormsLaws.{form_at_lem}
use Rattle.node_table.specs.declared.forms.Row.{Row as TableRow}
use Rattle.node_table.specs.declared.forms.Jump.{Jump}
use Rattle.differs.specs.Content.{Content, ends, chooses, enters, own, Pair, inside, differences}
use Rattle.sound_keys.specs.Sound.{Scan, reads, fails, ◌⊕◌, after, then_read, as_node, read_allowed, read_whole, read_letters, read_length, read_choice, read_spelling, read_form, read_node, ComesTo, Goes}
use Rattle.walks.specs.Walk.{Puts, beside_ends, beside_chooses, IsRead, Abreast, no_node, SpelledOn, SpelledAll, Walked, WalkedAll, Rested, Parted, left_bits, right_bits, grammar, left_nodes, right_nodes, form_at, LeftRead, RightRead, Within, AsksSpelling, AsksSpellings, AsksNodes, AsksNode, AsksApart, AsksRest, Spells, SpellsAll, Ends, Parts, Rests, Walks, WalksAll}
use Rattle.key_parts.specs.declared.refusal.Stop.{Stop}
use Rattle.walks.specs.declared.sides.Sides.{Sides}
use Rattle.walks.specs.declared.walk.Both.{Both}
use Rattle.walks.proofs.Listed.{grows_none, grows_as, puts_grows, puts_over}
use Rattle.walks.proofs.Walking.{beside_differ, beside_own, after_back, read_behind, then_back, along_none, along_then, told_one, inside_bits, inside_bytes}

-- ---- Reading goes on

-- What is read ends no earlier than it begins.
abbrev Later : Scan → ℕ → Type 0
Later x a = (c : Content) (e : ℕ) → x ≡ reads c e → a ≤ e

later_after : (c : Content) (x : Scan) (a b : ℕ) → a ≤ b → Later x b → Later (after c x) a
later_after c x a b h l d e i =
    let k = after_back c x d e i in
    let j = l k.rest e k.is in
    omega arith

module _ (bs : Bits) where
  later_choice : (w : ℕ) (fs : ℕ → Form) (a : ℕ) (K : ℕ → Scan) → ((t : ℕ) → Later (K t) a) → Later (read_choice bs w fs a K) a
  later_choice w fs a K h = by (take_field w (drop a bs))
    where
      allowed : (t : ℕ) (b : Bool) → Later (read_allowed a K t b) a
      allowed t true c e i = clash (cc)
      allowed t false c e i = h t c e i

      by : (x : Field) → Later (read_whole a fs K x) a
      by short c e i = clash (cc)
      by (field t r) c e i = allowed t (is_never (fs t)) c e i

  later_word : (w a : ℕ) → Later (read_spelling bs w a) a
  later_word w a = by (take_field w (drop a bs))
    where
      letters : (m : ℕ) (x : Row) → Later (read_letters a (a + w + suc m * 8) x) a
      letters m cut c e i = clash (cc)
      letters m (row s r) c e i =
          let j : a + w + suc m * 8 ≡ e = cc in
          omega arith

      by : (x : Field) → Later (read_length w a x) a
      by short c e i = clash (cc)
      by (field zero r) c e i = clash (cc)
      by (field (suc m) r) c e i = letters m (take_bytes (suc m) r) c e i

  later_form : (X : ℕ → ℕ → Scan) → ((c a : ℕ) → Later (X c a) a) → (f : Form) (a : ℕ) → Later (read_form bs X f a) a
  later_form X h never a c e i = clash (cc)
  later_form X h one a c e i =
      let j : a ≡ e = cc in
      omega arith
  later_form X h (word w) a c e i = later_word w a c e i
  later_form X h (choose w x fs) a c e i =
      later_choice w fs a (λ k. after (chooses k ends) (read_form bs X (fs k) (a + w)))
      (λ t. later_after (chooses t ends) (read_form bs X (fs t) (a + w)) a (a + w) (omega arith) (later_form X h (fs t) (a + w))) c e i
  later_form X h (both f g) a c e i = by (read_form bs X f a) refl (later_form X h f a) (λ b. later_form X h g b)
    where
      by : (x : Scan) → read_form bs X f a ≡ x → Later (read_form bs X f a) a → ((b : ℕ) → Later (read_form bs X g b) b) → a ≤ e
      by (reads d b) j l m =
          let p = l d b j in
          let q = later_after d (read_form bs X g b) b b (omega arith) (m b) c e (sym (ap (λ (y : Scan). then_read y λ k. read_form bs X g k) j) ∙ i) in
          omega arith
      by (fails n b) j l m =
          let z = sym (ap (λ (y : Scan). then_read y λ k. read_form bs X g k) j) ∙ i in
          clash (cc z)
  later_form X h (child k) a c e i = h k a c e i

  later_as : (a : ℕ) (x : Scan) → Later x a → Later (as_node a x) a
  later_as a (reads c b) l d e i =
      let j : b ≡ e = cc in
      let k = l c b refl in
      omega arith
  later_as a (fails n b) l d e i = clash (cc)

  later_node : (G : Grammar) (h c a : ℕ) → Later (read_node bs G h c a) a
  later_node G zero c a = later_choice (G.tag_width c) (G.row c) a _ (λ t d e i. clash (cc))
  later_node G (suc h) c a =
      later_as a _ (later_choice (G.tag_width c) (G.row c) a (λ t. after (chooses t ends) (read_form bs (read_node bs G h) (G.row c t) (a + G.tag_width c)))
      (λ t. later_after (chooses t ends) (read_form bs (read_node bs G h) (G.row c t) (a + G.tag_width c)) a (a + G.tag_width c) (omega arith)
      (later_form (read_node bs G h) (λ k b. later_node G h k b) (G.row c t) (a + G.tag_width c))))

-- ---- Passing over

-- A check of what is read stops nowhere.
pub checks_end : (all : ℕ) (x : Scan) (r : Result ℕ Stop) → ComesTo all x r → IsRead x → is_ok r ≡ true
checks_end all x (Ok b) d e = refl
checks_end all x (Err s) d e =
    let i = sym d.is ∙ e.is in
    clash (cc i)

-- The right side by the left's words.
right_ends : (s : Sides) (high steps bit : ℕ) (k : Jump) {end : ℕ} → Ends s.right high steps bit k end → Goes (length (right_bits s)) (read_form (right_bits s) (right_nodes s high) (form_at s steps k) bit) end
right_ends s high steps bit k {end} d =
    subst (λ (T : List ℕ). Goes (length (right_bits s)) (read_form (right_bits s) (read_node (right_bits s) (grammar_of T) high) (form_of T steps k.n k.form) bit) end) s.alike d

-- Both sides are passed over.
pub parted : (s : Sides) (high steps : ℕ) (j k : Jump) (at : Both) {first : Both} {l m : List ℕ} {c d : ℕ}
    → Ends s.left high steps at.left j c → Ends s.right high steps at.right k d
    → first.found < at.left → Puts l first.found first.left first.right m
    → Parts s high steps at j k first (record { left = c; right = d; found = first.found + 1 }) l m
parted s high steps j k at {first} {l} {m} {c} {d} x e h p =
    let y = right_ends s high steps at.right k e in
    let z = later_form (left_bits s) (left_nodes s high) (later_node (left_bits s) (grammar s) high) (form_at s steps j) at.left x.content c x.is in
    record {
      c = x.content;
      d = y.content;
      left = x.is;
      right = y.is;
      found = refl;
      puts = p;
      inside = record { left = x.in_key; right = y.in_key; few = omega arith };
    }

-- ---- A choice that is read

-- Its number, and where it goes.
pub record Chose (bs : Bits) (w : ℕ) (fs : ℕ → Form) (a : ℕ) (K : ℕ → Scan) : Type 0 where
  pub number : ℕ
  pub told : Told bs a w number
  pub goes : read_choice bs w fs a K ≡ K number

pub choice_good : (bs : Bits) (w : ℕ) (fs : ℕ → Form) (a : ℕ) (K : ℕ → Scan) → IsRead (read_choice bs w fs a K) → Chose bs w fs a K
choice_good bs w fs a K r = by (take_field w (drop a bs)) refl
  where
    known : (t : ℕ) (q : Bits) → take_field w (drop a bs) ≡ field t q → (b : Bool) → is_never (fs t) ≡ b → Chose bs w fs a K
    known t q i true j =
        let z = sym r.is ∙ ap (read_whole a fs K) i ∙ ap (read_allowed a K t) j in
        clash (cc z)
    known t q i false j = record { number = t; told = number_told bs a w t (ap answered (sym i)); goes = ap (read_whole a fs K) i ∙ ap (read_allowed a K t) j }

    by : (x : Field) → take_field w (drop a bs) ≡ x → Chose bs w fs a K
    by short i =
        let z = sym r.is ∙ ap (read_whole a fs K) i in
        clash (cc z)
    by (field t q) i = known t q i (is_never (fs t)) refl

-- Numbers that differ have a bit.
pub some_bit : (w t u : ℕ) → t < 2 ^ w → u < 2 ^ w → (t ≡ u → ⊥) → 1 ≤ w
some_bit zero t u a b z = absurd (z (omega arith))
some_bit (suc w) t u a b z = omega arith

-- ---- Parts that stand alone

pub word_alone : (bs : Bits) (X : ℕ → ℕ → Scan) (w a : ℕ) (g : Form) → IsRead (read_form bs X (both (word w) g) a) → IsRead (read_spelling bs w a)
word_alone bs X w a g r =
    let f = then_back (read_spelling bs w a) (λ e. read_form bs X g e) r in
    record { content = f.content; end = f.end; is = f.is }

pub words_alone : (bs : Bits) (X : ℕ → ℕ → Scan) (n w a : ℕ) (g : Form) → IsRead (read_form bs X (spellings_then n w g) a) → IsRead (read_form bs no_node (spellings_then n w one) a)
words_alone bs X zero w a g r = record { content = ends; end = a; is = refl }
words_alone bs X (suc n) w a g r =
    let f = then_back (read_spelling bs w a) (λ e. read_form bs X (spellings_then n w g) e) r in
    let h = words_alone bs X n w f.end g f.next in
    record {
      content = f.content ⊕ h.content;
      end = h.end;
      is = ap (λ (o : Scan). then_read o λ e. read_form bs no_node (spellings_then n w one) e) f.is ∙ ap (after f.content) h.is;
    }

if_alone : (bs : Bits) (X : ℕ → ℕ → Scan) (w a : ℕ) (g g' : Form) → IsRead (read_form bs X (spelling_if w g) a) → ((b : ℕ) → IsRead (read_form bs X g b) → IsRead (read_form bs X g' b)) → IsRead (read_form bs X (spelling_if w g') a)
if_alone bs X zero a g g' r k = k a r
if_alone bs X (suc w) a g g' r k =
    let f = then_back (read_spelling bs (suc w) a) (λ e. read_form bs X g e) r in
    let h = k f.end f.next in
    record {
      content = f.content ⊕ h.content;
      end = h.end;
      is = ap (λ (o : Scan). then_read o λ e. read_form bs X g' e) f.is ∙ ap (after f.content) h.is;
    }

pub nodes_alone : (bs : Bits) (X : ℕ → ℕ → Scan) (n c w a : ℕ) (g : Form) → IsRead (read_form bs X (nodes_then n c w g) a) → IsRead (read_form bs X (nodes_then n c w one) a)
nodes_alone bs X zero c w a g r = record { content = ends; end = a; is = refl }
nodes_alone bs X (suc n) c w a g r =
    let f = then_back (X c a) (λ e. read_form bs X (spelling_if w (nodes_then n c w g)) e) r in
    let h = if_alone bs X w f.end (nodes_then n c w g) (nodes_then n c w one) f.next (λ b s. nodes_alone bs X n c w b g s) in
    record {
      content = f.content ⊕ h.content;
      end = h.end;
      is = ap (λ (o : Scan). then_read o λ e. read_form bs X (spelling_if w (nodes_then n c w one)) e) f.is ∙ ap (after f.content) h.is;
    }

-- ---- What is left of two nodes

-- The walk has come from one form to another on both sides.
pub record Coming (s : Sides) (high steps : ℕ) (from : Jump) (at first : Both) (l : List ℕ) (depth : ℕ) (f : Jump) (p : Both) (m : List ℕ) : Type 0 where
  pub same_found : at.found ≡ first.found
  pub whole_left : LeftRead s (left_nodes s high) (form_at s steps from) at
  pub whole_right : RightRead s (right_nodes s high) (form_at s steps from) at
  pub along : Abreast (left_bits s) (right_bits s) (left_nodes s high) (right_nodes s high) (form_at s steps from) (form_at s steps from) (form_at s depth f) (form_at s depth f) at p l m
  pub in_table : f.form < 2 ^ 32
  pub few : f.n < 2 ^ 32

pub coming_none : (s : Sides) (high steps : ℕ) (from : Jump) (at first : Both) (l : List ℕ) → AsksRest s high steps from at first → Coming s high steps from at first l steps from at l
coming_none s high steps from at first l asked =
    record {
      same_found = asked.3;
      whole_left = asked.4;
      whole_right = asked.5;
      along = along_none (left_bits s) (right_bits s) (left_nodes s high) (right_nodes s high) (form_at s steps from) (form_at s steps from) at l (inside_bits s.left.key.now s.right.key.now asked.2);
      in_table = asked.0;
      few = asked.1;
    }

module _ {s : Sides} {high steps : ℕ} {from : Jump} {at first : Both} {l : List ℕ} {depth : ℕ} {f : Jump} {p : Both} {m : List ℕ} (d : Coming s high steps from at first l depth f p m) where
  abbrev X : ℕ → ℕ → Scan
  X = left_nodes s high

  abbrev Y : ℕ → ℕ → Scan
  Y = right_nodes s high

  abbrev F : Form
  F = form_at s steps from

  within : Within s p
  within = inside_bytes s.left.key.now s.right.key.now d.along.inside

  module _ (o : 0 < depth) {r r' : TableRow} (i : IsRow (entry_at s.left.forms.now f.form) r) (same_row : r' ≡ r) where
    -- What the form comes to, by its operation.
    abbrev by_op : ℕ → Form
    by_op k = form_by s.left.forms.now (form_of s.left.forms.now (depth - 1)) f.n (entry_of r) k

    form_is : (k : ℕ) → r.op ≡ k → form_at s depth f ≡ by_op k
    form_is k e = form_at_lem s.left.forms.now depth (depth - 1) f.n f.form (let z : depth ≡ suc (depth - 1) = omega arith in z) r i k e

    there : (k : ℕ) → r.op ≡ k → Abreast (left_bits s) (right_bits s) X Y F F (by_op k) (by_op k) at p l m
    there k e = subst (λ (x : Form). Abreast (left_bits s) (right_bits s) X Y F F x x at p l m) (form_is k e) d.along

    now_left : (k : ℕ) → r.op ≡ k → LeftRead s X (by_op k) p
    now_left k e = let a = there k e in read_behind a.c _ d.whole_left a.left

    now_right : (k : ℕ) → r.op ≡ k → RightRead s Y (by_op k) p
    now_right k e = let a = there k e in read_behind a.d _ d.whole_right a.right

    wide_row : r.w ≤ widest
    wide_row = subst (λ (x : Entry). x.w ≤ widest) (sym i.is) (s.left.narrow.at f.form)

    same_width : r'.w ≡ r.w
    same_width = ap (λ (x : TableRow). x.w) same_row

    wide_right : r'.w ≤ widest
    wide_right = omega (arith, wide_row, same_width)

    -- The form is not the one that nothing has.
    pub some_op : 1 ≤ r.op
    some_op = by r.op refl
      where
        by : (x : ℕ) → r.op ≡ x → 1 ≤ r.op
        by zero e =
            let z = (now_left 0 e).is in
            clash (cc z)
        by (suc x) e = omega arith

    -- The form is the end.
    pub rest_end : r.op ≡ 1 → Rests s high steps from at first p l m
    rest_end e =
        let a = there 1 e in
        let z : inside (same (own (a.c ⊕ ends)) (own (a.d ⊕ ends))) (first.left, first.right) (differences (a.c ⊕ ends) (a.d ⊕ ends)) ≡ differences a.c a.d = ap₂ (λ (x : Bool) (y : List Pair). inside x (first.left, first.right) y) (beside_own a.beside ends ends) (beside_differ a.beside ends ends ∙ append-nil (differences a.c a.d)) in
        record {
          c = a.c ⊕ ends;
          d = a.d ⊕ ends;
          left = a.left;
          right = a.right;
          found = a.found ∙ ap₂ (λ (x : ℕ) (y : List Pair). x + length y) d.same_found (sym z);
          grows = grows_as d.same_found (sym z) a.grows;
          inside = a.inside;
        }

    -- A step that leads to another form.
    go_on : {g : Form} {q : Both} {k : List ℕ} (j : Jump) (x : ℕ) → r.op ≡ x → g ≡ form_at s (depth - 1) j
        → Abreast (left_bits s) (right_bits s) X Y (by_op x) (by_op x) g g p q m k
        → j.form < 2 ^ 32 → j.n < 2 ^ 32 → Coming s high steps from at first l (depth - 1) j q k
    go_on {g} {q} {k} j x e w a b c =
        record {
          same_found = d.same_found;
          whole_left = d.whole_left;
          whole_right = d.whole_right;
          along =
              along_then (left_bits s) (right_bits s) X Y (there x e)
              (subst (λ (y : Form). Abreast (left_bits s) (right_bits s) X Y (by_op x) (by_op x) y y p q m k) w a);
          in_table = b;
          few = c;
        }

    -- ---- Nodes
    module _ (e : r.op ≡ 3) where
      nodes_right : (v : ℕ) → v ≡ r.w → RightRead s Y (nodes_then f.n r.a v one) p
      nodes_right v z =
          subst (λ (x : ℕ). RightRead s (right_nodes s high) (nodes_then f.n r.a x one) p) (sym z)
          (nodes_alone (right_bits s) Y f.n r.a r.w p.right (form_of s.left.forms.now (depth - 1) 1 r.b) (now_right 3 e))

      pub nodes_ask : AsksNodes s high r.a (record { left = r.w; right = r'.w }) f.n p
      nodes_ask =
          (i.from, wide_row, same_width, within, nodes_alone (left_bits s) X f.n r.a r.w p.left (form_of s.left.forms.now (depth - 1) 1 r.b) (now_left 3 e), nodes_right r'.w same_width)

      pub nodes_on : {q : Both} {k : List ℕ} → WalksAll s high r.a (record { left = r.w; right = r'.w }) f.n p q m k
          → Coming s high steps from at first l (depth - 1) (record { form = r.b; n = 1 }) q k
      nodes_on {q} {k} a =
          go_on (record { form = r.b; n = 1 }) 3 e refl
          (subst (λ (x : ℕ). WalkedAll (left_bits s) (right_bits s) (grammar s) high r.a r.w x f.n p q m k) same_width a (form_of s.left.forms.now (depth - 1) 1 r.b) (form_of s.left.forms.now (depth - 1) 1 r.b))
          i.next (omega arith)

    -- ---- Spellings
    module _ (e : r.op ≡ 2) where
      words_right : (v : ℕ) → v ≡ r.w → RightRead s no_node (spellings_then f.n v one) p
      words_right v z =
          subst (λ (x : ℕ). RightRead s no_node (spellings_then f.n x one) p) (sym z)
          (words_alone (right_bits s) Y f.n r.w p.right (form_of s.left.forms.now (depth - 1) 1 r.b) (now_right 2 e))

      pub words_ask : AsksSpellings s (record { left = r.w; right = r'.w }) f.n p
      words_ask =
          (wide_row, wide_right, within, words_alone (left_bits s) X f.n r.w p.left (form_of s.left.forms.now (depth - 1) 1 r.b) (now_left 2 e), words_right r'.w same_width)

      pub words_on : {q : Both} {k : List ℕ} → SpellsAll s (record { left = r.w; right = r'.w }) f.n p q m k
          → Coming s high steps from at first l (depth - 1) (record { form = r.b; n = 1 }) q k
      words_on {q} {k} a =
          go_on (record { form = r.b; n = 1 }) 2 e refl
          (subst (λ (x : ℕ). SpelledAll (left_bits s) (right_bits s) r.w x f.n p q m k) same_width a X Y (form_of s.left.forms.now (depth - 1) 1 r.b) (form_of s.left.forms.now (depth - 1) 1 r.b))
          i.next (omega arith)

    -- ---- One spelling
    module _ (e : r.op ≡ 4) where
      word_right : (v : ℕ) → v ≡ r.w → IsRead (read_spelling (right_bits s) v p.right)
      word_right v z =
          subst (λ (x : ℕ). IsRead (read_spelling (right_bits s) x p.right)) (sym z)
          (word_alone (right_bits s) Y r.w p.right (form_of s.left.forms.now (depth - 1) f.n r.b) (now_right 4 e))

      pub word_asks : AsksSpelling s (record { left = r.w; right = r'.w }) p
      word_asks =
          (wide_row, wide_right, within, word_alone (left_bits s) X r.w p.left (form_of s.left.forms.now (depth - 1) f.n r.b) (now_left 4 e), word_right r'.w same_width)

      pub word_on : {q : Both} {k : List ℕ} → Spells s (record { left = r.w; right = r'.w }) p q m k
          → Coming s high steps from at first l (depth - 1) (record { form = r.b; n = f.n }) q k
      word_on {q} {k} a =
          go_on (record { form = r.b; n = f.n }) 4 e refl
          (subst (λ (x : ℕ). SpelledOn (left_bits s) (right_bits s) r.w x p q m k) same_width a X Y (form_of s.left.forms.now (depth - 1) f.n r.b) (form_of s.left.forms.now (depth - 1) f.n r.b))
          i.next d.few

    -- ---- A choice
    module _ (h : 5 ≤ r.op) where
      abbrev op : ℕ
      op = suc (suc (suc (suc (suc (r.op - 5)))))

      op_is : r.op ≡ suc (suc (suc (suc (suc (r.op - 5)))))
      op_is = omega arith

      abbrev fs : ℕ → Form
      fs = leads s.left.forms.now (form_of s.left.forms.now (depth - 1)) (entry_of r) (r.op - 5)

      abbrev K : ℕ → Scan
      K t = after (chooses t ends) (read_form (left_bits s) X (fs t) (p.left + r.w))

      abbrev K' : ℕ → Scan
      K' t = after (chooses t ends) (read_form (right_bits s) Y (fs t) (p.right + r.w))

      left_chose : Chose (left_bits s) r.w fs p.left K
      left_chose = choice_good (left_bits s) r.w fs p.left K (now_left op op_is)

      right_chose : Chose (right_bits s) r.w fs p.right K'
      right_chose = choice_good (right_bits s) r.w fs p.right K' (now_right op op_is)

      choice_ends : p.right + r.w ≤ length (right_bits s)
      choice_ends = right_chose.told.within d.along.inside.right

      pub choice_left : (p.left + r.w ≤ length s.left.key.now * 8) × (r.w ≤ widest)
      choice_left = (omega (arith, left_chose.told.within d.along.inside.left, length_bytes s.left.key.now), wide_row)

      pub choice_right : (p.right + r'.w ≤ length s.right.key.now * 8) × (r'.w ≤ widest)
      choice_right = (omega (arith, choice_ends, same_width, length_bytes s.right.key.now), wide_right)

      module _ {t u : ℕ} (x : Some t ≡ answered (take_field r.w (drop p.left (left_bits s)))) (y : Some u ≡ answered (take_field r'.w (drop p.right (right_bits s)))) where
        t_is : t ≡ left_chose.number
        t_is = told_one left_chose.told x

        u_is : u ≡ right_chose.number
        u_is = told_one right_chose.told (y ∙ ap (λ (a : ℕ). answered (take_field a (drop p.right (right_bits s)))) same_width)

        left_goes : read_form (left_bits s) X (by_op op) p.left ≡ after (chooses t ends) (read_form (left_bits s) X (fs t) (p.left + r.w))
        left_goes = left_chose.goes ∙ ap K (sym t_is)

        right_goes : read_form (right_bits s) Y (by_op op) p.right ≡ after (chooses u ends) (read_form (right_bits s) Y (fs u) (p.right + r'.w))
        right_goes = right_chose.goes ∙ ap K' (sym u_is) ∙ ap (λ (a : ℕ). after (chooses u ends) (read_form (right_bits s) Y (fs u) (p.right + a))) (sym same_width)

        -- The same number on both sides.
        pub choice_on : t ≡ u → {j : Jump} → Jumps s.left.forms.now r t j → Coming s high steps from at first l (depth - 1) j (record { left = p.left + r.w; right = p.right + r'.w; found = p.found }) m
        choice_on e {j} w =
            go_on j op op_is (w.is (depth - 1))
            (record {
              c = chooses t ends;
              d = chooses t ends;
              left = left_goes;
              right = right_goes ∙ ap (λ (a : ℕ). after (chooses a ends) (read_form (right_bits s) Y (fs a) (p.right + r'.w))) (sym e);
              beside = beside_chooses beside_ends;
              found = omega arith;
              grows = grows_none m p.found;
              inside = record { left = left_chose.told.within d.along.inside.left; right = omega (arith, choice_ends, same_width); few = omega (arith, d.along.inside.few) };
            }) w.form w.few

        -- Other numbers: each side leads elsewhere.
        module _ (e : t ≡ u → ⊥) {j k : Jump} (w : Jumps s.left.forms.now r t j) (other : Jumps s.right.forms.now r' u k) where
          v : Jumps s.left.forms.now r u k
          v = subst (λ (x₁ : TableRow). Jumps s.left.forms.now x₁ u k) same_row (subst (λ (x₁ : List ℕ). Jumps x₁ r' u k) s.alike other)

          rest_left : IsRead (read_form (left_bits s) X (form_at s (depth - 1) j) (p.left + r.w))
          rest_left =
              subst (λ (a : Form). IsRead (read_form (left_bits s) X a (p.left + r.w))) (w.is (depth - 1))
              (read_behind (chooses t ends) (read_form (left_bits s) X (fs t) (p.left + r.w)) (now_left op op_is) left_goes)

          rest_right : IsRead (read_form (right_bits s) Y (form_at s (depth - 1) k) (p.right + r'.w))
          rest_right =
              subst (λ (a : Form). IsRead (read_form (right_bits s) Y a (p.right + r'.w))) (v.is (depth - 1))
              (read_behind (chooses u ends) (read_form (right_bits s) Y (fs u) (p.right + r'.w)) (now_right op op_is) right_goes)

          some_found : first.found < p.left + r.w
          some_found =
              let a = some_bit r.w t u (subst (λ (b : ℕ). b < 2 ^ r.w) (sym t_is) left_chose.told.small) (subst (λ (b : ℕ). b < 2 ^ r.w) (sym u_is) right_chose.told.small) e in
              omega (arith, d.along.found, d.along.inside.few, d.same_found)

          pub choice_asks : AsksApart s high (depth - 1) (record { left = p.left + r.w; right = p.right + r'.w; found = p.found }) j k first
          choice_asks = (choice_left.0, choice_right.0, w.form, w.few, v.form, v.few, some_found, rest_left, rest_right)

          pub choice_apart : {q : Both} {n : List ℕ} → Parts s high (depth - 1) (record { left = p.left + r.w; right = p.right + r'.w; found = p.found }) j k first q m n → Rests s high steps from at first q l n
          choice_apart {q} {n} b =
              let a = there op op_is in
              let g₁ : same (own (a.c ⊕ chooses t b.c)) (own (a.d ⊕ chooses u b.d)) ≡ false = beside_own a.beside (chooses t b.c) (chooses u b.d) ∙ ap (λ (y₁ : Bool). y₁ and same (own b.c) (own b.d)) (ne_eqb t u e) in
              let g : inside (same (own (a.c ⊕ chooses t b.c)) (own (a.d ⊕ chooses u b.d))) (first.left, first.right) (differences (a.c ⊕ chooses t b.c) (a.d ⊕ chooses u b.d)) ≡ (first.left, first.right) ∷ [] = ap (λ (y₁ : Bool). inside y₁ (first.left, first.right) (differences (a.c ⊕ chooses t b.c) (a.d ⊕ chooses u b.d))) g₁ in
              record {
                c = a.c ⊕ chooses t b.c;
                d = a.d ⊕ chooses u b.d;
                left = a.left ∙ ap (after a.c) (left_goes ∙ ap (λ (y₁ : Form). after (chooses t ends) (read_form (left_bits s) X y₁ (p.left + r.w))) (w.is (depth - 1)) ∙ ap (after (chooses t ends)) b.left);
                right = a.right ∙ ap (after a.d) (right_goes ∙ ap (λ (y₁ : Form). after (chooses u ends) (read_form (right_bits s) Y y₁ (p.right + r'.w))) (v.is (depth - 1)) ∙ ap (after (chooses u ends)) b.right);
                found = b.found ∙ ap (λ (y₁ : List Pair). first.found + length y₁) (sym g);
                grows = grows_as refl (sym g) (puts_over (grows_as d.same_found refl a.grows) b.puts);
                inside = b.inside;
              }

-- ---- Two nodes by their tags

-- A node that is read: its tag, and what follows it.
module _ (bs : Bits) (T : List ℕ) (high class a : ℕ) (R : IsRead (read_node bs (grammar_of T) high class a)) where
  pub some_height : high ≡ suc (high - 1)
  some_height = by high refl
    where
      by : (n : ℕ) → high ≡ n → high ≡ suc (high - 1)
      by zero e =
          let K : ℕ → Scan = λ t. fails 6 a in
          let q = ap (λ (x : ℕ). read_node bs (grammar_of T) x class a) e in
          let c = choice_good bs ((grammar_of T).tag_width class) ((grammar_of T).row class) a K (record { content = R.content; end = R.end; is = sym q ∙ R.is }) in
          let z = sym R.is ∙ q ∙ c.goes in
          clash (cc z)
      by (suc n) e = omega arith

  abbrev H : ℕ → Scan
  H t = after (chooses t ends) (read_form bs (read_node bs (grammar_of T) (high - 1)) ((grammar_of T).row class t) (a + (grammar_of T).tag_width class))

  whole : read_node bs (grammar_of T) high class a ≡ as_node a (read_choice bs ((grammar_of T).tag_width class) ((grammar_of T).row class) a (λ t. after (chooses t ends) (read_form bs (read_node bs (grammar_of T) (high - 1)) ((grammar_of T).row class t) (a + (grammar_of T).tag_width class))))
  whole = ap (λ (x : ℕ). read_node bs (grammar_of T) x class a) some_height

  as_back : (x : Scan) (r : IsRead (as_node a x)) → IsRead x
  as_back (reads c e) r = record { content = c; end = e; is = refl }
  as_back (fails n b) r = let z = r.is in clash (cc z)

  chose : Chose bs ((grammar_of T).tag_width class) ((grammar_of T).row class) a (λ t. after (chooses t ends) (read_form bs (read_node bs (grammar_of T) (high - 1)) ((grammar_of T).row class t) (a + (grammar_of T).tag_width class)))
  chose = choice_good bs ((grammar_of T).tag_width class) ((grammar_of T).row class) a H (as_back _ (record { content = R.content; end = R.end; is = sym whole ∙ R.is }))

  module _ (tags : TableRow) (i : IsRow (class_at T class) tags) where
    wide : tags.w ≡ (grammar_of T).tag_width class
    wide = ap (λ (e : Entry). e.w) i.is

    pub tag_within : a ≤ length bs → a + tags.w ≤ length bs
    tag_within h = let x = chose.told.within h in omega (arith, wide)

    module _ (steps : ℕ) (s : steps ≡ steps_of T) (t : ℕ) (x : Some t ≡ answered (take_field tags.w (drop a bs))) (j : Jump) (w : Lists T tags t j) where
      tag_is : t ≡ chose.number
      tag_is = told_one chose.told (x ∙ ap (λ (b : ℕ). answered (take_field b (drop a bs))) wide)

      pub tag_small : t < 2 ^ tags.w
      tag_small = subst (λ (b : ℕ). t < 2 ^ b) (sym wide) (subst (λ (b : ℕ). b < 2 ^ (grammar_of T).tag_width class) (sym tag_is) chose.told.small)

      row_is : (grammar_of T).row class t ≡ form_of T steps j.n j.form
      row_is = ap₂ (λ (e : Entry) (y : ℕ). leads T (form_of T y) e 0 t) (sym i.is) (sym s) ∙ w.is steps

      pub node_whole : read_node bs (grammar_of T) high class a ≡ as_node a (after (chooses t ends) (read_form bs (read_node bs (grammar_of T) (high - 1)) (form_of T steps j.n j.form) (a + tags.w)))
      node_whole =
          whole
          ∙ ap (as_node a) (chose.goes ∙ ap H (sym tag_is)
          ∙ ap₂ (λ (y : Form) (b : ℕ). after (chooses t ends) (read_form bs (read_node bs (grammar_of T) (high - 1)) y (a + b))) row_is (sym wide))

      pub node_rest : IsRead (read_form bs (read_node bs (grammar_of T) (high - 1)) (form_of T steps j.n j.form) (a + tags.w))
      node_rest =
          read_behind (chooses t ends) _ (as_back (after (chooses t ends) (read_form bs (read_node bs (grammar_of T) (high - 1)) (form_of T steps j.n j.form) (a + tags.w))) (record { content = R.content; end = R.end; is = sym node_whole ∙ R.is })) refl

-- Both tags the same, or not.
module _ (bs cs : Bits) (T : List ℕ) (high class steps t u : ℕ) (p at q : Both) (l m : List ℕ) (j k : Jump)
    (x : read_node bs (grammar_of T) high class p.left ≡ as_node p.left (after (chooses t ends) (read_form bs (read_node bs (grammar_of T) (high - 1)) (form_of T steps j.n j.form) at.left)))
    (y : read_node cs (grammar_of T) high class p.right ≡ as_node p.right (after (chooses u ends) (read_form cs (read_node cs (grammar_of T) (high - 1)) (form_of T steps k.n k.form) at.right))) where
  pub tags_same : t ≡ u
      → Rested bs cs (read_node bs (grammar_of T) (high - 1)) (read_node cs (grammar_of T) (high - 1)) (form_of T steps j.n j.form) (form_of T steps k.n k.form) at p q l m
      → Walked bs cs (grammar_of T) high class p q l m
  tags_same e r =
      let z : differences (enters p.left (chooses t r.c) ends) (enters p.right (chooses u r.d) ends) ≡ inside (same (own r.c) (own r.d)) (p.left, p.right) (differences r.c r.d) = append-nil (inside (eqb t u and same (own r.c) (own r.d)) (p.left, p.right) (differences r.c r.d)) ∙ ap (λ (b : Bool). inside (b and same (own r.c) (own r.d)) (p.left, p.right) (differences r.c r.d)) (eq-eqb t u e) in
      record {
        u = chooses t r.c;
        v = chooses u r.d;
        left = x ∙ ap (λ (o : Scan). as_node p.left (after (chooses t ends) o)) r.left;
        right = y ∙ ap (λ (o : Scan). as_node p.right (after (chooses u ends) o)) r.right;
        found = r.found ∙ ap (λ (b : List Pair). p.found + length b) (sym z);
        grows = grows_as refl (sym z) r.grows;
        inside = r.inside;
      }

  pub tags_apart : (t ≡ u → ⊥)
      → Parted bs cs (read_node bs (grammar_of T) (high - 1)) (read_node cs (grammar_of T) (high - 1)) (form_of T steps j.n j.form) (form_of T steps k.n k.form) at p q l m
      → Walked bs cs (grammar_of T) high class p q l m
  tags_apart e r =
      let z : differences (enters p.left (chooses t r.c) ends) (enters p.right (chooses u r.d) ends) ≡ (p.left, p.right) ∷ [] = append-nil (inside (eqb t u and same (own r.c) (own r.d)) (p.left, p.right) (differences r.c r.d)) ∙ ap (λ (b : Bool). inside (b and same (own r.c) (own r.d)) (p.left, p.right) (differences r.c r.d)) (ne_eqb t u e) in
      record {
        u = chooses t r.c;
        v = chooses u r.d;
        left = x ∙ ap (λ (o : Scan). as_node p.left (after (chooses t ends) o)) r.left;
        right = y ∙ ap (λ (o : Scan). as_node p.right (after (chooses u ends) o)) r.right;
        found = r.found ∙ ap (λ (b : List Pair). p.found + length b) (sym z);
        grows = grows_as refl (sym z) (puts_grows r.puts);
        inside = r.inside;
      }

-- ---- Both tags, as the code meets them

-- What a list says by one row and number it says by the same ones.
lists_as : {T U : List ℕ} {r q : TableRow} {u : ℕ} {j : Jump} → U ≡ T → q ≡ r → Lists U q u j → Lists T r u j
lists_as {T} {U} {r} {q} {u} {j} i e w = subst (λ (x : TableRow). Lists T x u j) e (subst (λ (x : List ℕ). Lists x q u j) i w)

module _ (s : Sides) (high class : ℕ) (p : Both) (asked : AsksNode s class high p) {tags marks : TableRow} (i : IsRow (class_at s.left.forms.now class) tags) (e : marks ≡ tags) where
  wide_tag : tags.w ≤ widest
  wide_tag = subst (λ (x : Entry). x.w ≤ widest) (sym i.is) (s.left.narrow.tag class)

  pub tag_left : (p.left + tags.w ≤ length s.left.key.now * 8) × (tags.w ≤ widest)
  tag_left =
      (omega (arith, tag_within (left_bits s) s.left.forms.now high class p.left asked.2 tags i (omega (arith, asked.1.left, length_bytes s.left.key.now)), length_bytes s.left.key.now), wide_tag)

  pub tag_right : (p.right + marks.w ≤ length s.right.key.now * 8) × (marks.w ≤ widest)
  tag_right =
      subst (λ (x : TableRow). (p.right + x.w ≤ length s.right.key.now * 8) × (x.w ≤ widest)) (sym e)
      (omega (arith, tag_within (right_bits s) s.left.forms.now high class p.right asked.3 tags i (omega (arith, asked.1.right, length_bytes s.right.key.now)), length_bytes s.right.key.now), wide_tag)

  abbrev behind : Both
  behind = record { left = p.left + tags.w; right = p.right + marks.w; found = p.found }

  module _ {steps t u : ℕ} (y : steps ≡ steps_of s.left.forms.now) (x : Some t ≡ answered (take_field tags.w (drop p.left (left_bits s)))) (z : Some u ≡ answered (take_field marks.w (drop p.right (right_bits s)))) {j : Jump} (w : Lists s.left.forms.now tags t j) where
    z_tags : Some u ≡ answered (take_field tags.w (drop p.right (right_bits s)))
    z_tags = subst (λ (o : TableRow). Some u ≡ answered (take_field o.w (drop p.right (right_bits s)))) e z

    left_whole : left_nodes s high class p.left ≡ as_node p.left (after (chooses t ends) (read_form (left_bits s) (left_nodes s (high - 1)) (form_at s steps j) (p.left + tags.w)))
    left_whole = node_whole (left_bits s) s.left.forms.now high class p.left asked.2 tags i steps y t x j w

    left_rest : IsRead (read_form (left_bits s) (left_nodes s (high - 1)) (form_at s steps j) (p.left + tags.w))
    left_rest = node_rest (left_bits s) s.left.forms.now high class p.left asked.2 tags i steps y t x j w

    right_whole : {k : Jump} → Lists s.left.forms.now tags u k → right_nodes s high class p.right ≡ as_node p.right (after (chooses u ends) (read_form (right_bits s) (right_nodes s (high - 1)) (form_at s steps k) (p.right + marks.w)))
    right_whole {k} v =
        subst (λ (o : TableRow). right_nodes s high class p.right ≡ as_node p.right (after (chooses u ends) (read_form (right_bits s) (right_nodes s (high - 1)) (form_at s steps k) (p.right + o.w)))) (sym e)
        (node_whole (right_bits s) s.left.forms.now high class p.right asked.3 tags i steps y u z_tags k v)

    right_rest : {k : Jump} → Lists s.left.forms.now tags u k → IsRead (read_form (right_bits s) (right_nodes s (high - 1)) (form_at s steps k) (p.right + marks.w))
    right_rest {k} v =
        subst (λ (o : TableRow). IsRead (read_form (right_bits s) (right_nodes s (high - 1)) (form_at s steps k) (p.right + o.w))) (sym e)
        (node_rest (right_bits s) s.left.forms.now high class p.right asked.3 tags i steps y u z_tags k v)

    -- The tags differ.
    module _ (h : t ≡ u → ⊥) {k : Jump} (v : Lists s.right.forms.now marks u k) where
      v_tags : Lists s.left.forms.now tags u k
      v_tags = lists_as s.alike e v

      pub apart_asks : AsksApart s (high - 1) steps (record { left = p.left + tags.w; right = p.right + marks.w; found = p.found }) j k p
      apart_asks =
          let a = tag_small (left_bits s) s.left.forms.now high class p.left asked.2 tags i steps y t x j w in
          let b = tag_small (right_bits s) s.left.forms.now high class p.right asked.3 tags i steps y u z_tags k v_tags in
          (tag_left.0, tag_right.0, w.form, omega (arith, w.once), v.form, omega (arith, v.once), omega (arith, asked.1.few, some_bit tags.w t u a b h), left_rest, right_rest v_tags)

      pub apart_walks : {q : Both} {l m : List ℕ} → Parts s (high - 1) steps (record { left = p.left + tags.w; right = p.right + marks.w; found = p.found }) j k p q l m → Walks s high class p q l m
      apart_walks {q} {l} {m} r =
          tags_apart (left_bits s) (right_bits s) s.left.forms.now high class steps t u p behind q l m j k left_whole (right_whole v_tags) h r

    -- The tags are the same.
    module _ (h : t ≡ u) where
      same_list : Lists s.left.forms.now tags u j
      same_list = subst (λ (o : ℕ). Lists s.left.forms.now tags o j) h w

      pub rest_asks : AsksRest s (high - 1) steps j (record { left = p.left + tags.w; right = p.right + marks.w; found = p.found }) p
      rest_asks =
          (w.form, omega (arith, w.once), record { left = tag_left.0; right = tag_right.0; few = omega (arith, asked.1.few) }, refl, left_rest, right_rest same_list)

      pub rest_walks : {q : Both} {l m : List ℕ} → Rests s (high - 1) steps j (record { left = p.left + tags.w; right = p.right + marks.w; found = p.found }) p q l m → Walks s high class p q l m
      rest_walks {q} {l} {m} r =
          tags_same (left_bits s) (right_bits s) s.left.forms.now high class steps t u p behind q l m j j left_whole (right_whole same_list) h r
