-- What is proved of the pairs: there are none exactly where the trees are the same; exchanging the keys exchanges each pair; they rise on both sides.
use mathlib.Core.Path.{◌≡◌, refl, sym, ap, ap₂, ◌∙◌, subst}
use mathlib.Core.Logic.{◌↔◌}
use mathlib.Core.Bool.{Bool, true, false}
use mathlib.Core.List.{List, [], ◌∷◌, ◌++◌}
use Prim.Native.Nat.{ℕ, zero, suc, ◌+◌, ◌/◌, ◌≤◌, ◌<◌}
use native.Mathlib.Nat.{le_trans, le_refl}
use native.Mathlib.Omega.{arith}
use borrow.Author.Tests.{eqb-true, eqb-false, eq-eqb, ne_eqb}
use lib.Dec.{eqb, leb}
use lib.ListN.{length, length-append}
use Rattle.words.specs.Test.{◌and◌, same}
use Rattle.words.proofs.Bytes.{same_eq}
use Rattle.keys.specs.Bits.{bits_of, bits_of_bytes}
use Rattle.keys.proofs.BitsLaws.{clash, length_bits, length_bytes}
use Rattle.keys.specs.Form.{Value, spelt, choice, pair, node, Form, word, choose, both, Grammar, write, Fits, fits_one, fits_word, fits_choose, fits_both, fits_child}
use Rattle.keys.proofs.FormLaws.{some}
use Rattle.keys.specs.Limits.{edition_width}
use Rattle.keys.specs.Table.{type}
use Rattle.keys.specs.Key.{Taken, taken, node_table}
use Rattle.differs.specs.Content.{Content, ends, chooses, spells, enters, content, content_of, own, Pair, unless, inside, differences}
use Rattle.differs.specs.Differ.{checked, reported, besides, begins, differ, turned, Rises, no_more, one_more, Place, at_spelling, at_node, in_node, past_choice, past_spelling, past_node, Places, no_place, one_place}

-- ---- Lists

first_none : (l m : List Pair) → l ++ m ≡ [] → l ≡ []
first_none [] m e = refl
first_none (p ∷ l) m e = clash (cc)

second_none : (l m : List Pair) → l ++ m ≡ [] → m ≡ []
second_none [] m e = e
second_none (p ∷ l) m e = clash (cc)

unless_none : (b : Bool) (p : Pair) → unless b p ≡ [] → b ≡ true
unless_none true p e = refl
unless_none false p e = clash (cc)

inside_none : (b : Bool) (p : Pair) (l : List Pair) → inside b p l ≡ [] → (b ≡ true) × (l ≡ [])
inside_none true p l e = (refl, e)
inside_none false p l e = clash (cc)

pub same_refl : (s : List ℕ) → same s s ≡ true
same_refl [] = refl
same_refl (x ∷ s) = ap₂ ◌and◌ (eq-eqb x x refl) (same_refl s)

-- ---- No pair

module _ (G : Grammar) where
  -- Two values are the same, and what follows them has the same choices and no pair.
  record Together (v w : Value) (c d : Content) : Type 0 where
    values : v ≡ w
    choices : own c ≡ own d
    none : differences c d ≡ []

  together : {f : Form} {v w : Value} → Fits G f v → Fits G f w → (a b : ℕ) (c d : Content)
      → own (content G f v a c) ≡ own (content G f w b d) → differences (content G f v a c) (content G f w b d) ≡ [] → Together v w c d
  together fits_one fits_one a b c d e i = record { values = refl; choices = e; none = i }
  together (fits_word {s = s} l m n) (fits_word {s = t} x y z) a b c d e i =
      record {
        values = ap spelt (same_eq s t (unless_none (same s t) (a, b) (first_none (unless (same s t) (a, b)) (differences c d) i)));
        choices = e;
        none = second_none (unless (same s t) (a, b)) (differences c d) i;
      }
  together (fits_choose {w = w} {fs = fs} {k = k} {v = v} l m) (fits_choose {k = h} {v = u} x y) a b c d e i =
      let q : k ≡ h = cc in
      let r : own (content G (fs k) v (a + w) c) ≡ own (content G (fs h) u (b + w) d) = cc in
      let z = subst (λ (j : ℕ). Fits G (fs j) u → own (content G (fs k) v (a + w) c) ≡ own (content G (fs j) u (b + w) d) → differences (content G (fs k) v (a + w) c) (content G (fs j) u (b + w) d) ≡ [] → Together v u c d) q (λ o. together m o (a + w) (b + w) c d) y r i in
      record { values = ap₂ choice q z.values; choices = z.choices; none = z.none }
  together (fits_both {f = f} {g = g} {a = v} {b = v'} l m) (fits_both {a = w} {b = w'} x y) a b c d e i =
      let p = together l x a b (content G g v' (a + length (write G f v)) c) (content G g w' (b + length (write G f w)) d) e i in
      let q = together m y (a + length (write G f v)) (b + length (write G f w)) c d p.choices p.none in
      record { values = ap₂ pair p.values q.values; choices = q.choices; none = q.none }
  together (fits_child {c = j} {t = t} {v = v} l m) (fits_child {t = u} {v = w} x y) a b c d e i =
      let C : ℕ → Value → ℕ → Content = λ s z o. content G (G.row j s) z (o + G.tag_width j) ends in
      let D : List Pair = inside (same (t ∷ own (C t v a)) (u ∷ own (C u w b))) (a, b) (differences (C t v a) (C u w b)) in
      let n = inside_none (same (t ∷ own (C t v a)) (u ∷ own (C u w b))) (a, b) (differences (C t v a) (C u w b)) (first_none D (differences c d) i) in
      let s : t ∷ own (C t v a) ≡ u ∷ own (C u w b) = same_eq (t ∷ own (C t v a)) (u ∷ own (C u w b)) n.0 in
      let q : t ≡ u = cc in
      let r : own (C t v a) ≡ own (C u w b) = cc in
      let z = subst (λ (k : ℕ). Fits G (G.row j k) w → own (C t v a) ≡ own (C k w b) → differences (C t v a) (C k w b) ≡ [] → Together v w ends ends) q (λ o. together m o (a + G.tag_width j) (b + G.tag_width j) ends ends) y r n.1 in
      record { values = ap₂ node q z.values; choices = e; none = second_none D (differences c d) i }

-- The same contents have no pair.
pub no_pair : (c : Content) → differences c c ≡ []
no_pair ends = refl
no_pair (chooses k c) = no_pair c
no_pair (spells a s c) = ap₂ (λ (b : Bool) (l : List Pair). unless b (a, a) ++ l) (same_refl s) (no_pair c)
no_pair (enters a u c) =
    ap₂ (λ (b : Bool) (l : List Pair). inside b (a, a) (differences u u) ++ l) (same_refl (own u)) (no_pair c)
    ∙ ap (λ (l : List Pair). l ++ []) (no_pair u)

-- There is no pair exactly where the trees are the same.
pub none_same : {t u : Value} → Fits node_table type t → Fits node_table type u → (differences (content_of node_table t) (content_of node_table u) ≡ []) ↔ (t ≡ u)
none_same {t} {u} p q = (
  λ e. (together node_table p q edition_width edition_width ends ends (root p q) e).values,
  λ e. subst (λ (x : Value). differences (content_of node_table t) (content_of node_table x) ≡ []) e (no_pair (content_of node_table t)),
)
  where
    root : {v w : Value} → Fits node_table type v → Fits node_table type w → own (content_of node_table v) ≡ own (content_of node_table w)
    root (fits_child a b) (fits_child c d) = refl

-- ---- Exchanging the sides

turn_append : (l m : List Pair) → turned (l ++ m) ≡ turned l ++ turned m
turn_append [] m = refl
turn_append (p ∷ l) m = ap (λ (x : List Pair). (p.1, p.0) ∷ x) (turn_append l m)

eqb_turn : (a b : ℕ) → eqb a b ≡ eqb b a
eqb_turn a b = by (eqb a b) refl
  where
    by : (x : Bool) → eqb a b ≡ x → eqb a b ≡ eqb b a
    by true e = e ∙ sym (eq-eqb b a (sym (eqb-true a b e)))
    by false e = e ∙ sym (ne_eqb b a (λ q. eqb-false a b e (sym q)))

same_turn : (s t : List ℕ) → same s t ≡ same t s
same_turn [] [] = refl
same_turn [] (y ∷ t) = refl
same_turn (x ∷ s) [] = refl
same_turn (x ∷ s) (y ∷ t) = ap₂ ◌and◌ (eqb_turn x y) (same_turn s t)

unless_turn : (b : Bool) (p : Pair) → unless b (p.1, p.0) ≡ turned (unless b p)
unless_turn true p = refl
unless_turn false p = refl

inside_turn : (b : Bool) (p : Pair) (l : List Pair) → inside b (p.1, p.0) (turned l) ≡ turned (inside b p l)
inside_turn true p l = refl
inside_turn false p l = refl

-- Exchanging the contents exchanges each pair, and changes nothing else.
pub turn : (c d : Content) → differences d c ≡ turned (differences c d)
turn ends ends = refl
turn ends (chooses h d) = refl
turn ends (spells b t d) = refl
turn ends (enters b v d) = refl
turn (chooses k c) ends = refl
turn (chooses k c) (chooses h d) = turn c d
turn (chooses k c) (spells b t d) = refl
turn (chooses k c) (enters b v d) = refl
turn (spells a s c) ends = refl
turn (spells a s c) (chooses h d) = refl
turn (spells a s c) (spells b t d) =
    ap₂ ◌++◌ (ap (λ (x : Bool). unless x (b, a)) (same_turn t s) ∙ unless_turn (same s t) (a, b)) (turn c d)
    ∙ sym (turn_append (unless (same s t) (a, b)) (differences c d))
turn (spells a s c) (enters b v d) = refl
turn (enters a u c) ends = refl
turn (enters a u c) (chooses h d) = refl
turn (enters a u c) (spells b t d) = refl
turn (enters a u c) (enters b v d) =
    ap₂ ◌++◌
    (ap₂ (λ (x : Bool) (l : List Pair). inside x (b, a) l) (same_turn (own v) (own u)) (turn u v) ∙ inside_turn (same (own u) (own v)) (a, b) (differences u v))
    (turn c d)
    ∙ sym (turn_append (inside (same (own u) (own v)) (a, b) (differences u v)) (differences c d))

turn_length : (l : List Pair) → length (turned l) ≡ length l
turn_length [] = refl
turn_length (p ∷ l) = ap suc (turn_length l)

-- Of two good keys: the call with its sides exchanged gives the same pairs, each exchanged.
pub call_turned : (n : ℕ) (left right : List ℕ) {t u : Value} → checked left ≡ taken t → checked right ≡ taken u
    → (l : List Pair) → l ≡ differences (content_of node_table t) (content_of node_table u)
    → (differ n left right ≡ reported n (leb (length l) (n / 2)) l) × (differ n right left ≡ reported n (leb (length l) (n / 2)) (turned l))
call_turned n left right {t} {u} p q l e = (
  ap (λ (x : Taken). begins n x right) p ∙ ap (besides n t) q ∙ ap (λ (x : List Pair). reported n (leb (length x) (n / 2)) x) (sym e),
  ap (λ (x : Taken). begins n x left) q ∙ ap (besides n u) p
      ∙ ap (λ (x : List Pair). reported n (leb (length x) (n / 2)) x) (turn (content_of node_table t) (content_of node_table u) ∙ ap turned (sym e))
      ∙ ap (λ (x : ℕ). reported n (leb x (n / 2)) (turned l)) (turn_length l),
)

-- ---- Each place once, in order

-- The bits of a content rise, from a on, and keep below e.
pub data Within : ℕ → Content → ℕ → Type 0 where
  in_ends : {a e : ℕ} → a ≤ e → Within a ends e
  in_chooses : {a k e : ℕ} {c : Content} → Within a c e → Within a (chooses k c) e
  in_spells : {a x e : ℕ} {s : List ℕ} {c : Content} → a ≤ x → Within (suc x) c e → Within a (spells x s c) e
  in_enters : {a x y e : ℕ} {u c : Content} → a ≤ x → x < y → Within x u y → Within y c e → Within a (enters x u c) e

lower : {a b e : ℕ} {c : Content} → a ≤ b → Within b c e → Within a c e
lower h (in_ends l) = in_ends (le_trans h l)
lower h (in_chooses w) = in_chooses (lower h w)
lower h (in_spells l w) = in_spells (le_trans h l) w
lower h (in_enters l m u w) = in_enters (le_trans h l) m u w

within_le : {a e : ℕ} {c : Content} → Within a c e → a ≤ e
within_le (in_ends l) = l
within_le (in_chooses w) = within_le w
within_le (in_spells l w) = let i = within_le w in omega arith
within_le (in_enters l m u w) = let i = within_le w in omega arith

spells_le : {a x e : ℕ} {c : Content} → a ≤ x → Within (suc x) c e → a ≤ e
spells_le l w = let i = within_le w in omega arith

enters_le : {a x y e : ℕ} {c : Content} → a ≤ x → x < y → Within y c e → a ≤ e
enters_le l m w = let i = within_le w in omega arith

beyond : (a w : ℕ) → a ≤ a + w
beyond a w = omega arith

-- Every node has a bit.
abbrev pub Thick : Grammar → Type 0
Thick G = (c t : ℕ) (v : Value) → Fits G (G.row c t) v → 1 ≤ G.tag_width c + length (write G (G.row c t) v)

module _ (G : Grammar) (thick : Thick G) where
  pub rising : {f : Form} {v : Value} → Fits G f v → (a e : ℕ) (c : Content) → Within (a + length (write G f v)) c e → Within a (content G f v a c) e
  rising fits_one a e c w = lower (omega arith) w
  rising (fits_word {w = w} {s = s} l m n) a e c h =
      in_spells (le_refl a) (lower (omega (arith, length-append (bits_of w (length s)) (bits_of_bytes s), length_bytes s)) h)
  rising (fits_choose {w = w} {fs = fs} {k = k} {v = v} l m) a e c h =
      in_chooses (lower (beyond a w) (rising m (a + w) e c (lower (omega (arith, length-append (bits_of w k) (write G (fs k) v), length_bits w k)) h)))
  rising (fits_both {f = f} {g = g} {a = v} {b = u} l m) a e c h =
      rising l a e (content G g u (a + length (write G f v)) c)
      (rising m (a + length (write G f v)) e c (lower (omega (arith, length-append (write G f v) (write G g u))) h))
  rising (fits_child {c = j} {t = t} {v = v} l m) a e c h =
      in_enters {y = a + (G.tag_width j + length (write G (G.row j t) v))} (le_refl a) (omega (arith, thick j t v m))
      (in_chooses (lower (beyond a (G.tag_width j)) (rising m (a + G.tag_width j) (a + (G.tag_width j + length (write G (G.row j t) v))) ends (in_ends (omega arith)))))
      (lower (omega (arith, length-append (bits_of (G.tag_width j) t) (write G (G.row j t) v), length_bits (G.tag_width j) t)) h)

rise_append : {a b x y e g : ℕ} {l m : List Pair} → Rises a b l x y → Rises x y m e g → Rises a b (l ++ m) e g
rise_append (no_more p q) r = rise_lower p q r
  where
    rise_lower : {a b x y e g : ℕ} {m : List Pair} → a ≤ x → b ≤ y → Rises x y m e g → Rises a b m e g
    rise_lower p q (no_more i j) = no_more (le_trans p i) (le_trans q j)
    rise_lower p q (one_more i j r) = one_more (le_trans p i) (le_trans q j) r
rise_append (one_more p q r) s = one_more p q (rise_append r s)

unless_rise : {a b x y e g : ℕ} (t : Bool) → a ≤ x → b ≤ y → x < e → y < g → Rises a b (unless t (x, y)) e g
unless_rise {a = a} {b = b} {e = e} {g = g} true p q r s = no_more {a = a} {b = b} {e = e} {g = g} (omega arith) (omega arith)
unless_rise false p q r s = one_more p q (no_more r s)

inside_rise : {a b x y e g : ℕ} {l : List Pair} (t : Bool) → a ≤ x → b ≤ y → x < e → y < g → Rises x y l e g → Rises a b (inside t (x, y) l) e g
inside_rise true p q r s h = rise_append (no_more p q) h
inside_rise false p q r s h = one_more p q (no_more r s)

pub rise : {a b e g : ℕ} {c d : Content} → Within a c e → Within b d g → Rises a b (differences c d) e g
rise (in_ends l) w = no_more l (within_le w)
rise (in_chooses v) (in_ends l) = no_more (within_le v) l
rise (in_chooses v) (in_chooses w) = rise v w
rise (in_chooses v) (in_spells l w) = no_more (within_le v) (spells_le l w)
rise (in_chooses v) (in_enters l m u w) = no_more (within_le v) (enters_le l m w)
rise (in_spells i v) (in_ends l) = no_more (spells_le i v) l
rise (in_spells i v) (in_chooses w) = no_more (spells_le i v) (within_le w)
rise (in_spells {x = x} {s = s} i v) (in_spells {x = y} {s = t} l w) =
    rise_append (unless_rise {e = suc x} {g = suc y} (same s t) i l (omega arith) (omega arith)) (rise v w)
rise (in_spells i v) (in_enters l m u w) = no_more (spells_le i v) (enters_le l m w)
rise (in_enters i j k v) (in_ends l) = no_more (enters_le i j v) l
rise (in_enters i j k v) (in_chooses w) = no_more (enters_le i j v) (within_le w)
rise (in_enters i j k v) (in_spells l w) = no_more (enters_le i j v) (spells_le l w)
rise (in_enters {u = p} i j k v) (in_enters {u = q} l m u w) =
    rise_append (inside_rise (same (own p) (own q)) i l j m (rise k u)) (rise v w)

word_first : {G : Grammar} {w : ℕ} {g : Form} {v : Value} → Fits G (both (word w) g) v → 1 ≤ length (write G (both (word w) g) v)
word_first {G} (fits_both {g = g} {b = u} (fits_word {w = w} {s = s} l m n) y) =
    omega (arith, length-append (bits_of w (length s) ++ bits_of_bytes s) (write G g u), length-append (bits_of w (length s)) (bits_of_bytes s), length_bytes s)

choice_first : {G : Grammar} {w x : ℕ} {fs : ℕ → Form} {g : Form} {v : Value} → 1 ≤ w → Fits G (both (choose w x fs) g) v → 1 ≤ length (write G (both (choose w x fs) g) v)
choice_first {G} h (fits_both {g = g} {b = u} (fits_choose {w = w} {fs = fs} {k = k} {v = v} l m) y) =
    omega (arith, length-append (bits_of w k ++ write G (fs k) v) (write G g u), length-append (bits_of w k) (write G (fs k) v), length_bits w k)

-- Our node table: a type parameter and a parameter have no tag, and begin with a field.
pub thick_table : Thick node_table
thick_table zero t v h = omega arith
thick_table (suc zero) t v h = omega arith
thick_table (suc (suc zero)) t v h = omega arith
thick_table (suc (suc (suc zero))) t v h = omega arith
thick_table (suc (suc (suc (suc zero)))) zero v h = omega (arith, word_first h)
thick_table (suc (suc (suc (suc zero)))) (suc t) v h = clash (cc (some node_table h))
thick_table (suc (suc (suc (suc (suc zero))))) zero v h = omega (arith, choice_first (omega arith) h)
thick_table (suc (suc (suc (suc (suc zero))))) (suc t) v h = clash (cc (some node_table h))
thick_table (suc (suc (suc (suc (suc (suc zero)))))) t v h = omega arith
thick_table (suc (suc (suc (suc (suc (suc (suc c))))))) t v h = clash (cc (some node_table h))

-- The pairs of two trees rise strictly on both sides: each place stands there once, in the key's order, and inside the tree.
pub in_order_lem : {t u : Value} → Fits node_table type t → Fits node_table type u
    → Rises edition_width edition_width (differences (content_of node_table t) (content_of node_table u)) (edition_width + length (write node_table type t)) (edition_width + length (write node_table type u))
in_order_lem {t} {u} p q =
    rise (rising node_table thick_table p edition_width _ ends (in_ends (omega arith))) (rising node_table thick_table q edition_width _ ends (in_ends (omega arith)))

-- ---- Each pair is of two places

places_as : {c d c' d' : Content} {l : List Pair} → ((x : ℕ) → Place x c → Place x c') → ((x : ℕ) → Place x d → Place x d') → Places c d l → Places c' d' l
places_as f g no_place = no_place
places_as f g (one_place {x = x} {y = y} p q r) = one_place (f x p) (g y q) (places_as f g r)

places_append : {c d : Content} {l m : List Pair} → Places c d l → Places c d m → Places c d (l ++ m)
places_append no_place q = q
places_append (one_place p q r) s = one_place p q (places_append r s)

unless_places : {c d : Content} {a b : ℕ} (t : Bool) → Place a c → Place b d → Places c d (unless t (a, b))
unless_places true p q = no_place
unless_places false p q = one_place p q no_place

inside_places : {c d : Content} {a b : ℕ} {l : List Pair} (t : Bool) → Place a c → Place b d → Places c d l → Places c d (inside t (a, b) l)
inside_places true p q r = r
inside_places false p q r = one_place p q no_place

-- The pairs are of spellings and nodes of the two contents.
pub places : (c d : Content) → Places c d (differences c d)
places ends d = no_place
places (chooses k c) ends = no_place
places (chooses k c) (chooses h d) = places_as (λ x p. past_choice p) (λ x p. past_choice p) (places c d)
places (chooses k c) (spells b t d) = no_place
places (chooses k c) (enters b v d) = no_place
places (spells a s c) ends = no_place
places (spells a s c) (chooses h d) = no_place
places (spells a s c) (spells b t d) =
    places_append (unless_places (same s t) at_spelling at_spelling) (places_as (λ x p. past_spelling p) (λ x p. past_spelling p) (places c d))
places (spells a s c) (enters b v d) = no_place
places (enters a u c) ends = no_place
places (enters a u c) (chooses h d) = no_place
places (enters a u c) (spells b t d) = no_place
places (enters a u c) (enters b v d) =
    places_append (inside_places (same (own u) (own v)) at_node at_node (places_as (λ x p. in_node p) (λ x p. in_node p) (places u v)))
    (places_as (λ x p. past_node p) (λ x p. past_node p) (places c d))
