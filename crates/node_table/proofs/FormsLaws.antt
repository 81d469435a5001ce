-- The words are the node table: each class and tag has the row that 01 gives it, in line.
use mathlib.Core.Path.{◌≡◌, refl, sym, ap, ◌∙◌, subst}
use mathlib.Core.Bool.{Bool, true, false, ◌&&◌}
use mathlib.Core.List.{List, [], ◌∷◌, ◌++◌}
use mathlib.Core.Logic.{◌⊎◌, inl, inr}
use Prim.Native.Nat.{ℕ, zero, suc, ◌+◌, ◌≤◌, ◌<◌}
use native.Mathlib.Nat.{add-zero, add-suc, suc-add}
use native.Mathlib.Omega.{arith}
use borrow.Author.Tests.{lt-ltb, le-ltb, leb-true}
use lib.Dec.{leb, ltb, leb-zero, leb-suc-suc}
use lib.ListN.{get_or, take, drop, replicate}
use Rattle.keys.proofs.BitsLaws.{clash, le_or_lt}
use Rattle.keys.specs.Form.{Form, never, one, word, both, child}
use Rattle.keys.specs.Limits.{Edition, count_wide, count_width, length_width, widest}
use Rattle.keys.specs.Table.{when, times, one_of, type, under_rest, named_row, tag_width_of, table, rows, rows_of}
use Rattle.keys.specs.Lines.{in_line, lined}
use Rattle.node_table.specs.Forms.{spellings_then, nodes_then, listed, Entry, entry, entry_by, entry_at, steps_of, form_by, form_of, class_at, grammar_of, forms_of, Narrow, entry_of, IsRow, Lists, table_words, table_most}
use Rattle.node_table.specs.declared.forms.Row.{Row}

-- Forms of a list, each with g after it.
abbrev each_then : List Form → Form → List Form
each_then [] g = []
each_then (f ∷ fs) g = let r = each_then fs g in in_line f g ∷ r

line_one_of : (fs : List Form) (k : ℕ) (g : Form) → in_line (one_of fs k) g ≡ one_of (each_then fs g) k
line_one_of [] k g = refl
line_one_of (f ∷ fs) zero g = refl
line_one_of (f ∷ fs) (suc k) g = line_one_of fs k g

line_below : (n k : ℕ) (g : Form) → in_line (when (ltb k n) one) g ≡ one_of (replicate n g) k
line_below zero k g = ap (λ (x : Bool). in_line (when x one) g) (le-ltb k 0 (omega arith))
line_below (suc n) zero g = ap (λ (x : Bool). in_line (when x one) g) (lt-ltb 0 (suc n) (omega arith))
line_below (suc n) (suc k) g = ap (λ (x : Bool). in_line (when x one) g) (leb-suc-suc (suc k) n) ∙ line_below n k g

line_when : (b : Bool) (f g : Form) → in_line (when b f) g ≡ when b (in_line f g)
line_when true f g = refl
line_when false f g = refl

line_words : (n w : ℕ) (g : Form) → in_line (times n (word w)) g ≡ spellings_then n w g
line_words zero w g = refl
line_words (suc n) w g = ap (both (word w)) (line_words n w g)

line_nodes : (n c : ℕ) (g : Form) → in_line (times n (child c)) g ≡ nodes_then n c 0 g
line_nodes zero c g = refl
line_nodes (suc n) c g = ap (both (child c)) (line_nodes n c g)

line_pieces : (n c : ℕ) (g : Form) → in_line (times n (both (child c) (word length_width))) g ≡ nodes_then n c length_width g
line_pieces zero c g = refl
line_pieces (suc n) c g = ap (λ (x : Form). both (child c) (both (word length_width) x)) (line_pieces n c g)

line_template : (n c : ℕ) (g : Form) → in_line (both (word length_width) (times n (both (child c) (word length_width)))) g ≡ when (leb 0 n) (both (word length_width) (nodes_then n c length_width g))
line_template n c g = ap (both (word length_width)) (line_pieces n c g) ∙ ap (λ (x : Bool). when x (both (word length_width) (nodes_then n c length_width g))) (sym (leb-zero n))

line_two : (a b : Form) (k : ℕ) (g : Form) → in_line (one_of (a ∷ b ∷ []) k) g ≡ one_of (in_line a g ∷ in_line b g ∷ []) k
line_two a b k g = line_one_of (a ∷ b ∷ []) k g

-- ---- Every class and tag

module _ (c : ℕ) where
  -- The rows of a class as 01 has them.
  abbrev given : ℕ → List Form
  given k = each_then (rows_of c k) one

  -- The rows of a class as the words have them.
  abbrev told : ℕ → List Form
  told k = listed (table_words c) (λ f. form_of (table_words c) (steps_of (table_words c)) 1 f) (class_at (table_words c) k).a (class_at (table_words c) k).b

  no_class : (k : ℕ) → class_at (table_words c) (suc (suc (suc (suc (suc (suc (suc k))))))) ≡ entry 0 0 0 0
  unfolding table_words
  no_class k = ap (entry_by (table_words c) (suc (suc (suc (suc (suc (suc (suc k)))))) + 1)) (le-ltb (suc (suc (suc (suc (suc (suc (suc k))))))) 7 (omega arith))

  -- The rows that four classes share, with those of 20, 21 and 22 between them.
  shared : Form → Form → Form → List Form
  shared x y z = take 20 (told 0) ++ x ∷ y ∷ z ∷ drop 23 (told 0)

  -- All shared rows at once.
  shared_are : (f g h : Form) → each_then (rows c f g h) one ≡ shared (in_line f one) (in_line g one) (in_line h one)
  unfolding table_words shared
  shared_are f g h = simp (line_two, line_one_of, line_below, line_words, line_nodes, line_template, line_when)

  rows_are : (k : ℕ) → given k ≡ told k
  unfolding table_words shared
  rows_are zero = shared_are never never never
  rows_are (suc zero) = shared_are type under_rest named_row
  rows_are (suc (suc zero)) = shared_are never never named_row
  rows_are (suc (suc (suc zero))) = shared_are type under_rest never
  rows_are (suc (suc (suc (suc zero)))) = simp line_two
  rows_are (suc (suc (suc (suc (suc zero))))) = simp line_two
  rows_are (suc (suc (suc (suc (suc (suc zero)))))) = simp (line_two, line_one_of, line_nodes, line_when)
  rows_are (suc (suc (suc (suc (suc (suc (suc k))))))) =
      ap (λ (e : Entry). listed (table_words c) (λ f. form_of (table_words c) (steps_of (table_words c)) 1 f) e.a e.b) (sym (no_class k))

  tags_are : (k : ℕ) → (class_at (table_words c) k).w ≡ tag_width_of k
  unfolding table_words
  tags_are zero = refl
  tags_are (suc zero) = refl
  tags_are (suc (suc zero)) = refl
  tags_are (suc (suc (suc zero))) = refl
  tags_are (suc (suc (suc (suc zero)))) = refl
  tags_are (suc (suc (suc (suc (suc zero))))) = refl
  tags_are (suc (suc (suc (suc (suc (suc zero)))))) = refl
  tags_are (suc (suc (suc (suc (suc (suc (suc k))))))) = ap (λ (e : Entry). e.w) (no_class k)

  row_is : (k t : ℕ) → one_of (told k) t ≡ in_line (one_of (rows_of c k) t) one
  row_is k t = sym (line_one_of (rows_of c k) t one ∙ ap (λ (l : List Form). one_of l t) (rows_are k))

-- The words are an edition's node table, in line.
pub words_are : (e : Edition) → grammar_of (table_words (count_wide e)) ≡ lined (table e)
words_are e = λ i. record { tag_width = λ k. tags_are (count_wide e) k i; row = λ k t. row_is (count_wide e) k t i }

-- ---- Widths

-- Are the widths of the first n forms below 32?
abbrev narrow_to : List ℕ → ℕ → Bool
narrow_to T zero = true
narrow_to T (suc f) = leb (entry_at T f).w widest && narrow_to T f

both_true : (a b : Bool) → a && b ≡ true → (a ≡ true) × (b ≡ true)
both_true true b e = (refl, e)
both_true false b e = clash (cc)

narrow_below : (T : List ℕ) (n : ℕ) → narrow_to T n ≡ true → (f : ℕ) → f < n → (entry_at T f).w ≤ widest
narrow_below T zero e f h = absurd (omega arith)
narrow_below T (suc n) e f h = by (le_or_lt n f) (λ l. narrow_below T n two.1 f l)
  where
    two : (leb (entry_at T n).w widest ≡ true) × (narrow_to T n ≡ true)
    two = both_true (leb (entry_at T n).w widest) (narrow_to T n) e

    by : (n ≤ f) ⊎ (f < n) → (f < n → (entry_at T f).w ≤ widest) → (entry_at T f).w ≤ widest
    by (inl l) others =
        let q : n ≡ f = omega arith in
        subst (λ (x : ℕ). (entry_at T x).w ≤ widest) q (leb-true (entry_at T n).w widest two.0)
    by (inr l) others = others l

narrow_past : (T : List ℕ) (f : ℕ) → forms_of T ≤ f → (entry_at T f).w ≤ widest
narrow_past T f h = subst (λ (x : Bool). (entry_by T f x).w ≤ widest) (sym (le-ltb f (forms_of T) h)) (omega arith)

all_narrow : narrow_to (table_words count_width) (forms_of (table_words count_width)) ≡ true
unfolding table_words
all_narrow = refl

tag_small : (c : ℕ) → tag_width_of c ≤ widest
tag_small zero = omega arith
tag_small (suc zero) = omega arith
tag_small (suc (suc zero)) = omega arith
tag_small (suc (suc (suc zero))) = omega arith
tag_small (suc (suc (suc (suc zero)))) = omega arith
tag_small (suc (suc (suc (suc (suc zero))))) = omega arith
tag_small (suc (suc (suc (suc (suc (suc zero)))))) = omega arith
tag_small (suc (suc (suc (suc (suc (suc (suc c))))))) = omega arith

-- A choice has at most 24 bits.
pub words_narrow : Narrow (table_words count_width)
words_narrow = record { at = λ f. by f (le_or_lt (forms_of (table_words count_width)) f); tag = λ c. omega (arith, tags_are count_width c, tag_small c) }
  where
    by : (f : ℕ) → (forms_of (table_words count_width) ≤ f) ⊎ (f < forms_of (table_words count_width)) → (entry_at (table_words count_width) f).w ≤ widest
    by f (inl h) = narrow_past (table_words count_width) f h
    by f (inr h) = narrow_below (table_words count_width) (forms_of (table_words count_width)) all_narrow f h

-- ---- Steps of the code

module _ (T : List ℕ) (go : ℕ → Form) where
  listed_in : (a b t : ℕ) → t < b → one_of (listed T go a b) t ≡ go (get_or T (a + t) 0)
  listed_in a zero t h = absurd (omega arith)
  listed_in a (suc b) zero h = ap (λ (x : ℕ). go (get_or T x 0)) (sym (add-zero a))
  listed_in a (suc b) (suc t) h = listed_in (suc a) b t (omega arith) ∙ ap (λ (x : ℕ). go (get_or T x 0)) (suc-add a t ∙ sym (add-suc a t))

  listed_out : (a b t : ℕ) → b ≤ t → one_of (listed T go a b) t ≡ never
  listed_out a zero t h = refl
  listed_out a (suc b) zero h = absurd (omega arith)
  listed_out a (suc b) (suc t) h = listed_out (suc a) b t (omega arith)

-- Past the last form there is none.
pub past_end : (T : List ℕ) (d n f : ℕ) → forms_of T ≤ f → form_of T d n f ≡ never
past_end T zero n f h = refl
past_end T (suc d) n f h =
    ap (λ (x : Bool). form_by T (λ m g. form_of T d m g) n (entry_by T f x) (entry_by T f x).op) (le-ltb f (forms_of T) h)

-- A form with a step left is that of its entry.
pub form_at_lem : (T : List ℕ) (steps d n f : ℕ) → steps ≡ suc d → (r : Row) → IsRow (entry_at T f) r → (k : ℕ) → r.op ≡ k
    → form_of T steps n f ≡ form_by T (λ m g. form_of T d m g) n (entry_of r) k
form_at_lem T steps d n f q r p k i =
    ap (λ (x : ℕ). form_of T x n f) q ∙ ap (λ (x : Entry). form_by T (λ m g. form_of T d m g) n x x.op) (sym p.is)
    ∙ ap (form_by T (λ m g. form_of T d m g) n (entry_of r)) i

-- Where a number leads among the forms that a row lists.
module _ (T : List ℕ) (r : Row) (t : ℕ) where
  pub lists_in : (f : ℕ) → t < r.b → f ≡ get_or T (r.a + t) 0 → f < table_most → Lists T r t (record { form = f; n = 1 })
  lists_in f h q p = record { is = λ d. listed_in T (λ g. form_of T d 1 g) r.a r.b t h ∙ ap (form_of T d 1) (sym q); form = p; once = refl }

  pub lists_out : (f : ℕ) → r.b ≤ t → f ≡ forms_of T → f < table_most → Lists T r t (record { form = f; n = 1 })
  lists_out f h q p =
      record { is = λ d. listed_out T (λ g. form_of T d 1 g) r.a r.b t h ∙ sym (past_end T d 1 f (omega arith)); form = p; once = refl }
