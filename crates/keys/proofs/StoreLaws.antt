-- The laws of the store: runs join, a joined run's content is that of its parts, and each output is as long as what it holds.
use mathlib.Core.Path.{◌≡◌, refl, sym, ap, ap₂, ◌∙◌}
use mathlib.Core.List.{List, [], ◌∷◌, ◌++◌, append_assoc, append-nil}
use Prim.Native.Nat.{ℕ, ◌+◌, ◌-◌, ◌*◌, ◌^◌, ◌≤◌, ◌<◌}
use native.Mathlib.Nat.{add_assoc, mul_assoc, mul-add, add-zero, zero-add, one-mul}
use native.Mathlib.Omega.{arith}
use lib.Arith.{digits_div, digits_mod}
use lib.Pow.{pow-add}
use lib.Seq.{take-append_seam, drop-append_seam}
use lib.ListN.{length, take, drop, replicate, length-append, length-replicate}
use Rattle.keys.specs.Limits.{half_word}
use Rattle.keys.specs.Form.{Value, nothing, spelt, choice, pair, node, Form, Grammar, store_width, branch, left, right, class, nodes, names, letters}
use Rattle.keys.specs.Placed.{Placed, void, said, pick, join, tree, bare, laid}
use Rattle.keys.specs.Store.{Run, done, chose, name, kid, ◌⊕◌, plant, under, called, span, packed, first_kid, record_of, records, name_of, names_in, text_of, pointed, all_pointed, filled}

pub join_done : (a : Run) → a ⊕ done ≡ a
join_done done = refl
join_done (chose w k a) = ap (chose w k) (join_done a)
join_done (name x s a) = ap (name x s) (join_done a)
join_done (kid first end b a) = ap (kid first end b) (join_done a)

pub join_join : (a b r : Run) → (a ⊕ b) ⊕ r ≡ a ⊕ (b ⊕ r)
join_join done b r = refl
join_join (chose w k a) b r = ap (chose w k) (join_join a b r)
join_join (name x s a) b r = ap (name x s) (join_join a b r)
join_join (kid first end c a) b r = ap (kid first end c) (join_join a b r)

-- What a value puts before a run is what it puts alone, and then the run.
pub plant_join : (G : Grammar) (f : Form) (p : Placed) (r : Run) → plant G f p r ≡ plant G f p done ⊕ r
plant_join G f void r = refl
plant_join G f (said x s) r = refl
plant_join G f (pick k p) r = ap (chose (store_width f) k) (plant_join G (branch f k) p r)
plant_join G f (join a b) r =
    plant_join G (left f) a (plant G (right f) b r) ∙ ap (λ (x : Run). plant G (left f) a done ⊕ x) (plant_join G (right f) b r)
    ∙ sym (join_join (plant G (left f) a done) (plant G (right f) b done) r)
    ∙ ap (λ (x : Run). x ⊕ r) (sym (plant_join G (left f) a (plant G (right f) b done)))
plant_join G f (tree t first end p) r = refl

-- ---- The content of a joined run

pub under_join : (a r : Run) → under (a ⊕ r) ≡ under a + under r
under_join done r = sym (zero-add (under r))
under_join (chose w k a) r = under_join a r
under_join (name x s a) r = under_join a r
under_join (kid first end b a) r = omega (arith, under_join a r)

pub called_join : (a r : Run) → called (a ⊕ r) ≡ called a + called r
called_join done r = sym (zero-add (called r))
called_join (chose w k a) r = called_join a r
called_join (name x s a) r = omega (arith, called_join a r)
called_join (kid first end b a) r = omega (arith, called_join a r)

pub span_join : (a r : Run) → span (a ⊕ r) ≡ span a + span r
span_join done r = sym (zero-add (span r))
span_join (chose w k a) r = omega (arith, span_join a r)
span_join (name x s a) r = span_join a r
span_join (kid first end b a) r = span_join a r

shifted : (x p y q z : ℕ) → x + p * (y + q * z) ≡ x + p * y + p * q * z
shifted x p y q z =
    ap (λ (i : ℕ). x + i) (mul-add p y (q * z)) ∙ sym (add_assoc x (p * y) (p * (q * z))) ∙ ap (λ (i : ℕ). x + p * y + i) (sym (mul_assoc p q z))

pub packed_join : (a r : Run) → packed (a ⊕ r) ≡ packed a + 2 ^ span a * packed r
packed_join done r = sym (zero-add (1 * packed r) ∙ one-mul (packed r))
packed_join (chose w k a) r =
    ap (λ (x : ℕ). k + 2 ^ w * x) (packed_join a r) ∙ shifted k (2 ^ w) (packed a) (2 ^ span a) (packed r)
    ∙ ap (λ (x : ℕ). k + 2 ^ w * packed a + x * packed r) (sym (pow-add 2 w (span a)))
packed_join (name x s a) r = packed_join a r
packed_join (kid first end b a) r = packed_join a r

pub first_kid_join : (a r : Run) (b n : ℕ) → first_kid (a ⊕ r) b n ≡ first_kid a b (first_kid r (b + under a) n)
first_kid_join done r b n = ap (λ (x : ℕ). first_kid r x n) (sym (add-zero b))
first_kid_join (chose w k a) r b n = first_kid_join a r b n
first_kid_join (name x s a) r b n = first_kid_join a r b n
first_kid_join (kid first end c a) r b n = refl

-- The records of two runs: the first's, whose last link is the second's first child, and then the second's.
pub records_join : (a r : Run) (b m n : ℕ)
    → records (a ⊕ r) b m n ≡ records a b m (first_kid r (b + under a) n) ++ records r (b + under a) (m + called a) n
records_join done r b m n = ap₂ (λ (x y : ℕ). records r x y n) (sym (add-zero b)) (sym (add-zero m))
records_join (chose w k a) r b m n = records_join a r b m n
records_join (name x s a) r b m n =
    records_join a r b (m + 1) n
    ∙ ap (λ (y : ℕ). records a b (m + 1) (first_kid r (b + under a) n) ++ records r (b + under a) y n) (add_assoc m 1 (called a))
records_join (kid first end c a) r b m n =
    ap₂ (λ (x : ℕ) (y : List ℕ). (records c b m 0 ++ record_of first end c b m x) ++ y) (first_kid_join a r b' n) (records_join a r b' (m + called c) n)
    ∙ sym (append_assoc (head (first_kid r (b' + under a) n)) (records a b' (m + called c) (first_kid r (b' + under a) n)) (records r (b' + under a) (m + called c + called a) n))
    ∙ ap₂ (λ (x y : ℕ). (head (first_kid r x n) ++ records a b' (m + called c) (first_kid r x n)) ++ records r x y n) p q
  where
    b' : ℕ
    b' = b + under c + 1

    head : ℕ → List ℕ
    head x = records c b m 0 ++ record_of first end c b m (first_kid a b' x)

    p : b' + under a ≡ b + (under c + 1 + under a)
    p = omega arith

    q : m + called c + called a ≡ m + (called c + called a)
    q = omega arith

pub names_in_join : (a r : Run) → names_in (a ⊕ r) ≡ names_in a ++ names_in r
names_in_join done r = refl
names_in_join (chose w k a) r = names_in_join a r
names_in_join (name x s a) r = ap (λ (y : List ℕ). name_of x s ∷ y) (names_in_join a r)
names_in_join (kid first end c a) r = ap (λ (y : List ℕ). names_in c ++ y) (names_in_join a r) ∙ sym (append_assoc (names_in c) (names_in a) (names_in r))

-- ---- Lengths

pub length_records : (a : Run) (b m n : ℕ) → length (records a b m n) ≡ 4 * under a
length_records done b m n = refl
length_records (chose w k a) b m n = length_records a b m n
length_records (name x s a) b m n = length_records a b (m + 1) n
length_records (kid first end c a) b m n =
    let l : List ℕ = record_of first end c b m (first_kid a (b + under c + 1) n) in
    let r : List ℕ = records a (b + under c + 1) (m + called c) n in
    omega (arith, length-append (records c b m 0 ++ l) r, length-append (records c b m 0) l, length_records c b m 0, length_records a (b + under c + 1) (m + called c) n)

pub length_names_in : (a : Run) → length (names_in a) ≡ called a
length_names_in done = refl
length_names_in (chose w k a) = length_names_in a
length_names_in (name x s a) = omega (arith, length_names_in a)
length_names_in (kid first end c a) = omega (arith, length-append (names_in c) (names_in a), length_names_in c, length_names_in a)

-- A value puts its own nodes and names into a run.
pub under_plant : (G : Grammar) (f : Form) (p : Placed) (r : Run) → under (plant G f p r) ≡ nodes (bare p) + under r
under_plant G f void r = sym (zero-add (under r))
under_plant G f (said x s) r = sym (zero-add (under r))
under_plant G f (pick k p) r = under_plant G (branch f k) p r
under_plant G f (join a b) r = omega (arith, under_plant G (left f) a (plant G (right f) b r), under_plant G (right f) b r)
under_plant G f (tree t first end p) r = omega (arith, under_plant G (G.row (class f) t) p done)

pub called_plant : (G : Grammar) (f : Form) (p : Placed) (r : Run) → called (plant G f p r) ≡ length (names (bare p)) + called r
called_plant G f void r = sym (zero-add (called r))
called_plant G f (said x s) r = refl
called_plant G f (pick k p) r = called_plant G (branch f k) p r
called_plant G f (join a b) r =
    omega (arith, called_plant G (left f) a (plant G (right f) b r), called_plant G (right f) b r, length-append (names (bare a)) (names (bare b)))
called_plant G f (tree t first end p) r = omega (arith, called_plant G (G.row (class f) t) p done)

pub length_text_of : (v : Value) → length (text_of v) ≡ letters v
length_text_of nothing = refl
length_text_of (spelt s) = refl
length_text_of (choice k v) = length_text_of v
length_text_of (pair a b) = length-append (text_of a) (text_of b) ∙ ap₂ (λ (x y : ℕ). x + y) (length_text_of a) (length_text_of b)
length_text_of (node t v) = length_text_of v

-- An output that holds what is used keeps its length.
pub length_filled : (n : ℕ) (used : List ℕ) → length used ≤ n → length (filled n used) ≡ n
length_filled n used h = omega (arith, length-append used (replicate (n - length used) 0), length-replicate {A = ℕ} (n - length used) 0)

-- Positions aside, what taking back lays out is the value itself.
pub bare_laid : (v : Value) (x : ℕ) → bare (laid v x) ≡ v
bare_laid nothing x = refl
bare_laid (spelt s) x = refl
bare_laid (choice k v) x = ap (choice k) (bare_laid v x)
bare_laid (pair a b) x = ap₂ pair (bare_laid a _) (bare_laid b _)
bare_laid (node t v) x = ap (node t) (bare_laid v x)

-- ---- Names point at their spellings

-- The name words of a value whose spellings stand in the text from byte x.
abbrev name_words : Value → ℕ → List ℕ
name_words nothing x = []
name_words (spelt s) x = name_of x s ∷ []
name_words (choice k v) x = name_words v x
name_words (pair a b) x = name_words a x ++ name_words b (x + letters a)
name_words (node t v) x = name_words v x

names_laid : (G : Grammar) (f : Form) (v : Value) (x : ℕ) (r : Run) → names_in (plant G f (laid v x) r) ≡ name_words v x ++ names_in r
names_laid G f nothing x r = refl
names_laid G f (spelt s) x r = refl
names_laid G f (choice k v) x r = names_laid G (branch f k) v x r
names_laid G f (pair a b) x r =
    names_laid G (left f) a x (plant G (right f) (laid b (x + letters a)) r)
    ∙ ap (λ (l : List ℕ). name_words a x ++ l) (names_laid G (right f) b (x + letters a) r)
    ∙ sym (append_assoc (name_words a x) (name_words b (x + letters a)) (names_in r))
names_laid G f (node t v) x r =
    ap (λ (l : List ℕ). l ++ names_in r) (names_laid G (G.row (class f) t) v x done ∙ append-nil (name_words v x))

pointed_append : (text xs ys : List ℕ) → all_pointed text (xs ++ ys) ≡ all_pointed text xs ++ all_pointed text ys
pointed_append text [] ys = refl
pointed_append text (x ∷ xs) ys = ap (λ (l : List (List ℕ)). pointed text x ∷ l) (pointed_append text xs ys)

pointed_one : (s pre post : List ℕ) → length s < half_word → pointed (pre ++ (s ++ post)) (name_of (length pre) s) ≡ s
pointed_one s pre post h =
    ap₂ (λ (x y : ℕ). take x (drop y (pre ++ (s ++ post)))) (digits_mod (length pre) h) (digits_div (length pre) h)
    ∙ ap (take (length s)) (drop-append_seam pre (s ++ post)) ∙ take-append_seam s post

pointed_all : (v : Value) (pre post : List ℕ) → letters v < half_word → all_pointed (pre ++ (text_of v ++ post)) (name_words v (length pre)) ≡ names v
pointed_all nothing pre post h = refl
pointed_all (spelt s) pre post h = ap (λ (l : List ℕ). l ∷ []) (pointed_one s pre post h)
pointed_all (choice k v) pre post h = pointed_all v pre post h
pointed_all (pair a b) pre post h =
    pointed_append text (name_words a (length pre)) (name_words b (length pre + letters a))
    ∙ ap₂ (λ (x y : List (List ℕ)). x ++ y)
    (ap (λ (t : List ℕ). all_pointed (pre ++ t) (name_words a (length pre))) (append_assoc (text_of a) (text_of b) post) ∙ pointed_all a pre (text_of b ++ post) (omega arith))
    (ap₂ (λ (t : List ℕ) (x : ℕ). all_pointed t (name_words b x)) after size ∙ pointed_all b (pre ++ text_of a) post (omega arith))
  where
    text : List ℕ
    text = pre ++ ((text_of a ++ text_of b) ++ post)

    after : text ≡ (pre ++ text_of a) ++ (text_of b ++ post)
    after = ap (λ (t : List ℕ). pre ++ t) (append_assoc (text_of a) (text_of b) post) ∙ sym (append_assoc pre (text_of a) (text_of b ++ post))

    size : length pre + letters a ≡ length (pre ++ text_of a)
    size = omega (arith, length-append pre (text_of a), length_text_of a)
pointed_all (node t v) pre post h = pointed_all v pre post h

-- The name words that are laid out point, in the text with anything after it, at the spellings in the key's order.
pub names_point : (G : Grammar) (f : Form) (v : Value) (post : List ℕ) → letters v < half_word
    → all_pointed (text_of v ++ post) (names_in (plant G f (laid v 0) done)) ≡ names v
names_point G f v post h =
    ap (all_pointed (text_of v ++ post)) (names_laid G f v 0 done ∙ append-nil (name_words v 0)) ∙ pointed_all v [] post h

-- ---- Cleared outputs

-- Bytes that were cleared from the start are zeros.
pub zeros : (l k : List ℕ) → l ≡ filled (length k) (take 0 k) → l ≡ replicate (length k) 0
zeros l k e =
    let q : length k - 0 ≡ length k = omega arith in
    e ∙ ap (λ (x : ℕ). replicate x 0) q
