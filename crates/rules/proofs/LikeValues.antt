-- Values that are alike, positions aside, and what rules make and ask of such.
use mathlib.Core.Path.{◌≡◌, refl, sym, ap, ◌∙◌}
use mathlib.Core.Bool.{Bool, true, false}
use mathlib.Core.List.{List, [], ◌∷◌, ◌++◌}
use Prim.Native.Nat.{ℕ, suc}
use native.Mathlib.Omega.{arith}
use lib.Dec.{eqb}
use lib.ListN.{length, length-append}
use Rattle.words.specs.Test.{test}
use Rattle.keys.specs.Form.{Value, choice, node as nodeValue, names}
use Rattle.keys.specs.Table.{type}
use Rattle.keys.specs.Placed as node
use Rattle.keys.specs.Placed.{Placed, void, said, pick, join, tree, bare, laid, Spelling, Opt, absent, present, entries, listed, listed_names, spellings, pieces, maybe, maybe_list, tag_of, content, second, chosen, is_set, is_literal, is_no_index, is_asked, is_rest, optional_if, as_element}
use Rattle.keys.specs.Key.{node_table}
use Rattle.keys.specs.Store.{names_of, run_of, done}
use Rattle.keys.proofs.BitsLaws.{clash}
use Rattle.keys.proofs.StoreLaws.{bare_laid, length_names_in, called_plant}
use Rattle.rules.specs.Notes.{Note}
use Rattle.rules.specs.List.{no_entry, count}
use Rattle.rules.specs.Tuple.{is_optional_element, latest_from, latest_optional}
use Rattle.rules.specs.Like.{note_numbers}
use Rattle.rules.proofs.Gives.{itself}
use Rattle.rules.proofs.PartLaws.{pieces_more}

-- Two values that are the same as the node table has them, positions aside.
pub record Pair {A : Type 0} (shape : A → Placed) : Type 0 where
  pub one : A
  pub other : A
  pub same : bare (shape one) ≡ bare (shape other)

-- A test that is answered alike: what holds on both ways holds of what it chooses.
pub test_like : {A : Type 0} (R : A → A → Type 0) {b c : Bool} {x y x' y' : Unit {0} → A} → b ≡ c → ((u : Unit {0}) → R (x u) (x' u)) → ((u : Unit {0}) → R (y u) (y' u))
    → R (test b x y) (test c x' y')
test_like R {c = c} {x = x} {y = y} {x' = x'} {y' = y'} e f h = rw e (by c)
  where
    by : (c : Bool) → R (test c x y) (test c x' y')
    by true = f tt
    by false = h tt

-- The types of a template, each with its spelling, as values.
abbrev pub listed_pieces : List (Placed × Spelling) → Placed
listed_pieces l = pick (length l) (entries (pieces l))

-- The same value twice.
abbrev pub twice : {A : Type 0} {shape : A → Placed} → A → Pair shape
twice a = record { one = a; other = a; same = refl }

-- Both present.
abbrev pub presents : Pair itself → Pair maybe
presents t = record { one = present t.one; other = present t.other; same = ap (choice 1) t.same }

abbrev pub present_lists : Pair listed → Pair maybe_list
present_lists l = record { one = present l.one; other = present l.other; same = ap (choice 1) l.same }

-- ---- Lists that grow at their end

entries_more : (l m : List Placed) (t : Pair itself) → bare (entries l) ≡ bare (entries m) → bare (entries (l ++ (t.one ∷ []))) ≡ bare (entries (m ++ (t.other ∷ [])))
entries_more [] [] t e = cc
entries_more [] (y ∷ m) t e = clash (cc)
entries_more (x ∷ l) [] t e = clash (cc)
entries_more (x ∷ l) (y ∷ m) t e =
    let f : bare (entries l) ≡ bare (entries m) = cc in
    cc (entries_more l m t f)

length_more : {A : Type 0} (l m : List A) (x y : A) → length l ≡ length m → length (l ++ (x ∷ [])) ≡ length (m ++ (y ∷ []))
length_more l m x y e = omega (arith, length-append l (x ∷ []), length-append m (y ∷ []))

spellings_more : (l : List Spelling) (x : Spelling) → spellings (l ++ (x ∷ [])) ≡ spellings l ++ (node.spell x ∷ [])
spellings_more [] x = refl
spellings_more (y ∷ l) x = ap (λ (r : List Placed). node.spell y ∷ r) (spellings_more l x)

pub listed_grow : (l : Pair listed) (t : Pair itself) → bare (listed (l.one ++ (t.one ∷ []))) ≡ bare (listed (l.other ++ (t.other ∷ [])))
listed_grow l t =
    let n : length l.one ≡ length l.other = cc in
    let e : bare (entries l.one) ≡ bare (entries l.other) = cc in
    cc (entries_more l.one l.other t e, length_more l.one l.other t.one t.other n)

pub names_grow : (l : Pair listed_names) (x : Pair node.spell) → bare (listed_names (l.one ++ (x.one ∷ []))) ≡ bare (listed_names (l.other ++ (x.other ∷ [])))
names_grow l x =
    let a : Pair listed = record { one = spellings l.one; other = spellings l.other; same = l.same } in
    let b : Pair itself = record { one = node.spell x.one; other = node.spell x.other; same = x.same } in
    rw (spellings_more l.one x.one, spellings_more l.other x.other) (listed_grow a b)

pub pieces_grow : (l : Pair listed_pieces) (t : Pair itself) (x : Pair node.spell) → bare (listed_pieces (l.one ++ ((t.one, x.one) ∷ []))) ≡ bare (listed_pieces (l.other ++ ((t.other, x.other) ∷ [])))
pieces_grow l t x =
    let n : length l.one ≡ length l.other = cc in
    let e : bare (entries (pieces l.one)) ≡ bare (entries (pieces l.other)) = cc in
    let b : Pair itself = record { one = join t.one (node.spell x.one); other = join t.other (node.spell x.other); same = cc } in
    rw (pieces_more l.one (t.one, x.one), pieces_more l.other (t.other, x.other))
    (cc (entries_more (pieces l.one) (pieces l.other) b e, length_more l.one l.other (t.one, x.one) (t.other, x.other) n))

-- One entry more.
abbrev pub listed_more : Pair listed → Pair itself → Pair listed
listed_more l t = record { one = l.one ++ (t.one ∷ []); other = l.other ++ (t.other ∷ []); same = listed_grow l t }

abbrev pub names_more : Pair listed_names → Pair node.spell → Pair listed_names
names_more l x = record { one = l.one ++ (x.one ∷ []); other = l.other ++ (x.other ∷ []); same = names_grow l x }

abbrev pub pieces_with : Pair listed_pieces → Pair itself → Pair node.spell → Pair listed_pieces
pieces_with l t x = record { one = l.one ++ ((t.one, x.one) ∷ []); other = l.other ++ ((t.other, x.other) ∷ []); same = pieces_grow l t x }

-- ---- Counts

pub same_none : (l : Pair listed) → no_entry l.one ≡ no_entry l.other
same_none l = by l.one l.other l.same
  where
    by : (a b : List Placed) → bare (listed a) ≡ bare (listed b) → no_entry a ≡ no_entry b
    by [] [] e = refl
    by [] (y ∷ b) e = clash (cc)
    by (x ∷ a) [] e = clash (cc)
    by (x ∷ a) (y ∷ b) e = refl

pub same_count : (o : Pair maybe_list) → count o.one ≡ count o.other
same_count o = by o.one o.other o.same
  where
    by : (a b : Opt (List Placed)) → bare (maybe_list a) ≡ bare (maybe_list b) → count a ≡ count b
    by absent absent e = refl
    by absent (present m) e = clash (cc)
    by (present l) absent e = clash (cc)
    by (present l) (present m) e = cc

pub same_many : (l : Pair listed_names) → length l.one ≡ length l.other
same_many l = omega (arith, counted l.one, counted l.other, e)
  where
    counted : (l : List Spelling) → length (spellings l) ≡ length l
    counted [] = refl
    counted (x ∷ l) = ap suc (counted l)

    e : length (spellings l.one) ≡ length (spellings l.other)
    e = cc

-- ---- What rules ask of a node

-- What is asked of a value as taking back lays it out is asked of the value.
by_value : {A : Type 0} (f : Placed → A) → ((p : Placed) → f p ≡ f (laid (bare p) 0)) → (a : Pair itself) → f a.one ≡ f a.other
by_value f e a = e a.one ∙ ap (λ (v : Value). f (laid v 0)) a.same ∙ sym (e a.other)

same_tag : (a : Pair itself) → tag_of a.one ≡ tag_of a.other
same_tag = by_value tag_of each
  where
    each : (p : Placed) → tag_of p ≡ tag_of (laid (bare p) 0)
    each void = refl
    each (said x s) = refl
    each (pick k p) = refl
    each (join p q) = refl
    each (tree t first end p) = refl

contents : Pair itself → Pair itself
contents a = record { one = content a.one; other = content a.other; same = by_value (λ p. bare (content p)) each a }
  where
    each : (p : Placed) → bare (content p) ≡ bare (content (laid (bare p) 0))
    each void = refl
    each (said x s) = refl
    each (pick k p) = refl
    each (join p q) = refl
    each (tree t first end p) = sym (bare_laid (bare p) 0)

same_set : (a : Pair itself) → is_set (second (content a.one)) ≡ is_set (second (content a.other))
unfolding contents
same_set a = by_value (λ p. is_set (second p)) each (contents a)
  where
    first_set : (p : Placed) (x : ℕ) → is_set p ≡ is_set (laid (bare p) x)
    first_set void x = refl
    first_set (said y s) x = refl
    first_set (pick k p) x = refl
    first_set (join p q) x = first_set p x
    first_set (tree t first end p) x = refl

    each : (p : Placed) → is_set (second p) ≡ is_set (second (laid (bare p) 0))
    each void = refl
    each (said x s) = refl
    each (pick k p) = refl
    each (join p q) = first_set q _
    each (tree t first end p) = refl

same_chosen : (a : Pair itself) → chosen (content a.one) ≡ chosen (content a.other)
unfolding contents
same_chosen a = by_value chosen each (contents a)
  where
    each : (p : Placed) → chosen p ≡ chosen (laid (bare p) 0)
    each void = refl
    each (said x s) = refl
    each (pick k p) = refl
    each (join p q) = refl
    each (tree t first end p) = refl

pub same_element : (a : Pair itself) → bare (as_element a.one) ≡ bare (as_element a.other)
same_element = by_value (λ p. bare (as_element p)) each
  where
    by : (b : Bool) (t first end : ℕ) (p : Placed) → bare (optional_if b (tree t first end p)) ≡ bare (optional_if b (tree t 0 0 (laid (bare p) 0)))
    by true t first end p = ap (nodeValue 20) (sym (bare_laid (bare p) 0))
    by false t first end p = ap (nodeValue t) (sym (bare_laid (bare p) 0))

    each : (p : Placed) → bare (as_element p) ≡ bare (as_element (laid (bare p) 0))
    each void = refl
    each (said x s) = refl
    each (pick k p) = sym (bare_laid (bare (pick k p)) 0)
    each (join p q) = sym (bare_laid (bare (join p q)) 0)
    each (tree t first end p) = by (eqb t 24) t first end p

pub same_asked : (a : Pair itself) → is_asked a.one ≡ is_asked a.other
same_asked a = cc (same_tag a)

pub same_rest : (a : Pair itself) → is_rest a.one ≡ is_rest a.other
same_rest a = cc (same_tag a)

pub same_optional : (a : Pair itself) → is_optional_element a.one ≡ is_optional_element a.other
same_optional a = cc (same_tag a, same_set a)

pub same_literal : (a : Pair itself) → is_literal a.one ≡ is_literal a.other
same_literal a = cc (same_tag a, same_chosen a)

pub same_no_index : (a : Pair itself) → is_no_index a.one ≡ is_no_index a.other
same_no_index a = cc (same_tag a, same_chosen a)

-- The latest optional one among elements.
latest_from_lem : (o p : Opt Placed) (l m : List Placed) → bare (maybe o) ≡ bare (maybe p) → bare (entries l) ≡ bare (entries m) → bare (maybe (latest_from o l)) ≡ bare (maybe (latest_from p m))
latest_from_lem o p [] [] a e = a
latest_from_lem o p [] (y ∷ m) a e = clash (cc)
latest_from_lem o p (x ∷ l) [] a e = clash (cc)
latest_from_lem o p (x ∷ l) (y ∷ m) a e =
    let b : Pair itself = record { one = x; other = y; same = cc } in
    latest_from_lem (test (is_optional_element x) (λ _. present x) (λ _. o)) (test (is_optional_element y) (λ _. present y) (λ _. p)) l m (test_like (λ r t. bare (maybe r) ≡ bare (maybe t)) (same_optional b) (λ _. cc b.same) λ _. a) (cc)

pub same_latest : (l : Pair listed) → bare (maybe (latest_optional l.one)) ≡ bare (maybe (latest_optional l.other))
same_latest l =
    let e : bare (entries l.one) ≡ bare (entries l.other) = cc in
    latest_from_lem absent absent l.one l.other refl e

-- ---- What the call asks of a tree

pub same_names : (a : Pair itself) → length (names_of a.one) ≡ length (names_of a.other)
same_names a =
    let t = a.one in
    let u = a.other in
    omega (arith, length_names_in (run_of t), length_names_in (run_of u), called_plant node_table type t done, called_plant node_table type u done, ap (λ (v : Value). length (names v)) a.same)

-- ---- Diagnostics

pub numbers_more : (l m : List Note) (n k : Note) → note_numbers l ≡ note_numbers m → n.number ≡ k.number → note_numbers (l ++ (n ∷ [])) ≡ note_numbers (m ++ (k ∷ []))
numbers_more [] [] n k e f = cc
numbers_more [] (y ∷ m) n k e f = clash (cc)
numbers_more (x ∷ l) [] n k e f = clash (cc)
numbers_more (x ∷ l) (y ∷ m) n k e f =
    let t : note_numbers l ≡ note_numbers m = cc in
    cc (numbers_more l m n k t f)

pub numbers_length : (l m : List Note) → note_numbers l ≡ note_numbers m → length l ≡ length m
numbers_length [] [] e = refl
numbers_length [] (y ∷ m) e = clash (cc)
numbers_length (x ∷ l) [] e = clash (cc)
numbers_length (x ∷ l) (y ∷ m) e = ap suc (numbers_length l m (cc))
