-- Elements of tuples: what the last record says of a tree, a `?` node that becomes an optional one, and labels as the rules have them.
use mathlib.Core.Path.{◌≡◌, refl, sym, ap, ap₂, ◌∙◌, subst}
use mathlib.Core.Bool.{Bool, true, false, not, ◌&&◌}
use mathlib.Core.List.{List, [], ◌∷◌, ◌++◌, append_assoc, append-nil}
use Prim.Native.Nat.{ℕ, zero, suc, ◌+◌, ◌-◌, ◌*◌, ◌/◌, ◌%◌, ◌^◌, ◌≤◌, ◌<◌}
use native.Mathlib.Omega.{arith}
use native.Mathlib.Decide.{dec_lt}
use borrow.Author.Tests.{ltb-true, leb-false, le-leb, eqb-true, eq-eqb, ne_eqb}
use lib.Dec.{T, eqb, leb, ltb}
use lib.ListN.{length, take, drop, get_or, set, length-append}
use lib.Seq.{get_or-take, get_or-drop, get_or_at, get_or-append-add, take-set-lt, set_at, length-take-le}
use Rattle.words.specs.Test.{◌and◌, ◌or◌, between, among}
use Rattle.keys.specs.Bits.{unit}
use Rattle.keys.specs.Limits.{count_width, record_words, half_word, tags}
use Rattle.keys.specs.Form.{Form, never, height}
use Rattle.keys.specs.Key.{node_table}
use Rattle.keys.specs.Table.{rows, type, under_rest, named_row}
use Rattle.keys.specs.Placed as node
use Rattle.keys.specs.Placed.{Placed, tree, join, spell, bit, Spelling, second, is_set, optional_if, as_element, is_asked}
use Rattle.keys.specs.Store.{Run, done, chose, name, kid, plant, packed, first_kid, records, record_of, ◌⊕◌}
use Rattle.keys.proofs.StoreLaws.{under_join, called_join, names_in_join}
use Rattle.keys.specs.Holds.{first_at, end_at}
use Rattle.keys.specs.Words.{first_nodes}
use Rattle.rules.specs.Tuple as tuple
use Rattle.marks.specs.Laid.{heights, skeleton, run_in, names_run, shows_asked, shows_chosen, allowed, IsNode, node as is_node, Was, Laid, Stands, Shape}
use Rattle.marks.proofs.RunLaws.{heights_run}
use Rattle.tuples.specs.Tuple.{member_choices, Converts, optional_word, last_word}
use Rattle.marks.specs.declared.state.Mark.{Mark}

-- ---- Rows: classes 0 to 3 differ at 20, 21 and 22 alone

pub both_hold : (a b : Bool) → T (a and b) → T a × T b
both_hold true b h = (tt, h)
both_hold false b h = absurd h

-- The tag of a type.
type_tag : (tag : ℕ) (p : Placed) → T (allowed 0 tag p) → T (ltb tag tags and not (between 20 22 tag))
type_tag tag p h = (both_hold (ltb tag tags and not (between 20 22 tag)) (not (among (2 ∷ 15 ∷ []) tag) or shows_chosen tag p) h).0

pub is_true : (b : Bool) → T b → b ≡ true
is_true true h = refl
is_true false h = absurd h

-- Two lists that are the same but for three entries.
same_but : (l k : List Form) → take 20 l ≡ take 20 k → drop 23 l ≡ drop 23 k → (tag : ℕ) → T (not (between 20 22 tag)) → get_or l tag never ≡ get_or k tag never
same_but l k e i tag h = by (dec_lt tag 20)
  where
    above : (20 ≤ tag) → T (not (between 20 22 tag)) → 23 ≤ tag
    above g = go (leb 20 tag) (le-leb 20 tag g) (leb tag 22) refl
      where
        go : (a : Bool) → a ≡ true → (b : Bool) → leb tag 22 ≡ b → T (not (a and b)) → 23 ≤ tag
        go true z true w u = absurd u
        go true z false w u = omega (arith, leb-false tag 22 w)
        go false z b w u = absurd (let q : ◌≡◌ {A = ℕ} 0 1 = cc in omega arith)

    by : Dec (tag < 20) → get_or l tag never ≡ get_or k tag never
    by (yes p) = sym (get_or-take 20 l tag never p) ∙ ap (λ (x : List Form). get_or x tag never) e ∙ get_or-take 20 k tag never p
    by (no p) =
        let far : 23 ≤ tag = above (omega arith) h in
        let at : 23 + (tag - 23) ≡ tag = omega arith in
        ap (λ (n : ℕ). get_or l n never) (sym at) ∙ sym (get_or-drop 23 l (tag - 23) never) ∙ ap (λ (x : List Form). get_or x (tag - 23) never) i
        ∙ get_or-drop 23 k (tag - 23) never ∙ ap (λ (n : ℕ). get_or k n never) at

rows_same : (a b c x y z : Form) (tag : ℕ) → T (not (between 20 22 tag)) → get_or (rows count_width a b c) tag never ≡ get_or (rows count_width x y z) tag never
rows_same a b c x y z tag h = same_but (rows count_width a b c) (rows count_width x y z) refl refl tag h

module _ (tag first end : ℕ) (p : Placed) (h : T (allowed 0 tag p)) where
  -- The tree as a run, by the form of its row.
  abbrev as_run : Form → Run
  as_run f = kid first end (chose 6 tag (plant node_table f p done)) done

  outside : T (not (between 20 22 tag))
  outside = (both_hold (ltb tag tags) (not (between 20 22 tag)) (type_tag tag p h)).1

  same_one : run_in 1 (tree tag first end p) ≡ run_in 0 (tree tag first end p)
  same_one = ap as_run (rows_same type under_rest named_row never never never tag outside)

  same_two : run_in 2 (tree tag first end p) ≡ run_in 0 (tree tag first end p)
  same_two = ap as_run (rows_same never never named_row never never never tag outside)

  same_three : run_in 3 (tree tag first end p) ≡ run_in 0 (tree tag first end p)
  same_three = ap as_run (rows_same type under_rest never never never never tag outside)

-- What a type is as an element stands alike under a name.
pub element_named : {t : Placed} → IsNode 0 t → run_in 3 (as_element t) ≡ run_in 1 (as_element t)
element_named (is_node {tag = tag} {first = f} {end = e} {p = p} a) = by (eqb tag 24)
  where
    by : (b : Bool) → run_in 3 (optional_if b (tree tag f e p)) ≡ run_in 1 (optional_if b (tree tag f e p))
    by true = refl
    by false = same_three tag f e p a.0 ∙ sym (same_one tag f e p a.0)

-- ---- What a type is as an element

-- A tag has six bits.
pub tag_below : (c tag : ℕ) (p : Placed) → T (allowed c tag p) → tag < tags
tag_below zero tag p h = ltb-true tag tags (is_true (ltb tag tags) (both_hold (ltb tag tags) (not (between 20 22 tag)) (type_tag tag p h)).0)
tag_below (suc c) tag p h = ltb-true tag tags (is_true (ltb tag tags) (both_hold (ltb tag tags) (not (eqb tag 22) or shows_asked p) h).0)

-- A type may stand as an element.
allowed_more : (tag : ℕ) (p : Placed) → T (allowed 0 tag p) → T (allowed 1 tag p)
allowed_more tag p h = by (ltb tag tags) (eqb tag 22) (λ e. eqb-true tag 22 e) (type_tag tag p h)
  where
    by : (a b : Bool) → (b ≡ true → tag ≡ 22) → T (a and not (between 20 22 tag)) → T (a and (not b or shows_asked p))
    by false b i u = absurd u
    by true false i u = tt
    by true true i u = absurd (subst (λ (k : ℕ). T (not (between 20 22 k))) (i refl) u)

pub element_node : {t : Placed} → IsNode 0 t → IsNode 1 (as_element t)
element_node (is_node {tag = tag} {first = f} {end = e} {p = p} a) = by (eqb tag 24)
  where
    by : (b : Bool) → IsNode 1 (optional_if b (tree tag f e p))
    by true = is_node (tt, a.1)
    by false = is_node (allowed_more tag p a.0, a.1)

pub element_high : {t : Placed} → IsNode 0 t → heights (run_in 1 (as_element t)) ≡ heights (run_in 0 t)
element_high {t} i = heights_run 1 (as_element t) ∙ same i ∙ sym (heights_run 0 t)
  where
    same : {t : Placed} → IsNode 0 t → height (node.bare (as_element t)) ≡ height (node.bare t)
    same (is_node {tag = tag} {first = f} {end = e} {p = p} a) = by (eqb tag 24)
      where
        by : (b : Bool) → height (node.bare (optional_if b (tree tag f e p))) ≡ height (node.bare (tree tag f e p))
        by true = refl
        by false = refl

-- ---- The last record

records_last : (ss : List Spelling) (f e : ℕ) (a : Run) (b m : ℕ)
    → records (names_run ss ⊕ kid f e a done) b m 0 ≡ records a b (m + length ss) 0 ++ record_of f e a b (m + length ss) 0
records_last [] f e a b m =
    append-nil (records a b m 0 ++ record_of f e a b m 0)
    ∙ ap (λ (n : ℕ). records a b n 0 ++ record_of f e a b n 0) (let z : m ≡ m + 0 = omega arith in z)
records_last (s ∷ ss) f e a b m =
    records_last ss f e a b (m + 1)
    ∙ ap (λ (n : ℕ). records a b n 0 ++ record_of f e a b n 0) (let z : m + 1 + length ss ≡ m + suc (length ss) = omega arith in z)

module _ {B : Was} (ss : List Spelling) (f e : ℕ) (a : Run) {used named noted : ℕ} {N M O : List ℕ} (d : Laid B (names_run ss ⊕ kid f e a done) used named noted N M O) (h : used * 4 ≤ length N) (some : 1 ≤ used) where
  -- All words before the last record.
  abbrev front : List ℕ
  front = B.nodes ++ records a B.used (B.named + length ss) 0

  -- Its words behind the first.
  abbrev back : List ℕ
  back = (f + 2 ^ 32 * e) ∷ (first_kid a B.used 0 + 2 ^ 32 * (B.named + length ss)) ∷ 0 ∷ []

  words_are : take (4 * used) N ≡ front ++ (packed a ∷ back)
  unfolding first_nodes
  words_are =
      d.nodes_are ∙ ap (λ (l : List ℕ). B.nodes ++ l) (records_last ss f e a B.used B.named)
      ∙ sym (append_assoc B.nodes (records a B.used (B.named + length ss) 0) (packed a ∷ back))

  front_length : length front ≡ used * 4 - 4
  front_length =
      let z : length (take (4 * used) N) ≡ 4 * used = length-take-le (4 * used) N (omega arith) in
      let y : length (front ++ (packed a ∷ back)) ≡ length front + 4 = length-append front (packed a ∷ back) in
      let x : length (take (4 * used) N) ≡ length (front ++ (packed a ∷ back)) = ap length words_are in
      omega arith

  pub last_word_lem : last_word N used ≡ packed a
  last_word_lem =
      sym (get_or-take (4 * used) N (used * 4 - 4) 0 (omega arith)) ∙ ap (λ (l : List ℕ). get_or l (used * 4 - 4) 0) words_are
      ∙ get_or_at front (packed a) back 0 (used * 4 - 4) front_length

  pub last_place : get_or N (used * 4 - 3) 0 ≡ f + 2 ^ 32 * e
  last_place =
      sym (get_or-take (4 * used) N (used * 4 - 3) 0 (omega arith)) ∙ ap (λ (l : List ℕ). get_or l (used * 4 - 3) 0) words_are
      ∙ ap (λ (n : ℕ). get_or (front ++ (packed a ∷ back)) n 0) (let z : used * 4 - 3 ≡ length front + 1 = omega (arith, front_length) in z)
      ∙ get_or-append-add front (packed a ∷ back) 1 0

-- The tag in its first word is set: the same tree under another tag.
pub last_set : {B : Was} (ss : List Spelling) (f e w k j : ℕ) (r : Run) {used named noted : ℕ} {N M O : List ℕ} → Laid B (names_run ss ⊕ kid f e (chose w k r) done) used named noted N M O
    → used * 4 ≤ length N → 1 ≤ used → Laid B (names_run ss ⊕ kid f e (chose w j r) done) used named noted (set N (used * 4 - 4) (j + 2 ^ w * packed r)) M O
unfolding first_nodes
last_set {B} ss f e w k j r {used} {named} {noted} {N} {M} {O} d h some =
    let t : Run = kid f e (chose w k r) done in
    let u : Run = kid f e (chose w j r) done in
    record {
      used_is = d.used_is ∙ ap (λ (i : ℕ). B.used + i) (under_join (names_run ss) t ∙ sym (under_join (names_run ss) u));
      named_is = d.named_is ∙ ap (λ (i : ℕ). B.named + i) (called_join (names_run ss) t ∙ sym (called_join (names_run ss) u));
      nodes_are =
          take-set-lt (4 * used) N (used * 4 - 4) (j + 2 ^ w * packed r) (omega arith) ∙ ap (λ (x : List ℕ). set x (used * 4 - 4) (j + 2 ^ w * packed r)) (words_are ss f e (chose w k r) d h some)
          ∙ set_at (front ss f e (chose w k r) d h some) (k + 2 ^ w * packed r) (back ss f e (chose w k r) d h some) (j + 2 ^ w * packed r) (used * 4 - 4) (front_length ss f e (chose w k r) d h some)
          ∙ append_assoc B.nodes (records r B.used (B.named + length ss) 0) ((j + 2 ^ w * packed r) ∷ back ss f e (chose w k r) d h some)
          ∙ ap (λ (x : List ℕ). B.nodes ++ x) (sym (records_last ss f e (chose w j r) B.used B.named));
      room_is = d.room_is;
      names_are = d.names_are ∙ ap (λ (x : List ℕ). take B.room (B.names ++ x)) (names_in_join (names_run ss) t ∙ sym (names_in_join (names_run ss) u));
      noted_is = d.noted_is;
      notes_are = d.notes_are;
    }

-- ---- A `?` node becomes an optional one

-- The tag of the node that was read last.
pub last_tag : {B : Was} (ss : List Spelling) (c tag f e : ℕ) (p : Placed) {used named noted : ℕ} {N M O : List ℕ} → Laid B (names_run ss ⊕ run_in c (tree tag f e p)) used named noted N M O
    → node_table.tag_width c ≡ 6 → tag < tags → used * 4 ≤ length N → 1 ≤ used → last_word N used % tags ≡ tag
last_tag ss c tag f e p d w b h some =
    ap (λ (x : ℕ). x % tags) (last_word_lem ss f e (chose (node_table.tag_width c) tag (plant node_table (node_table.row c tag) p done)) d h some) ∙ ap (λ (i : ℕ). (tag + 2 ^ i * packed (plant node_table (node_table.row c tag) p done)) % tags) w
    ∙ (let z : (tag + tags * packed (plant node_table (node_table.row c tag) p done)) % tags ≡ tag = omega arith in z)

module _ (used : ℕ) (N : List ℕ) (h : used * 4 ≤ length N) (some : 1 ≤ used) where
  -- No `?` node stands last: nothing changes.
  pub converts_none : (last_word N used % tags ≡ 24 → ⊥) → Converts used N false N
  converts_none n B ss t named noted M O i d = by i d
    where
      by : {t : Placed} → IsNode 0 t → Laid B (names_run ss ⊕ run_in 0 t) used named noted N M O → (false ≡ is_asked t) × Laid B (names_run ss ⊕ run_in 1 (as_element t)) used named noted N M O
      by (is_node {tag = tag} {first = f} {end = e} {p = p} a) d =
          let other : eqb tag 24 ≡ false = ne_eqb tag 24 (λ z. n (last_tag ss 0 tag f e p d refl (tag_below 0 tag p a.0) h some ∙ z)) in (
            sym other,
            subst (λ (b : Bool). Laid B (names_run ss ⊕ run_in 1 (optional_if b (tree tag f e p))) used named noted N M O) (sym other)
                (subst (λ (r : Run). Laid B (names_run ss ⊕ r) used named noted N M O) (sym (same_one tag f e p a.0)) d),
          )

  -- One stands last: its tag is set.
  pub converts_one : last_word N used % tags ≡ 24 → Converts used N true (set N (used * 4 - 4) (last_word N used - 4))
  converts_one y B ss t named noted M O i d = by i d
    where
      set_tag : (f e : ℕ) (p : Placed) → Laid B (names_run ss ⊕ run_in 0 (tree 24 f e p)) used named noted N M O
          → Laid B (names_run ss ⊕ run_in 1 (tree 20 f e p)) used named noted (set N (used * 4 - 4) (last_word N used - 4)) M O
      set_tag f e p d =
          let x : ℕ = packed (plant node_table type p done) in
          let word : last_word N used ≡ 24 + tags * x = last_word_lem ss f e (chose 6 24 (plant node_table type p done)) d h some in
          let less : last_word N used - 4 ≡ 20 + tags * x = omega arith in
          subst (λ (v : ℕ). Laid B (names_run ss ⊕ run_in 1 (tree 20 f e p)) used named noted (set N (used * 4 - 4) v) M O) (sym less) (last_set ss f e 6 24 20 (plant node_table type p done) d h some)

      by : {t : Placed} → IsNode 0 t → Laid B (names_run ss ⊕ run_in 0 t) used named noted N M O
          → (true ≡ is_asked t) × Laid B (names_run ss ⊕ run_in 1 (as_element t)) used named noted (set N (used * 4 - 4) (last_word N used - 4)) M O
      by (is_node {tag = tag} {first = f} {end = e} {p = p} a) d =
          let one : tag ≡ 24 = sym (last_tag ss 0 tag f e p d refl (tag_below 0 tag p a.0) h some) ∙ y in
          let same : eqb tag 24 ≡ true = eq-eqb tag 24 one in (
            sym same,
            subst (λ (b : Bool). Laid B (names_run ss ⊕ run_in 1 (optional_if b (tree tag f e p))) used named noted (set N (used * 4 - 4) (last_word N used - 4)) M O) (sym same)
                (set_tag f e p (subst (λ (k : ℕ). Laid B (names_run ss ⊕ run_in 0 (tree k f e p)) used named noted N M O) one d)),
          )

-- ---- Whether an element is optional or a rest

odd_unit : (b : Bool) (x : ℕ) → x % 2 ≡ unit b → eqb (x % 2) 1 ≡ b
odd_unit true x e = eq-eqb (x % 2) 1 e
odd_unit false x e = ne_eqb (x % 2) 1 (λ z. omega arith)

and_both : (a b : Bool) → (a and b) ≡ (a && b)
and_both true b = refl
and_both false b = refl

module _ {B : Was} {e : Placed} {high : ℕ} {m : Mark} {N M O : List ℕ} (h : m.used * 4 ≤ length N) (some : 1 ≤ m.used) where
  -- The last record's tag is the element's.
  pub element_tag : Stands 1 B e high m N M O → last_word N m.used % tags ≡ node.tag_of e
  element_tag s = by s.is_node s.laid
    where
      by : {e : Placed} → IsNode 1 e → Laid B (run_in 1 e) m.used m.named m.noted N M O → last_word N m.used % tags ≡ node.tag_of e
      by (is_node {tag = tag} {first = f} {end = l} {p = p} a) d = last_tag [] 1 tag f l p d refl (tag_below 1 tag p a.0) h some

  -- Its first and end byte are those of the record.
  pub element_place : Stands 1 B e high m N M O → (first_at N (m.used - 1) ≡ node.first_of e) × (end_at N (m.used - 1) ≡ node.end_of e)
  element_place s = by s.is_node s.laid
    where
      same : get_or N ((m.used - 1) * record_words + 1) 0 ≡ get_or N (m.used * 4 - 3) 0
      same = ap (λ (i : ℕ). get_or N i 0) (let z : (m.used - 1) * record_words + 1 ≡ m.used * 4 - 3 = omega arith in z)

      by : {e : Placed} → IsNode 1 e → Laid B (run_in 1 e) m.used m.named m.noted N M O → (first_at N (m.used - 1) ≡ node.first_of e) × (end_at N (m.used - 1) ≡ node.end_of e)
      by (is_node {tag = tag} {first = f} {end = l} {p = p} a) d =
          let w = same ∙ last_place [] f l (chose 6 tag (plant node_table (node_table.row 1 tag) p done)) d h some in
          let low = a.1 in (
            ap (λ (x : ℕ). x % half_word) w ∙ (let z : (f + 2 ^ 32 * l) % half_word ≡ f = omega arith in z),
            ap (λ (x : ℕ). x / half_word) w ∙ (let z : (f + 2 ^ 32 * l) / half_word ≡ l = omega arith in z),
          )

  pub element_optional : Stands 1 B e high m N M O → optional_word (last_word N m.used) ≡ tuple.is_optional_element e
  element_optional s = by s.is_node s.laid
    where
      asks : (tag : ℕ) (p : Placed) (x w : ℕ) → w ≡ tag + tags * x → T (allowed 1 tag p) → x ≡ packed (plant node_table (node_table.row 1 tag) p done)
          → (eqb tag 22 and eqb (w / tags % 2) 1) ≡ (eqb tag 22 && is_set (second p))
      asks tag p x w i a j = go (eqb tag 22) refl
        where
          low : tag < tags
          low = tag_below 1 tag p a

          shows : (b : Bool) → T (ltb tag tags and (not b or shows_asked p)) → b ≡ true → T (shows_asked p)
          shows true u z = (both_hold (ltb tag tags) (shows_asked p) u).1
          shows false u z = absurd (let q : ◌≡◌ {A = ℕ} 0 1 = cc in omega arith)

          go : (b : Bool) → eqb tag 22 ≡ b → (b and eqb (w / tags % 2) 1) ≡ (b && is_set (second p))
          go false z = refl
          go true z =
              let same : x ≡ packed (plant node_table named_row p done) = j ∙ ap (λ (k : ℕ). packed (plant node_table (node_table.row 1 k) p done)) (eqb-true tag 22 z) in
              let div : w / tags ≡ x = omega (arith, low) in
              let bit : x % 2 ≡ unit (is_set (second p)) =
              ap (λ (k : ℕ). k % 2) same ∙ eqb-true (packed (plant node_table named_row p done) % 2) (unit (is_set (second p))) (is_true (shows_asked p) (shows (eqb tag 22) a z)) in
              ap (λ (k : ℕ). eqb (k % 2) 1) div ∙ odd_unit (is_set (second p)) x bit

      by : {e : Placed} → IsNode 1 e → Laid B (run_in 1 e) m.used m.named m.noted N M O → optional_word (last_word N m.used) ≡ tuple.is_optional_element e
      by (is_node {tag = tag} {first = f} {end = l} {p = p} a) d =
          let t = last_tag [] 1 tag f l p d refl (tag_below 1 tag p a.0) h some in
          let w = last_word N m.used in
          ap (λ (k : ℕ). eqb k 20 or (eqb k 22 and eqb (w / tags % 2) 1)) t
          ∙ ap (λ (b : Bool). eqb tag 20 or b) (asks tag p (packed (plant node_table (node_table.row 1 tag) p done)) w (last_word_lem [] f l (chose 6 tag (plant node_table (node_table.row 1 tag) p done)) d h some) a.0 refl)

-- ---- Shapes

-- A rest about a type, and about a member.
pub rest_shape : {t : Placed} → IsNode 0 t → Shape 1 21 t (run_in 0 t) 21
rest_shape (is_node {tag = tag} {first = f} {end = e} {p = p} a) = record { same = ap skeleton (same_two tag f e p a.0); choices_are = refl; allowed_is = tt }

pub rest_member : (f e : ℕ) (p : Placed) → Shape 1 21 (tree 22 f e p) (run_in 1 (tree 22 f e p)) 21
rest_member f e p = record { same = refl; choices_are = refl; allowed_is = tt }

-- A member: its name, its `?` bit and what its type is as an element.
pub member_shape : {t : Placed} (x : Spelling) (asked : Bool) → IsNode 0 t
    → Shape 1 22 (join (spell x) (join (bit asked) (as_element t))) (names_run (x ∷ []) ⊕ run_in 1 (as_element t)) (member_choices asked)
member_shape x asked (is_node {tag = tag} {first = f} {end = e} {p = p} a) =
    record {
      same = ap (λ (r : Run). name x.0 x.1 (skeleton r)) (element_named {t = tree tag f e p} (is_node a));
      choices_are = choices (eqb tag 24) asked;
      allowed_is = shows (eqb tag 24) asked;
    }
  where
    choices : (b asked : Bool) → member_choices asked ≡ 22 + tags * (unit asked + 2 * packed (run_in 3 (optional_if b (tree tag f e p))))
    choices true asked = omega arith
    choices false asked = omega arith

    shows : (b asked : Bool) → T (eqb ((unit asked + 2 * packed (run_in 3 (optional_if b (tree tag f e p)))) % 2) (unit (eqb (unit asked) 1)))
    shows true true = tt
    shows true false = tt
    shows false true = tt
    shows false false = tt

-- ---- Whether a record's word says optional, by what its tests answer

module _ (w : ℕ) where
  pub optional_not : (w % tags ≡ 20 → ⊥) → (w % tags ≡ 22 → ⊥) → false ≡ optional_word w
  optional_not n k = ap₂ (λ (b c : Bool). b or (c and eqb (w / tags % 2) 1)) (sym (ne_eqb (w % tags) 20 n)) (sym (ne_eqb (w % tags) 22 k))
