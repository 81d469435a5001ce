-- Labels of elements: the code's marks are the rules' states, and what a label says is what the rules see.
use mathlib.Core.Path.{◌≡◌, refl, sym, ap, ap₂, ◌∙◌, subst}
use mathlib.Core.Bool.{Bool, true, false}
use mathlib.Core.List.{List, [], ◌∷◌}
use Prim.Native.Nat.{ℕ, ◌+◌}
use native.Mathlib.Omega.{arith}
use borrow.Author.Tests.{ne_eqb}
use lib.Dec.{eqb}
use Rattle.words.specs.Kind.{Question, Colon, Dot3}
use Rattle.words.specs.Class as class
use Rattle.words.specs.Test.{◌and◌, ◌or◌, test}
use Rattle.words.specs.Cursor.{kind_at, whole_kind, first_byte}
use Rattle.keys.specs.Placed as node
use Rattle.keys.specs.Placed.{Placed}
use Rattle.rules.specs.Notes.{note, rest_after_label, asked_after_label, optional_and_rest}
use Rattle.rules.specs.State as rule
use Rattle.rules.specs.State.{State, Result, Reader, read, refuse, then, next, stands, first, end, spelling, past, make, report_if}
use Rattle.rules.specs.Tuple as tuple
use Rattle.marks.specs.State.{view, given_of, next_mark, past_mark, named_mark, Spelt}
use Rattle.marks.specs.Laid.{Spoken}
use Rattle.marks.specs.List.{here}
use Rattle.marks.specs.Names.{Speaks}
use Rattle.marks.proofs.BuiltLaws.{spoken_none, spoken_from, spoken_to}
use Rattle.tuples.specs.Tuple.{LabelIs, labelled_at, colon_mark, label_at, element_start, label_names, element_after, member_after, rest_after}
use Rattle.marks.proofs.StepLaws.{view_past}
use Rattle.marks.specs.declared.state.Given.{Given}
use Rattle.marks.specs.declared.state.Mark.{Mark}
use Rattle.marks.specs.declared.state.Begin.{Begin}
use Rattle.tuples.specs.declared.tuple.Label.{Label}

-- ---- Marks and states

-- A state at the place of a mark.
pub record Alike (s : State) (m : Mark) : Type 0 where
  pub at_is : s.at ≡ m.at
  pub half_is : s.half ≡ m.half

alike_next : {s : State} {m : Mark} → Alike s m → Alike (next s) (next_mark m)
alike_next a = record { at_is = ap (λ (i : ℕ). i + 1) a.at_is; half_is = refl }

module _ (text W : List ℕ) (given : Given) where
  -- What the rules are given.
  abbrev g : rule.Given
  g = given_of text W given

  alike_stands : (k : ℕ) {s : State} {m : Mark} → Alike s m → stands g k s ≡ here W k m
  alike_stands k a = ap₂ (λ (i j : ℕ). eqb (kind_at W i j) k) a.at_is a.half_is

  alike_first : {s : State} {m : Mark} → Alike s m → first g s ≡ first_byte W m.at m.half
  alike_first a = ap₂ (λ (i j : ℕ). first_byte W i j) a.at_is a.half_is

  alike_past : (k : ℕ) {s : State} {m : Mark} → Alike s m → Alike (past g k s) (past_mark W k m)
  alike_past k {s} {m} a = by (stands g k s) (here W k m) (alike_stands k a)
    where
      by : (b c : Bool) → b ≡ c → Alike (test b (λ _. next s) (λ _. s)) (test c (λ _. next_mark m) (λ _. m))
      by true true e = alike_next a
      by false false e = a
      by true false e = absurd (let q : ◌≡◌ {A = ℕ} 0 1 = cc in omega arith)
      by false true e = absurd (let q : ◌≡◌ {A = ℕ} 0 1 = cc in omega arith)

  -- Where a label's type begins.
  view_type : (p : Mark) (O : List ℕ) → view (past_mark W Dot3 (colon_mark W p)) O ≡ past g Dot3 (next (past g Question (next (view p O))))
  view_type p O = view_past text W given Dot3 (colon_mark W p) O ∙ ap (λ (s : State). past g Dot3 (next s)) (view_past text W given Question (named_mark p) O)

-- Past a mark nothing is used, named or noted.
past_still : (W : List ℕ) (k : ℕ) (m : Mark) → ((past_mark W k m).used ≡ m.used) × ((past_mark W k m).named ≡ m.named) × ((past_mark W k m).noted ≡ m.noted)
past_still W k m = by (here W k m)
  where
    by : (b : Bool)
        → ((test b (λ _. next_mark m) (λ _. m)).used ≡ m.used) × ((test b (λ _. next_mark m) (λ _. m)).named ≡ m.named) × ((test b (λ _. next_mark m) (λ _. m)).noted ≡ m.noted)
    by true = (refl, refl, refl)
    by false = (refl, refl, refl)

-- ---- What stands before an element's type

module _ (text W : List ℕ) (given : Given) (m : Mark) (O : List ℕ) where
  -- What the rules are given.
  abbrev gr : rule.Given
  gr = given_of text W given

  -- Past the element's dots.
  abbrev p : Mark
  p = past_mark W Dot3 m

  labelled_is : labelled_at W p ≡ tuple.labelled gr (past gr Dot3 (view m O))
  labelled_is = ap (λ (s : State). tuple.labelled gr s) (view_past text W given Dot3 m O)

  -- No label.
  pub start_plain : labelled_at W p ≡ false → view p O ≡ element_start gr (view m O)
  start_plain e = view_past text W given Dot3 m O ∙ ap (λ (b : Bool). test b (λ _. past gr Dot3 (next (past gr Question (next (past gr Dot3 (view m O)))))) (λ _. past gr Dot3 (view m O))) (sym (sym labelled_is ∙ e))

  pub plain_is : labelled_at W p ≡ false → false ≡ tuple.labelled gr (past gr Dot3 (view m O))
  plain_is e = sym e ∙ labelled_is

  pub plain_names : (M : List ℕ) → labelled_at W p ≡ false → Spoken (label_names gr (view m O)) m p M M
  plain_names M e =
      let still = past_still W Dot3 m in
      subst (λ (b : Bool). Spoken (test b (λ _. spelling gr (past gr Dot3 (view m O)) ∷ []) (λ _. [])) m p M M) (plain_is e) (spoken_none m p M still.0 still.1 still.2)

  -- A label.
  pub start_label : labelled_at W p ≡ true → view (past_mark W Dot3 (colon_mark W p)) O ≡ element_start gr (view m O)
  start_label e =
      view_type text W given p O ∙ ap (λ (s : State). past gr Dot3 (next (past gr Question (next s)))) (view_past text W given Dot3 m O)
      ∙ ap (λ (b : Bool). test b (λ _. past gr Dot3 (next (past gr Question (next (past gr Dot3 (view m O)))))) (λ _. past gr Dot3 (view m O))) (sym (sym labelled_is ∙ e))

  pub label_is : labelled_at W p ≡ true → true ≡ tuple.labelled gr (past gr Dot3 (view m O))
  label_is e = sym e ∙ labelled_is

  pub label_names_lem : (M M' : List ℕ) → Spelt text W → Speaks W p M M' → labelled_at W p ≡ true → Spoken (label_names gr (view m O)) m (past_mark W Dot3 (colon_mark W p)) M M'
  label_names_lem M M' sp w e =
      let still = past_still W Dot3 m in
      let last = past_still W Dot3 (colon_mark W p) in
      let mid = past_still W Question (named_mark p) in
      subst (λ (b : Bool). Spoken (test b (λ _. spelling gr (past gr Dot3 (view m O)) ∷ []) (λ _. [])) m (past_mark W Dot3 (colon_mark W p)) M M') (label_is e)
      (subst (λ (s : State). Spoken (spelling gr s ∷ []) m (past_mark W Dot3 (colon_mark W p)) M M') (view_past text W given Dot3 m O)
      (spoken_from m (sym still.0) (sym still.1) (sym still.2)
      (spoken_to (past_mark W Dot3 (colon_mark W p)) (last.0 ∙ mid.0) (last.1 ∙ mid.1) (last.2 ∙ mid.2) (w text sp))))

-- What the label that the code makes says.
pub label_at_lem : (W : List ℕ) (m : Mark) (b : Begin) (rest : Bool) → b.first ≡ first_byte W m.at m.half → b.name ≡ m.named → rest ≡ here W Dot3 m
    → LabelIs W m (label_at W b rest (past_mark W Dot3 m))
label_at_lem W m b rest e n r =
    let p : Mark = past_mark W Dot3 m in
    let same = by (here W Question (next_mark p)) in
    record {
      first_is = e;
      name_is = n;
      rest_is = r;
      label_first = λ _. refl;
      label_asked = λ _. refl;
      type_first = λ _. ap₂ (λ (i j : ℕ). first_byte W (i + 1) 0) same same;
      type_dots = λ _. ap (λ (i : ℕ). eqb (kind_at W (i + 1) 0) Dot3) same;
    }
  where
    by : (c : Bool) → (test c (λ _. next_mark (named_mark (past_mark W Dot3 m))) (λ _. named_mark (past_mark W Dot3 m))).at ≡ (test c (λ _. next_mark (next_mark (past_mark W Dot3 m))) (λ _. next_mark (past_mark W Dot3 m))).at
    by true = refl
    by false = refl

-- What a label that is none says.
pub label_none : (W : List ℕ) (m q : Mark) (b : Begin) (rest : Bool) → b.first ≡ first_byte W m.at m.half → b.name ≡ m.named → rest ≡ here W Dot3 m
    → LabelIs W m (record { b = b; rest = rest; labelled = false; first = 0; asked = false; typed = 0; dots = false; m = q })
label_none W m q b rest e n r =
    record {
      first_is = e;
      name_is = n;
      rest_is = r;
      label_first = λ z. absurd (let i : ◌≡◌ {A = ℕ} 0 1 = cc in omega arith);
      label_asked = λ z. absurd (let i : ◌≡◌ {A = ℕ} 0 1 = cc in omega arith);
      type_first = λ z. absurd (let i : ◌≡◌ {A = ℕ} 0 1 = cc in omega arith);
      type_dots = λ z. absurd (let i : ◌≡◌ {A = ℕ} 0 1 = cc in omega arith);
    }

-- ---- What an element comes to once its type was read

then_same : {A B : Type 0} (x : Result A) {f h : A → State → Result B} → ((a : A) (s : State) → f a s ≡ h a s) → then x f ≡ then x h
then_same (read a s) e = e a s
then_same (refuse n i j) e = refl

module _ (text W : List ℕ) (given : Given) (T : Reader) (m : Mark) (l : Label) (s : State) (is : LabelIs W m l) (a : Alike s m)
    (same : l.labelled ≡ tuple.labelled (given_of text W given) (past (given_of text W given) Dot3 s)) where
  -- What the rules are given.
  abbrev gv : rule.Given
  gv = given_of text W given

  -- Past the element's dots.
  abbrev label : State
  label = past gv Dot3 s

  -- A member by what its label says.
  abbrev member_by : (first : ℕ) (asked : Bool) (typed : ℕ) (dots : Bool) → Placed → State → Result Placed
  member_by first asked typed dots t q =
      then (make gv [] (node.named first (end gv q) (spelling gv label) asked (node.as_element t)) q) λ e q.
      report_if dots gv (note rest_after_label typed (end gv q)) q λ q.
      report_if (node.is_asked t) gv (note asked_after_label typed (end gv q)) q λ q.
      read e q

  -- A member, or the rest about it, alike.
  abbrev rest_by : (rest asked : Bool) (first : ℕ) → Placed → State → Result Placed
  rest_by rest asked first e q =
      test rest (λ _. report_if asked gv (note optional_and_rest first (end gv q)) q λ q. make gv [] (node.rest first (end gv q) e) q) λ _.
      read e q

  rest_of_lem : l.labelled ≡ true → (e : Placed) (q : State) → (test (stands gv Dot3 s) (λ _. tuple.rest_of gv T s e q) λ _. read e q) ≡ rest_after gv l e q
  unfolding tuple.rest_of
  rest_of_lem y e q =
      ap (λ (n : ℕ). rest_by (stands gv Dot3 s) (stands gv Question (next (next s))) n e q) (alike_first text W given a ∙ sym is.first_is)
      ∙ go (stands gv Dot3 s) (alike_stands text W given Dot3 a) (here W Dot3 m) refl
      ∙ ap (λ (b : Bool). rest_by b l.asked l.b.first e q) (sym is.rest_is)
    where
      go : (b : Bool) → b ≡ here W Dot3 m → (c : Bool) → here W Dot3 m ≡ c
          → rest_by b (stands gv Question (next (next s))) l.b.first e q ≡ rest_by (here W Dot3 m) l.asked l.b.first e q
      go b i true j =
          let asked : l.asked ≡ here W Question (next_mark (next_mark m)) =
          is.label_asked y ∙ ap (λ (c : Bool). here W Question (next_mark (test c (λ _. next_mark m) (λ _. m)))) j in
          let alike = alike_stands text W given Question (alike_next (alike_next a)) in
          ap₂ (λ (b c : Bool). rest_by b c l.b.first e q) i (alike ∙ sym asked)
      go b i false j = ap (λ (b : Bool). rest_by b (stands gv Question (next (next s))) l.b.first e q) (i ∙ j) ∙ ap (λ (b : Bool). rest_by b l.asked l.b.first e q) (sym j)

  -- Behind a label.
  pub after_label : l.labelled ≡ true → (t : Placed) (q : State)
      → element_after gv T s t q ≡ then (member_after gv l (spelling gv label) t q) (rest_after gv l)
  unfolding tuple.member_node
  after_label y t q =
      let p = alike_past text W given Dot3 a in
      let ask = alike_next p in
      let type = alike_next (alike_past text W given Question ask) in
      ap (λ (b : Bool). test b (λ _. then (member_by (first gv label) (stands gv Question (next label)) (first gv (next (past gv Question (next label)))) (stands gv Dot3 (next (past gv Question (next label)))) t q)
      (λ e q. test (stands gv Dot3 s) (λ _. tuple.rest_of gv T s e q) λ _. read e q))
      (λ _. test (stands gv Dot3 s) (λ _. make gv [] (node.rest (first gv s) (end gv q) t) q) λ _. read (node.as_element t) q)) (sym same ∙ y)
      ∙ then_same (member_by (first gv label) (stands gv Question (next label)) (first gv (next (past gv Question (next label)))) (stands gv Dot3 (next (past gv Question (next label)))) t q) (rest_of_lem y)
      ∙ ap (λ (x : Result Placed). then x (rest_after gv l))
      (ap (λ (n : ℕ). member_by n (stands gv Question (next label)) (first gv (next (past gv Question (next label)))) (stands gv Dot3 (next (past gv Question (next label)))) t q) (alike_first text W given p ∙ sym (is.label_first y))
      ∙ ap (λ (b : Bool). member_by l.first b (first gv (next (past gv Question (next label)))) (stands gv Dot3 (next (past gv Question (next label)))) t q) (alike_stands text W given Question ask ∙ sym (is.label_asked y))
      ∙ ap₂ (λ (n : ℕ) (b : Bool). member_by l.first l.asked n b t q) (alike_first text W given type ∙ sym (is.type_first y)) (alike_stands text W given Dot3 type ∙ sym (is.type_dots y)))

  -- Behind dots alone, and behind nothing.
  pub after_rest : l.labelled ≡ false → l.rest ≡ true → (t : Placed) (q : State) → element_after gv T s t q ≡ make gv [] (node.rest l.b.first (end gv q) t) q
  after_rest n r t q = rw (← same, n, alike_stands text W given Dot3 a ∙ sym is.rest_is ∙ r, alike_first text W given a ∙ sym is.first_is)

  pub after_type : l.labelled ≡ false → l.rest ≡ false → (t : Placed) (q : State) → element_after gv T s t q ≡ read (node.as_element t) q
  after_type n r t q = rw (← same, n, alike_stands text W given Dot3 a ∙ sym is.rest_is ∙ r)

  -- The names before the type.
  pub names_label : l.labelled ≡ true → label_names gv s ≡ spelling gv label ∷ []
  names_label y = rw (← same, y)

  pub names_none : l.labelled ≡ false → label_names gv s ≡ []
  names_none n = rw (← same, n)

-- ---- What the code finds of a label, by what its tests answer

module _ (W : List ℕ) (m : Mark) where
  -- The three tests.
  abbrev label_by : (name colon question : Bool) → Bool
  label_by name colon question = name and (colon or (question and eqb (whole_kind W (m.at + 2)) Colon))

  module _ (y : class.name (kind_at W m.at m.half) ≡ true) where
    module _ (n : whole_kind W (m.at + 1) ≡ Colon → ⊥) where
      two : (c : Bool) → label_by true false c ≡ label_by (class.name (kind_at W m.at m.half)) (eqb (whole_kind W (m.at + 1)) Colon) c
      two c = ap₂ (λ (a b : Bool). label_by a b c) (sym y) (sym (ne_eqb (whole_kind W (m.at + 1)) Colon n))

-- ---- The whole of what stands before an element's type

-- What an element's start is, for any text.
abbrev pub HeadSays : (W : List ℕ) (m : Mark) (r : Label) (M M' : List ℕ) → Type 0
HeadSays W m r M M' =
    (text O : List ℕ) (given : Given) → Spelt text W
    → (view r.m O ≡ element_start (given_of text W given) (view m O)) × (r.labelled ≡ tuple.labelled (given_of text W given) (past (given_of text W given) Dot3 (view m O)))
    × Spoken (label_names (given_of text W given) (view m O)) m r.m M M'

module _ (W : List ℕ) (m p : Mark) (b : Begin) (kind : ℕ) (p-is : p ≡ past_mark W Dot3 m) (first_is : b.first ≡ first_byte W m.at m.half) (name_is : b.name ≡ m.named)
    (kind_is : kind ≡ kind_at W m.at m.half) where
  rest_is : eqb kind Dot3 ≡ here W Dot3 m
  rest_is = ap (λ (k : ℕ). eqb k Dot3) kind_is

  -- With a label.
  pub head_label : (r : Label) (M M' : List ℕ) → r ≡ label_at W b (eqb kind Dot3) p → Speaks W p M M' → labelled_at W p ≡ true → LabelIs W m r × HeadSays W m r M M'
  head_label r M M' e w y =
      subst (λ (x : Label). LabelIs W m x × HeadSays W m x M M') (sym (e ∙ ap (label_at W b (eqb kind Dot3)) p-is)) (
        label_at_lem W m b (eqb kind Dot3) first_is name_is rest_is,
        (λ text O given sp. (start_label text W given m O here_is, label_is text W given m O here_is, label_names_lem text W given m O M M' sp (subst (λ (x : Mark). Speaks W x M M') p-is w) here_is)),
      )
    where
      here_is : labelled_at W (past_mark W Dot3 m) ≡ true
      here_is = ap (labelled_at W) (sym p-is) ∙ y

  -- With none.
  pub head_plain : (M : List ℕ) → labelled_at W p ≡ false
      → LabelIs W m (record { b = b; rest = eqb kind Dot3; labelled = false; first = 0; asked = false; typed = 0; dots = false; m = p })
      × HeadSays W m (record { b = b; rest = eqb kind Dot3; labelled = false; first = 0; asked = false; typed = 0; dots = false; m = p }) M M
  head_plain M n = (
    label_none W m p b (eqb kind Dot3) first_is name_is rest_is,
    (λ text O given sp.
        (ap (λ (x : Mark). view x O) p-is ∙ start_plain text W given m O here_not, plain_is text W given m O here_not, subst (λ (x : Mark). Spoken (label_names (given_of text W given) (view m O)) m x M M) (sym p-is) (plain_names text W given m O M here_not))),
  )
    where
      here_not : labelled_at W (past_mark W Dot3 m) ≡ false
      here_not = ap (labelled_at W) (sym p-is) ∙ n
