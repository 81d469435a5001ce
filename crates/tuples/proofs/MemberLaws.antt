-- What elements answer, step by step: the type itself, a rest, a member and what is reported of it; and the diagnostic of an element.
use mathlib.Core.Path.{◌≡◌, refl, sym, ap, ap₂, ◌∙◌, subst}
use mathlib.Core.Bool.{Bool, true, false, not}
use mathlib.Core.List.{List, [], ◌∷◌}
use Prim.Native.Nat.{ℕ, ◌+◌, ◌-◌, ◌*◌, ◌%◌, ◌≤◌}
use native.Mathlib.Omega.{arith}
use borrow.Author.Tests.{eq-eqb, ne_eqb}
use lib.Dec.{leb, ltb}
use lib.ListN.{length}
use Rattle.words.specs.Limits.{tallest}
use Rattle.words.specs.Test.{◌and◌, ◌or◌, test}
use Rattle.words.specs.Cursor.{end_byte}
use Rattle.keys.specs.Limits.{too_tall, no_room, tags}
use Rattle.keys.specs.Form.{height}
use Rattle.keys.specs.Placed as node
use Rattle.keys.specs.Placed.{Placed, Opt, absent, present, tree, bare, join, spell, bit, Spelling, as_element}
use Rattle.keys.specs.Store.{◌⊕◌}
use Rattle.keys.specs.Holds.{first_at, end_at}
use Rattle.rules.specs.Notes.{Note, note, note_both, required_after_optional, rest_after_label, asked_after_label, optional_and_rest}
use Rattle.rules.specs.Refusal.{too_long}
use Rattle.rules.specs.State as rule
use Rattle.rules.specs.State.{State, Result, Reader, read, refuse, refused, then, end, overlong, make, report_if}
use Rattle.rules.specs.Tuple as tuple
use Rattle.marks.specs.State.{view, given_of, Spelt}
use Rattle.marks.specs.Laid.{heights, run_in, names_run, IsNode, Was, was, Laid, Stands}
use Rattle.marks.specs.Says.{Says}
use Rattle.marks.specs.Notes.{Reports, silent, noted, full}
use Rattle.marks.specs.Node.{Makes}
use Rattle.marks.proofs.LaidLaws.{laid_noted, laid_on, notes_before}
use Rattle.marks.proofs.BuiltLaws.{built_one, laid_spoken}
use Rattle.marks.proofs.Answers.{then_read_lem, then_refused, says_read, says_same, says_stop, says_stops}
use Rattle.marks.proofs.ReportLaws.{reports_done, reports_refused}
use Rattle.tuples.specs.Tuple.{LabelIs, label_names, element_after, member_choices, member_after, rest_after, Converts, MakesMember, MakesRest, MakesElement, optional_word, last_word, LatestIs, Checks}
use Rattle.tuples.proofs.TupleLaws.{element_is}
use Rattle.tuples.proofs.LabelLaws.{HeadSays}
use Rattle.tuples.proofs.ElementLaws.{element_node, element_high, element_tag, element_place, element_optional, rest_shape, rest_member, member_shape}
use Rattle.marks.specs.declared.state.Given.{Given}
use Rattle.marks.specs.declared.state.Mark.{Mark}
use Rattle.marks.specs.declared.state.Begin.{Begin}
use Rattle.marks.specs.Told.{Answer}
use Rattle.keys.specs.declared.store.Place.{Place}
use Rattle.tuples.specs.declared.tuple.Label.{Label}
use Rattle.tuples.specs.Told.{Latest}

-- ---- A tree stays where a diagnostic is reported

pub stands_reported : {holds : Bool} {given : Given} {n : Note} {m : Mark} {O : List ℕ} {a : Answer} {O' : List ℕ} {c : ℕ} {B : Was} {e : Placed} {high : ℕ} {N M : List ℕ}
    → Reports holds given n m O a O' → Stands c B e high m N M O → Stands c B e high a.m N M O'
stands_reported {m = m} {O = O} {a = a} {O' = O'} {c = c} {B = B} {e = e} {high = high} {N = N} {M = M} (silent h i o) s =
    subst (λ (x : Answer). Stands c B e high x.m N M O') (sym i) (subst (λ (x : List ℕ). Stands c B e high m N M x) (sym o) s)
stands_reported {n = n} {m = m} {O = O} {a = a} {O' = O'} {c = c} {B = B} {e = e} {high = high} {N = N} {M = M} (noted h f i o w) s =
    subst (λ (x : Answer). Stands c B e high x.m N M O') (sym i)
    (record { is_node = s.is_node; high_is = s.high_is; laid = laid_noted (m.noted + 1) O' (omega arith) (notes_before O O' m.noted n o) s.laid })
stands_reported {m = m} {O = O} {a = a} {O' = O'} {c = c} {B = B} {e = e} {high = high} {N = N} {M = M} (full h f i o) s =
    subst (λ (x : Answer). Stands c B e high x.m N M O') (sym i) (subst (λ (x : List ℕ). Stands c B e high m N M x) (sym o) s)

-- What is read where a test may refuse is what is read behind it.
behind : (b : Bool) (n i h : ℕ) (y : Result Placed) {u : Placed} {q : State} → test b (λ _. refuse n i h) (λ _. y) ≡ read u q → y ≡ read u q
behind true n i h y e = cc
behind false n i h y e = e

-- What a maker reads is the tree that it was given.
pub make_same : (g : rule.Given) (l : List ℕ) (t : Placed) (s : State) (u : Placed) (q : State) → make g l t s ≡ read u q → u ≡ t
unfolding make
make_same g l t s u q e =
    let end : Result Placed = read t (record { at = s.at; half = s.half; nodes = s.nodes + 1; notes = s.notes; tally = s.tally }) in
    let room : Result Placed = test (leb g.room s.nodes) (λ _. refused no_room s) (λ _. end) in
    let tall : Result Placed = test (ltb tallest (height (bare t))) (λ _. refused too_tall s) (λ _. room) in
    let one : tall ≡ read u q = behind (overlong l) too_long s.at s.half tall e in
    let two : room ≡ read u q = behind (ltb tallest (height (bare t))) too_tall s.at s.half room one in
    let three : end ≡ read u q = behind (leb g.room s.nodes) no_room s.at s.half end two in
    cc

-- ---- A type, and a rest about it

-- The type itself, as an element.
pub says_type : {B : Was} {t : Placed} {a : Answer} {N M O : List ℕ} → IsNode 0 t → a.high ≡ heights (run_in 0 t) → Laid B (run_in 1 (as_element t)) a.m.used a.m.named a.m.noted N M O
    → a.why ≡ 0 → Says 1 B (read (as_element t) (view a.m O)) a N M O
says_type {t = t} i h d z =
    record {
      done = λ _. record { tree = as_element t; is = refl; stands = record { is_node = element_node i; high_is = h ∙ sym (element_high i); laid = d } };
      refused = λ n. absurd (n z);
    }

-- A rest about a type.
pub says_rest : (W : List ℕ) (given : Given) (b : Begin) (high : ℕ) (m : Mark) (N : List ℕ) (r : Answer) (N' text : List ℕ) (B : Was) (t : Placed) (M O : List ℕ)
    → Makes W given b 21 (record { first = m.used - 1; count = 1; high = high }) m N r N'
    → IsNode 0 t → high ≡ heights (run_in 0 t) → Laid B (run_in 0 t) m.used m.named m.noted N M O → b.name ≡ B.named
    → Says 1 B (make (given_of text W given) [] (node.rest b.first (end (given_of text W given) (view m O)) t) (view m O)) r N' M O
says_rest W given b high m N r N' text B t M O w i h d n = w text 1 B (run_in 0 t) 21 t M O (built_one [] i h d) n (rest_shape i)

-- ---- A member, itself or under a rest

module _ (W : List ℕ) (given : Given) (l : Label) (high : ℕ) (m : Mark) (N O : List ℕ) where
  -- No dots stood before it.
  pub rest_none : l.rest ≡ false → MakesRest W given l high m N O (record { why = 0; high = high; m = m }) N O
  rest_none e text B f x p M n s =
      says_same (ap (λ (b : Bool). test b (λ _. report_if l.asked (given_of text W given) (note optional_and_rest l.b.first (end (given_of text W given) (view m O))) (view m O)
      λ q. make (given_of text W given) [] (node.rest l.b.first (end (given_of text W given) q) (tree 22 f x p)) q) λ _. read (tree 22 f x p) (view m O)) e)
      (says_read (record { tree = tree 22 f x p; is = refl; stands = s }))

  module _ (a : Answer) (O' N' : List ℕ) (e : l.rest ≡ true) (z : ℕ) (z-is : z ≡ end_byte W m.at m.half) (w : Reports l.asked given (note optional_and_rest l.b.first z) m O a O') where
    -- What the rules read there.
    abbrev after : (text : List ℕ) → Placed → State → Result Placed
    after text t q = make (given_of text W given) [] (node.rest l.b.first (end (given_of text W given) q) t) q

    opened : (text : List ℕ) (t : Placed) → rest_after (given_of text W given) l t (view m O) ≡ report_if l.asked (given_of text W given) (note optional_and_rest l.b.first z) (view m O) (after text t)
    opened text t =
        ap (λ (b : Bool). test b (λ _. report_if l.asked (given_of text W given) (note optional_and_rest l.b.first (end_byte W m.at m.half)) (view m O) (after text t)) λ _. read t (view m O)) e
        ∙ ap (λ (k : ℕ). report_if l.asked (given_of text W given) (note optional_and_rest l.b.first k) (view m O) (after text t)) (sym z-is)

    -- There was no record for the diagnostic.
    pub rest_full : (a.why ≡ 0 → ⊥) → MakesRest W given l high m N O a N' O'
    rest_full c text B f x p M n s = says_stop c (opened text (tree 22 f x p) ∙ reports_refused text W (after text (tree 22 f x p)) w c)

    -- The rest about it.
    pub rest_about : (r : Answer) → a.why ≡ 0 → Makes W given l.b 21 (record { first = a.m.used - 1; count = 1; high = high }) a.m N r N'
        → MakesRest W given l high m N O r N' O'
    rest_about r c make-it text B f x p M n s =
        let st = stands_reported w s in
        says_same (opened text (tree 22 f x p) ∙ reports_done text W (after text (tree 22 f x p)) w c)
        (make-it text 1 B (run_in 1 (tree 22 f x p)) 21 (tree 22 f x p) M O' (built_one [] st.is_node st.high_is st.laid) (sym n) (rest_member f x p))

-- ---- A member

-- All that was done about a member: a `?` became optional, its node was put, and diagnostics were reported or not.
module _ (W : List ℕ) (given : Given) (l : Label) (a : Answer) (N O : List ℕ) (asked : Bool) (N₁ : List ℕ) (c : Answer) (N₂ : List ℕ)
    (converts : Converts a.m.used N asked N₁)
    (makes : Makes W given (record { first = l.first; name = l.b.name }) (member_choices l.asked) (record { first = a.m.used - 1; count = 1; high = a.high }) a.m N₁ c N₂) where
  -- The member's node.
  abbrev member_of : (text : List ℕ) → Spelling → Placed → Placed
  member_of text x t = node.named l.first (end (given_of text W given) (view a.m O)) x l.asked (as_element t)

  module _ (text : List ℕ) (B : Was) (x : Spelling) (t : Placed) (M : List ℕ) (n : B.named ≡ l.b.name) (i : IsNode 0 t) (h : a.high ≡ heights (run_in 0 t))
      (d : Laid B (names_run (x ∷ []) ⊕ run_in 0 t) a.m.used a.m.named a.m.noted N M O) where
    made : Says 1 B (make (given_of text W given) [] (member_of text x t) (view a.m O)) c N₂ M O
    made =
        makes text 1 B (names_run (x ∷ []) ⊕ run_in 1 (as_element t)) 22 (join (spell x) (join (bit l.asked) (as_element t))) M O
        (built_one (x ∷ []) (element_node i) (h ∙ sym (element_high i)) (converts B (x ∷ []) t a.m.named a.m.noted M O i d).1) (sym n) (member_shape x l.asked i)

    asked_is : asked ≡ node.is_asked t
    asked_is = (converts B (x ∷ []) t a.m.named a.m.noted M O i d).0

    -- It was put, and stands.
    put_is : c.why ≡ 0 → make (given_of text W given) [] (member_of text x t) (view a.m O) ≡ read (member_of text x t) (view c.m O)
    put_is z = (made.done z).is ∙ ap (λ (u : Placed). read u (view c.m O)) (make_same (given_of text W given) [] (member_of text x t) (view a.m O) (made.done z).tree (view c.m O) (made.done z).is)

    put_stands : c.why ≡ 0 → Stands 1 B (member_of text x t) c.high c.m N₂ M O
    put_stands z =
        subst (λ (u : Placed). Stands 1 B u c.high c.m N₂ M O)
        (make_same (given_of text W given) [] (member_of text x t) (view a.m O) (made.done z).tree (view c.m O) (made.done z).is) (made.done z).stands

  -- There was no room for its node.
  pub member_refused : (c.why ≡ 0 → ⊥) → (O' : List ℕ) → MakesMember W given l a N O c N₂ O'
  member_refused z O' text B x t M n i h d =
      says_stop z (then_refused (rest_after (given_of text W given) l) (then_refused _ ((made text B x t M n i h d).refused z)))

  -- Diagnostic 5, or not, over a member that was put; z is where it ends.
  module _ (z : ℕ) (d : Answer) (O₁ : List ℕ) (ok : c.why ≡ 0) (end_is : end_byte W c.m.at c.m.half ≡ z)
      (dots : Reports l.dots given (note rest_after_label l.typed z) c.m O d O₁) where
    -- What the rules read behind it.
    abbrev behind_dots : (text : List ℕ) → Spelling → Placed → State → Result Placed
    behind_dots text x t q = report_if (node.is_asked t) (given_of text W given) (note asked_after_label l.typed (end (given_of text W given) q)) q (read (member_of text x t))

    module _ (text : List ℕ) (B : Was) (x : Spelling) (t : Placed) (M : List ℕ) (n : B.named ≡ l.b.name) (i : IsNode 0 t) (h : a.high ≡ heights (run_in 0 t))
        (k : Laid B (names_run (x ∷ []) ⊕ run_in 0 t) a.m.used a.m.named a.m.noted N M O) where
      to_dots : member_after (given_of text W given) l x t (view a.m O)
          ≡ report_if l.dots (given_of text W given) (note rest_after_label l.typed z) (view c.m O) (behind_dots text x t)
      to_dots =
          then_read_lem _ (put_is text B x t M n i h k ok)
          ∙ ap (λ (y : ℕ). report_if l.dots (given_of text W given) (note rest_after_label l.typed y) (view c.m O) (behind_dots text x t)) end_is

    -- There was no record for it.
    pub member_dots : (d.why ≡ 0 → ⊥) → MakesMember W given l a N O d N₂ O₁
    member_dots y text B x t M n i h k =
        says_stop y (then_refused (rest_after (given_of text W given) l) (to_dots text B x t M n i h k ∙ reports_refused text W (behind_dots text x t) dots y))

    -- Diagnostic 6, or not.
    module _ (e : Answer) (O₂ : List ℕ) (on : d.why ≡ 0) (end_on : end_byte W d.m.at d.m.half ≡ z)
        (ask : Reports asked given (note asked_after_label l.typed z) d.m O₁ e O₂) where
      module _ (text : List ℕ) (B : Was) (x : Spelling) (t : Placed) (M : List ℕ) (n : B.named ≡ l.b.name) (i : IsNode 0 t) (h : a.high ≡ heights (run_in 0 t))
          (k : Laid B (names_run (x ∷ []) ⊕ run_in 0 t) a.m.used a.m.named a.m.noted N M O) where
        to_asked : member_after (given_of text W given) l x t (view a.m O)
            ≡ report_if asked (given_of text W given) (note asked_after_label l.typed z) (view d.m O₁) (read (member_of text x t))
        to_asked =
            to_dots text B x t M n i h k ∙ reports_done text W (behind_dots text x t) dots on
            ∙ ap₂ (λ (b : Bool) (y : ℕ). report_if b (given_of text W given) (note asked_after_label l.typed y) (view d.m O₁) (read (member_of text x t))) (sym (asked_is text B x t M n i h k)) end_on

      pub member_asked : (e.why ≡ 0 → ⊥) → MakesMember W given l a N O e N₂ O₂
      member_asked y text B x t M n i h k =
          says_stop y (then_refused (rest_after (given_of text W given) l) (to_asked text B x t M n i h k ∙ reports_refused text W (read (member_of text x t)) ask y))

      -- The member, or the rest about it.
      pub member_rest : (r : Answer) (N₃ O₃ : List ℕ) → e.why ≡ 0 → MakesRest W given l c.high e.m N₂ O₂ r N₃ O₃ → MakesMember W given l a N O r N₃ O₃
      member_rest r N₃ O₃ y rest text B x t M n i h k =
          says_same (then_read_lem (rest_after (given_of text W given) l) (to_asked text B x t M n i h k ∙ reports_done text W (read (member_of text x t)) ask y))
          (rest text B l.first (end (given_of text W given) (view a.m O)) (join (spell x) (join (bit l.asked) (as_element t))) M n
          (stands_reported ask (stands_reported dots (put_stands text B x t M n i h k ok))))

-- ---- Diagnostic 4

-- Nothing is to be reported of an optional element or a rest.
quiet : (o r : Bool) → (o or r) ≡ true → (not o and not r) ≡ false
quiet true r e = refl
quiet false true e = refl
quiet false false e = sym e

module _ (given : Given) (latest : Latest) (m : Mark) (N O : List ℕ) (h : m.used * 4 ≤ length N) (some : 1 ≤ m.used) where
  -- What the rules make of an element behind the latest optional one.
  abbrev reports : (text W : List ℕ) → Opt Placed → Placed → Result Placed
  reports text W o e = tuple.report_required (given_of text W given) o e (view m O)

  -- It is read, where it is optional or a rest.
  reports_none : (text W : List ℕ) (o : Opt Placed) (e : Placed) → (tuple.is_optional_element e or node.is_rest e) ≡ true → reports text W o e ≡ read e (view m O)
  reports_none text W absent e y = refl
  reports_none text W (present o) e y =
      ap (λ (b : Bool). report_if b (given_of text W given) (note_both required_after_optional (node.first_of e) (node.end_of e) (node.first_of o) (node.end_of o)) (view m O) (read e)) (quiet (tuple.is_optional_element e) (node.is_rest e) y)

  -- The latest one stays the latest behind an element that is not optional.
  latest_stays : (o : Opt Placed) (e : Placed) → tuple.is_optional_element e ≡ false → LatestIs latest o → LatestIs latest (tuple.latest_from o (e ∷ []))
  latest_stays o e n i = subst (λ (b : Bool). LatestIs latest (test b (λ _. present e) (λ _. o))) (sym n) i

  -- The element is optional: it is the latest one.
  pub checks_optional : (place : Place) → optional_word (last_word N m.used) ≡ true → place.first ≡ first_at N (m.used - 1) → place.end ≡ end_at N (m.used - 1)
      → Checks given latest m N O (record { why = 0; latest = record { there = true; place = place }; m = m }) O
  checks_optional place y f l =
      record {
        done = λ _ text W B o e high M i s.
            let opt : tuple.is_optional_element e ≡ true = sym (element_optional h some s) ∙ y in
            let p = element_place h some s in (
              reports_none text W o e (ap (λ (b : Bool). b or node.is_rest e) opt),
              subst (λ (b : Bool). LatestIs (record { there = true; place = place }) (test b (λ _. present e) (λ _. o))) (sym opt) (refl, f ∙ p.0, l ∙ p.1),
              s,
            );
        refused = λ n. absurd (n refl);
      }

  -- There is none before it.
  pub checks_first : optional_word (last_word N m.used) ≡ false → latest.there ≡ false → Checks given latest m N O (record { why = 0; latest = latest; m = m }) O
  checks_first n z =
      record {
        done = λ _ text W B o e high M i s. (reported text W o e i, latest_stays o e (sym (element_optional h some s) ∙ n) i, s);
        refused = λ n. absurd (n refl);
      }
    where
      reported : (text W : List ℕ) (o : Opt Placed) (e : Placed) → LatestIs latest o → reports text W o e ≡ read e (view m O)
      reported text W absent e i = refl
      reported text W (present o) e i = absurd (let q : ◌≡◌ {A = ℕ} 0 1 = cc in omega arith)

  -- It is a rest.
  pub checks_rest : optional_word (last_word N m.used) ≡ false → last_word N m.used % tags ≡ 21 → Checks given latest m N O (record { why = 0; latest = latest; m = m }) O
  checks_rest n y =
      record {
        done = λ _ text W B o e high M i s.
            let opt : tuple.is_optional_element e ≡ false = sym (element_optional h some s) ∙ n in
            let r : node.is_rest e ≡ true = eq-eqb (node.tag_of e) 21 (sym (element_tag h some s) ∙ y) in (
              reports_none text W o e (ap₂ (λ (b c : Bool). b or c) opt r),
              latest_stays o e opt i,
              s,
            );
        refused = λ n. absurd (n refl);
      }

  -- It is neither: the diagnostic stands at the bytes of its record and at those of the latest one.
  pub checks_other : (place : Place) (a : Answer) (O' : List ℕ) → optional_word (last_word N m.used) ≡ false → latest.there ≡ true → (last_word N m.used % tags ≡ 21 → ⊥)
      → place.first ≡ first_at N (m.used - 1) → place.end ≡ end_at N (m.used - 1)
      → Reports true given (note_both required_after_optional place.first place.end latest.place.first latest.place.end) m O a O'
      → (a.why ≡ 0 → Checks given latest m N O (record { why = 0; latest = latest; m = a.m }) O')
      × ((a.why ≡ 0 → ⊥) → (now : Latest) → Checks given latest m N O (record { why = a.why; latest = now; m = a.m }) O')
  checks_other place a O' n y k f l w = (
    λ z.
        record {
          done = λ _ text W B o e high M i s.
              (opened text W o i s ∙ reports_done text W (read e) w z, latest_stays o e (sym (element_optional h some s) ∙ n) i, stands_reported w s);
          refused = λ n. absurd (n refl);
        },
    λ z now.
        record {
          done = λ e. absurd (z e);
          refused = λ _ text W B o e high M i s. opened text W o i s ∙ reports_refused text W (read e) w z;
        },
  )
    where
      -- The report, by what is known of the code's bytes.
      reported : (text W : List ℕ) (e : Placed) → Bool → (first last first' last' : ℕ) → Result Placed
      reported text W e b first last first' last' = report_if b (given_of text W given) (note_both required_after_optional first last first' last') (view m O) (read e)

      opened : (text W : List ℕ) (o : Opt Placed) {B : Was} {e : Placed} {high : ℕ} {M : List ℕ} → LatestIs latest o → Stands 1 B e high m N M O
          → reports text W o e ≡ reported text W e true place.first place.end latest.place.first latest.place.end
      opened text W absent i s = absurd (let q : ◌≡◌ {A = ℕ} 0 1 = cc in omega arith)
      opened text W (present o) {B} {e} i s =
          let opt : tuple.is_optional_element e ≡ false = sym (element_optional h some s) ∙ n in
          let r : node.is_rest e ≡ false = ne_eqb (node.tag_of e) 21 (λ z. k (element_tag h some s ∙ z)) in
          let p = element_place h some s in
          ap₂ (λ (b c : Bool). reported text W e (not b and not c) (node.first_of e) (node.end_of e) (node.first_of o) (node.end_of o)) opt r
          ∙ ap₂ (λ (x y : ℕ). reported text W e true x y (node.first_of o) (node.end_of o)) (sym (f ∙ p.0)) (sym (l ∙ p.1))
          ∙ ap₂ (λ (x y : ℕ). reported text W e true place.first place.end x y) (sym i.1) (sym i.2)

-- ---- An element from its start on

module _ (text W : List ℕ) (given : Given) (T : Reader) (m : Mark) (l : Label) (a : Answer) (N M O M₁ N₁ M₂ O₁ : List ℕ) (spelt : Spelt text W) (is : LabelIs W m l) (head : HeadSays W m l M M₁)
    (w : Says 0 (was l.m N M₁ O) (T true (view l.m O)) a N₁ M₂ O₁) where
  -- The rule goes on where the type was read.
  element_on : tuple.element (given_of text W given) T (view m O) ≡ then (T true (view l.m O)) (element_after (given_of text W given) T (view m O))
  element_on = element_is (given_of text W given) T (view m O) ∙ ap (λ (s : State). then (T true s) (element_after (given_of text W given) T (view m O))) (sym (head text O given spelt).0)

  -- Its type was refused.
  pub element_refused : (N' M' O' : List ℕ) → (a.why ≡ 0 → ⊥) → Says 1 (was m N M O) (tuple.element (given_of text W given) T (view m O)) a N' M' O'
  element_refused N' M' O' n = says_stops (element_after (given_of text W given) T (view m O)) w n element_on

  -- Its type was read, and the element was made.
  pub element_says : (r : Answer) (N' O' : List ℕ) → a.why ≡ 0 → MakesElement W given l a N₁ O₁ r N' O'
      → Says 1 (was m N M O) (tuple.element (given_of text W given) T (view m O)) r N' M₂ O'
  element_says r N' O' z makes =
      let got = w.done z in
      let start = head text O given spelt in
      says_same (element_on ∙ then_read_lem (element_after (given_of text W given) T (view m O)) got.is)
      (makes text T (was m N M O) m (view m O) got.tree M₂ is refl refl start.1 refl got.stands.is_node got.stands.high_is
      (laid_on (label_names (given_of text W given) (view m O)) (laid_spoken N O start.2) got.stands.laid))
