-- The loop of an index signature's parameters: where it begins, one parameter more, and each way out of it; and what stands behind them.
use mathlib.Core.Path.{◌≡◌, refl, sym, ap, ◌∙◌, subst}
use mathlib.Core.Bool.{Bool, true, false, not}
use mathlib.Core.List.{List, [], ◌∷◌, ◌++◌}
use Prim.Native.Nat.{ℕ, suc, ◌-◌, ◌*◌, ◌≤◌, ◌<◌}
use native.Mathlib.Omega.{arith}
use borrow.Author.Tests.{eq-eqb, ne_eqb}
use lib.Dec.{eqb, leb}
use lib.ListN.{length}
use Rattle.words.specs.Limits.{tallest, most_notes}
use Rattle.words.specs.Kind.{RBrack, Question, Colon, Comma}
use Rattle.words.specs.Test.{◌or◌, test}
use Rattle.words.specs.Cursor.{end_byte}
use Rattle.keys.specs.Placed as node
use Rattle.keys.specs.Placed.{Placed, Spelling, Opt, absent, present, join, bit, maybe_named}
use Rattle.keys.specs.Store.{Run, done, ◌⊕◌}
use Rattle.rules.specs.Refusal.{unexpected, many_notes}
use Rattle.rules.specs.Notes.{Note, note, asked_index, comma_after_index}
use Rattle.rules.specs.State as rule
use Rattle.rules.specs.State.{State, Result, Reader, read, refuse, refused, then, next, stands, first, end, turns, past, expect, make, report_if}
use Rattle.rules.specs.Names.{binding_word}
use Rattle.rules.specs.Function.{freed}
use Rattle.rules.specs.Object as object
use Rattle.rules.specs.Object.{IndexParameter, IndexParameters, no_index, one_index, several_index, with_one, has_one, member_end}
use Rattle.marks.specs.State.{view, given_of, Under}
use Rattle.marks.specs.Laid.{run_in, name_run, names_run, IsNode, node as isNode, Was, was, Laid, Built, BuiltAt, Shape}
use Rattle.marks.specs.Says.{Got, GotBound}
use Rattle.marks.specs.Names.{one_name}
use Rattle.functions.specs.Function.{freed_mark, freed_used}
use Rattle.members.specs.Object.{index_start, index_next, SaysStep, with_type, IndexIs, none, one, several, kept_run, index_end, index_head, index_choices}
use Rattle.marks.proofs.Answers.{then_read_lem, then_refused}
use Rattle.marks.proofs.LaidLaws.{laid_on, laid_back}
use Rattle.marks.proofs.BuiltLaws.{built_names, built_one}
use Rattle.marks.proofs.BoundLaws.{laid_bound}
use Rattle.marks.proofs.LeafLaws.{under_one}
use Rattle.marks.specs.declared.state.Given.{Given}
use Rattle.marks.specs.declared.state.Mark.{Mark}
use Rattle.marks.specs.Told.{Answer}
use Rattle.members.specs.declared.object.IndexParams.{IndexParams}
use Rattle.readers.proofs.Loops.{IndexTurn}
use Rattle.readers.proofs.MemberLaws.{built_stepped}

-- ---- The rules

-- A diagnostic before two readings, of which the one goes on behind the other.
report_then : {A C : Type 0} (b : Bool) (g : rule.Given) (n : Note) (q : State) (K : State → Result A) (L : State → Result C) (on : A → State → Result C)
    → ((p : State) → L p ≡ then (K p) on) → report_if b g n q L ≡ then (report_if b g n q K) on
report_then {A} {C} b g n q K L on f = by b (leb most_notes (length q.notes) or leb g.records (length q.notes))
  where
    more : State
    more = record { at = q.at; half = q.half; nodes = q.nodes; notes = q.notes ++ (n ∷ []); tally = q.tally }

    by : (b full : Bool) → test b (λ _. test full (λ _. refused many_notes q) (λ _. L more)) (λ _. L q)
        ≡ then (test b (λ _. test full (λ _. refused many_notes q) (λ _. K more)) (λ _. K q)) on
    by true true = refl
    by true false = f more
    by false full = f q

module _ (g : rule.Given) (T : Reader) where
  -- What is due behind the `:` of a parameter that began at s.
  abbrev pub typed : State → Spelling → State → Result IndexParameter
  typed s x q = then (T true q) λ t q. read (record { first = first g s; end = end g q; name = x; type = t }) q

  -- A parameter is its beginning and its type.
  parameter_is : (s : State) → object.index_parameter g T s ≡ then (index_start g s) (typed s)
  unfolding object.index_parameter object.index_type binding_word
  parameter_is s = by_name (one_name 0 g s)
    where
      by_colon : (x : Spelling) (q : State) (a : Bool)
          → test a (λ _. typed s x (next q)) (λ _. refused unexpected q) ≡ then (test a (λ _. read x (next q)) (λ _. refused unexpected q)) (typed s)
      by_colon x q true = refl
      by_colon x q false = refl

      by_name : (y : Result Spelling)
          → then y (λ x q. report_if (stands g Question q) g (note asked_index (first g q) (end g (next q))) q λ q. expect g Colon (past g Question q) λ q. typed s x q)
          ≡ then (then y λ x q. report_if (stands g Question q) g (note asked_index (first g q) (end g (next q))) q λ q. expect g Colon (past g Question q) (read x)) (typed s)
      by_name (read x q) =
          report_then (stands g Question q) g (note asked_index (first g q) (end g (next q))) q (λ q. expect g Colon (past g Question q) (read x))
          (λ q. expect g Colon (past g Question q) λ q. typed s x q) (typed s) (λ p. by_colon x (past g Question p) (stands g Colon (past g Question p)))
      by_name (refuse n i h) = refl

  -- At the closing bracket they are whole.
  index_closed : (n : ℕ) (ps : IndexParameters) (s : State) → stands g RBrack s ≡ true → object.index_from g T (suc n) ps s ≡ read ps s
  unfolding object.index_from
  index_closed n ps s c = rw c

  -- A parameter is refused.
  index_none : (n : ℕ) (ps : IndexParameters) (s : State) {k i h : ℕ} → stands g RBrack s ≡ false → object.index_parameter g T s ≡ refuse k i h
      → object.index_from g T (suc n) ps s ≡ refuse k i h
  unfolding object.index_from
  index_none n ps s c e = rw (c, e)

  -- What is due at q behind a parameter with which they are ps.
  abbrev behind_one : ℕ → IndexParameters → State → Result IndexParameters
  behind_one n ps q =
      test (stands g RBrack q) (λ _. read ps q) λ _.
      expect g Comma q λ r.
      report_if (stands g RBrack r) g (note comma_after_index (first g q) (end g r)) r λ r.
      object.index_from g T n ps r

  -- A parameter is read.
  index_one : (n : ℕ) (ps : IndexParameters) (s : State) {p : IndexParameter} {q : State} → stands g RBrack s ≡ false → object.index_parameter g T s ≡ read p q
      → object.index_from g T (suc n) ps s ≡ behind_one n (with_one ps p) (freed (has_one ps) s q)
  unfolding object.index_from
  index_one n ps s c e = rw (c, e)

  -- The list goes on behind it, or stands at its end.
  index_next_lem : (n : ℕ) (ps : IndexParameters) (q : State) → behind_one (suc n) ps q ≡ index_next g q (object.index_from g T (suc n) ps)
  index_next_lem n ps q = by (stands g RBrack q) refl
    where
      rest : Result IndexParameters
      rest = expect g Comma q λ r. report_if (stands g RBrack r) g (note comma_after_index (first g q) (end g r)) r λ r. object.index_from g T (suc n) ps r

      by : (b : Bool) → stands g RBrack q ≡ b → test b (λ _. read ps q) (λ _. rest) ≡ test b (λ _. object.index_from g T (suc n) ps q) (λ _. rest)
      by true e = sym (index_closed n ps q e)
      by false e = refl

  -- What is due behind the type of an index signature from byte b on.
  abbrev pub end_index : ℕ → Bool → IndexParameters → Placed → State → Result Placed
  end_index b readonly ps t q = member_end g q λ q. make g [] (node.index_signature b (end g q) readonly (object.kept ps) t) q

  -- Behind its `:`.
  abbrev pub behind_index : ℕ → Bool → IndexParameters → State → Result Placed
  behind_index b readonly ps q = then (T true q) (end_index b readonly ps)

  -- The rule, from its parameters on.
  pub index_is : (b : ℕ) (readonly : Bool) (s : State)
      → object.index g T b readonly s ≡ then (object.index_from g T (turns g) no_index (next s)) (λ ps q. index_end g b ps q (behind_index b readonly ps))
  unfolding object.index
  index_is b readonly s = refl

-- ---- Numbers

-- Whether a parameter is there, by the code's count.
pub some_index : {from : ℕ} {r : IndexParams} {ps : IndexParameters} → IndexIs from r ps → not (eqb r.count 0) ≡ has_one ps
some_index {r = r} (none e) = ap not (eq-eqb r.count 0 e)
some_index {r = r} (one e f g n) = ap not (ne_eqb r.count 0 (λ z. omega (arith, e, z)))
some_index {r = r} (several e n) = ap not (ne_eqb r.count 0 (λ z. omega (arith, e, z)))

-- The children kept with one parameter more stay below the nodes in use.
pub under_type : (W : List ℕ) (r : IndexParams) (a : Answer) (used : ℕ) → Under used r.kids → 1 ≤ a.m.used → a.high ≤ tallest
    → Under (freed_used (not (eqb r.count 0)) used a.m.used) (with_type W r a).kids
under_type W r a used u l h = by (eqb r.count 0)
  where
    by : (b : Bool)
        → Under (freed_used (not b) used a.m.used)
        (test {A = IndexParams} b (λ _. record { count = 1; kids = record { first = a.m.used - 1; count = 1; high = a.high }; end = end_byte W a.m.at a.m.half })
        (λ _. record { count = 2; kids = r.kids; end = r.end })).kids
    by true = under_one a.m.used a.high l h
    by false = u

-- ---- The loop

-- Behind its bracket there is no parameter yet.
pub index_begins : (g : rule.Given) (T : Reader) {B : Was} {from : ℕ} {r : IndexParams} {p : Mark} {N M O : List ℕ}
    → r ≡ record { count = 0; kids = record { first = 0; count = 0; high = 0 }; end = 0 } → from ≡ first g (view p O)
    → Laid B done p.used p.named p.noted N M O → IndexTurn g T (view p O) B from r p N M O
index_begins g T {B} {from} {r} {p} {N} {M} {O} e f d =
    subst (λ (x : IndexParams). IndexTurn g T (view p O) B from x p N M O) (sym e)
    (record {
      params = no_index;
      fuel = length g.words;
      enough = omega arith;
      is = refl;
      params_are = none refl;
      from_is = λ _. f;
      built = built_names [] d;
    })

module _ (text W : List ℕ) (given : Given) (T : Reader) (s : State) {B : Was} {from : ℕ} {r : IndexParams} {p : Mark} {N M O : List ℕ}
    (w : IndexTurn (given_of text W given) T s B from r p N M O) where
  -- What the reading is given.
  abbrev g : rule.Given
  g = given_of text W given

  -- The parameters so far.
  abbrev params : IndexParameters
  params = w.params

  -- All from s on.
  abbrev pub all_from : Result IndexParameters
  all_from = object.index_from g T (turns g) no_index s

  -- At the closing bracket they are read.
  pub index_ended : stands g RBrack (view p O) ≡ true → all_from ≡ read params (view p O)
  index_ended h = w.is ∙ index_closed g T w.fuel params (view p O) h

  module _ (z : stands g RBrack (view p O) ≡ false) where
    -- The beginning of a parameter is refused.
    pub index_unnamed : {n i h : ℕ} → index_start g (view p O) ≡ refuse n i h → all_from ≡ refuse n i h
    index_unnamed e = w.is ∙ index_none g T w.fuel params (view p O) z (parameter_is g T (view p O) ∙ then_refused (typed g T (view p O)) e)

    module _ {m : Mark} {M₁ O₁ : List ℕ} (head : GotBound (index_start g (view p O)) p m M O M₁ O₁) where
      -- Its type is refused.
      pub index_untyped : {n i h : ℕ} → T true (view m O₁) ≡ refuse n i h → all_from ≡ refuse n i h
      index_untyped e =
          w.is
          ∙ index_none g T w.fuel params (view p O) z
          (parameter_is g T (view p O) ∙ then_read_lem (typed g T (view p O)) head.is
          ∙ then_refused (λ t q. read (record { first = first g (view p O); end = end g q; name = head.name; type = t }) q) e)

      module _ (a : Answer) {N₂ M₂ O₂ : List ℕ} (got : Got 0 (was m N M₁ O₁) (T true (view m O₁)) a.high a.m N₂ M₂ O₂) (i : p.at < length W) where
        -- The parameter.
        abbrev this : IndexParameter
        this = record { first = first g (view p O); end = end g (view a.m O₂); name = head.name; type = got.tree }

        -- It is read.
        this_read : object.index_parameter g T (view p O) ≡ read this (view a.m O₂)
        this_read =
            parameter_is g T (view p O) ∙ then_read_lem (typed g T (view p O)) head.is
            ∙ then_read_lem (λ t q. read (record { first = first g (view p O); end = end g q; name = head.name; type = t }) q) got.is

        -- What a later one took is free again, as the rules say it.
        freed_view : (b : Bool) → freed b (view p O) (view a.m O₂) ≡ view (freed_mark b p a.m) O₂
        freed_view true = refl
        freed_view false = refl

        -- What is due behind it, at the mark q.
        behind_this_lem : {q : Mark} → q ≡ freed_mark (not (eqb r.count 0)) p a.m
            → all_from ≡ index_next g (view q O₂) (object.index_from g T (suc (w.fuel - 1)) (with_one params this))
        behind_this_lem {q} e =
            let one_less : w.fuel ≡ suc (w.fuel - 1) = omega (arith, w.enough) in
            let mark_is : freed (has_one params) (view p O) (view a.m O₂) ≡ view q O₂ =
            freed_view (has_one params) ∙ ap (λ (b : Bool). view (freed_mark b p a.m) O₂) (sym (some_index w.params_are)) ∙ ap (λ (x : Mark). view x O₂) (sym e) in
            w.is ∙ index_one g T w.fuel params (view p O) z this_read
            ∙ ap (λ (n : ℕ). behind_one g T n (with_one params this) (freed (has_one params) (view p O) (view a.m O₂))) one_less
            ∙ ap (behind_one g T (suc (w.fuel - 1)) (with_one params this)) mark_is
            ∙ index_next_lem g T (w.fuel - 1) (with_one params this) (view q O₂)

        -- What stands behind it lets no list go on.
        pub index_stops : {q : Mark} {c : Answer} {O₃ : List ℕ} → q ≡ freed_mark (not (eqb r.count 0)) p a.m
            → SaysStep (index_next g (view q O₂)) q O₂ c O₃ → (c.why ≡ 0 → ⊥) → all_from ≡ refuse c.why c.m.at c.m.half
        index_stops e step n = behind_this_lem e ∙ step.refused n (object.index_from g T (suc (w.fuel - 1)) (with_one params this))

        -- Since the parameter began, its name and its type were laid.
        laid_since : Laid (was p N M O) (names_run (head.name ∷ []) ⊕ run_in 0 got.tree) a.m.used a.m.named a.m.noted N₂ M₂ O₂
        laid_since = laid_on (head.name ∷ []) (laid_bound N head) got.stands.laid

        -- The parameters with this one: the first is kept, what a later one took is free again.
        with_this : 4 * p.used ≤ length N
            → IndexIs from (with_type W r a) (with_one params this)
            × BuiltAt B (kept_run (object.kept (with_one params this))) (with_type W r a).kids (freed_mark (not (eqb r.count 0)) p a.m) N₂ M₂ O₂
        with_this fits = by params w.params_are w.built
          where
            later : {t : Run} → BuiltAt B t r.kids p N M O → Built B t r.kids p.used p.named a.m.noted N₂ M₂ O₂
            later b = record { laid = laid_back a.m.noted laid_since.noted_is fits b.laid laid_since; first_is = b.first_is; high_is = b.high_is }

            by : (ps : IndexParameters) → IndexIs from r ps → BuiltAt B (kept_run (object.kept ps)) r.kids p N M O
                → IndexIs from (with_type W r a) (with_one ps this)
                × BuiltAt B (kept_run (object.kept (with_one ps this))) (with_type W r a).kids (freed_mark (not (eqb r.count 0)) p a.m) N₂ M₂ O₂
            by no_index (none e) b =
                rw (eq-eqb r.count 0 e) (
                  one refl (w.from_is e) refl got.stands.is_node,
                  built_one (head.name ∷ []) got.stands.is_node got.stands.high_is (laid_on [] b.laid laid_since),
                )
            by (one_index x) (one e f h n) b = rw (ne_eqb r.count 0 (λ y. omega (arith, e, y))) (several refl n, later b)
            by (several_index x) (several e n) b = rw (ne_eqb r.count 0 (λ y. omega (arith, e, y))) (several refl n, later b)

        -- One parameter more.
        pub index_again : {q : Mark} {r' : IndexParams} {c : Answer} {O₃ : List ℕ} → q ≡ freed_mark (not (eqb r.count 0)) p a.m → r' ≡ with_type W r a
            → SaysStep (index_next g (view q O₂)) q O₂ c O₃ → c.why ≡ 0 → p.at < c.m.at → 4 * p.used ≤ length N
            → IndexTurn g T s B from r' c.m N₂ M₂ O₃
        index_again {q} {r'} {c} {O₃} e f step h j fits =
            let more = with_this fits in
            let built : BuiltAt B (kept_run (object.kept (with_one params this))) (with_type W r a).kids q N₂ M₂ O₂ =
            subst (λ (x : Mark). BuiltAt B (kept_run (object.kept (with_one params this))) (with_type W r a).kids x N₂ M₂ O₂) (sym e) more.1 in
            subst (λ (x : IndexParams). IndexTurn g T s B from x c.m N₂ M₂ O₃) (sym f)
            (record {
              params = with_one params this;
              fuel = w.fuel - 1;
              enough = omega (arith, w.enough);
              is = behind_this_lem e ∙ step.done h (object.index_from g T (suc (w.fuel - 1)) (with_one params this));
              params_are = more.0;
              from_is = λ y. absurd (some_type y);
              built = built_stepped step h built;
            })
          where
            some_type : (with_type W r a).count ≡ 0 → ⊥
            some_type y = go (eqb r.count 0) y
              where
                go : (b : Bool)
                    → (test {A = IndexParams} b (λ _. record { count = 1; kids = record { first = a.m.used - 1; count = 1; high = a.high }; end = end_byte W a.m.at a.m.half })
                    (λ _. record { count = 2; kids = r.kids; end = r.end })).count ≡ 0 → ⊥
                go true x = omega (arith, x)
                go false x = omega (arith, x)

-- ---- The node

-- What stands behind the sort of an index signature.
abbrev pub index_content : Bool → Opt (Spelling × Placed) → Placed → Placed
index_content readonly p t = join (bit readonly) (join (maybe_named p) t)

-- Its names, children and choices.
pub index_shaped : (readonly : Bool) {from : ℕ} {r : IndexParams} {ps : IndexParameters} {t : Placed} {head choices : ℕ} → IndexIs from r ps → IsNode 0 t
    → head ≡ index_head readonly → choices ≡ index_choices head (not (eqb r.count 0))
    → Shape 6 4 (index_content readonly (object.kept ps) t) (kept_run (object.kept ps) ⊕ run_in 0 t) choices
index_shaped readonly {from} {r} {ps} {t} {head} {choices} i n e c = by ps i (c ∙ ap (index_choices head) (some_index i))
  where
    alone : {t : Placed} → IsNode 0 t → choices ≡ index_choices head false → Shape 6 4 (index_content readonly absent t) (run_in 0 t) choices
    alone (isNode a) y = record { same = refl; choices_are = omega (arith, e, y); allowed_is = tt }

    behind : (x : Spelling) {u t : Placed} → IsNode 0 u → IsNode 0 t → choices ≡ index_choices head true
        → Shape 6 4 (index_content readonly (present (x, u)) t) ((name_run x ⊕ run_in 0 u) ⊕ run_in 0 t) choices
    behind x (isNode b) (isNode a) y = record { same = refl; choices_are = omega (arith, e, y); allowed_is = tt }

    by : (ps : IndexParameters) → IndexIs from r ps → choices ≡ index_choices head (has_one ps)
        → Shape 6 4 (index_content readonly (object.kept ps) t) (kept_run (object.kept ps) ⊕ run_in 0 t) choices
    by no_index (none x) y = alone n y
    by (one_index p) (one x f h m) y = behind p.name m n y
    by (several_index p) (several x m) y = behind p.name m n y
