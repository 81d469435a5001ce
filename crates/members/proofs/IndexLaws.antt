-- Index signatures: their parameters up to the type and behind it, and the diagnostics of the one that is kept.
use mathlib.Core.Path.{◌≡◌, refl, sym, ap, ap₂, ◌∙◌, subst}
use mathlib.Core.Bool.{Bool, true, false, not, ◌&&◌, ◌||◌}
use mathlib.Core.List.{List, [], ◌∷◌}
use Prim.Native.Nat.{ℕ, ◌+◌, ◌-◌, ◌*◌, ◌/◌, ◌%◌, ◌^◌, ◌≤◌, ◌<◌}
use native.Mathlib.Omega.{arith}
use borrow.Author.Tests.{eqb-true}
use lib.Dec.{T, eqb, ltb}
use lib.ListN.{length, get_or}
use Rattle.words.specs.Kind.{RBrack, Question, Colon, Comma}
use Rattle.words.specs.Test.{◌and◌, ◌or◌, between, among, test}
use Rattle.words.specs.Cursor.{first_byte, end_byte}
use Rattle.keys.specs.Key.{node_table}
use Rattle.keys.specs.Limits.{record_words, half_word, tags}
use Rattle.keys.specs.Holds.{word_at, tag_in, after_tag, first_at, end_at}
use Rattle.keys.specs.Placed.{Placed, tree, Spelling, chosen, is_literal, is_no_index, first_of, end_of}
use Rattle.keys.specs.Store.{done, chose, plant, packed, ◌⊕◌}
use Rattle.rules.specs.Refusal.{unexpected}
use Rattle.rules.specs.Notes.{note, asked_index, comma_after_index, literal_index, keyword_index, not_one_index}
use Rattle.rules.specs.State as rule
use Rattle.rules.specs.State.{State, Result, read, refuse, next, stands, first, end, past, expect, report, report_if}
use Rattle.rules.specs.Object as object
use Rattle.rules.specs.Object.{IndexParameters, report_index}
use Rattle.marks.specs.State.{view, given_of, next_mark, past_mark, Moved}
use Rattle.marks.specs.Laid.{run_in, name_run, allowed, shows_chosen, IsNode, node, Was, BuiltAt}
use Rattle.marks.specs.Says.{GotNames, SaysNames, SaysBound, Any, one}
use Rattle.marks.specs.Names.{one_name}
use Rattle.marks.specs.Notes.{taken_at, refused_at, Reports, Noted}
use Rattle.marks.specs.List.{here}
use Rattle.marks.proofs.Answers.{then_read_lem, then_refused}
use Rattle.marks.proofs.StepLaws.{view_past, laid_at}
use Rattle.marks.proofs.ReportLaws.{reports_as, reports_done, reports_refused, laid_reported}
use Rattle.tuples.proofs.ElementLaws.{both_hold, is_true, tag_below, last_word_lem, last_place}
use Rattle.members.specs.Object.{SaysStep, index_start, index_next, IndexIs, none, one as oneIs, several, kept_run, NotesIndex, index_end, EndsIndex, literal_word, no_index_word}
use Rattle.members.proofs.StepLaws.{step_reports, step_stop, step_refused}
use Rattle.marks.specs.declared.state.Given.{Given}
use Rattle.marks.specs.declared.state.Mark.{Mark}
use Rattle.marks.specs.declared.state.Kids.{Kids}
use Rattle.marks.specs.Told.{Answer}
use Rattle.members.specs.declared.object.IndexParams.{IndexParams}

-- ---- A parameter up to its type

-- What follows its name.
abbrev behind_name : rule.Given → Spelling → State → Result Spelling
behind_name g x q =
    report_if (stands g Question q) g (note asked_index (first g q) (end g (next q))) q λ q.
    expect g Colon (past g Question q) (read x)

module _ (text W : List ℕ) (given : Given) (m : Mark) (M O : List ℕ) where
  -- It has no name.
  pub index_unnamed : {a : Answer} {M' O' : List ℕ} → SaysNames one Any (one_name 0 (given_of text W given) (view m O)) a.why m a.m M M' O → (a.why ≡ 0 → ⊥)
      → SaysBound (index_start (given_of text W given) (view m O)) m M O a M' O'
  index_unnamed w stop = record { done = λ z. absurd (stop z); refused = λ _. then_refused (behind_name (given_of text W given)) (w.refused stop) }

  -- Behind its name, which ends at p, diagnostic 8 is reported for a `?`, and reading stands at a.
  module _ {p : Mark} {M' O' : List ℕ} {a : Answer} (w : GotNames one Any (one_name 0 (given_of text W given) (view m O)) m p M M' O)
      (reports : Reports (here W Question p) given (note asked_index (first_byte W p.at p.half) (end_byte W (p.at + 1) 0)) p O a O') where
    -- The colon that is due behind the `?`.
    abbrev colon : State → Result Spelling
    colon q = expect (given_of text W given) Colon (past (given_of text W given) Question q) (read w.what)

    -- There is no record for it.
    pub index_full : (a.why ≡ 0 → ⊥) → SaysBound (index_start (given_of text W given) (view m O)) m M O a M' O'
    index_full stop =
        record {
          done = λ z. absurd (stop z);
          refused = λ _. then_read_lem (behind_name (given_of text W given)) w.is ∙ reports_refused text W colon reports stop;
        }

    -- Else reading goes on behind the `?`, at q.
    module _ {q : Mark} (go : a.why ≡ 0) (q-is : q ≡ past_mark W Question a.m) where
      -- What the rule comes to there.
      index_asked : index_start (given_of text W given) (view m O) ≡ test (here W Colon q) (λ _. read w.what (next (view q O'))) (λ _. refuse unexpected q.at q.half)
      index_asked =
          then_read_lem (behind_name (given_of text W given)) w.is ∙ reports_done text W colon reports go
          ∙ ap (λ (s : State). expect (given_of text W given) Colon s (read w.what)) (sym (view_past text W given Question a.m O') ∙ ap (λ (x : Mark). view x O') (sym q-is))

      -- No colon stands there.
      pub index_no_colon : {r : Answer} → here W Colon q ≡ false → r ≡ refused_at unexpected q → SaysBound (index_start (given_of text W given) (view m O)) m M O r M' O'
      index_no_colon c e =
          subst (λ (x : Answer). SaysBound (index_start (given_of text W given) (view m O)) m M O x M' O') (sym e)
          (record {
            done = λ z. absurd (let i : unexpected ≡ 0 = z in omega arith);
            refused = λ _. index_asked ∙ ap (λ (b : Bool). test b (λ _. read w.what (next (view q O'))) (λ _. refuse unexpected q.at q.half)) c;
          })

      -- One does.
      pub index_colon : {r : Answer} {n : Mark} {len : ℕ} → here W Colon q ≡ true → r ≡ taken_at n → n ≡ next_mark q → Noted given p a → Moved len a.m q
          → SaysBound (index_start (given_of text W given) (view m O)) m M O r M' O'
      index_colon c e i k v =
          subst (λ (x : Answer). SaysBound (index_start (given_of text W given) (view m O)) m M O x M' O') (sym (e ∙ ap taken_at i))
          (record {
            done = λ _.
                record {
                  name = w.what;
                  is = index_asked ∙ ap (λ (b : Bool). test b (λ _. read w.what (next (view q O'))) (λ _. refuse unexpected q.at q.half)) c;
                  spoken = λ B t N d. laid_at a.m q v.used_is v.named_is v.noted_is (laid_reported reports k (w.spoken.on B t N O d));
                };
            refused = λ z. absurd (z refl);
          })

-- ---- Behind its type

module _ (text W : List ℕ) (given : Given) (m : Mark) (O : List ℕ) where
  -- Past a comma, with diagnostic 9 if the `]` follows.
  pub next_goes : {p : Mark} {a : Answer} {O' : List ℕ} → here W RBrack m ≡ false → here W Comma m ≡ true → p ≡ next_mark m
      → Reports (here W RBrack p) given (note comma_after_index (first_byte W m.at m.half) (end_byte W p.at p.half)) p O a O' → Noted given p a
      → SaysStep (index_next (given_of text W given) (view m O)) m O a O'
  next_goes {p} {a} {O'} c n e r k =
      at_next (subst (λ (x : Mark). Reports (here W RBrack x) given (note comma_after_index (first_byte W m.at m.half) (end_byte W x.at x.half)) x O a O') e r) (subst (λ (x : Mark). Noted given x a) e k)
    where
      at_next : Reports (here W RBrack (next_mark m)) given (note comma_after_index (first_byte W m.at m.half) (end_byte W (m.at + 1) 0)) (next_mark m) O a O' → Noted given (next_mark m) a
          → SaysStep (index_next (given_of text W given) (view m O)) m O a O'
      at_next r k = step_reports {p = next_mark m} text W refl refl refl (λ on. rw (c, n)) r k

-- ---- The type that is kept

-- The two signs for or come to the same.
or_both : (a b : Bool) → (a or b) ≡ (a || b)
or_both true b = refl
or_both false b = refl

-- So do those for and.
and_both : (a b : Bool) → (a and b) ≡ (a && b)
and_both true b = refl
and_both false b = refl

-- One of five numbers.
five : (a b c d e : Bool) → (a or b or c or d or e or false) ≡ (a || b || c || d || e)
five true b c d e = refl
five false true c d e = refl
five false false true d e = refl
five false false false true e = refl
five false false false false true = refl
five false false false false false = refl

-- A keyword or a template shows what it chose.
pub chosen_is : (tag : ℕ) (p : Placed) → T (allowed 0 tag p) → among (2 ∷ 15 ∷ []) tag ≡ true → packed (plant node_table (node_table.row 0 tag) p done) ≡ chosen p
chosen_is tag p h e =
    eqb-true (packed (plant node_table (node_table.row 0 tag) p done)) (chosen p)
    (is_true (shows_chosen tag p) (go (among (2 ∷ 15 ∷ []) tag) e (both_hold (ltb tag tags and not (between 20 22 tag)) (not (among (2 ∷ 15 ∷ []) tag) or shows_chosen tag p) h).1))
  where
    go : (b : Bool) → b ≡ true → T (not b or shows_chosen tag p) → T (shows_chosen tag p)
    go true z h = h
    go false z h = absurd (let q : ◌≡◌ {A = ℕ} 0 1 = cc in omega arith)

module _ {B : Was} (x : Spelling) (tag f e : ℕ) (p : Placed) {k : Kids} (m : Mark) {N M O : List ℕ} (a : T (allowed 0 tag p)) (low : f < 2 ^ 32) (h : m.used * record_words ≤ length N)
    (d : BuiltAt B (name_run x ⊕ run_in 0 (tree tag f e p)) k m N M O) where
  -- Its own choices behind the tag.
  abbrev behind : ℕ
  behind = packed (plant node_table (node_table.row 0 tag) p done)

  -- There is a node.
  some : 1 ≤ m.used
  some = omega (arith, d.laid.used_is)

  -- It is the last node.
  last_is : k.first * 4 ≡ m.used * 4 - 4
  last_is = omega (arith, d.laid.used_is, d.first_is)

  -- Its word is its tag, and its choices above.
  word_is : word_at N k.first ≡ tag + tags * behind
  word_is = ap (λ (n : ℕ). get_or N n 0) last_is ∙ last_word_lem (x ∷ []) f e (chose 6 tag (plant node_table (node_table.row 0 tag) p done)) d.laid h some

  -- Its place is its first and its end byte.
  place_is : get_or N (k.first * record_words + 1) 0 ≡ f + 2 ^ 32 * e
  place_is =
      ap (λ (n : ℕ). get_or N n 0) (let z : k.first * record_words + 1 ≡ m.used * 4 - 3 = omega (arith, last_is, some) in z)
      ∙ last_place (x ∷ []) f e (chose 6 tag (plant node_table (node_table.row 0 tag) p done)) d.laid h some

  -- The tag in its word.
  tag_in_lem : tag_in (word_at N k.first) ≡ tag
  tag_in_lem =
      let small = tag_below 0 tag p a in
      ap (λ (n : ℕ). n % tags) word_is ∙ (let z : (tag + tags * behind) % tags ≡ tag = omega (arith, small) in z)

  -- The choices above the tag.
  after_tag_lem : after_tag (word_at N k.first) ≡ behind
  after_tag_lem =
      let small = tag_below 0 tag p a in
      ap (λ (n : ℕ). n / tags) word_is ∙ (let z : (tag + tags * behind) / tags ≡ behind = omega (arith, small) in z)

  -- Whether it is a literal.
  literal_is : literal_word (word_at N k.first) ≡ is_literal (tree tag f e p)
  literal_is =
      ap₂ (λ (y z : ℕ). eqb y 3 or (eqb y 15 and eqb z 0)) tag_in_lem after_tag_lem ∙ ap (λ (b : Bool). eqb tag 3 or b) (go (eqb tag 15) refl)
      ∙ or_both (eqb tag 3) (eqb tag 15 && eqb (chosen p) 0)
    where
      go : (b : Bool) → eqb tag 15 ≡ b → (b and eqb behind 0) ≡ (b && eqb (chosen p) 0)
      go true z = ap (λ (n : ℕ). eqb n 0) (chosen_is tag p a (ap (among (2 ∷ 15 ∷ [])) (eqb-true tag 15 z)))
      go false z = refl

  -- Whether it is a keyword that is no index.
  no_index_is : no_index_word (word_at N k.first) ≡ is_no_index (tree tag f e p)
  no_index_is = ap₂ (λ (y z : ℕ). eqb y 2 and not (among (0 ∷ 5 ∷ 7 ∷ 8 ∷ 9 ∷ []) z)) tag_in_lem after_tag_lem ∙ go (eqb tag 2) refl
    where
      go : (b : Bool) → eqb tag 2 ≡ b
          → (b and not (among (0 ∷ 5 ∷ 7 ∷ 8 ∷ 9 ∷ []) behind)) ≡ (b && not (eqb (chosen p) 0 || eqb (chosen p) 5 || eqb (chosen p) 7 || eqb (chosen p) 8 || eqb (chosen p) 9))
      go true z =
          ap (λ (n : ℕ). not (among (0 ∷ 5 ∷ 7 ∷ 8 ∷ 9 ∷ []) n)) (chosen_is tag p a (ap (among (2 ∷ 15 ∷ [])) (eqb-true tag 2 z)))
          ∙ ap not (five (eqb (chosen p) 0) (eqb (chosen p) 5) (eqb (chosen p) 7) (eqb (chosen p) 8) (eqb (chosen p) 9))
      go false z = refl

  -- Its first byte.
  first_at_lem : first_at N k.first ≡ f
  first_at_lem = ap (λ (y : ℕ). y % half_word) place_is ∙ (let z : (f + 2 ^ 32 * e) % half_word ≡ f = omega arith in z)

  -- Its end byte.
  end_at_lem : end_at N k.first ≡ e
  end_at_lem = ap (λ (y : ℕ). y / half_word) place_is ∙ (let z : (f + 2 ^ 32 * e) / half_word ≡ e = omega arith in z)

-- What its words say of it.
pub record Kept (t : Placed) (k : Kids) (N : List ℕ) : Type 0 where
  pub literal : literal_word (word_at N k.first) ≡ is_literal t
  pub no_index_lem : no_index_word (word_at N k.first) ≡ is_no_index t
  pub first_is : first_at N k.first ≡ first_of t
  pub end_is : end_at N k.first ≡ end_of t

-- They say so of any type behind one name.
pub kept_says : {B : Was} (x : Spelling) {t : Placed} {k : Kids} (m : Mark) {N M O : List ℕ} → IsNode 0 t → m.used * record_words ≤ length N → BuiltAt B (name_run x ⊕ run_in 0 t) k m N M O → Kept t k N
kept_says x m (node {tag = tag} {first = f} {end = e} {p = p} a) h d =
    record {
      literal = literal_is x tag f e p m a.0 a.1 h d;
      no_index_lem = no_index_is x tag f e p m a.0 a.1 h d;
      first_is = first_at_lem x tag f e p m a.0 a.1 h d;
      end_is = end_at_lem x tag f e p m a.0 a.1 h d;
    }

-- ---- Diagnostics 10 to 12

module _ (given : Given) (b last from : ℕ) (r : IndexParams) (m : Mark) (N O : List ℕ) where
  -- There is not one parameter.
  pub notes_other : {a : Answer} {O' : List ℕ} → (r.count ≡ 1 → ⊥) → Reports true given (note not_one_index b last) m O a O' → Noted given m a → NotesIndex given b last from r m N O a O'
  notes_other {a} {O'} n w k text W B ps M d i e = by i
    where
      same : (on : State → Result Placed)
          → report (given_of text W given) (note not_one_index b (end (given_of text W given) (view m O))) (view m O) on ≡ report_if true (given_of text W given) (note not_one_index b last) (view m O) on
      same on = ap (λ (x : ℕ). report (given_of text W given) (note not_one_index b x) (view m O) on) (sym e)

      by : {ps : IndexParameters} → IndexIs from r ps → SaysStep {A = Placed} (report_index (given_of text W given) b ps (view m O)) m O a O'
      by (none c) = step_reports {p = m} text W refl refl refl same w k
      by (oneIs c f l t) = absurd (n c)
      by (several c t) = step_reports {p = m} text W refl refl refl same w k

  -- There is one, of a literal type.
  pub notes_literal : {f l : ℕ} {a : Answer} {O' : List ℕ} → r.count ≡ 1 → m.used * record_words ≤ length N → literal_word (word_at N r.kids.first) ≡ true
      → f ≡ first_at N r.kids.first → l ≡ end_at N r.kids.first → Reports true given (note literal_index f l) m O a O' → Noted given m a → NotesIndex given b last from r m N O a O'
  notes_literal {a = a} {O' = O'} n h y f-is l-is w k text W B ps M d i e = by i d
    where
      by : {ps : IndexParameters} → IndexIs from r ps → BuiltAt B (kept_run (object.kept ps)) r.kids m N M O → SaysStep {A = Placed} (report_index (given_of text W given) b ps (view m O)) m O a O'
      by (none c) d = absurd (let z : 0 ≡ 1 = sym c ∙ n in omega arith)
      by (several c t) d = absurd (let z : 2 ≡ 1 = sym c ∙ n in omega arith)
      by (oneIs {p = p} c g l t) d =
          let q = kept_says p.name m t h d in
          step_reports {p = m} text W refl refl refl (λ on. rw (sym q.literal ∙ y)) (reports_as refl (f-is ∙ q.first_is) (l-is ∙ q.end_is) w) k

  -- There is one, of another type.
  pub notes_keyword : {holds : Bool} {a : Answer} {O' : List ℕ} → r.count ≡ 1 → m.used * record_words ≤ length N → literal_word (word_at N r.kids.first) ≡ false
      → holds ≡ no_index_word (word_at N r.kids.first) → Reports holds given (note keyword_index from r.end) m O a O' → Noted given m a → NotesIndex given b last from r m N O a O'
  notes_keyword {a = a} {O' = O'} n h y holds-is w k text W B ps M d i e = by i d
    where
      by : {ps : IndexParameters} → IndexIs from r ps → BuiltAt B (kept_run (object.kept ps)) r.kids m N M O → SaysStep {A = Placed} (report_index (given_of text W given) b ps (view m O)) m O a O'
      by (none c) d = absurd (let z : 0 ≡ 1 = sym c ∙ n in omega arith)
      by (several c t) d = absurd (let z : 2 ≡ 1 = sym c ∙ n in omega arith)
      by (oneIs {p = p} c f l t) d =
          let q = kept_says p.name m t h d in
          step_reports {p = m} text W refl refl refl (λ on. rw (sym q.literal ∙ y)) (reports_as (holds-is ∙ q.no_index_lem) f l w) k

-- ---- From the `]` on

module _ (W : List ℕ) (given : Given) (b from : ℕ) (r : IndexParams) (m p : Mark) (N O : List ℕ) (closes : here W RBrack m ≡ true) (p-is : p ≡ next_mark m) {last : ℕ} (last_is : last ≡ end_byte W p.at p.half)
    {a : Answer} {O' : List ℕ} (notes : NotesIndex given b last from r p N O a O') where
  -- The diagnostic of the parameters.
  noted : (text : List ℕ) (B : Was) (ps : IndexParameters) (M : List ℕ) → BuiltAt B (kept_run (object.kept ps)) r.kids m N M O → IndexIs from r ps
      → SaysStep {A = Placed} (report_index (given_of text W given) b ps (view (next_mark m) O)) (next_mark m) O a O'
  noted text B ps M d i =
      subst (λ (x : Mark). SaysStep {A = Placed} (report_index (given_of text W given) b ps (view x O)) x O a O') p-is
      (notes text W B ps M (subst (λ (x : Mark). BuiltAt B (kept_run (object.kept ps)) r.kids x N M O) (sym p-is) d) i last_is)

  -- The colon that is due behind the diagnostic.
  abbrev to_colon : (text : List ℕ) → (State → Result Placed) → State → Result Placed
  to_colon text on q = expect (given_of text W given) Colon q on

  -- There is no record for it.
  pub end_full : (a.why ≡ 0 → ⊥) → EndsIndex W given b from r m N O a O'
  end_full stop text B ps M d i = step_stop stop (λ on. rw closes ((noted text B ps M d i).refused stop (to_colon text on)))

  -- No colon follows.
  pub end_no_colon : {e : Answer} → a.why ≡ 0 → here W Colon a.m ≡ false → e ≡ refused_at unexpected a.m → EndsIndex W given b from r m N O e O'
  end_no_colon go c e text B ps M d i =
      step_refused unexpected a.m (λ z. omega arith) e (λ on. rw closes ((noted text B ps M d i).done go (to_colon text on) ∙ rw c))

  -- One does.
  pub end_colon : {e : Answer} {n : Mark} → a.why ≡ 0 → here W Colon a.m ≡ true → e ≡ taken_at n → n ≡ next_mark a.m → EndsIndex W given b from r m N O e O'
  end_colon go c e j text B ps M d i =
      subst (λ (x : Answer). SaysStep (index_end (given_of text W given) b ps (view m O)) m O x O') (sym (e ∙ ap taken_at j))
      (record {
        done = λ _ on. rw closes ((noted text B ps M d i).done go (to_colon text on) ∙ rw c);
        kept = λ _ B' t N' M' l. (noted text B ps M d i).kept go B' t N' M' l;
        refused = λ z. absurd (z refl);
      })
