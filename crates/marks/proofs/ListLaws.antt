-- A list's rule, turn by turn, by what follows its entries.
use mathlib.Core.Path.{◌≡◌, refl, sym, ap, ◌∙◌, subst}
use mathlib.Core.Bool.{Bool, true, false}
use mathlib.Core.List.{List, [], ◌∷◌, ◌++◌}
use Prim.Native.Nat.{ℕ, suc, ◌+◌}
use native.Mathlib.Omega.{arith}
use lib.Dec.{eqb}
use lib.ListN.{length}
use borrow.Author.Tests.{ne_eqb}
use Rattle.words.specs.Test.{test}
use Rattle.words.specs.Kind.{Comma}
use Rattle.words.specs.Cursor.{end_byte}
use Rattle.keys.specs.Placed.{Placed, present}
use Rattle.rules.specs.Refusal.{unexpected}
use Rattle.rules.specs.State as rule
use Rattle.rules.specs.Notes.{note}
use Rattle.rules.specs.State.{State, Result, read, refuse, next, stands, expect, report_if}
use Rattle.rules.specs.List.{list_from, no_entry}
use Rattle.marks.specs.State.{view, given_of, next_mark, Under}
use Rattle.marks.specs.Notes.{Reports, Noted}
use Rattle.marks.proofs.ReportLaws.{reports_done, reports_refused, built_reported}
use Rattle.marks.specs.Says.{SaysList}
use Rattle.marks.specs.List.{Follows, closes, goes, stops, ended, Ends, EndsAt}
use Rattle.marks.specs.declared.state.Given.{Given}
use Rattle.marks.specs.declared.state.Mark.{Mark}
use Rattle.marks.specs.declared.state.Kids.{Kids}
use Rattle.marks.specs.Told.{Answer}
use Rattle.marks.specs.Told.{Listed}

module _ (g : rule.Given) (close : ℕ) (entry : List Placed → State → Result Placed) where
  -- At the closing mark the list is whole.
  pub list_closed : (n : ℕ) (l : List Placed) (s : State) → stands g close s ≡ true → list_from g close entry (suc n) l s ≡ read l (next s)
  unfolding list_from
  list_closed n l s c = rw c

  -- An entry is refused.
  pub list_refused : (n : ℕ) (l : List Placed) (s : State) {k i h : ℕ} → stands g close s ≡ false → entry l s ≡ refuse k i h
      → list_from g close entry (suc n) l s ≡ refuse k i h
  unfolding list_from
  list_refused n l s c e = rw (c, e)

  -- After an entry the closing mark stands, or a comma.
  after_entry : (n : ℕ) (l : List Placed) (s : State) {t : Placed} {q : State} → stands g close s ≡ false → entry l s ≡ read t q
      → list_from g close entry (suc n) l s
      ≡ test (stands g close q) (λ _. read (l ++ (t ∷ [])) (next q)) (λ _. expect g Comma q λ p. list_from g close entry n (l ++ (t ∷ [])) p)
  unfolding list_from
  after_entry n l s c e = rw (c, e)

  -- An entry more, and what follows it lets the list go on, or stands at its end.
  pub list_goes : (n : ℕ) (l : List Placed) (s : State) {t : Placed} {q : Mark} {a : Answer} (O : List ℕ) → Follows g.words close q a → a.why ≡ 0
      → stands g close s ≡ false → entry l s ≡ read t (view q O)
      → list_from g close entry (suc (suc n)) l s ≡ list_from g close entry (suc n) (l ++ (t ∷ [])) (view a.m O)
  list_goes n l s {t} {q} O (closes c e) z h r =
      after_entry (suc n) l s h r ∙ rw (c, e) (sym (list_closed n (l ++ (t ∷ [])) (view q O) c))
  list_goes n l s O (goes c d e) z h r = after_entry (suc n) l s h r ∙ rw (c, d, e)
  list_goes n l s O (stops c d e) z h r = absurd (let i : unexpected ≡ 0 = sym (ap (λ (x : Answer). x.why) e) ∙ z in omega arith)

  -- Neither the closing mark nor a comma follows.
  pub list_stops : (n : ℕ) (l : List Placed) (s : State) {t : Placed} {q : Mark} {a : Answer} (O : List ℕ) → Follows g.words close q a → (a.why ≡ 0 → ⊥)
      → stands g close s ≡ false → entry l s ≡ read t (view q O)
      → list_from g close entry (suc n) l s ≡ refuse a.why a.m.at a.m.half
  list_stops n l s O (closes c e) z h r = absurd (z (ap (λ (x : Answer). x.why) e))
  list_stops n l s O (goes c d e) z h r = absurd (z (ap (λ (x : Answer). x.why) e))
  list_stops n l s O (stops c d e) z h r = after_entry n l s h r ∙ rw (c, d, e)

-- ---- The end of a list

-- A list has no entry where it counts none.
pub no_entry_lem : (l : List Placed) → no_entry l ≡ eqb (length l) 0
no_entry_lem [] = refl
no_entry_lem (t ∷ l) = sym (ne_eqb (length (t ∷ l)) 0 (λ e. omega arith))

module _ (W : List ℕ) (given : Given) (number first : ℕ) (k : Kids) (m : Mark) (O : List ℕ) where
  -- The code's report, as one at the mark past the closing mark.
  report_next : {a : Answer} {p : Mark} {last : ℕ} {O' : List ℕ} → p ≡ next_mark m → last ≡ end_byte W p.at p.half
      → Reports (eqb k.count 0) given (note number first last) p O a O'
      → Reports (eqb k.count 0) given (note number first (end_byte W (m.at + 1) 0)) (next_mark m) O a O'
  report_next {a} {p} {last} {O'} e l r =
      subst (λ (x : ℕ). Reports (eqb k.count 0) given (note number first x) (next_mark m) O a O') (subst (λ (q : Mark). last ≡ end_byte W q.at q.half) e l)
      (subst (λ (q : Mark). Reports (eqb k.count 0) given (note number first last) q O a O') e r)

  ended_is : (text : List ℕ) (l : List Placed) → k.count ≡ length l → ended (given_of text W given) number first l (view m O)
      ≡ report_if (eqb k.count 0) (given_of text W given) (note number first (end_byte W (m.at + 1) 0)) (view (next_mark m) O) λ q. read (present l) q
  ended_is text l c =
      ap (λ (b : Bool). report_if b (given_of text W given) (note number first (end_byte W (m.at + 1) 0)) (view (next_mark m) O) λ q. read (present l) q)
      (no_entry_lem l ∙ ap (λ (n : ℕ). eqb n 0) (sym c))

  -- There is no record for the diagnostic.
  pub ends_refused : {a : Answer} {p : Mark} {last : ℕ} {O' : List ℕ} {r : Listed} → p ≡ next_mark m → last ≡ end_byte W p.at p.half
      → Reports (eqb k.count 0) given (note number first last) p O a O' → (a.why ≡ 0 → ⊥)
      → r ≡ record { why = a.why; there = false; kids = record { first = 0; count = 0; high = 0 }; m = a.m } → Ends W given number first k m O r O'
  ends_refused {a} {O' = O'} e l w z i text c B t u N M b n f =
      subst (λ (y : Listed). SaysList c B t (ended (given_of text W given) number first u (view m O)) y N M O') (sym i)
      (record { done = λ h. absurd (z h); refused = λ _. ended_is text u n ∙ reports_refused text W (λ q. read (present u) q) (report_next e l w) z })

  -- The list is whole.
  pub ends_done : {a : Answer} {p : Mark} {last : ℕ} {O' : List ℕ} → p ≡ next_mark m → last ≡ end_byte W p.at p.half
      → Reports (eqb k.count 0) given (note number first last) p O a O' → Noted given p a → a.why ≡ 0
      → Ends W given number first k m O (record { why = 0; there = true; kids = k; m = a.m }) O'
  ends_done {a} e l w v z text c B t u N M b n f =
      record {
        done = λ _.
            record {
              list = present u;
              is = ended_is text u n ∙ reports_done text W (λ q. read (present u) q) (report_next e l w) z;
              there_is = refl;
              count_is = n;
              each = f;
              built = built_reported (report_next e l w) (subst (λ (q : Mark). Noted given q a) e v) b;
            };
        refused = λ h. absurd (h refl);
      }

-- Where reading stands then.
pub ends_at : {given : Given} {m p : Mark} {a : Answer} (why : ℕ) (there : Bool) {k : Kids} → p ≡ next_mark m → Noted given p a → Under m.used k
    → EndsAt given m (record { why = why; there = there; kids = k; m = a.m })
ends_at {given} {m} {p} {a} why there {k} e n u =
    let v : Noted given (next_mark m) a = subst (λ (q : Mark). Noted given q a) e n in
    record {
      at_is = v.at_is;
      half_is = v.half_is;
      used_is = v.used_is;
      named_is = v.named_is;
      more = v.more;
      recorded = v.recorded;
      under = subst (λ (x : ℕ). Under x k) (sym v.used_is) u;
    }
