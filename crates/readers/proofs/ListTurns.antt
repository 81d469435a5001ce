-- A list in brackets, turn by turn: absent, begun, an entry more, refused, ended.
use mathlib.Core.Path.{◌≡◌, refl, sym, ap, ◌∙◌, subst}
use mathlib.Core.Bool.{true, false}
use mathlib.Core.List.{List, []}
use Prim.Native.Nat.{ℕ, suc, ◌+◌, ◌≤◌, ◌<◌}
use native.Mathlib.Omega.{arith}
use lib.ListN.{length}
use Rattle.keys.specs.Placed.{Placed, Opt, absent, present}
use Rattle.keys.specs.Store.{Run, done, ◌⊕◌}
use Rattle.rules.specs.Notes.{note}
use Rattle.rules.specs.State as rule
use Rattle.rules.specs.State.{State, Result, read, refuse, stands, end, report_if}
use Rattle.rules.specs.List.{no_entry}
use Rattle.marks.specs.State.{view, given_of, Moved}
use Rattle.marks.specs.Laid.{run_in, runs, Was, was, BuiltAt}
use Rattle.marks.specs.Says.{Got, GotChild, SaysList}
use Rattle.marks.specs.Node.{Links}
use Rattle.marks.specs.List.{Follows, Ends}
use Rattle.marks.proofs.Answers.{then_read_lem, then_refused}
use Rattle.marks.proofs.BuiltLaws.{built_none}
use Rattle.marks.proofs.LeafLaws.{no_kids}
use Rattle.marks.proofs.StepLaws.{built_at}
use Rattle.marks.proofs.ListLaws.{list_refused, list_stops, list_closed}
use Rattle.parts.proofs.Turns.{ListTurn, looped, turn_list}
use Rattle.marks.specs.declared.state.Given.{Given}
use Rattle.marks.specs.declared.state.Mark.{Mark}
use Rattle.marks.specs.declared.state.Kids.{Kids}
use Rattle.marks.specs.Told.{Answer}
use Rattle.marks.specs.Told.{Listed}
use Rattle.readers.proofs.MovedLaws.{built_moved}

-- The list is absent.
pub listed_absent : {c : ℕ} {x : Result (Opt (List Placed))} {m : Mark} {N M O : List ℕ} {r : Listed} → r ≡ record { why = 0; there = false; kids = no_kids; m = m }
    → x ≡ read absent (view m O) → SaysList c (was m N M O) done x r N M O
listed_absent {c} {x} {m} {N} {M} {O} e i =
    subst (λ (y : Listed). SaysList c (was m N M O) done x y N M O) (sym e)
    (record {
      done = λ _. record { list = absent; is = i; there_is = refl; count_is = refl; each = tt; built = built_none m.used m.named m.noted N M O };
      refused = λ z. absurd (z refl);
    })

-- The list is refused.
pub listed_refused : {c : ℕ} {B : Was} {t : Run} {x : Result (Opt (List Placed))} {N M O : List ℕ} {r : Listed} {why : ℕ} {m : Mark}
    → r ≡ record { why = why; there = false; kids = no_kids; m = m } → (why ≡ 0 → ⊥) → x ≡ refuse why m.at m.half → SaysList c B t x r N M O
listed_refused {c} {B} {t} {x} {N} {M} {O} e h i =
    subst (λ (y : Listed). SaysList c B t x y N M O) (sym e) (record { done = λ z. absurd (h z); refused = λ _. i })

-- It is refused by what was read last.
pub listed_stops : {c : ℕ} {B : Was} {t : Run} {x : Result (Opt (List Placed))} {N M O : List ℕ} {l : Listed} → (l.why ≡ 0 → ⊥) → x ≡ refuse l.why l.m.at l.m.half → SaysList c B t x l N M O
listed_stops n i = record { done = λ z. absurd (n z); refused = λ _. i }

-- The list begins, with nothing read since m.
pub turn_starts : {A : Type 0} {c len : ℕ} {L : ℕ → List Placed → State → Result A} {x : Result A} {k : Kids} (m p : Mark) {N M O : List ℕ}
    → k ≡ no_kids → p.used ≡ m.used → p.named ≡ m.named → p.noted ≡ m.noted → x ≡ L (suc len) [] (view p O)
    → ListTurn c len (was m N M O) done L x k.count k p N M O
turn_starts {A} {c} {len} {L} {x} {k} m p {N} {M} {O} e u n o i =
    subst (λ (y : Kids). ListTurn c len (was m N M O) done L x y.count y p N M O) (sym e)
    (record {
      list = [];
      fuel = len;
      enough = omega arith;
      is = i;
      each = tt;
      many_is = refl;
      built = built_at m p u n o (built_none m.used m.named m.noted N M O);
    })

module _ {A : Type 0} (g : rule.Given) (close : ℕ) (entry : List Placed → State → Result Placed) (K : List Placed → State → Result A)
    {c : ℕ} {B : Was} {x : Result A} {k : Kids} (p : Mark) {N M O : List ℕ}
    (w : ListTurn c (length g.words) B done (looped g close entry K) x k.count k p N M O) (z : stands g close (view p O) ≡ false) where
  -- An entry is refused.
  pub turn_refused : {n i h : ℕ} → entry w.list (view p O) ≡ refuse n i h → x ≡ refuse n i h
  turn_refused e = w.is ∙ then_refused K (list_refused g close entry w.fuel w.list (view p O) z e)

  -- Neither the closing mark nor a comma stands behind an entry.
  pub turn_stops : {u : Placed} {q : Mark} {a : Answer} (O' : List ℕ) → entry w.list (view p O) ≡ read u (view q O') → Follows g.words close q a → (a.why ≡ 0 → ⊥)
      → x ≡ refuse a.why a.m.at a.m.half
  turn_stops O' e f h = w.is ∙ then_refused K (list_stops g close entry w.fuel w.list (view p O) O' f h z e)

  -- An entry more, which is one child more.
  pub turn_again : {high : ℕ} {q : Mark} {a : Answer} {k' : Kids} {N' N'' M' O' : List ℕ} → Got c (was p N M O) (entry w.list (view p O)) high q N' M' O'
      → Links k p.used q.used high N' k' N'' → length N ≡ length N' → k'.count ≡ k.count + 1
      → Follows g.words close q a → a.why ≡ 0 → Moved (length g.words) q a.m → p.at < length g.words → p.at ≤ q.at
      → ListTurn c (length g.words) B done (looped g close entry K) x k'.count k' a.m N'' M' O'
  turn_again {high} {q} {a} {k'} {N'} {N''} {M'} {O'} got l s n f h v i j =
      let b : BuiltAt B ((done ⊕ runs c w.list) ⊕ run_in c got.tree) k' q N'' M' O' =
      l c B (done ⊕ runs c w.list) got.tree N M O M' O' p.named p.noted q.named q.noted w.built s
      got.stands.is_node got.stands.high_is got.stands.laid in
      subst (λ (y : ℕ). ListTurn c (length g.words) B done (looped g close entry K) x y k' a.m N'' M' O') (sym n)
      (turn_list g close entry K c done w k' q a N'' M' O' got.tree z got.is f h i j got.stands.is_node
      (built_moved v b))

-- An entry more, which was read as a child.
pub turn_child : {A : Type 0} (g : rule.Given) (close : ℕ) (entry : List Placed → State → Result Placed) (K : List Placed → State → Result A)
    {B : Was} {x : Result A} {k : Kids} (p : Mark) {N M O : List ℕ} (w : ListTurn 0 (length g.words) B done (looped g close entry K) x k.count k p N M O)
    → stands g close (view p O) ≡ false → {q : Mark} {a : Answer} {k' : Kids} {N' M' O' : List ℕ}
    → GotChild B (runs 0 w.list) (entry w.list (view p O)) k' q N' M' O' → k'.count ≡ k.count + 1
    → Follows g.words close q a → a.why ≡ 0 → Moved (length g.words) q a.m → p.at < length g.words → p.at ≤ q.at
    → ListTurn 0 (length g.words) B done (looped g close entry K) x k'.count k' a.m N' M' O'
turn_child g close entry K {B} {x} {k} p w z {q} {a} {k'} {N'} {M'} {O'} got n f h v i j =
    subst (λ (y : ℕ). ListTurn 0 (length g.words) B done (looped g close entry K) x y k' a.m N' M' O') (sym n)
    (turn_list g close entry K 0 done w k' q a N' M' O' got.tree z got.is f h i j got.is_node (built_moved v got.built))

-- The closing mark stands there, and the list ends.
pub turn_ends : (text W : List ℕ) (given : Given) (close : ℕ) (entry : List Placed → State → Result Placed) (number b : ℕ) {first c : ℕ}
    {B : Was} {x : Result (Opt (List Placed))} {k : Kids} (p : Mark) {N M O O' : List ℕ} {r : Listed}
    → ListTurn c (length W) B done
    (looped (given_of text W given) close entry (λ l q. report_if (no_entry l) (given_of text W given) (note number b (end (given_of text W given) q)) q λ q. read (present l) q))
    x k.count k p N M O
    → stands (given_of text W given) close (view p O) ≡ true → first ≡ b → Ends W given number first k p O r O' → SaysList c B done x r N M O'
turn_ends text W given close entry number b {first} {c} {B} {x} {k} p {N} {M} {O} {O'} {r} w z f e =
    let g : rule.Given = given_of text W given in
    let K : ℕ → List Placed → State → Result (Opt (List Placed)) = λ y l q. report_if (no_entry l) g (note number y (end g q)) q (λ s. read (present l) s) in
    let i : x ≡ K first w.list (rule.next (view p O)) =
    w.is ∙ then_read_lem (K b) (list_closed g close entry w.fuel w.list (view p O) z) ∙ ap (λ (y : ℕ). K y w.list (rule.next (view p O))) (sym f) in
    subst (λ (y : Result (Opt (List Placed))). SaysList c B done y r N M O') (sym i)
    (e text c B done w.list N M w.built w.many_is w.each)
