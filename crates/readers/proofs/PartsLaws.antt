-- The parts of a union or an intersection, turn by turn: begun, a part more, refused, ended.
use mathlib.Core.Path.{◌≡◌, refl, sym, ap, ◌∙◌, subst}
use mathlib.Core.Bool.{Bool, true, false, not}
use mathlib.Core.List.{List, [], ◌∷◌, ◌++◌}
use Prim.Native.Nat.{ℕ, suc, ◌+◌, ◌-◌, ◌*◌, ◌≤◌, ◌<◌}
use native.Mathlib.Omega.{arith}
use lib.Dec.{T, eqb, eqb-suc-zero}
use lib.ListN.{length, length-append}
use Rattle.words.specs.Test.{◌and◌, ◌or◌, test}
use Rattle.keys.specs.Placed.{Placed, tree, listed}
use Rattle.keys.specs.Store.{done}
use Rattle.rules.specs.State as rule
use Rattle.rules.specs.State.{State, Result, Reader, read, refuse, then, next, stands, first, end, past, make}
use Rattle.rules.specs.List.{no_entry}
use Rattle.rules.specs.Union.{parts_from}
use Rattle.marks.specs.State.{view, given_of, next_mark, past_mark, Moved}
use Rattle.marks.specs.Laid.{runs, AllNodes, Was, was, BuiltAt, Stands, Shape}
use Rattle.marks.specs.Says.{Got, Says}
use Rattle.marks.specs.Node.{Links}
use Rattle.marks.specs.List.{here}
use Rattle.operators.specs.Union.{is_alone, Joins, alone, joins}
use Rattle.marks.proofs.Answers.{then_read_lem, then_then, says_same, says_as, says_stops}
use Rattle.marks.proofs.LaidLaws.{laid_on}
use Rattle.marks.proofs.LeafLaws.{no_kids}
use Rattle.marks.proofs.ShapeLaws.{all_more}
use Rattle.marks.proofs.StepLaws.{view_past}
use Rattle.parts.proofs.RingLaws.{behind_part, parts_more, parts_end}
use Rattle.parts.proofs.Turns.{ListTurn, built_more}
use Rattle.marks.specs.declared.state.Given.{Given}
use Rattle.marks.specs.declared.state.Mark.{Mark}
use Rattle.marks.specs.declared.state.Kids.{Kids}
use Rattle.marks.specs.Told.{Answer}
use Rattle.readers.proofs.Loops.{end_parts, parts_of, part_due, behind_one}
use Rattle.readers.proofs.ListTurns.{turn_starts}

-- The same is read where what follows is the same.
then_same : {A B : Type 0} (x : Result A) {f g : A → State → Result B} → ((a : A) (s : State) → f a s ≡ g a s) → then x f ≡ then x g
then_same (read a s) h = h a s
then_same (refuse n i h) e = refl

-- ---- Tests

-- Behind a part that a mark follows, it is not alone.
not_last : (n a : Bool) {b : Bool} → b ≡ true → (n and not (a or b)) ≡ false
not_last true true e = refl
not_last true false e = ap not e
not_last false a e = refl

-- Behind the last part, it is alone where the code finds it so.
at_last : (l : List Placed) (a : Bool) {b r : Bool} {n : ℕ} → b ≡ false → n ≡ length l → (eqb n 0 and not a) ≡ r → (no_entry l and not (a or b)) ≡ r
at_last [] true e c h = sym (ap (λ (m : ℕ). eqb m 0 and false) c) ∙ h
at_last [] false e c h = ap not e ∙ sym (ap (λ (m : ℕ). eqb m 0 and true) c) ∙ h
at_last (t ∷ l) a e c h = sym (ap (λ (m : ℕ). eqb m 0 and not a) c ∙ ap (λ (b : Bool). b and not a) (eqb-suc-zero (length l))) ∙ h

-- With one part more there is an entry.
some_entry : (l : List Placed) (t : Placed) → no_entry (l ++ (t ∷ [])) ≡ false
some_entry [] t = refl
some_entry (u ∷ l) t = refl

-- Alone there are none before it.
none_before : (l : List Placed) (a : Bool) {n : ℕ} → n ≡ length l → (eqb n 0 and not a) ≡ true → l ≡ []
none_before [] a c h = refl
none_before (t ∷ l) a c h = absurd (subst T (sym (sym (ap (λ (m : ℕ). eqb m 0 and not a) c ∙ ap (λ (b : Bool). b and not a) (eqb-suc-zero (length l))) ∙ h)) tt)

-- Nodes of a tag over a list, with a mark between their parts.
module _ (text W : List ℕ) (given : Given) (T : Reader) (mark tag : ℕ) (part : State → Result Placed) where
  -- What the reading is given.
  abbrev g : rule.Given
  g = given_of text W given

  -- The node over its parts.
  abbrev made : ℕ → ℕ → List Placed → Placed
  made f e l = tree tag f e (listed l)

  -- Where the loop stands at its head, in a node that began at a state.
  abbrev Turn : State → Was → Result Placed → Kids → Mark → (N M O : List ℕ) → Type 0
  Turn s B x k p N M O = ListTurn 0 (length W) B done (part_due g T mark made part s) x k.count k p N M O

  -- It begins, past a mark that may stand at m.
  pub parts_start : {x : Result Placed} {k : Kids} (m q : Mark) (N M O : List ℕ) → x ≡ then (part (past g mark (view m O))) (behind_part g T mark made part (view m O))
      → q ≡ past_mark W mark m → Moved (length W) m q → k ≡ no_kids → Turn (view m O) (was m N M O) x k q N M O
  parts_start m q N M O is q-is moved k-is =
      turn_starts m q k-is moved.used_is moved.named_is moved.noted_is
      (is ∙ ap (λ (s : State). then (part s) (behind_part g T mark made part (view m O)))
      (sym (ap (λ (p : Mark). view p O) q-is ∙ view_past text W given mark m O)))

  module _ (m : Mark) (O₀ : List ℕ) {B : Was} {x : Result Placed} {k : Kids} {p : Mark} {N M O : List ℕ} (w : Turn (view m O₀) B x k p N M O)
      {a : Answer} {N' M' O' : List ℕ} (says : Says 0 (was p N M O) (part (view p O)) a N' M' O') where
    -- The node began there.
    abbrev began : State
    began = view m O₀

    -- What is due behind a part.
    abbrev behind : ℕ → List Placed → Placed → State → Result Placed
    behind = behind_one g T mark made part began

    -- The end of the loop.
    abbrev finish : List Placed → State → Result Placed
    finish = end_parts g T mark made part began

    -- A part is refused.
    pub part_refused : (a.why ≡ 0 → ⊥) → Says 0 B x a N' M' O'
    part_refused z = says_stops (behind (suc w.fuel) w.list) says z w.is

    module _ (z : a.why ≡ 0) where
      -- It was read.
      abbrev one : Got 0 (was p N M O) (part (view p O)) a.high a.m N' M' O'
      one = says.done z

      -- The parts with it.
      abbrev more : List Placed
      more = w.list ++ (one.tree ∷ [])

      -- What is due behind it.
      read_one : x ≡ behind (suc w.fuel) w.list one.tree (view a.m O')
      read_one = w.is ∙ then_read_lem (behind (suc w.fuel) w.list) one.is

      -- It is linked.
      linked : {k' : Kids} {N'' : List ℕ} → Links k p.used a.m.used a.high N' k' N'' → length N ≡ length N' → BuiltAt B (runs 0 more) k' a.m N'' M' O'
      linked links same =
          built_more 0 done w.list one.tree a.m
          (links 0 B (runs 0 w.list) one.tree N M O M' O' p.named p.noted a.m.named a.m.noted w.built same
          one.stands.is_node one.stands.high_is one.stands.laid)

      -- A mark follows it, and one part more is due.
      goes_on_lem : here W mark a.m ≡ true → x ≡ part_due g T mark made part began w.fuel more (view (next_mark a.m) O')
      goes_on_lem h =
          read_one
          ∙ ap (λ (b : Bool). test b (λ _. read one.tree (view a.m O')) (λ _. parts_of g T mark made part began (suc w.fuel) more (view a.m O')))
          (not_last (no_entry w.list) (stands g mark began) h)
          ∙ ap (λ (y : Result (List Placed)). then y finish) (parts_more g mark part w.fuel more (view a.m O') h)
          ∙ then_then (part (view (next_mark a.m) O')) (λ t q. parts_from g mark part w.fuel (more ++ (t ∷ [])) q) finish
          ∙ then_same (part (view (next_mark a.m) O'))
          (λ t q. ap (λ (n : Bool). test (n and not (stands g mark began or stands g mark q)) (λ _. read t q)
          (λ _. parts_of g T mark made part began w.fuel (more ++ (t ∷ [])) q))
          (sym (some_entry w.list one.tree)))

      -- The loop is at its head again.
      pub parts_again : here W mark a.m ≡ true → {k' : Kids} {q : Mark} {N'' : List ℕ} → q ≡ next_mark a.m
          → Links k p.used a.m.used a.high N' k' N'' → k'.count ≡ k.count + 1 → length N ≡ length N' → p.at < length W → p.at ≤ a.m.at
          → Turn began B x k' q N'' M' O'
      parts_again h {k'} {q} {N''} q-is links count_is same i j =
          let less : w.fuel ≡ suc (w.fuel - 1) = omega (arith, w.enough) in
          let at_is : q.at ≡ a.m.at + 1 = ap (λ (y : Mark). y.at) q-is in
          subst (λ (y : Mark). Turn began B x k' y N'' M' O') (sym q-is)
          (record {
            list = more;
            fuel = w.fuel - 1;
            enough = omega (arith, w.enough);
            is = goes_on_lem h ∙ ap (λ (n : ℕ). part_due g T mark made part began n more (view (next_mark a.m) O')) less;
            each = all_more w.list w.each one.stands.is_node;
            many_is = omega (arith, count_is, w.many_is, length-append w.list (one.tree ∷ []));
            built = linked links same;
          })

      -- None follows: it is alone, or the node over all of them is put.
      pub parts_joined : here W mark a.m ≡ false → {r : Answer} {N'' : List ℕ} → Joins W given mark tag k p.used m N' a r N'' → length N ≡ length N' → B.named ≡ m.named
          → ((t : Placed) (l : List Placed) → AllNodes 0 (t ∷ l) → Shape 0 tag (listed (t ∷ l)) (runs 0 (t ∷ l)) (tag + 64 * length (t ∷ l)))
          → Says 0 B x r N'' M' O'
      parts_joined h {r} {N''} j same name_is shape = by j
        where
          -- What the test behind it comes to.
          tested : {b : Bool} → is_alone W mark k m ≡ b
              → x ≡ test b (λ _. read one.tree (view a.m O')) (λ _. parts_of g T mark made part began (suc w.fuel) more (view a.m O'))
          tested e =
              read_one
              ∙ ap (λ (b : Bool). test b (λ _. read one.tree (view a.m O')) (λ _. parts_of g T mark made part began (suc w.fuel) more (view a.m O')))
              (at_last w.list (here W mark m) h w.many_is e)

          -- Nothing stood before it.
          first_one : is_alone W mark k m ≡ true → Stands 0 B one.tree a.high a.m N' M' O'
          first_one e =
              record {
                is_node = one.stands.is_node;
                high_is = one.stands.high_is;
                laid =
                    laid_on []
                    (subst (λ (l : List Placed). BuiltAt B (runs 0 l) k p N M O) (none_before w.list (here W mark m) w.many_is e) w.built).laid
                    one.stands.laid;
              }

          -- There is at least one.
          over : (l : List Placed) (t : Placed) → AllNodes 0 (l ++ (t ∷ [])) → Shape 0 tag (listed (l ++ (t ∷ []))) (runs 0 (l ++ (t ∷ []))) (tag + 64 * length (l ++ (t ∷ [])))
          over [] t n = shape t [] n
          over (u ∷ l) t n = shape u (l ++ (t ∷ [])) n

          by : Joins W given mark tag k p.used m N' a r N'' → Says 0 B x r N'' M' O'
          by (alone e r-is n_is) =
              subst (λ (y : List ℕ). Says 0 B x r y M' O') (sym n_is)
              (says_as r-is (record { done = λ _. record { tree = one.tree; is = tested e; stands = first_one e }; refused = λ n. absurd (n z) }))
          by (joins e b first_is b-name l N₁ links count_is makes) =
              let many : l.count ≡ length more = omega (arith, count_is, w.many_is, length-append w.list (one.tree ∷ [])) in
              says_same
              (tested e ∙ then_read_lem finish (parts_end g mark part w.fuel more (view a.m O') h)
              ∙ ap (λ (y : ℕ). make g (y ∷ []) (made (first g began) (end g (view a.m O')) more) (view a.m O')) (sym many)
              ∙ ap (λ (y : ℕ). make g (l.count ∷ []) (made y (end g (view a.m O')) more) (view a.m O')) (sym first_is))
              (makes text B (runs 0 more) (listed more) M' O' (linked links same) (b-name ∙ sym name_is)
              (subst (λ (y : ℕ). Shape 0 tag (listed more) (runs 0 more) (tag + 64 * y)) (sym many)
              (over w.list one.tree (all_more w.list w.each one.stands.is_node))))
