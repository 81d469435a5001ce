-- The loop of an object type's members: where it begins, one member more, and each way out of it.
use mathlib.Core.Path.{◌≡◌, refl, sym, ap, ◌∙◌, subst}
use mathlib.Core.Bool.{true, false}
use mathlib.Core.List.{List, [], ◌∷◌, ◌++◌}
use Prim.Native.Nat.{ℕ, suc, ◌+◌, ◌-◌, ◌*◌, ◌≤◌, ◌<◌}
use native.Mathlib.Omega.{arith}
use lib.Dec.{leb-zero}
use lib.ListN.{length, length-append}
use Rattle.words.specs.Kind.{LCurly, RCurly}
use Rattle.keys.specs.Placed as node
use Rattle.keys.specs.Placed.{Placed, listed}
use Rattle.keys.specs.Store.{done}
use Rattle.rules.specs.State as rule
use Rattle.rules.specs.State.{State, Result, Reader, read, refuse, then, next, kind, stands, first, end, turns, make}
use Rattle.rules.specs.Object as object
use Rattle.marks.specs.State.{view, next_mark}
use Rattle.marks.specs.Laid.{runs, Was, was, Shape}
use Rattle.marks.specs.Says.{Got}
use Rattle.marks.specs.Node.{Links}
use Rattle.marks.proofs.Answers.{then_read_lem, then_refused}
use Rattle.marks.proofs.BuiltLaws.{built_none}
use Rattle.marks.proofs.LeafLaws.{no_kids}
use Rattle.marks.proofs.ShapeLaws.{all_more, shape_list}
use Rattle.parts.proofs.Turns.{built_more}
use Rattle.marks.specs.declared.state.Mark.{Mark}
use Rattle.marks.specs.declared.state.Kids.{Kids}
use Rattle.readers.proofs.Loops.{MembersTurn, members_of, end_object}

-- At its bracket: its members, and its node.
object_is : (g : rule.Given) (T : Reader) (s : State) → kind g s ≡ LCurly → object.object g T s ≡ members_of g T s (turns g) [] (next s)
unfolding object.object
object_is g T s e = rw e

-- Behind its bracket there is no member yet.
pub object_begins : (g : rule.Given) (T : Reader) (m : Mark) (N M O : List ℕ) {k : Kids} → k ≡ no_kids → kind g (view m O) ≡ LCurly
    → MembersTurn g T (view m O) (was m N M O) k (next_mark m) N M O
object_begins g T m N M O e h =
    subst (λ (x : Kids). MembersTurn g T (view m O) (was m N M O) x (next_mark m) N M O) (sym e)
    (record {
      list = [];
      fuel = length g.words;
      enough = omega arith;
      is = object_is g T (view m O) h;
      each = tt;
      many_is = refl;
      built = built_none m.used m.named m.noted N M O;
    })

module _ (g : rule.Given) (T : Reader) (n : ℕ) (l : List Placed) (s : State) where
  -- At the closing bracket the members are whole.
  members_closed : stands g RCurly s ≡ true → object.members_from g T (suc n) l s ≡ read l (next s)
  unfolding object.members_from
  members_closed c = rw c

  -- Else one more is due.
  members_more : stands g RCurly s ≡ false → object.members_from g T (suc n) l s ≡ then (object.member g T s) (λ t q. object.members_from g T n (l ++ (t ∷ [])) q)
  unfolding object.members_from
  members_more c = rw c

module _ (g : rule.Given) (T : Reader) (s : State) {B : Was} {k : Kids} {p : Mark} {N M O : List ℕ} (w : MembersTurn g T s B k p N M O) where
  -- At its closing bracket: its node, whose first byte is b.
  pub object_closed : {b : ℕ} → b ≡ first g s → stands g RCurly (view p O) ≡ true
      → object.object g T s ≡ make g (k.count ∷ []) (node.object b (end g (view (next_mark p) O)) w.list) (view (next_mark p) O)
  object_closed {b} e h =
      w.is ∙ then_read_lem (end_object g T s) (members_closed g T w.fuel w.list (view p O) h)
      ∙ ap (λ (n : ℕ). make g (n ∷ []) (node.object (first g s) (end g (view (next_mark p) O)) w.list) (view (next_mark p) O)) (sym w.many_is)
      ∙ ap (λ (x : ℕ). make g (k.count ∷ []) (node.object x (end g (view (next_mark p) O)) w.list) (view (next_mark p) O)) (sym e)

  -- The shape of its list of members.
  pub object_listed : Shape 0 25 (listed w.list) (runs 6 w.list) (25 + 64 * k.count)
  object_listed =
      subst (λ (n : ℕ). Shape 0 25 (listed w.list) (runs 6 w.list) (25 + 64 * n)) (sym w.many_is)
      (shape_list 25 6 0 w.list refl tt (leb-zero (length w.list)) w.each)

  module _ (z : stands g RCurly (view p O) ≡ false) where
    -- The member is refused.
    pub object_refused : {n i h : ℕ} → object.member g T (view p O) ≡ refuse n i h → object.object g T s ≡ refuse n i h
    object_refused e =
        w.is
        ∙ then_refused (end_object g T s)
        (members_more g T w.fuel w.list (view p O) z ∙ then_refused (λ t q. object.members_from g T w.fuel (w.list ++ (t ∷ [])) q) e)

    -- One member more.
    pub object_again : {high : ℕ} {q : Mark} {N' M' O' : List ℕ} {k' : Kids} {N'' : List ℕ}
        → (got : Got 6 (was p N M O) (object.member g T (view p O)) high q N' M' O') → p.at < q.at → q.at ≤ length g.words
        → Links k p.used q.used high N' k' N'' → k'.count ≡ k.count + 1 → length N ≡ length N'
        → MembersTurn g T s B k' q N'' M' O'
    object_again {q = q} {M' = M'} {O' = O'} got i j links count same =
        let l' : List Placed = w.list ++ (got.tree ∷ []) in
        let one_less : w.fuel ≡ suc (w.fuel - 1) = omega (arith, w.enough) in
        record {
          list = l';
          fuel = w.fuel - 1;
          enough = omega (arith, w.enough);
          is =
              w.is
              ∙ ap (λ (x : Result (List Placed)). then x (end_object g T s))
              (members_more g T w.fuel w.list (view p O) z ∙ then_read_lem (λ t q. object.members_from g T w.fuel (w.list ++ (t ∷ [])) q) got.is
              ∙ ap (λ (n : ℕ). object.members_from g T n l' (view q O')) one_less);
          each = all_more w.list w.each got.stands.is_node;
          many_is = omega (arith, count, w.many_is, length-append w.list (got.tree ∷ []));
          built =
              built_more 6 done w.list got.tree q
              (links 6 B (runs 6 w.list) got.tree N M O M' O' p.named p.noted q.named q.noted w.built same
              got.stands.is_node got.stands.high_is got.stands.laid);
        }
