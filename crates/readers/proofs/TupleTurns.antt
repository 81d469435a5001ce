-- The loop of a tuple's elements: where it begins, one element more, and each way out of it.
use mathlib.Core.Path.{◌≡◌, refl, sym, ap, ◌∙◌, subst}
use mathlib.Core.Bool.{true, false}
use mathlib.Core.List.{List, [], ◌∷◌, ◌++◌}
use Prim.Native.Nat.{ℕ, suc, ◌+◌, ◌-◌, ◌*◌, ◌≤◌, ◌<◌}
use native.Mathlib.Omega.{arith}
use lib.ListN.{length, length-append}
use Rattle.words.specs.Kind.{LBrack, RBrack}
use Rattle.keys.specs.Placed as node
use Rattle.keys.specs.Placed.{Placed, Opt, absent, listed}
use Rattle.keys.specs.Store.{done}
use Rattle.rules.specs.Refusal.{unexpected}
use Rattle.rules.specs.State as rule
use Rattle.rules.specs.State.{State, Result, Reader, read, refuse, then, kind, stands, first, end, make}
use Rattle.rules.specs.List.{list_from}
use Rattle.rules.specs.Tuple as tuple
use Rattle.marks.specs.State.{view, given_of, next_mark, Moved}
use Rattle.marks.specs.Laid.{runs, Was, was, BuiltAt, Stands, Shape}
use Rattle.marks.specs.Says.{Got}
use Rattle.marks.specs.Node.{Links}
use Rattle.marks.specs.List.{Follows, closes, goes, stops}
use Rattle.tuples.specs.Tuple.{LatestIs, Checks}
use Rattle.marks.proofs.ListLaws.{list_closed, list_refused, list_goes, list_stops}
use Rattle.marks.proofs.BuiltLaws.{built_none}
use Rattle.marks.proofs.LeafLaws.{no_kids}
use Rattle.marks.proofs.ShapeLaws.{all_more}
use Rattle.tuples.proofs.TupleLaws.{tuple_is, checked_read, checked_full, checked_refused, latest_behind, tuple_shape}
use Rattle.parts.proofs.Turns.{looped, built_more}
use Rattle.marks.specs.declared.state.Given.{Given}
use Rattle.marks.specs.declared.state.Mark.{Mark}
use Rattle.marks.specs.declared.state.Kids.{Kids}
use Rattle.marks.specs.Told.{Answer}
use Rattle.tuples.specs.Told.{Latest}
use Rattle.tuples.specs.Told.{Seen}
use Rattle.readers.proofs.MovedLaws.{built_moved}
use Rattle.readers.proofs.Loops.{TupleTurn, end_tuple}

-- Behind its bracket there is no element yet.
pub tuple_begins : (g : rule.Given) (T : Reader) (m : Mark) (N M O : List ℕ) {latest : Latest} {k : Kids} → k ≡ no_kids → latest.there ≡ false → kind g (view m O) ≡ LBrack
    → TupleTurn g T (view m O) (was m N M O) latest k (next_mark m) N M O
tuple_begins g T m N M O {latest} e l h =
    subst (λ (x : Kids). TupleTurn g T (view m O) (was m N M O) latest x (next_mark m) N M O) (sym e)
    (record {
      turn =
          record {
            list = [];
            fuel = length g.words;
            enough = omega arith;
            is = tuple_is g T (view m O) h;
            each = tt;
            many_is = refl;
            built = built_none m.used m.named m.noted N M O;
          };
      latest_is = l;
    })

module _ (text W : List ℕ) (given : Given) (T : Reader) (s : State) {B : Was} {latest : Latest} {k : Kids} {p : Mark} {N M O : List ℕ}
    (w : TupleTurn (given_of text W given) T s B latest k p N M O) where
  -- What the reading is given.
  abbrev g : rule.Given
  g = given_of text W given

  -- The elements so far.
  abbrev list : List Placed
  list = w.turn.list

  -- What is due with the elements so far.
  abbrev from : ℕ → List Placed → State → Result Placed
  from = looped g RBrack (tuple.checked_element g T) (end_tuple g T s)

  -- The list of the elements alone.
  abbrev elements : ℕ → List Placed → State → Result (List Placed)
  elements n l q = list_from g RBrack (tuple.checked_element g T) n l q

  -- The elements are refused.
  refused_so : {n i h : ℕ} → elements (suc w.turn.fuel) list (view p O) ≡ refuse n i h → tuple.tuple g T s ≡ refuse n i h
  refused_so e = w.turn.is ∙ ap (λ (y : Result (List Placed)). then y (end_tuple g T s)) e

  -- At its closing bracket: its node, whose first byte is b.
  pub tuple_closed : {b : ℕ} → b ≡ first g s → stands g RBrack (view p O) ≡ true
      → tuple.tuple g T s ≡ make g (k.count ∷ []) (node.tuple b (end g (view (next_mark p) O)) list) (view (next_mark p) O)
  tuple_closed {b} e h =
      w.turn.is ∙ ap (λ (y : Result (List Placed)). then y (end_tuple g T s)) (list_closed g RBrack (tuple.checked_element g T) w.turn.fuel list (view p O) h)
      ∙ ap (λ (n : ℕ). make g (n ∷ []) (node.tuple (first g s) (end g (view (next_mark p) O)) list) (view (next_mark p) O)) (sym w.turn.many_is)
      ∙ ap (λ (x : ℕ). make g (k.count ∷ []) (node.tuple x (end g (view (next_mark p) O)) list) (view (next_mark p) O)) (sym e)

  -- The shape of its list of elements.
  pub tuple_listed : Shape 0 19 (listed list) (runs 1 list) (19 + 64 * k.count)
  tuple_listed = subst (λ (n : ℕ). Shape 0 19 (listed list) (runs 1 list) (19 + 64 * n)) (sym w.turn.many_is) (tuple_shape list w.turn.each)

  module _ (z : stands g RBrack (view p O) ≡ false) where
    -- The element is refused.
    pub tuple_refused : {n i h : ℕ} → tuple.element g T (view p O) ≡ refuse n i h → tuple.tuple g T s ≡ refuse n i h
    tuple_refused e = refused_so (list_refused g RBrack (tuple.checked_element g T) w.turn.fuel list (view p O) z (checked_refused g T list (view p O) e))

    module _ {high : ℕ} {q : Mark} {N' M' O' : List ℕ} {r : Seen} {O'' : List ℕ}
        (got : Got 1 (was p N M O) (tuple.element g T (view p O)) high q N' M' O') (checks : Checks given latest q N' O' r O'') where
      -- The element.
      abbrev e : Placed
      e = got.tree

      -- The latest optional element before it.
      abbrev before : Opt Placed
      before = tuple.latest_optional list

      -- There is no record for diagnostic 4.
      pub tuple_full : (r.why ≡ 0 → ⊥) → tuple.tuple g T s ≡ refuse r.why r.m.at r.m.half
      tuple_full h =
          refused_so (list_refused g RBrack (tuple.checked_element g T) w.turn.fuel list (view p O) z
          (checked_full g T list (view p O) got.is
          (checks.refused h text W (was p N M O) before e high M' w.latest_is got.stands)))

      module _ (h : r.why ≡ 0) where
        -- The element is read, diagnostic 4 with it.
        checked_here : tuple.checked_element g T list (view p O) ≡ read e (view r.m O'')
        checked_here =
            checked_read g T list (view p O) got.is
            (checks.done h text W (was p N M O) before e high M' w.latest_is got.stands).0

        module _ {a : Answer} (f : Follows W RBrack r.m a) where
          -- Neither the bracket nor a comma follows it.
          pub tuple_stops : (a.why ≡ 0 → ⊥) → tuple.tuple g T s ≡ refuse a.why a.m.at a.m.half
          tuple_stops i = refused_so (list_stops g RBrack (tuple.checked_element g T) w.turn.fuel list (view p O) O'' f i z checked_here)

          -- One element more.
          pub tuple_again : {len : ℕ} {k' : Kids} {N'' : List ℕ} → a.why ≡ 0 → Moved len r.m a.m → p.at < length W → p.at ≤ r.m.at
              → Links k p.used r.m.used high N' k' N'' → k'.count ≡ k.count + 1 → length N ≡ length N'
              → TupleTurn g T s B r.latest k' a.m N'' M' O''
          tuple_again {len} {k'} {N''} i v j l links count same = by f refl
            where
              l' : List Placed
              l' = list ++ (e ∷ [])

              stands' : Stands 1 (was p N M O) e high r.m N' M' O''
              stands' = (checks.done h text W (was p N M O) before e high M' w.latest_is got.stands).2

              built : BuiltAt B (runs 1 l') k' a.m N'' M' O''
              built =
                  built_more 1 done list e a.m
                  (built_moved v (links 1 B (runs 1 list) e N M O M' O'' p.named p.noted r.m.named r.m.noted w.turn.built same
                  stands'.is_node stands'.high_is stands'.laid))

              next_is : (fuel : ℕ) → w.turn.fuel ≡ suc fuel → tuple.tuple g T s ≡ from (suc fuel) l' (view a.m O'')
              next_is fuel y =
                  w.turn.is ∙ ap (λ (x : ℕ). from (suc x) list (view p O)) y
                  ∙ ap (λ (x : Result (List Placed)). then x (end_tuple g T s))
                  (list_goes g RBrack (tuple.checked_element g T) fuel list (view p O) O'' f i z checked_here)

              one_less : w.turn.fuel ≡ suc (w.turn.fuel - 1)
              one_less = omega (arith, w.turn.enough)

              turn : (fuel : ℕ) → length W ≤ fuel + a.m.at → tuple.tuple g T s ≡ from (suc fuel) l' (view a.m O'')
                  → TupleTurn g T s B r.latest k' a.m N'' M' O''
              turn fuel y is =
                  record {
                    turn =
                        record {
                          list = l';
                          fuel = fuel;
                          enough = y;
                          is = is;
                          each = all_more list w.turn.each stands'.is_node;
                          many_is = omega (arith, count, w.turn.many_is, length-append list (e ∷ []));
                          built = built;
                        };
                    latest_is =
                        subst (λ (o : Opt Placed). LatestIs r.latest o) (sym (latest_behind absent list (e ∷ [])))
                        (checks.done h text W (was p N M O) before e high M' w.latest_is got.stands).1;
                  }

              by : (y : Follows W RBrack r.m a) → y ≡ f → TupleTurn g T s B r.latest k' a.m N'' M' O''
              by (closes c m) _ =
                  let is : tuple.tuple g T s ≡ from (suc (w.turn.fuel - 1)) l' (view a.m O'') = next_is (w.turn.fuel - 1) one_less in
                  let closed : stands g RBrack (view a.m O'') ≡ true = subst (λ (y : Answer). stands g RBrack (view y.m O'') ≡ true) (sym m) c in
                  turn (length W) (omega arith)
                  (is ∙ ap (λ (x : Result (List Placed)). then x (end_tuple g T s))
                  (list_closed g RBrack (tuple.checked_element g T) (w.turn.fuel - 1) l' (view a.m O'') closed
                  ∙ sym (list_closed g RBrack (tuple.checked_element g T) (length W) l' (view a.m O'') closed)))
              by (goes c d m) _ =
                  let at_is : a.m.at ≡ r.m.at + 1 = ap (λ (y : Answer). y.m.at) m in
                  turn (w.turn.fuel - 1) (omega (arith, w.turn.enough)) (next_is (w.turn.fuel - 1) one_less)
              by (stops c d m) _ = absurd (let x : unexpected ≡ 0 = sym (ap (λ (y : Answer). y.why) m) ∙ i in omega (arith, x))
