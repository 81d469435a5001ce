-- Where a reader's loop stands at its head: what is still to be read is what the rule's loop gives of the parts so far, with fuel for each unread token.
use mathlib.Core.Path.{◌≡◌, refl, sym, ap, ◌∙◌, subst}
use mathlib.Core.Bool.{true, false}
use mathlib.Core.List.{List, [], ◌∷◌, ◌++◌}
use Prim.Native.Nat.{ℕ, suc, ◌+◌, ◌-◌, ◌≤◌, ◌<◌}
use native.Mathlib.Omega.{arith}
use lib.ListN.{length, length-append}
use Rattle.keys.specs.Placed.{Placed, Spelling}
use Rattle.keys.specs.Store.{Run, ◌⊕◌}
use Rattle.keys.proofs.StoreLaws.{join_join}
use Rattle.rules.specs.State.{Given, State, Result, read, then, stands}
use Rattle.rules.specs.List.{list_from}
use Rattle.marks.specs.State.{view}
use Rattle.marks.specs.Laid.{run_in, runs, name_run, IsNode, AllNodes, Was, BuiltAt, Stands}
use Rattle.marks.specs.List.{Follows, closes, goes, stops}
use Rattle.marks.proofs.RunLaws.{runs_more}
use Rattle.marks.proofs.ShapeLaws.{all_more}
use Rattle.marks.proofs.ListLaws.{list_goes, list_closed}
use Rattle.primaries.proofs.RingShapes.{piece_runs, AllPieces}
use Rattle.marks.specs.declared.state.Mark.{Mark}
use Rattle.marks.specs.declared.state.Kids.{Kids}
use Rattle.marks.specs.Told.{Answer}

-- A list of trees behind the run t.
pub record ListTurn {A : Type 0} (c len : ℕ) (B : Was) (t : Run) (L : ℕ → List Placed → State → Result A) (x : Result A) (many : ℕ) (k : Kids) (p : Mark) (N M O : List ℕ) : Type 0 where
  pub list : List Placed
  pub fuel : ℕ
  pub enough : len ≤ fuel + p.at
  pub is : x ≡ L (suc fuel) list (view p O)
  pub each : AllNodes c list
  pub many_is : many ≡ length list
  pub built : BuiltAt B (t ⊕ runs c list) k p N M O

-- A tree that grows at its root.
pub record TreeTurn (len : ℕ) (B : Was) (L : ℕ → Placed → State → Result Placed) (x : Result Placed) (high : ℕ) (p : Mark) (N M O : List ℕ) : Type 0 where
  pub tree : Placed
  pub fuel : ℕ
  pub enough : len ≤ fuel + p.at
  pub is : x ≡ L (suc fuel) tree (view p O)
  pub stands : Stands 0 B tree high p N M O

-- The types of a template, each with the name behind it, behind its first name.
pub record PieceTurn {A : Type 0} (len : ℕ) (B : Was) (s : Spelling) (L : ℕ → List (Placed × Spelling) → State → Result A) (x : Result A) (many : ℕ) (k : Kids) (p : Mark) (N M O : List ℕ) : Type 0 where
  pub list : List (Placed × Spelling)
  pub fuel : ℕ
  pub enough : len ≤ fuel + p.at
  pub is : x ≡ L (suc fuel) list (view p O)
  pub each : AllPieces list
  pub many_is : many ≡ length list
  pub built : BuiltAt B (name_run s ⊕ piece_runs list) k p N M O

-- One tree more in the run of a list.
pub built_more : (c : ℕ) {B : Was} (t : Run) (l : List Placed) (u : Placed) {k : Kids} (p : Mark) {N M O : List ℕ}
    → BuiltAt B ((t ⊕ runs c l) ⊕ run_in c u) k p N M O → BuiltAt B (t ⊕ runs c (l ++ (u ∷ []))) k p N M O
built_more c {B} t l u {k} p {N} {M} {O} b =
    subst (λ (r : Run). BuiltAt B r k p N M O) (join_join t (runs c l) (run_in c u) ∙ ap (λ (r : Run). t ⊕ r) (sym (runs_more c l u))) b

-- After an entry that was read the loop of a list stands at its head again.
module _ {A : Type 0} (g : Given) (close : ℕ) (entry : List Placed → State → Result Placed) (K : List Placed → State → Result A) where
  abbrev pub looped : ℕ → List Placed → State → Result A
  looped n l s = then (list_from g close entry n l s) K

  pub turn_list : (c : ℕ) {B : Was} (t : Run) {x : Result A} {k : Kids} {p : Mark} {N M O : List ℕ} {many : ℕ} (w : ListTurn c (length g.words) B t looped x many k p N M O)
      (k' : Kids) (q : Mark) (a : Answer) (N' M' O' : List ℕ) (u : Placed)
      → stands g close (view p O) ≡ false → entry w.list (view p O) ≡ read u (view q O') → Follows g.words close q a → a.why ≡ 0
      → p.at < length g.words → p.at ≤ q.at → IsNode c u
      → BuiltAt B ((t ⊕ runs c w.list) ⊕ run_in c u) k' a.m N' M' O'
      → ListTurn c (length g.words) B t looped x (many + 1) k' a.m N' M' O'
  turn_list c {B} t {x} {k} {p} {N} {M} {O} {many} w k' q a N' M' O' u z e f h i j n b = by f refl
    where
      l' : List Placed
      l' = w.list ++ (u ∷ [])

      next_is : (fuel : ℕ) → w.fuel ≡ suc fuel → x ≡ looped (suc fuel) l' (view a.m O')
      next_is fuel s =
          w.is ∙ ap (λ (y : ℕ). looped (suc y) w.list (view p O)) s
          ∙ ap (λ (y : Result (List Placed)). then y K) (list_goes g close entry fuel w.list (view p O) O' f h z e)

      one_less : w.fuel ≡ suc (w.fuel - 1)
      one_less = omega (arith, w.enough)

      turn : (fuel : ℕ) → length g.words ≤ fuel + a.m.at → x ≡ looped (suc fuel) l' (view a.m O') → ListTurn c (length g.words) B t looped x (many + 1) k' a.m N' M' O'
      turn fuel s y =
          record {
            list = l';
            fuel = fuel;
            enough = s;
            is = y;
            each = all_more w.list w.each n;
            many_is = omega (arith, w.many_is, length-append w.list (u ∷ []));
            built = built_more c t w.list u a.m b;
          }

      by : (y : Follows g.words close q a) → y ≡ f → ListTurn c (length g.words) B t looped x (many + 1) k' a.m N' M' O'
      by (closes s m) _ =
          let v : x ≡ looped (suc (w.fuel - 1)) l' (view a.m O') = next_is (w.fuel - 1) one_less in
          let closed : stands g close (view a.m O') ≡ true = subst (λ (y : Answer). stands g close (view y.m O') ≡ true) (sym m) s in
          turn (length g.words) (omega arith)
          (v ∙ ap (λ (y : Result (List Placed)). then y K) (list_closed g close entry (w.fuel - 1) l' (view a.m O') closed
          ∙ sym (list_closed g close entry (length g.words) l' (view a.m O') closed)))
      by (goes s y m) _ =
          let at_is : a.m.at ≡ q.at + 1 = ap (λ (y : Answer). y.m.at) m in
          turn (w.fuel - 1) (omega (arith, w.enough)) (next_is (w.fuel - 1) one_less)
      by (stops s y m) _ = absurd (let v : Rattle.rules.specs.Refusal.unexpected ≡ 0 = sym (ap (λ (y : Answer). y.why) m) ∙ h in omega (arith, v))
