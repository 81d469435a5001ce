-- Chains of prefixes: one prefix more before and behind, and where a chain ends.
use mathlib.Core.Path.{◌≡◌, refl, sym, ap, ap₂, ◌∙◌, subst}
use mathlib.Core.Bool.{Bool, true, false, not}
use mathlib.Core.List.{List, []}
use Prim.Native.Nat.{ℕ, zero, suc, ◌+◌, ◌-◌, ◌*◌, ◌≤◌, ◌<◌}
use native.Mathlib.Nat.{add-zero}
use native.Mathlib.Omega.{arith}
use lib.Dec.{eqb}
use lib.ListN.{length}
use Rattle.keys.specs.Limits.{tags}
use Rattle.words.specs.Test.{test, among}
use Rattle.words.specs.Kind.{Eof, LAngle, Eq, LtEq, ShiftLeft, ShiftLeftEq}
use Rattle.words.specs.Word.{start}
use Rattle.words.specs.Cursor.{word_at, whole_kind, second_half, kind_at, first_byte}
use Rattle.keys.proofs.BitsLaws.{clash}
use Rattle.keys.specs.Placed as node
use Rattle.keys.specs.Placed.{Placed, join, number}
use Rattle.rules.specs.State.{Given, State, Result, Reader, read, refuse, then, next, kind, end, make}
use Rattle.rules.specs.List.{position}
use Rattle.rules.specs.Operator.{operators, operand, operator_from, operator}
use Rattle.marks.specs.State.{view, given_of}
use Rattle.marks.specs.Laid.{run_in, IsNode, node as isNode, Was, Stands, Shape}
use Rattle.marks.specs.Says.{Says}
use Rattle.marks.specs.Node.{Makes}
use Rattle.marks.proofs.Answers.{says_read, says_same, says_stop}
use Rattle.marks.proofs.BuiltLaws.{built_one}
use Rattle.operators.specs.Operator.{operator_about, operators_about}
use Rattle.marks.specs.declared.state.Given.{Given as Code}
use Rattle.marks.specs.declared.state.Mark.{Mark}
use Rattle.marks.specs.declared.state.Begin.{Begin}
use Rattle.marks.specs.Told.{Answer}

-- One prefix more, next to what was read.
operators_more : (g : Given) (i n : ℕ) (x : Result Placed) → operators_about g i (suc n) x ≡ operators_about g i n (operator_about g (i + n) x)
unfolding operators_about
operators_more g i zero x = ap (λ (j : ℕ). operator_about g j x) (let e : i ≡ i + 0 = omega arith in e)
operators_more g i (suc n) x =
    ap (operator_about g i) (operators_more g (i + 1) n x)
    ∙ ap (λ (j : ℕ). operator_about g i (operators_about g (i + 1) n (operator_about g j x))) (let e : i + 1 + n ≡ i + suc n = omega arith in e)

operators_none : (g : Given) (i : ℕ) (x : Result Placed) → operators_about g i 0 x ≡ x
unfolding operators_about
operators_none g i x = refl

-- A refusal stands under any prefixes.
pub operators_refused : (g : Given) (i n a b c : ℕ) → operators_about g i n (refuse a b c) ≡ refuse a b c
unfolding operators_about
operators_refused g i zero a b c = refl
operators_refused g i (suc n) a b c = ap (operator_about g i) (operators_refused g (i + 1) n a b c)

-- No prefix is what is left of a split token.
no_half : (k : ℕ) → among operators (second_half k) ≡ false
no_half k = by (eqb k ShiftLeft) (eqb k LtEq) (eqb k ShiftLeftEq)
  where
    by : (a b c : Bool) → among operators (test a (λ _. LAngle) (λ _. test b (λ _. Eq) (λ _. test c (λ _. LtEq) (λ _. Eof)))) ≡ false
    by true b c = refl
    by false true c = refl
    by false false true = refl
    by false false false = refl

whole : (W : List ℕ) (at half : ℕ) → among operators (kind_at W at half) ≡ true → half ≡ 0
whole W at zero e = refl
whole W at (suc half) e = let z : true ≡ false = sym e ∙ no_half (whole_kind W at) in clash (cc)

-- The end of the list is no prefix.
pub operator_some : (k : ℕ) → among operators k ≡ true → 0 < k
operator_some zero e = clash (cc)
operator_some (suc k) e = omega arith

-- ---- Past them

module _ (g : Given) (T : Reader) (on : Bool) where
  -- A prefix stands here.
  operator_step : (n : ℕ) (s : State) → among operators (kind g s) ≡ true → operator_from g T on (suc n) s ≡ operator_about g s.at (operator_from g T on n (next s))
  unfolding operator_from
  operator_step n s e =
      ap (λ (b : Bool). test (not b) (λ _. operand g T on s) (λ _. about s.half)) e ∙ ap about (whole g.words s.at s.half e)
    where
      about : ℕ → Result Placed
      about h =
          then (operator_from g T on n (next s)) λ t q.
          make g [] (node.operator (first_byte g.words s.at h) (end g q) (position (kind_at g.words s.at h) operators) t) q

  -- None stands here.
  pub operator_end : (n : ℕ) (s : State) → among operators (kind g s) ≡ false → operator_from g T on (suc n) s ≡ operand g T on s
  unfolding operator_from
  operator_end n s e = rw e

  -- Past one prefix more.
  pub operators_past : (i : ℕ) (s : State) → i ≤ s.at → s.at < length g.words → among operators (kind g s) ≡ true
      → operators_about g i (s.at - i) (operator_from g T on (suc (length g.words - (s.at - i))) s)
      ≡ operators_about g i (s.at + 1 - i) (operator_from g T on (suc (length g.words - (s.at + 1 - i))) (next s))
  operators_past i s h l e =
      ap (operators_about g i (s.at - i)) (operator_step (length g.words - (s.at - i)) s e)
      ∙ ap (λ (j : ℕ). operators_about g i (s.at - i) (operator_about g j (operator_from g T on (length g.words - (s.at - i)) (next s)))) (let z : s.at ≡ i + (s.at - i) = omega arith in z)
      ∙ sym (operators_more g i (s.at - i) (operator_from g T on (length g.words - (s.at - i)) (next s)))
      ∙ ap (λ (j : ℕ). operators_about g i j (operator_from g T on (length g.words - (s.at - i)) (next s))) (let z : suc (s.at - i) ≡ s.at + 1 - i = omega arith in z)
      ∙ ap (λ (j : ℕ). operators_about g i (s.at + 1 - i) (operator_from g T on j (next s))) (let z : length g.words - (s.at - i) ≡ suc (length g.words - (s.at + 1 - i)) = omega arith in z)

  -- Before the first.
  pub operators_begin : (s : State) → operator g T on s ≡ operators_about g s.at (s.at - s.at) (operator_from g T on (suc (length g.words - (s.at - s.at))) s)
  unfolding operator
  operators_begin s =
      ap (λ (j : ℕ). operator_from g T on (suc j) s) (let z : length g.words ≡ length g.words - 0 = omega arith in z)
      ∙ sym (operators_none g s.at (operator_from g T on (suc (length g.words - 0)) s))
      ∙ ap (λ (j : ℕ). operators_about g s.at j (operator_from g T on (suc (length g.words - j)) s)) (let z : 0 ≡ s.at - s.at = omega arith in z)

-- ---- Nodes

-- One prefix, the last, is put about what was read; the others are left.
operators_turn : (g : Given) (from i : ℕ) (t : Placed) (s : State) → from < i
    → operators_about g from (i - from) (read t s) ≡ operators_about g from (i - 1 - from) (operator_about g (i - 1) (read t s))
operators_turn g from i t s h =
    ap (λ (j : ℕ). operators_about g from j (read t s)) (let z : i - from ≡ suc (i - 1 - from) = omega arith in z)
    ∙ operators_more g from (i - 1 - from) (read t s)
    ∙ ap (λ (j : ℕ). operators_about g from (i - 1 - from) (operator_about g j (read t s))) (let z : from + (i - 1 - from) ≡ i - 1 = omega arith in z)

-- None is left.
operators_last : (g : Given) (from i : ℕ) (x : Result Placed) → i ≤ from → operators_about g from (i - from) x ≡ x
operators_last g from i x h = ap (λ (j : ℕ). operators_about g from j x) (let z : i - from ≡ 0 = omega arith in z) ∙ operators_none g from x

-- A prefix's choice and child.
operator_shape : (k : ℕ) {t : Placed} → IsNode 0 t → Shape 0 11 (join (number k) t) (run_in 0 t) (11 + tags * k)
operator_shape k (isNode a) = record { same = refl; choices_are = omega arith; allowed_is = tt }

-- The node of a prefix about what stands is what the rules make.
pub operator_made : (W : List ℕ) (given : Code) (b : Begin) (choices high k i : ℕ) (p : Mark) (N : List ℕ) (a : Answer) (N' : List ℕ)
    → Makes W given b choices (record { first = p.used - 1; count = 1; high = high }) p N a N'
    → b.first ≡ start (word_at W i) → choices ≡ 11 + tags * k → k ≡ position (whole_kind W i) operators
    → (text : List ℕ) (B : Was) (t : Placed) (M O : List ℕ) → Stands 0 B t high p N M O → b.name ≡ B.named
    → Says 0 B (operator_about (given_of text W given) i (read t (view p O))) a N' M O
operator_made W given b choices high k i p N a N' f z e n text B t M O w m =
    says_same
    (ap₂ (λ (x y : ℕ). make (given_of text W given) [] (node.operator x (end (given_of text W given) (view p O)) y t) (view p O)) (add-zero (start (word_at W i)) ∙ sym z) (sym n))
    (f text 0 B (run_in 0 t) 11 (join (number k) t) M O (built_one [] w.is_node w.high_is w.laid) m
    (subst (λ (c : ℕ). Shape 0 11 (join (number k) t) (run_in 0 t) c) (sym e) (operator_shape k w.is_node)))

-- What is left: of so many prefixes about x some are put, the others are still to be put about what stands.
pub record Left (g : Given) (from all left : ℕ) (x : Result Placed) (B : Was) (high : ℕ) (p : Mark) (N M O : List ℕ) : Type 0 where
  pub tree : Placed
  pub is : operators_about g from all x ≡ operators_about g from left (read tree (view p O))
  pub stands : Stands 0 B tree high p N M O

module _ {g : Given} {from all : ℕ} (i : ℕ) {x : Result Placed} {B : Was} {high : ℕ} {p : Mark} {N M O : List ℕ} (v : Left g from all (i - from) x B high p N M O) where
  -- None is left.
  pub left_none : i ≤ from → Says 0 B (operators_about g from all x) (record { why = 0; high = high; m = p }) N M O
  left_none h = says_read (record { tree = v.tree; is = v.is ∙ operators_last g from i (read v.tree (view p O)) h; stands = v.stands })

  module _ (h : from < i) {a : Answer} {N' : List ℕ} (w : Says 0 B (operator_about g (i - 1) (read v.tree (view p O))) a N' M O) where
    -- The next one is refused.
    pub left_refused : (a.why ≡ 0 → ⊥) → Says 0 B (operators_about g from all x) a N' M O
    left_refused z =
        says_stop z
        (v.is ∙ operators_turn g from i v.tree (view p O) h ∙ ap (operators_about g from (i - 1 - from)) (w.refused z)
        ∙ operators_refused g from (i - 1 - from) a.why a.m.at a.m.half)

    -- The next one is put.
    pub left_put : a.why ≡ 0 → Left g from all (i - 1 - from) x B a.high a.m N' M O
    left_put z =
        record {
          tree = (w.done z).tree;
          is = v.is ∙ operators_turn g from i v.tree (view p O) h ∙ ap (operators_about g from (i - 1 - from)) (w.done z).is;
          stands = (w.done z).stands;
        }
