-- Mapped types: what is read is their head, the constraint, and what stands behind it.
use mathlib.Core.Path.{◌≡◌, refl, sym, ap, ◌∙◌}
use mathlib.Core.Bool.{Bool, true, false}
use mathlib.Core.List.{List, []}
use Prim.Native.Nat.{ℕ}
use native.Mathlib.Omega.{arith}
use borrow.Author.Tests.{eq-eqb}
use Rattle.words.specs.Kind.{LCurly, RCurly, LBrack, RBrack, Question, Colon, Semicolon, Minus, Plus, As, In, Readonly}
use Rattle.words.specs.Test.{test}
use Rattle.keys.specs.Placed as node
use Rattle.keys.specs.Placed.{Placed, Spelling, Opt, absent, present, number, spell, maybe, join}
use Rattle.keys.specs.Store.{◌⊕◌}
use Rattle.rules.specs.Refusal.{unexpected}
use Rattle.rules.specs.State.{Given, State, Result, Reader, read, refuse, refused, then, next, kind, stands, first, end, expect, optional, make}
use Rattle.rules.specs.Names.{binding_word}
use Rattle.rules.specs.Mapped.{modifier, mapped}
use Rattle.marks.specs.State.{view, given_of, next_mark, past_mark}
use Rattle.marks.specs.List.{here}
use Rattle.marks.proofs.StepLaws.{view_past}
use Rattle.marks.specs.Laid.{run_in, run_opt, name_run, IsNode, node as isNode, IsOpt, Shape, opt_bit}
use Rattle.marks.specs.Names.{one_name}
use Rattle.parts.specs.Mapped.{mapped_head, mapped_middle, mapped_choices, close_curly}
use Rattle.primaries.specs.Onward.{behind_constraint}
use Rattle.parts.proofs.RingLaws.{expect_yes}
use Rattle.marks.specs.declared.state.Given.{Given as Code}
use Rattle.marks.specs.declared.state.Mark.{Mark}

module _ (g : Given) (T : Reader) where
  -- A mapped type from its `{` on.
  pub mapped_step : (s : State) → kind g s ≡ LCurly
      → mapped g T s ≡ then (mapped_head g (next s)) λ x q. then (T true q) λ c q. behind_constraint g T (first g s) x.0 x.1 c q
  unfolding mapped binding_word behind_constraint
  mapped_step s e =
      ap (λ (t : Bool). test t (λ _. whole (next s)) (λ _. refused unexpected s)) (eq-eqb _ _ e) ∙ by_modifier (modifier g Readonly (next s))
    where
      on : ℕ × Spelling → State → Result Placed
      on x q = then (T true q) λ c q. behind_constraint g T (first g s) x.0 x.1 c q

      whole : State → Result Placed
      whole s =
          then (modifier g Readonly s) λ readonly q.
          expect g LBrack q λ q.
          then (binding_word g q) λ key q.
          expect g In q λ q.
          on (readonly, key) q

      by_in : (readonly : ℕ) (key : Spelling) (q : State) (a : Bool)
          → test a (λ _. on (readonly, key) (next q)) (λ _. refused unexpected q)
          ≡ then (test a (λ _. read (readonly, key) (next q)) (λ _. refused unexpected q)) on
      by_in readonly key q true = refl
      by_in readonly key q false = refl

      by_name : (readonly : ℕ) (x : Result Spelling)
          → then x (λ key q. expect g In q λ q. on (readonly, key) q)
          ≡ then (then x (λ key q. expect g In q λ q. read (readonly, key) q)) on
      by_name readonly (read key q) = by_in readonly key q (stands g In q)
      by_name readonly (refuse n i h) = refl

      by_bracket : (readonly : ℕ) (q : State) (a : Bool)
          → test a (λ _. then (one_name 0 g (next q)) λ key q. expect g In q λ q. on (readonly, key) q) (λ _. refused unexpected q)
          ≡ then (test a (λ _. then (one_name 0 g (next q)) λ key q. expect g In q λ q. read (readonly, key) q) (λ _. refused unexpected q)) on
      by_bracket readonly q true = by_name readonly (one_name 0 g (next q))
      by_bracket readonly q false = refl

      by_modifier : (x : Result ℕ)
          → then x (λ readonly q. expect g LBrack q λ q. then (one_name 0 g q) λ key q. expect g In q λ q. on (readonly, key) q)
          ≡ then (then x (λ readonly q. expect g LBrack q λ q. then (one_name 0 g q) λ key q. expect g In q λ q. read (readonly, key) q)) on
      by_modifier (read readonly q) = by_bracket readonly q (stands g LBrack q)
      by_modifier (refuse n i h) = refl

  -- What stands behind the constraint.
  pub behind_step : (b readonly : ℕ) (key : Spelling) (c : Placed) (s : State)
      → behind_constraint g T b readonly key c s
      ≡ then (optional g As (T true) s) λ n q. then (mapped_middle g q) λ question q. then (optional g Colon (T true) q) λ t q.
      close_curly g q λ q. make g [] (node.mapped b (end g q) readonly key c n question t) q
  unfolding behind_constraint
  behind_step b readonly key c s = by_name (optional g As (T true) s)
    where
      on : Opt Placed → ℕ → State → Result Placed
      on n question q = then (optional g Colon (T true) q) λ t q. close_curly g q λ q. make g [] (node.mapped b (end g q) readonly key c n question t) q

      by_bracket : (n : Opt Placed) (q : State) (a : Bool)
          → test a (λ _. then (modifier g Question (next q)) (on n)) (λ _. refused unexpected q)
          ≡ then (test a (λ _. modifier g Question (next q)) (λ _. refused unexpected q)) (on n)
      by_bracket n q true = refl
      by_bracket n q false = refl

      by_name : (x : Result (Opt Placed))
          → then x (λ n q. expect g RBrack q λ q. then (modifier g Question q) (on n)) ≡ then x (λ n q. then (mapped_middle g q) (on n))
      by_name (read n q) = by_bracket n q (stands g RBrack q)
      by_name (refuse m i h) = refl

-- ---- The head, by what its tests answer

module _ (g : Given) (k : ℕ) (s : State) where
  pub modifier_here : stands g k s ≡ true → modifier g k s ≡ read 1 (next s)
  unfolding modifier
  modifier_here e = rw e

  pub modifier_plus : stands g k s ≡ false → stands g Plus s ≡ true → modifier g k s ≡ expect g k (next s) (read 2)
  unfolding modifier
  modifier_plus e h = rw (e, h)

  pub modifier_minus : stands g k s ≡ false → stands g Plus s ≡ false → stands g Minus s ≡ true → modifier g k s ≡ expect g k (next s) (read 3)
  unfolding modifier
  modifier_minus e h i = rw (e, h, i)

  pub modifier_none : stands g k s ≡ false → stands g Plus s ≡ false → stands g Minus s ≡ false → modifier g k s ≡ read 0 s
  unfolding modifier
  modifier_none e h i = rw (e, h, i)

module _ (g : Given) (s p : State) (r : ℕ) (e : modifier g Readonly s ≡ read r p) where
  pub head_name : (n i h : ℕ) → stands g LBrack p ≡ true → one_name 0 g (next p) ≡ refuse n i h → mapped_head g s ≡ refuse n i h
  head_name n i h a b = rw (e, a, b)

  pub head_in : (key : Spelling) (q : State) → stands g LBrack p ≡ true → one_name 0 g (next p) ≡ read key q → stands g In q ≡ false → mapped_head g s ≡ refused unexpected q
  head_in key q a b c = rw (e, a, b, c)

  pub head_read : (key : Spelling) (q : State) → stands g LBrack p ≡ true → one_name 0 g (next p) ≡ read key q → stands g In q ≡ true → mapped_head g s ≡ read (r, key) (next q)
  head_read key q a b c = rw (e, a, b, c)

-- ---- The end, by what stands there

module _ (text W : List ℕ) (given : Code) (m p : Mark) (O : List ℕ) (on : State → Result Placed) (e : p ≡ past_mark W Semicolon m) where
  at_end : close_curly (given_of text W given) (view m O) on ≡ expect (given_of text W given) RCurly (view p O) on
  at_end = ap (λ (s : State). expect (given_of text W given) RCurly s on) (sym (ap (λ (q : Mark). view q O) e ∙ view_past text W given Semicolon m O))

  pub curly_taken : (q : Mark) → q ≡ next_mark p → here W RCurly p ≡ true → close_curly (given_of text W given) (view m O) on ≡ on (view q O)
  curly_taken q i h = at_end ∙ expect_yes (given_of text W given) RCurly (view p O) on h ∙ ap (λ (x : Mark). on (view x O)) (sym i)

-- ---- The node

-- What a mapped type's tag stands before.
abbrev pub mapped_content : ℕ → Spelling → Placed → Opt Placed → ℕ → Opt Placed → Placed
mapped_content readonly key c n question t = join (number readonly) (join (spell key) (join c (join (maybe n) (join (number question) (maybe t)))))

-- Its names, children and choices.
pub mapped_shape : (readonly : ℕ) (key : Spelling) {c : Placed} (n : Opt Placed) (question : ℕ) (t : Opt Placed) → IsNode 0 c → IsOpt 0 n → IsOpt 0 t
    → Shape 0 14 (mapped_content readonly key c n question t) (((name_run key ⊕ run_in 0 c) ⊕ run_opt 0 n) ⊕ run_opt 0 t) (mapped_choices readonly (opt_bit n) question (opt_bit t))
mapped_shape readonly key absent question absent (isNode a) h i = record { same = refl; choices_are = omega arith; allowed_is = tt }
mapped_shape readonly key absent question (present t) (isNode a) h (isNode c) =
    record { same = refl; choices_are = omega arith; allowed_is = tt }
mapped_shape readonly key (present n) question absent (isNode a) (isNode b) i =
    record { same = refl; choices_are = omega arith; allowed_is = tt }
mapped_shape readonly key (present n) question (present t) (isNode a) (isNode b) (isNode c) =
    record { same = refl; choices_are = omega arith; allowed_is = tt }
