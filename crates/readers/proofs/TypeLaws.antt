-- Types, conditionals, optional types and brackets, as their readers take them.
use mathlib.Core.Path.{◌≡◌, sym, ap, ◌∙◌}
use mathlib.Core.Bool.{Bool, true, false}
use Prim.Native.Nat.{ℕ}
use Rattle.words.specs.Kind.{Question, Colon, Extends}
use Rattle.keys.specs.Placed.{Placed}
use Rattle.rules.specs.Refusal.{unexpected}
use Rattle.rules.specs.State.{Given, State, Reader, read, refused, next, stands, on_line, first}
use Rattle.rules.specs.TypeRule as type
use Rattle.rules.specs.Union as union
use Rattle.rules.specs.Primary as primary
use Rattle.primaries.specs.Onward.{behind_colon, behind_question}
use Rattle.primaries.specs.Primary.{close_parens}
use Rattle.marks.proofs.Answers.{then_read_lem}
use Rattle.parts.proofs.RingLaws.{expect_yes, expect_no, or_conditional, union_or, conditional_is, question_is}
use Rattle.primaries.proofs.PrimaryLaws.{brackets_is}

-- ---- Behind a union

module _ (g : Given) (T : Reader) (on : Bool) (s : State) {t : Placed} {q : State} (is : union.union g T on s ≡ read t q) where
  -- What the rule does with the union.
  behind_union : type.union_or_conditional g T on s ≡ or_conditional g T on s t q
  behind_union = union_or g T on s ∙ then_read_lem (or_conditional g T on s) is

  -- Conditionals are off.
  pub union_off : on ≡ false → type.union_or_conditional g T on s ≡ read t q
  union_off e = behind_union ∙ (rw e)

  -- What follows stands on another line.
  pub union_apart : on ≡ true → on_line g q ≡ false → type.union_or_conditional g T on s ≡ read t q
  union_apart e l = behind_union ∙ (rw (e, l))

  -- What follows is no `extends`.
  pub union_alone : on ≡ true → on_line g q ≡ true → stands g Extends q ≡ false → type.union_or_conditional g T on s ≡ read t q
  union_alone e l x = behind_union ∙ (rw (e, l, x))

  -- A conditional that begins at byte b.
  pub union_goes : (b : ℕ) → b ≡ first g s → on ≡ true → on_line g q ≡ true → stands g Extends q ≡ true → type.union_or_conditional g T on s ≡ type.conditional g T b t q
  union_goes b f e l x = behind_union ∙ (rw (e, l, x)) ∙ ap (λ (n : ℕ). type.conditional g T n t q) (sym f)

-- ---- The marks of a conditional

module _ (g : Given) (T : Reader) (b : ℕ) (t : Placed) where
  -- No `?` behind what is extended.
  pub question_none : (s : State) {x : Placed} {q : State} → T false (next s) ≡ read x q → stands g Question q ≡ false → type.conditional g T b t s ≡ refused unexpected q
  question_none s {x} {q} is e = conditional_is g T b t s ∙ then_read_lem _ is ∙ expect_no g Question q (behind_question g T b t x) e

  -- A `?` behind it.
  pub question_some : (s : State) {x : Placed} {q : State} → T false (next s) ≡ read x q → stands g Question q ≡ true
      → type.conditional g T b t s ≡ behind_question g T b t x (next q)
  question_some s {x} {q} is e = conditional_is g T b t s ∙ then_read_lem _ is ∙ expect_yes g Question q (behind_question g T b t x) e

  -- No `:` behind the type that follows the `?`.
  pub colon_none : (x : Placed) (s : State) {y : Placed} {q : State} → T true s ≡ read y q → stands g Colon q ≡ false → behind_question g T b t x s ≡ refused unexpected q
  colon_none x s {y} {q} is e = question_is g T b t x s ∙ then_read_lem _ is ∙ expect_no g Colon q (behind_colon g T b t x y) e

  -- A `:` behind it.
  pub colon_some : (x : Placed) (s : State) {y : Placed} {q : State} → T true s ≡ read y q → stands g Colon q ≡ true
      → behind_question g T b t x s ≡ behind_colon g T b t x y (next q)
  colon_some x s {y} {q} is e = question_is g T b t x s ∙ then_read_lem _ is ∙ expect_yes g Colon q (behind_colon g T b t x y) e

-- ---- Brackets

-- Brackets that begin at byte b.
pub brackets_from : (g : Given) (T : Reader) (s : State) {t : Placed} {q : State} (b : ℕ) → b ≡ first g s → T true (next s) ≡ read t q
    → primary.brackets g T s ≡ close_parens g b t q
brackets_from g T s {t} {q} b f is = brackets_is g T s ∙ then_read_lem _ is ∙ ap (λ (n : ℕ). close_parens g n t q) (sym f)
