-- Primary types step by step: what the rule comes to by what its tests answer, and the shapes of the nodes that hold no type.
use mathlib.Core.Path.{◌≡◌, refl, sym, ap, ◌∙◌, subst}
use mathlib.Core.Bool.{Bool, true, false, not}
use mathlib.Core.List.{List, [], ◌∷◌}
use mathlib.Core.Logic.{◌⊎◌, inl, inr}
use Prim.Native.Nat.{ℕ, ◌+◌, ◌*◌, ◌<◌}
use native.Mathlib.Omega.{arith}
use lib.ListN.{length}
use lib.Dec.{eqb}
use borrow.Author.Tests.{eq-eqb, ne_eqb, eqb-true}
use Rattle.keys.specs.Limits.{tags}
use Rattle.words.specs.Test.{◌and◌, ◌or◌, between, among}
use Rattle.words.specs.Cursor.{kind_at}
use Rattle.words.specs.Class as class
use Rattle.words.specs.Ahead.{mapped_start}
use Rattle.words.specs.Kind.{Str, NumberLiteral, BigIntLiteral, LCurly, LBrack, LParen, RParen, Dot, Question, Bang, Star, Minus, Any, Unknown, Null, Void, True, False, Asserts, NoSubstitutionTemplate, TemplateHead, Typeof, Import, Is, This}
use Rattle.keys.specs.Placed as node
use Rattle.keys.specs.Placed.{Placed, tree, Spelling, spell, number, pick, join, void, literal_spelling, absent, present}
use Rattle.keys.specs.Key.{node_table}
use Rattle.keys.specs.Store.{done, plant, packed}
use Rattle.rules.specs.Refusal.{unexpected, prefix_mark}
use Rattle.rules.specs.State.{Given, State, Result, read, Reader, refused, then, next, kind, kind_after, stands, next_on_line, first, end, spelling, make}
use Rattle.rules.specs.List.{position}
use Rattle.rules.specs.Function.{subject, predicates, return_type}
use Rattle.rules.specs.Mapped.{mapped}
use Rattle.rules.specs.Object.{object}
use Rattle.rules.specs.Tuple.{tuple}
use Rattle.rules.specs.Template.{pieces, template}
use Rattle.rules.specs.Primary as rule
use Rattle.rules.proofs.TokenLaws.{both_true}
use Rattle.marks.specs.Laid.{name_run, run_in, IsNode, Shape}
use Rattle.primaries.specs.Primary.{is_literal, close_parens, literal_choices}
use Rattle.primaries.specs.Onward.{predicate, name_at, literal_at, StartAs}
use Rattle.marks.specs.State.{AnyGiven}
use Rattle.marks.specs.List.{here}
use Rattle.marks.proofs.Answers.{then_then}
use Rattle.marks.proofs.ShapeLaws.{packed_node, shows}
use Rattle.marks.proofs.MarkLaws.{kind_inside}
use Rattle.primaries.proofs.RingShapes.{shape_template}
use Rattle.marks.specs.declared.state.Mark.{Mark}
use Rattle.std.specs.Prelude as std
use Rattle.words.specs.declared.refusal.Refusal.{Refusal}
use Rattle.primaries.specs.declared.primary.Start.{Start}

-- ---- Tests

never : true ≡ false → ⊥
never z = let i : ◌≡◌ {A = ℕ} 0 1 = cc in omega arith

-- A test that does not hold of a number does not hold of those that it is.
other_kind : (f : ℕ → Bool) (k n : ℕ) → f n ≡ false → f k ≡ true → eqb k n ≡ false
other_kind f k n x h = ne_eqb k n (λ e. never (sym h ∙ ap f e ∙ x))

-- Three tests of which the first holds, the other two turned round.
turned : (a b c x : Bool) → a ≡ true → (a and b and c) ≡ x → (c and b) ≡ x
turned a b c x e h = go b c (ap (λ (y : Bool). y and b and c) (sym e) ∙ h)
  where
    go : (b c : Bool) → (b and c) ≡ x → (c and b) ≡ x
    go true true h = h
    go true false h = h
    go false true h = h
    go false false h = h

-- ---- Kinds

-- A kind that was read is a kind of the text, or not.
pub eq_at : {k h : ℕ} (n : ℕ) → k ≡ h → k ≡ n → eqb h n ≡ true
eq_at {k} {h} n e z = eq-eqb h n (sym e ∙ z)

pub ne_at : {k h : ℕ} (n : ℕ) → k ≡ h → (k ≡ n → ⊥) → eqb h n ≡ false
ne_at {k} {h} n e z = ne_eqb h n (λ y. z (e ∙ y))

-- Whether a keyword stands, by the kind here and the next one.
abbrev pub keyword_by : ℕ → ℕ → Bool
keyword_by k n = (between Any Unknown k and not (eqb n Dot)) or among (Null ∷ Void ∷ []) k

-- Which tokens are there for sure.
module _ (g : Given) (s : State) where
  pub keyword_inside : rule.is_keyword g s ≡ true → s.at < length g.words
  keyword_inside h = kind_inside (λ k. keyword_by k (kind_after g 1 s)) g.words s.at s.half refl h

  pub negative_inside : rule.is_negative g s ≡ true → s.at + 1 < length g.words
  negative_inside h = kind_inside (among (NumberLiteral ∷ BigIntLiteral ∷ [])) g.words (s.at + 1) 0 refl (both_true (stands g Minus s) _ h).1

  pub assertion_inside : rule.is_assertion g s ≡ true → s.at + 1 < length g.words
  assertion_inside h = kind_inside class.name g.words (s.at + 1) 0 refl (both_true (class.name (kind_after g 1 s)) _ (both_true (stands g Asserts s) _ h).1).0

-- No sign stands where a test holds that it does not pass.
pub minus_off : (f : ℕ → Bool) (W : List ℕ) (m : Mark) → f Minus ≡ false → f (kind_at W m.at m.half) ≡ true → here W Minus m ≡ true → ⊥
minus_off f W m z h e = never (sym h ∙ ap f (eqb-true (kind_at W m.at m.half) Minus e) ∙ z)

-- Tests speak of tokens and a mark alone, so any room will do.
abbrev pub no_given : AnyGiven
no_given = record { room = 0; records = 0; parens = false; left = 0 }

-- What begins here under one rule begins so under a rule that comes to the same.
pub start_from : {x y : Result Placed} (r : std.Result Start Refusal) (g : Given) (T : Reader) (s : State) → y ≡ x → StartAs x r g T s → StartAs y r g T s
start_from r g T s e w = subst (λ (z : Result Placed). StartAs z r g T s) (sym e) w

pub some_mark : (k : ℕ) → (k ≡ Question) ⊎ ((k ≡ Bang) ⊎ (k ≡ Star)) → among (Question ∷ Bang ∷ Star ∷ []) k ≡ true
some_mark k (inl e) = rw e
some_mark k (inr (inl e)) = rw e
some_mark k (inr (inr e)) = rw e

pub no_mark : (k : ℕ) → (k ≡ Question → ⊥) → (k ≡ Bang → ⊥) → (k ≡ Star → ⊥) → among (Question ∷ Bang ∷ Star ∷ []) k ≡ false
no_mark k a b c = rw (ne_eqb k Question a, ne_eqb k Bang b, ne_eqb k Star c)

module _ (g : Given) (T : Reader) (s : State) where
  -- ---- Primary

  pub primary_keyword : rule.is_keyword g s ≡ true → rule.primary g T s ≡ rule.keyword g s
  unfolding rule.primary
  primary_keyword k = rw k

  pub primary_this : rule.is_keyword g s ≡ false → stands g This s ≡ true → rule.primary g T s ≡ rule.this g T s
  unfolding rule.primary
  primary_this k t = rw (k, t)

  pub primary_literal : rule.is_keyword g s ≡ false → stands g This s ≡ false → among rule.literals (kind g s) ≡ true → rule.primary g T s ≡ rule.literal g s
  unfolding rule.primary
  primary_literal k t l = rw (k, t, l)

  pub primary_negative : rule.is_keyword g s ≡ false → stands g This s ≡ false → among rule.literals (kind g s) ≡ false → rule.is_negative g s ≡ true
      → rule.primary g T s ≡ rule.negative g s
  unfolding rule.primary
  primary_negative k t l n = rw (k, t, l, n)

  pub primary_worded : rule.is_keyword g s ≡ false → stands g This s ≡ false → among rule.literals (kind g s) ≡ false → rule.is_negative g s ≡ false
      → rule.primary g T s ≡ rule.worded g T s
  unfolding rule.primary
  primary_worded k t l n = rw (k, t, l, n)

  -- ---- This

  pub this_alone : stands g This s ≡ true → predicates g s ≡ false → rule.this g T s ≡ rule.keyword g s
  unfolding rule.this
  this_alone t p = rw (turned (class.name (kind g s)) (eqb (kind_after g 1 s) Is) (next_on_line g s) false (this_name t) p)
    where
      this_name : stands g This s ≡ true → class.name (kind g s) ≡ true
      this_name t = ap class.name (eqb-true (kind g s) This t)

  -- A predicate's second word.
  asked : predicates g s ≡ true → stands g Is (next s) ≡ true
  asked p = (both_true (eqb (kind_after g 1 s) Is) (next_on_line g s) (both_true (class.name (kind g s)) (eqb (kind_after g 1 s) Is and next_on_line g s) p).1).0

  -- A `this` that is said to be something on its line is a predicate about it.
  pub this_predicate : stands g This s ≡ true → predicates g s ≡ true → rule.this g T s ≡ predicate g T false s
  unfolding rule.this predicate
  this_predicate t p =
      rw (turned (class.name (kind g s)) (eqb (kind_after g 1 s) Is) (next_on_line g s) true (ap class.name (eqb-true (kind g s) This t)) p)
      (sym (rw (asked p, t) (then_then (T true (next (next s))) (λ t q. read (present t) q) (λ t q. make g [] (node.predicate (first g s) (end g q) false absent t) q))))

  -- ---- Function: its return type

  pub return_type_lem : predicates g s ≡ false → return_type g T s ≡ T true s
  unfolding return_type
  return_type_lem p = rw p

  pub return_predicate : predicates g s ≡ true → return_type g T s ≡ predicate g T false s
  unfolding return_type predicate
  return_predicate p =
      rw p
      (sym (rw (asked p) (then_then (T true (next (next s))) (λ t q. read (present t) q) (λ t q. make g [] (node.predicate (first g s) (end g q) false (subject g s) t) q))))

  -- ---- Literals

  pub literal_at_lem : among rule.literals (kind g s) ≡ true → literal_at g s ≡ rule.literal g s
  unfolding literal_at
  literal_at_lem l =
      rw (other_kind (among rule.literals) (kind g s) NoSubstitutionTemplate refl l, other_kind (among rule.literals) (kind g s) Minus refl l)

  pub negative_at : rule.is_negative g s ≡ true → literal_at g s ≡ rule.negative g s
  unfolding literal_at
  negative_at n =
      let m : stands g Minus s ≡ true = (both_true (stands g Minus s) _ n).0 in
      rw (other_kind (λ k. eqb k Minus) (kind g s) NoSubstitutionTemplate refl m, m)

  pub template-at : stands g NoSubstitutionTemplate s ≡ true → literal_at g s ≡ template g T s
  unfolding literal_at template pieces
  template-at t = rw t

  pub literal_here : among rule.literals (kind g s) ≡ true → is_literal g s ≡ true
  literal_here l = rw l

  pub negative_here : rule.is_negative g s ≡ true → is_literal g s ≡ true
  negative_here n = go (among rule.literals (kind g s)) (rule.is_negative g s) n
    where
      go : (a b : Bool) → b ≡ true → (a or b or stands g NoSubstitutionTemplate s) ≡ true
      go true b h = refl
      go false b h = rw h

  pub template_here : stands g NoSubstitutionTemplate s ≡ true → is_literal g s ≡ true
  template_here n = go (among rule.literals (kind g s)) (rule.is_negative g s)
    where
      go : (a b : Bool) → (a or b or stands g NoSubstitutionTemplate s) ≡ true
      go true b = refl
      go false true = refl
      go false false = n

  -- ---- Words and what is enclosed

  pub worded_assertion : rule.is_assertion g s ≡ true → rule.worded g T s ≡ predicate g T true s
  unfolding rule.worded rule.assertion predicate
  worded_assertion a = rw a

  pub worded_typeof : rule.is_assertion g s ≡ false → stands g Typeof s ≡ true → rule.worded g T s ≡ name_at g T s
  unfolding rule.worded name_at
  worded_typeof a t = rw (a, t)

  pub worded_import : rule.is_assertion g s ≡ false → stands g Typeof s ≡ false → stands g Import s ≡ true → rule.worded g T s ≡ name_at g T s
  unfolding rule.worded name_at
  worded_import a t i = rw (a, t, i)

  pub worded_enclosed : rule.is_assertion g s ≡ false → stands g Typeof s ≡ false → stands g Import s ≡ false → rule.worded g T s ≡ rule.enclosed g T s
  unfolding rule.worded
  worded_enclosed a t i = rw (a, t, i)

  pub enclosed_mapped : kind g s ≡ LCurly → mapped_start g.words s.at ≡ true → rule.enclosed g T s ≡ mapped g T s
  unfolding rule.enclosed rule.curly
  enclosed_mapped k m = rw (k, m)

  pub enclosed_curly : kind g s ≡ LCurly → mapped_start g.words s.at ≡ false → rule.enclosed g T s ≡ object g T s
  unfolding rule.enclosed rule.curly
  enclosed_curly k m = rw (k, m)

  pub enclosed_tuple : kind g s ≡ LBrack → rule.enclosed g T s ≡ tuple g T s
  unfolding rule.enclosed
  enclosed_tuple k = rw k

  pub enclosed_parens : kind g s ≡ LParen → rule.enclosed g T s ≡ rule.brackets g T s
  unfolding rule.enclosed
  enclosed_parens k = rw k

  pub enclosed_whole : kind g s ≡ NoSubstitutionTemplate → rule.enclosed g T s ≡ literal_at g s
  unfolding rule.enclosed
  enclosed_whole k = rw k (sym (template-at (ap (λ (n : ℕ). eqb n NoSubstitutionTemplate) k)))

  pub enclosed_template : kind g s ≡ TemplateHead → rule.enclosed g T s ≡ template g T s
  unfolding rule.enclosed
  enclosed_template k = rw k

  pub enclosed_other : (kind g s ≡ LCurly → ⊥) → (kind g s ≡ LBrack → ⊥) → (kind g s ≡ LParen → ⊥) → (kind g s ≡ NoSubstitutionTemplate → ⊥) → (kind g s ≡ TemplateHead → ⊥)
      → rule.enclosed g T s ≡ rule.reference g T s
  unfolding rule.enclosed
  enclosed_other a b c d e = rw (ne_eqb _ _ a, ne_eqb _ _ b, ne_eqb _ _ c, ne_eqb _ _ d, ne_eqb _ _ e)

  pub reference_name : class.binding_word (kind g s) ≡ true → rule.reference g T s ≡ name_at g T s
  unfolding rule.reference name_at
  reference_name b = rw (b, other_kind class.binding_word (kind g s) Typeof refl b, other_kind class.binding_word (kind g s) Import refl b)

  pub reference_marked : class.binding_word (kind g s) ≡ false → among (Question ∷ Bang ∷ Star ∷ []) (kind g s) ≡ true → rule.reference g T s ≡ refused prefix_mark s
  unfolding rule.reference
  reference_marked b m = rw (b, m)

  pub reference_none : class.binding_word (kind g s) ≡ false → among (Question ∷ Bang ∷ Star ∷ []) (kind g s) ≡ false → rule.reference g T s ≡ refused unexpected s
  unfolding rule.reference
  reference_none b m = rw (b, m)

  -- ---- Brackets

  pub brackets_is : rule.brackets g T s ≡ then (T true (next s)) (λ t q. close_parens g (first g s) t q)
  unfolding rule.brackets
  brackets_is = refl

-- From a `)` on, with a node of its own and without.
module _ (g : Given) (b : ℕ) (t : Placed) (s : State) (e : stands g RParen s ≡ true) where
  pub parens_kept : g.parens ≡ true → close_parens g b t s ≡ make g [] (node.parens b (end g (next s)) t) (next s)
  parens_kept p = rw (e, p)

-- ---- Shapes

pub shape_keyword : (k : ℕ) → Shape 0 2 (number k) done (2 + tags * k)
shape_keyword k = record { same = refl; choices_are = omega arith; allowed_is = shows (packed (plant node_table (node_table.row 0 2) (number k) done)) k (omega arith) }

-- A literal that is spelled, and true or false.
pub shape_literal : (k : ℕ) (s : Spelling) → Shape 0 3 (pick k (literal_spelling (present s))) (name_run s) (3 + tags * k)
shape_literal k s = record { same = refl; choices_are = omega arith; allowed_is = tt }

pub shape_truth : (k : ℕ) → Shape 0 3 (pick k (literal_spelling absent)) done (3 + tags * k)
shape_truth k = record { same = refl; choices_are = omega arith; allowed_is = tt }

pub shape_parens : {u : Placed} → IsNode 0 u → Shape 0 4 u (run_in 0 u) 4
shape_parens n = record { same = refl; choices_are = omega (arith, packed_node done n); allowed_is = tt }

-- ---- Literals as nodes of one name

-- A reading is a node over the one name at the cursor, with such choices.
pub record OneName (g : Given) (s : State) (x : Result Placed) (choices : ℕ) : Type 0 where
  pub tag : ℕ
  pub holds : Placed
  pub is : x ≡ make g [] (tree tag (first g s) (end g (next s)) holds) (next s)
  pub shape : Shape 0 tag holds (name_run (spelling g s)) choices

module _ (g : Given) (s : State) where
  pub keyword_is : rule.keyword g s ≡ make g [] (node.keyword (first g s) (end g (next s)) (position (kind g s) rule.keywords)) (next s)
  unfolding rule.keyword
  keyword_is = refl

  pub negative_is : rule.negative g s ≡ make g [] (node.literal (first g s) (end g (next (next s))) (rule.negated (kind g (next s))) (present (spelling g (next s)))) (next (next s))
  unfolding rule.negative
  negative_is = refl

  pub literal_true : kind g s ≡ True → literal_at g s ≡ make g [] (node.literal (first g s) (end g (next s)) 3 absent) (next s)
  unfolding literal_at rule.literal
  literal_true k = rw k

  pub literal_false : kind g s ≡ False → literal_at g s ≡ make g [] (node.literal (first g s) (end g (next s)) 4 absent) (next s)
  unfolding literal_at rule.literal
  literal_false k = rw k

  pub literal_minus : kind g s ≡ Minus → literal_at g s ≡ rule.negative g s
  unfolding literal_at
  literal_minus k = rw k

  -- What a literal's sign stands before.
  pub minus_next : kind g s ≡ Minus → is_literal g s ≡ true → among (NumberLiteral ∷ BigIntLiteral ∷ []) (kind_after g 1 s) ≡ true
  minus_next k l = go (among (NumberLiteral ∷ BigIntLiteral ∷ []) (kind_after g 1 s)) (sym (rw k) ∙ l)
    where
      go : (b : Bool) → (b or false) ≡ true → b ≡ true
      go true h = refl
      go false h = h

  named_literal : among (Str ∷ NumberLiteral ∷ BigIntLiteral ∷ []) (kind g s) ≡ true → OneName g s (literal_at g s) (literal_choices (kind g s))
  unfolding literal_at rule.literal
  named_literal l =
      record {
        tag = 3;
        holds = pick (position (kind g s) rule.literals) (literal_spelling (present (spelling g s)));
        is = rw (off NoSubstitutionTemplate refl, off Minus refl, off True refl, off False refl);
        shape = rw l (shape_literal (position (kind g s) rule.literals) (spelling g s));
      }
    where
      off : (n : ℕ) → among (Str ∷ NumberLiteral ∷ BigIntLiteral ∷ []) n ≡ false → eqb (kind g s) n ≡ false
      off n x = other_kind (among (Str ∷ NumberLiteral ∷ BigIntLiteral ∷ [])) (kind g s) n x l

  named_template : among (Str ∷ NumberLiteral ∷ BigIntLiteral ∷ []) (kind g s) ≡ false → stands g NoSubstitutionTemplate s ≡ true → OneName g s (literal_at g s) (literal_choices (kind g s))
  unfolding literal_at make
  named_template l t =
      record {
        tag = 15;
        holds = pick 0 (join (spell (spelling g s)) void);
        is = rw t;
        shape = rw l (shape_template (spelling g s) [] tt);
      }

  -- A literal that is spelled with no sign, or a template with no type.
  pub literal_named : is_literal g s ≡ true → (kind g s ≡ True → ⊥) → (kind g s ≡ False → ⊥) → (kind g s ≡ Minus → ⊥) → OneName g s (literal_at g s) (literal_choices (kind g s))
  literal_named l a b c = go (among (Str ∷ NumberLiteral ∷ BigIntLiteral ∷ []) (kind g s)) refl
    where
      go : (x : Bool) → among (Str ∷ NumberLiteral ∷ BigIntLiteral ∷ []) (kind g s) ≡ x → OneName g s (literal_at g s) (literal_choices (kind g s))
      go true e = named_literal e
      go false e = named_template e (sym (left (eqb (kind g s) 4) (eqb (kind g s) 2) (eqb (kind g s) 3) e (ne_eqb _ _ a) (ne_eqb _ _ b) (ne_eqb _ _ c)) ∙ l)
        where
          left : (p q r : Bool) → (p or q or r or false) ≡ false → eqb (kind g s) True ≡ false → eqb (kind g s) False ≡ false → stands g Minus s ≡ false
              → ((p or q or r or eqb (kind g s) True or eqb (kind g s) False or false) or (stands g Minus s and among (NumberLiteral ∷ BigIntLiteral ∷ []) (kind_after g 1 s)) or stands g NoSubstitutionTemplate s)
              ≡ stands g NoSubstitutionTemplate s
          left false false false h u v w = rw (u, v, w)
          left true q r h u v w = let z : ◌≡◌ {A = ℕ} 0 1 = cc in absurd (omega arith)
          left false true r h u v w = let z : ◌≡◌ {A = ℕ} 0 1 = cc in absurd (omega arith)
          left false false true h u v w = let z : ◌≡◌ {A = ℕ} 0 1 = cc in absurd (omega arith)
