-- One law for each rule of a type that is tried: members that read on over it come to its end by keys alone, or not at all (02, W4).
use mathlib.Core.Path.{◌≡◌, refl, sym, ap, ◌∙◌, subst}
use mathlib.Core.Bool.{Bool, true, false, not}
use mathlib.Core.List.{List, [], ◌∷◌}
use mathlib.Core.Logic.{◌⊎◌, inl, inr, ⊎_elim}
use Prim.Native.Nat.{ℕ, zero, suc, ◌+◌, ◌≤◌, ◌<◌}
use native.Mathlib.Omega.{arith}
use borrow.Author.Tests.{eqb-true, not-false, not-true, leb-true, le-leb}
use lib.Dec.{eqb, leb}
use Rattle.words.specs.Test.{◌and◌, ◌or◌, between, among, test}
use Rattle.words.specs.Class as class
use Rattle.words.specs.Kind.{Eof, Word, ShiftLeft, LtEq, ShiftLeftEq, Str, NoSubstitutionTemplate, TemplateHead, LCurly, RCurly, LBrack, LParen, LAngle, Pipe, Amp, Question, Colon, Comma, Semicolon, Dot, Arrow, Eq, Bang, Minus, Star, Any, Unknown, OtherModifier, Null, Void, Abstract, Asserts, Infer, Is, Readonly, Extends, Import, New, This, Typeof}
use Rattle.words.specs.Cursor.{left, whole_kind, kind_at, same_line}
use Rattle.words.specs.Ahead.{starter, function_start, in_brackets, property_key}
use Rattle.words.specs.declared.ahead.FunctionStart.TheVariants.{TypeParameters, New as NewStart, AbstractNew, Nothing}
use Rattle.keys.specs.Placed as node
use Rattle.keys.specs.Placed.{Placed, Spelling, Opt, absent}
use Rattle.keys.proofs.BitsLaws.{le_or_lt}
use Rattle.rules.specs.State.{Given, State, Result, Reader, read, then, kind, kind_after, stands, on_line, first, turns, past, expect, make, entering}
use Rattle.rules.specs.Names.{name, binding_word, reserved, bound, dots_from, dotted}
use Rattle.rules.specs.Arguments.{opens, opened, arguments, named, import_type}
use Rattle.rules.specs.TypeParameters.{type_parameters}
use Rattle.rules.specs.Function.{parameters, return_type, function_node, function}
use Rattle.rules.specs.Union.{joined, intersection, union}
use Rattle.rules.specs.Operator.{operators, operand, operator_from, operator}
use Rattle.rules.specs.Infer.{trial, infer}
use Rattle.rules.specs.Postfix.{suffixed, suffix, postfix_from, postfix}
use Rattle.rules.specs.Primary.{literals, is_keyword, is_negative, is_assertion, keyword, literal, this, query, brackets, reference, enclosed, worded, primary}
use Rattle.rules.specs.Object.{signs, unsupported_here, members_from}
use Rattle.rules.specs.Tuple.{tuple}
use Rattle.rules.specs.TypeRule.{begins as functionBegins, union_or_conditional, type as typeRule}
use Rattle.rules.specs.Reading.{read_type}
use Rattle.rules.proofs.TokenLaws.{both_true, among_each}
use Rattle.rules.proofs.Balance.{Shut, Behind, Ends, ends, stops, Keeps, ends_then, ends_test, stopped, ends_report_if, ends_make}
use Rattle.rules.proofs.BalanceLaws.{arguments_close, type_parameters_close, parameters_close, tuple_closes, brackets_close, bracketed_closes, types_keep}
use Rattle.rules.proofs.KeysOnly.{Run, both, stand, Kind, Line, begins, follows, not_kind, other_kind, every, every_among, AtMember, AtSignature, BehindKey, Place, at_member, at_key, behind_key, at_signature, Sorted, signed, newly, marked, keyed, Dead, unread, unsupported, On, no_member, no_key, asked_never, key_mark, sorted, over, behind, lone_never, line_never}
use Rattle.rules.proofs.Owing.{Comes, KeysOnly}
use Rattle.rules.proofs.KeysOnlyBrackets.{sign_paren, sign_angle, sign_alone, sign_string, bracket_never}

-- ---- Kinds

-- What can follow a type that was tried, or a part of it.
abbrev pub stop : ℕ → Bool
stop k = among (Question ∷ Pipe ∷ Amp ∷ []) k

-- What can follow a primary type of it: that, or a mark on its line.
abbrev pub rest : Bool → ℕ → Bool
rest l k = stop k or (l and among (Bang ∷ Question ∷ LBrack ∷ []) k)

-- A kind that no second half has stands at a whole token.
whole_kind_lem : (f : ℕ → Bool) → f LAngle ≡ false → f Eq ≡ false → f LtEq ≡ false → f Eof ≡ false → (h k : ℕ) → f (left h k) ≡ true → h ≡ 0
whole_kind_lem f a b c d zero k e = refl
whole_kind_lem f a b c d (suc h) k e = by (eqb k ShiftLeft) (eqb k LtEq) (eqb k ShiftLeftEq) e
  where
    by : (x y z : Bool) → f (test x (λ _. LAngle) (λ _. test y (λ _. Eq) (λ _. test z (λ _. LtEq) (λ _. Eof)))) ≡ true → suc h ≡ 0
    by true y z e = both e a
    by false true z e = both e b
    by false false true e = both e c
    by false false false e = both e d

binding_key : (k : ℕ) → class.binding_word k ≡ true → property_key k ≡ true
binding_key k e = rw e refl

name_key : (k : ℕ) → class.name k ≡ true → property_key k ≡ true
name_key k e = rw e refl

range_key : (k : ℕ) → between Any Unknown k ≡ true → property_key k ≡ true
range_key k e =
    let p = both_true (leb Any k) (leb k Unknown) e in
    let m : leb k OtherModifier ≡ true = le-leb k OtherModifier (let u = leb-true k Unknown p.1 in omega arith) in
    binding_key k (by (eqb k Word) p.0 m)
  where
    by : (b : Bool) → leb Any k ≡ true → leb k OtherModifier ≡ true → b or (leb Any k and leb k OtherModifier) ≡ true
    by true i j = refl
    by false i j = rw (i, j) refl

-- A state that stands at a whole token.
at_stand : (q : State) (i : ℕ) → q.at ≡ i → q.half ≡ 0 → stand i q ≡ q
at_stand q i a h = λ d. record { at = sym a d; half = sym h d; nodes = q.nodes; notes = q.notes; tally = q.tally }

later : {i j k : ℕ} → i ≤ j → j < k → i < k
later a b = omega arith

-- ---- Laws
module _ (g : Given) (run : Run g) where
  -- A rule that began at j and ends before what can follow: members stand there too.
  abbrev pub Reaches : ℕ → ℕ → ℕ → Type 0
  Reaches j i h = stop (kind_at g.words i h) ≡ true → Place g run i × (j < i)

  abbrev pub Lands : ℕ → ℕ → ℕ → Type 0
  Lands j i h = rest (same_line g.words i h) (kind_at g.words i h) ≡ true → Place g run i × (j < i)

  reaches_down : {A : Type 0} {j k : ℕ} {r : Result A} → j ≤ k → Ends (Reaches k) r → Ends (Reaches j) r
  reaches_down l (ends p) = ends λ e. ((p e).0, later l (p e).1)
  reaches_down l stops = stops

  lands_down : {A : Type 0} {j k : ℕ} {r : Result A} → j ≤ k → Ends (Lands k) r → Ends (Lands j) r
  lands_down l (ends p) = ends λ e. ((p e).0, later l (p e).1)
  lands_down l stops = stops

  rest_stop : (l : Bool) (k : ℕ) → stop k ≡ true → rest l k ≡ true
  rest_stop l k e = rw e refl

  rest_among : (l : Bool) (k : ℕ) → rest l k ≡ true → among (Question ∷ Pipe ∷ Amp ∷ Bang ∷ LBrack ∷ []) k ≡ true
  rest_among l k e = by (stop k) l refl e
    where
      by : (b l : Bool) → stop k ≡ b → b or (l and among (Bang ∷ Question ∷ LBrack ∷ []) k) ≡ true → among (Question ∷ Pipe ∷ Amp ∷ Bang ∷ LBrack ∷ []) k ≡ true
      by true l i j = every_among (among (Question ∷ Pipe ∷ Amp ∷ Bang ∷ LBrack ∷ [])) (Question ∷ Pipe ∷ Amp ∷ []) k refl i
      by false true i j = every_among (among (Question ∷ Pipe ∷ Amp ∷ Bang ∷ LBrack ∷ [])) (Bang ∷ Question ∷ LBrack ∷ []) k refl j
      by false false i j = both j refl

  -- Where a part of a tried type ends, no member ends or goes on.
  rest_dead : (i : ℕ) → rest (Line g i) (Kind g i) ≡ true → Dead g run i
  rest_dead i e =
      record {
        ended = not-true _ (every_among (λ k. not (among (Colon ∷ Comma ∷ Semicolon ∷ RCurly ∷ []) k)) (Question ∷ Pipe ∷ Amp ∷ Bang ∷ LBrack ∷ []) (Kind g i) refl (rest_among (Line g i) (Kind g i) e));
        begun = by (Line g i) e;
      }
    where
      by : (l : Bool) → rest l (Kind g i) ≡ true → l or not (begins (Kind g i)) ≡ true
      by true e = refl
      by false e = every_among (λ k. not (begins k)) (Question ∷ Pipe ∷ Amp ∷ []) (Kind g i) refl (one (stop (Kind g i)) e)
        where
          one : (b : Bool) → b or false ≡ true → b ≡ true
          one true i = refl
          one false i = i

  rest_not : (i c : ℕ) → among (Question ∷ Pipe ∷ Amp ∷ Bang ∷ LBrack ∷ []) c ≡ false → rest (Line g i) (Kind g i) ≡ true → eqb (Kind g i) c ≡ false
  rest_not i c n e = other_kind (among (Question ∷ Pipe ∷ Amp ∷ Bang ∷ LBrack ∷ [])) c (Kind g i) n (rest_among (Line g i) (Kind g i) e)

  arrow_dead : (i : ℕ) → eqb (Kind g i) Arrow ≡ true → Dead g run i
  arrow_dead i e = let k = eqb-true (Kind g i) Arrow e in record { ended = rw k refl; begun = rw k (by (Line g i)) }
    where
      by : (l : Bool) → l or true ≡ true
      by true = refl
      by false = refl

  -- A kind with which no member begins or goes on.
  lone : (j c : ℕ) → not (begins c or follows c) ≡ true → eqb (Kind g j) c ≡ true → Place g run j → ⊥
  lone j c n e x = lone_never g run j x (ap (λ (k : ℕ). not (begins k or follows k)) (eqb-true (Kind g j) c e) ∙ n)

  -- ---- Primary: one token

  key_law : (j : ℕ) (l : List ℕ) (t : Placed) (w : State) → Place g run j → property_key (Kind g j) ≡ true → Ends (Lands j) (make g l t (stand (j + 1) w))
  key_law j l t w x e = ends_make g l t (stand (j + 1) w) λ _. (over g run j x e, omega arith)

  keyword_key : (j : ℕ) (w : State) → is_keyword g (stand j w) ≡ true → property_key (Kind g j) ≡ true
  keyword_key j w e = by (between Any Unknown (Kind g j)) refl e
    where
      by : (b : Bool) → between Any Unknown (Kind g j) ≡ b → (b and not (eqb (kind_after g 1 (stand j w)) Dot)) or among (Null ∷ Void ∷ []) (Kind g j) ≡ true → property_key (Kind g j) ≡ true
      by true i k = range_key (Kind g j) i
      by false i k = every_among property_key (Null ∷ Void ∷ []) (Kind g j) refl k

  keyword_law : (j : ℕ) (w : State) → Place g run j → property_key (Kind g j) ≡ true → Ends (Lands j) (keyword g (stand j w))
  unfolding keyword
  keyword_law j w x e = key_law j [] _ w x e

  literal_law : (j : ℕ) (w : State) → Place g run j → among literals (Kind g j) ≡ true → Ends (Lands j) (literal g (stand j w))
  unfolding literal
  literal_law j w x e =
      ⊎_elim (λ k. key_law j [] _ w x k) (λ n. absurd (lone_never g run j x n))
      (among_each (λ (k : ℕ). (property_key k ≡ true) ⊎ (not (begins k or follows k) ≡ true)) literals (Kind g j) (inl refl, (inl refl, (inr refl, (inl refl, (inl refl, tt))))) e)

  -- A kind that stands is a key by its name.
  stands_key : (j c : ℕ) → property_key c ≡ true → eqb (Kind g j) c ≡ true → property_key (Kind g j) ≡ true
  stands_key j c k e = ap property_key (eqb-true (Kind g j) c e) ∙ k

  stands_not : (j c : ℕ) (l : List ℕ) → among l c ≡ false → eqb (Kind g j) c ≡ true → among l (Kind g j) ≡ false
  stands_not j c l n e = ap (among l) (eqb-true (Kind g j) c e) ∙ n

  -- Behind a key that is neither readonly nor new, no word stands on its line.
  word_never : (j : ℕ) → Place g run j → property_key (Kind g j) ≡ true → among (New ∷ Readonly ∷ []) (Kind g j) ≡ false → Line g (j + 1) ≡ true → property_key (Kind g (j + 1)) ≡ true → ⊥
  word_never j x e n l k =
      line_never g run (j + 1) (behind g run j x e n) l (key_mark g run (Question ∷ Colon ∷ Comma ∷ Semicolon ∷ RCurly ∷ []) (Kind g (j + 1)) refl k) (key_mark g run (LParen ∷ LAngle ∷ []) (Kind g (j + 1)) refl k)

  -- ---- Rules that read types

  module _ (T : Reader) (keeps : (on : Bool) → Keeps g (T on)) where
    this_law : (j : ℕ) (w : State) → Place g run j → eqb (Kind g j) This ≡ true → Ends (Lands j) (this g T (stand j w))
    unfolding this
    this_law j w x e =
        let k = stands_key j This refl e in
        ends_test (not (Line g (j + 1) and eqb (Kind g (j + 1)) Is)) (λ _ _. keyword_law j w x k) λ i _.
        let p = both_true (Line g (j + 1)) _ (not-false (Line g (j + 1) and eqb (Kind g (j + 1)) Is) i) in
        absurd (word_never j x k (stands_not j This (New ∷ Readonly ∷ []) refl e) p.0 (stands_key (j + 1) Is refl p.1))

    assertion_never : (j : ℕ) (w : State) → Place g run j → is_assertion g (stand j w) ≡ true → ⊥
    assertion_never j w x e =
        let p = both_true (eqb (Kind g j) Asserts) _ e in
        let q = both_true (class.name (Kind g (j + 1))) _ p.1 in
        word_never j x (stands_key j Asserts refl p.0) (stands_not j Asserts (New ∷ Readonly ∷ []) refl p.0) q.1 (name_key (Kind g (j + 1)) q.0)

    -- ---- Names

    -- A name, behind which no dot stands.
    record Named (j i h : ℕ) : Type 0 where
      at : i ≡ j + 1
      whole : h ≡ 0
      key : property_key (Kind g j) ≡ true

    name_law : (j : ℕ) (w : State) → Ends (Named j) (name g (stand j w))
    unfolding name
    name_law j w = ends_test (class.name (Kind g j)) (λ e _. ends (record { at = refl; whole = refl; key = name_key (Kind g j) e })) stopped

    dots_law : (j fuel : ℕ) (l : List Spelling) (q : State) → Place g run j → Named j q.at q.half → Ends (Named j) (dots_from g fuel l q)
    unfolding dots_from
    dots_law j zero l q x n = stops
    dots_law j (suc fuel) l q x n =
        ends_test (stands g Dot q) (λ i _. absurd (lone (j + 1) Dot refl (ap (λ (k : ℕ). eqb k Dot) (λ d. kind_at g.words (sym n.at d) (sym n.whole d)) ∙ i) (over g run j x n.key))) λ _ _. ends n

    dotted_law : (j : ℕ) (w : State) → Place g run j → Ends (Named j) (dotted g (stand j w))
    unfolding dotted
    dotted_law j w x = ends_then (name_law j w) λ n q d. dots_law j (turns g) (n ∷ []) q x d

    -- Type parameters of a method are no arguments: parameters must follow.
    angle_never : (i a : ℕ) → Place g run i → eqb (Kind g i) LAngle ≡ true → Shut g.words (i + 1) 0 a 0 → eqb (Kind g a) LParen ≡ false → ⊥
    angle_never i a x k c n = by (sorted g run i x (stands_not i LAngle (Question ∷ Colon ∷ Comma ∷ Semicolon ∷ RCurly ∷ []) refl k))
      where
        by : Sorted g run i → ⊥
        by (signed y) = sign_alone g run i a y k c n
        by (newly y m) = both k (ap (λ (k : ℕ). eqb k LAngle) m)
        by (marked y m) = both k (ap (λ (k : ℕ). eqb k LAngle) m)
        by (keyed y m) = both (ap signs (eqb-true (Kind g i) LAngle k)) m

    -- Where arguments of the type end, no member goes on.
    shut_law : {A : Type 0} (j i : ℕ) {r : Result A} → Place g run i → eqb (Kind g i) LAngle ≡ true → Ends (Shut g.words (i + 1) 0) r → Ends (Lands j) r
    shut_law j i x k (ends {q = q} c) =
        let whole : Shut g.words (i + 1) 0 q.at 0 = subst (λ (h : ℕ). Shut g.words (i + 1) 0 q.at h) c.whole c in
        ends λ e. absurd (angle_never i q.at x k whole (rest_not q.at LParen refl (subst (λ (h : ℕ). rest (same_line g.words q.at h) (kind_at g.words q.at h) ≡ true) c.whole e)))
    shut_law j i x k stops = stops

    -- Arguments, at the token behind a name at j.
    arguments_law : (j i : ℕ) (w : State) → i ≡ j + 1 → Place g run i → Ends (Lands j) (arguments g T (stand i w))
    unfolding arguments
    arguments_law j i w a x = by (opens g (stand i w)) (eqb (Kind g i) LAngle) refl refl
      where
        by : (b c : Bool) → opens g (stand i w) ≡ b → eqb (Kind g i) LAngle ≡ c → Ends (Lands j) (arguments g T (stand i w))
        by true true e k =
            let opens : opened g (stand i w) ≡ stand (i + 1) w = rw k refl in
            shut_law j i x k (subst (λ (s : State). Ends (Behind g s) (arguments g T (stand i w))) opens (arguments_close g T keeps (stand i w) e))
        by true false e k = absurd (lone_never g run i x (every_among (λ k. not (begins k or follows k)) (ShiftLeft ∷ LtEq ∷ ShiftLeftEq ∷ []) (Kind g i) refl (rw k at (both_true (Line g i) _ e).1)))
        by false c e k = rw e (ends λ _. (x, omega arith))

    named_law : (make : ℕ → ℕ → List Spelling → Opt (List Placed) → Placed) (b j : ℕ) (w : State) → Place g run j → Ends (Lands j) (named g T make b (stand j w))
    unfolding named
    named_law make b j w x =
        ends_then (dotted_law j w x) λ l q d.
        let here = at_stand q (j + 1) d.at d.whole in
        ends_then (subst (λ (s : State). Ends (Lands j) (arguments g T s)) here (arguments_law j (j + 1) q refl (over g run j x d.key))) λ ts p e.
        ends_make g _ _ p e

    -- A string is no parameter, so no method is an import.
    import_law : (b : ℕ) (isTypeof : Bool) (j : ℕ) (w : State) → Place g run j → Ends (Lands j) (import_type g T b isTypeof (stand j w))
    unfolding import_type
    import_law b isTypeof j w x =
        ends_test (eqb (Kind g j) Import)
        (λ a _.
        ends_test (eqb (Kind g (j + 1)) LParen)
        (λ c _. ends_test (eqb (Kind g (j + 1 + 1)) Str) (λ d _. absurd (never a c d)) stopped) stopped) stopped
      where
        never : eqb (Kind g j) Import ≡ true → eqb (Kind g (j + 1)) LParen ≡ true → eqb (Kind g (j + 1 + 1)) Str ≡ true → ⊥
        never a c d = by (sorted g run (j + 1) (behind_key (behind g run j x (stands_key j Import refl a) (stands_not j Import (New ∷ Readonly ∷ []) refl a))) (stands_not (j + 1) LParen (Question ∷ Colon ∷ Comma ∷ Semicolon ∷ RCurly ∷ []) refl c))
          where
            by : Sorted g run (j + 1) → ⊥
            by (signed y) = sign_string g run (j + 1) y c d
            by (newly y m) = both c (ap (λ (k : ℕ). eqb k LParen) m)
            by (marked y m) = both c (ap (λ (k : ℕ). eqb k LParen) m)
            by (keyed y m) = both (ap signs (eqb-true (Kind g (j + 1)) LParen c)) m

    query_law : (j : ℕ) (w : State) → Place g run j → eqb (Kind g j) Typeof ≡ true → Ends (Lands j) (query g T (stand j w))
    unfolding query
    query_law j w x e =
        let y = over g run j x (stands_key j Typeof refl e) in
        ends_test (eqb (Kind g (j + 1)) Import) (λ _ _. lands_down (omega arith) (import_law (first g (stand j w)) true (j + 1) w y)) λ _ _.
        lands_down (omega arith) (named_law node.typeof (first g (stand j w)) (j + 1) w y)

    -- ---- Brackets

    -- What follows at a whole token.
    rest_whole : (i h : ℕ) → h ≡ 0 → rest (same_line g.words i h) (kind_at g.words i h) ≡ true → rest (Line g i) (Kind g i) ≡ true
    rest_whole i h w e = subst (λ (h : ℕ). rest (same_line g.words i h) (kind_at g.words i h) ≡ true) w e

    shut_whole : {i j h : ℕ} → Shut g.words i 0 j h → Shut g.words i 0 j 0
    shut_whole {i} {j} {h} c = subst (λ (h : ℕ). Shut g.words i 0 j h) c.whole c

    -- A tuple is no index signature.
    tuple_never : (j e : ℕ) → Place g run j → eqb (Kind g j) LBrack ≡ true → Shut g.words (j + 1) 0 e 0 → eqb (Kind g e) Colon ≡ false → ⊥
    tuple_never j e x k c n = by (sorted g run j x (stands_not j LBrack (Question ∷ Colon ∷ Comma ∷ Semicolon ∷ RCurly ∷ []) refl k))
      where
        by : Sorted g run j → ⊥
        by (signed y) = both y.opens (ap signs (eqb-true (Kind g j) LBrack k))
        by (newly y m) = both k (ap (λ (k : ℕ). eqb k LBrack) m)
        by (marked y m) = both k (ap (λ (k : ℕ). eqb k LBrack) m)
        by (keyed y m) = bracket_never g run j e y k c n

    tuple_law : (j : ℕ) (w : State) → Place g run j → eqb (Kind g j) LBrack ≡ true → Ends (Lands j) (tuple g T (stand j w))
    tuple_law j w x k = by (tuple_closes g T keeps (stand j w))
      where
        by : {r : Result Placed} → Ends (Shut g.words (j + 1) 0) r → Ends (Lands j) r
        by (ends {q = q} c) = ends λ e. absurd (tuple_never j q.at x k (shut_whole c) (rest_not q.at Colon refl (rest_whole q.at q.half c.whole e)))
        by stops = stops

    -- A type in brackets is no signature.
    paren_never : (j e : ℕ) → Place g run j → eqb (Kind g j) LParen ≡ true → Shut g.words (j + 1) 0 e 0 → Dead g run e → ⊥
    paren_never j e x k c d = by (sorted g run j x (stands_not j LParen (Question ∷ Colon ∷ Comma ∷ Semicolon ∷ RCurly ∷ []) refl k))
      where
        by : Sorted g run j → ⊥
        by (signed y) = sign_paren g run j e y k c d
        by (newly y m) = both k (ap (λ (k : ℕ). eqb k LParen) m)
        by (marked y m) = both k (ap (λ (k : ℕ). eqb k LParen) m)
        by (keyed y m) = both (ap signs (eqb-true (Kind g j) LParen k)) m

    brackets_law : (j : ℕ) (w : State) → Place g run j → eqb (Kind g j) LParen ≡ true → Ends (Lands j) (brackets g T (stand j w))
    brackets_law j w x k = by (brackets_close g T keeps (stand j w))
      where
        by : {r : Result Placed} → Ends (Shut g.words (j + 1) 0) r → Ends (Lands j) r
        by (ends {q = q} c) = ends λ e. absurd (paren_never j q.at x k (shut_whole c) (rest_dead q.at (rest_whole q.at q.half c.whole e)))
        by stops = stops

    -- ---- Primary

    enclosed_law : (j : ℕ) (w : State) → Place g run j → Ends (Lands j) (enclosed g T (stand j w))
    unfolding enclosed reference
    enclosed_law j w x =
        ends_test (eqb (Kind g j) LCurly) (λ e _. absurd (lone j LCurly refl e x)) λ _ _.
        ends_test (eqb (Kind g j) LBrack) (λ e _. tuple_law j w x e) λ _ _.
        ends_test (eqb (Kind g j) LParen) (λ e _. brackets_law j w x e) λ _ _.
        ends_test (among (NoSubstitutionTemplate ∷ TemplateHead ∷ []) (Kind g j)) (λ e _. absurd (lone_never g run j x (every_among (λ k. not (begins k or follows k)) (NoSubstitutionTemplate ∷ TemplateHead ∷ []) (Kind g j) refl e))) λ _ _.
        ends_test (class.binding_word (Kind g j)) (λ _ _. named_law node.reference (first g (stand j w)) j w x) λ _ _.
        ends_test (among (Question ∷ Bang ∷ Star ∷ []) (Kind g j)) stopped stopped

    worded_law : (j : ℕ) (w : State) → Place g run j → Ends (Lands j) (worded g T (stand j w))
    unfolding worded
    worded_law j w x =
        ends_test (is_assertion g (stand j w)) (λ e _. absurd (assertion_never j w x e)) λ _ _.
        ends_test (eqb (Kind g j) Typeof) (λ e _. query_law j w x e) λ _ _.
        ends_test (eqb (Kind g j) Import) (λ _ _. import_law (first g (stand j w)) false j w x) λ _ _.
        enclosed_law j w x

    primary_law : (j : ℕ) (w : State) → Place g run j → Ends (Lands j) (primary g T (stand j w))
    unfolding primary
    primary_law j w x =
        ends_test (is_keyword g (stand j w)) (λ e _. keyword_law j w x (keyword_key j w e)) λ _ _.
        ends_test (eqb (Kind g j) This) (λ e _. this_law j w x e) λ _ _.
        ends_test (among literals (Kind g j)) (λ e _. literal_law j w x e) λ _ _.
        ends_test (is_negative g (stand j w)) (λ e _. absurd (lone j Minus refl (both_true (eqb (Kind g j) Minus) _ e).0 x)) λ _ _.
        worded_law j w x

    -- ---- Postfix

    -- A mark on its line can follow a primary type.
    suffix_rest : (q : State) → suffixed g q ≡ true → rest (on_line g q) (kind g q) ≡ true
    suffix_rest q e = by (on_line g q) (eqb (kind g q) Bang) (eqb (kind g q) Question) (starter g.words (q.at + 1)) (eqb (kind g q) LBrack) (eqb (kind g q) Pipe) (eqb (kind g q) Amp) e
      where
        by : (l b a n c p m : Bool) → l and (b or (a and not n) or c) ≡ true → (a or p or m or false) or (l and (b or a or c or false)) ≡ true
        by false b a n c p m e = both e refl
        by true b true n c p m e = refl
        by true b false n c true m e = refl
        by true b false n c false true e = refl
        by true true false n c false false e = refl
        by true false false n true false false e = refl
        by true false false n false false false e = both e refl

    -- Where nothing can follow, no mark is read.
    stuck_law : (j b fuel : ℕ) (t : Placed) (q : State) → (rest (on_line g q) (kind g q) ≡ true → ⊥) → Ends (Reaches j) (postfix_from g T b fuel t q)
    unfolding postfix_from
    stuck_law j b zero t q n = stops
    stuck_law j b (suc fuel) t q n =
        ends_test (suffixed g q) (λ e _. absurd (n (suffix_rest q e))) λ _ _.
        ends λ e. absurd (n (rest_stop (on_line g q) (kind g q) e))

    -- A `?` stands behind a key only.
    asked_after : (i : ℕ) → Place g run i → eqb (Kind g i) Question ≡ true → BehindKey g run i
    asked_after i (at_member x) e = absurd (unread g run x.same (no_member g run x.turns x.list i x.w (ap begins (eqb-true (Kind g i) Question e))))
    asked_after i (at_key x) e = absurd (unread g run x.same (no_key g run x.b x.readonly i x.w (On g run x.turns x.list) (ap (λ (k : ℕ). property_key k or eqb k LBrack) (eqb-true (Kind g i) Question e))))
    asked_after i (behind_key x) e = x
    asked_after i (at_signature x) e = both x.opens (ap signs (eqb-true (Kind g i) Question e))

    asked_stuck : (i : ℕ) → Place g run i → eqb (Kind g i) Question ≡ true → rest (Line g (i + 1)) (Kind g (i + 1)) ≡ true → ⊥
    asked_stuck i x e n =
        let y = asked_after i x e in
        let here = y.at in
        asked_never g run y.before y.key y.named (rw here at e) (subst (λ (i : ℕ). signs (Kind g (i + 1)) ≡ false) here (signs_not i n)) (subst (λ (i : ℕ). Dead g run (i + 1)) here (rest_dead (i + 1) n))
      where
        signs_not : (i : ℕ) → rest (Line g (i + 1)) (Kind g (i + 1)) ≡ true → signs (Kind g (i + 1)) ≡ false
        signs_not i n = not-true _ (every_among (λ k. not (signs k)) (Question ∷ Pipe ∷ Amp ∷ Bang ∷ LBrack ∷ []) (Kind g (i + 1)) refl (rest_among (Line g (i + 1)) (Kind g (i + 1)) n))

    -- Behind a mark nothing can follow.
    suffix_stuck : (i b : ℕ) (t : Placed) (w : State) → Place g run i → suffixed g (stand i w) ≡ true
        → Ends (λ e h. rest (same_line g.words e h) (kind_at g.words e h) ≡ true → ⊥) (suffix g T b t (stand i w))
    unfolding suffix
    suffix_stuck i b t w x e =
        ends_test (eqb (Kind g i) Bang) (λ a _. absurd (lone i Bang refl a x)) λ a _.
        ends_test (eqb (Kind g i) Question) (λ c _. ends_make g [] _ (stand (i + 1) w) (asked_stuck i x c)) λ c _.
        by (rw (a, c) at (both_true (Line g i) _ e).1) (bracketed_closes g T keeps b t (stand (i + 1) w))
      where
        by : {r : Result Placed} → eqb (Kind g i) LBrack ≡ true → Ends (Shut g.words (i + 1) 0) r → Ends (λ e h. rest (same_line g.words e h) (kind_at g.words e h) ≡ true → ⊥) r
        by k (ends {q = q} c) = ends λ n. tuple_never i q.at x k (shut_whole c) (rest_not q.at Colon refl (rest_whole q.at q.half c.whole n))
        by k stops = stops

    -- What can follow stands at a whole token.
    rest_zero : (l : Bool) (h k : ℕ) → rest l (left h k) ≡ true → h ≡ 0
    rest_zero l h k e = whole_kind_lem (among (Question ∷ Pipe ∷ Amp ∷ Bang ∷ LBrack ∷ [])) refl refl refl refl h k (rest_among l (left h k) e)

    postfix_from_lem : (j b fuel : ℕ) (t : Placed) (q : State) → Lands j q.at q.half → Ends (Reaches j) (postfix_from g T b fuel t q)
    unfolding postfix_from
    postfix_from_lem j b zero t q d = stops
    postfix_from_lem j b (suc fuel) t q d =
        ends_test (suffixed g q)
        (λ e _.
        let n = suffix_rest q e in
        let here = at_stand q q.at refl (rest_zero (on_line g q) q.half (Kind g q.at) n) in
        ends_then (subst (λ (s : State). Ends (λ e h. rest (same_line g.words e h) (kind_at g.words e h) ≡ true → ⊥) (suffix g T b t s)) here (suffix_stuck q.at b t q (d n).0 (subst (λ (s : State). suffixed g s ≡ true) (sym here) e))) λ u p m.
        stuck_law j b fuel u p m) λ _ _.
        ends λ e. d (rest_stop (on_line g q) (kind g q) e)

    postfix_law : (j : ℕ) (w : State) → Place g run j → Ends (Reaches j) (postfix g T (stand j w))
    unfolding postfix
    postfix_law j w x = ends_then (primary_law j w x) λ t q d. postfix_from_lem j (first g (stand j w)) (turns g) t q d

    -- ---- Rules whose parts are types of the same reading

    module _ (law : (i : ℕ) (w : State) → Place g run i → Ends (Reaches i) (T false (stand i w))) where
      -- A name that is bound.
      bound_law : (j : ℕ) (w : State) → Ends (Named j) (bound g (stand j w))
      unfolding bound binding_word
      bound_law j w =
          ends_then (ends_test (class.binding_word (Kind g j)) (λ e _. ends {q = stand (j + 1) w} (binding_named e)) stopped) λ x q d.
          ends_report_if (reserved (Kind g j)) g _ q (read x) λ _. ends d
        where
          binding_named : class.binding_word (Kind g j) ≡ true → Named j (j + 1) 0
          binding_named e = record { at = refl; whole = refl; key = binding_key (Kind g j) e }

      trial_law : (j i : ℕ) (w : State) → j < i → Place g run i → Ends (Reaches j) (trial g T false (stand i w))
      unfolding trial
      trial_law j i w l x =
          ends_test (not (eqb (Kind g i) Extends)) (λ _ _. ends λ _. (x, l)) λ n _.
          ends_then (law (i + 1) w (over g run i x (stands_key i Extends refl (not-false (eqb (Kind g i) Extends) n)))) λ t q d.
          ends λ e. ((d e).0, later (omega arith) (d e).1)

      infer_law : (j : ℕ) (w : State) → Place g run j → eqb (Kind g j) Infer ≡ true → Ends (Reaches j) (infer g T false (stand j w))
      unfolding infer
      infer_law j w x e =
          let y = over g run j x (stands_key j Infer refl e) in
          ends_then (bound_law (j + 1) w) λ n q d.
          ends_then (subst (λ (s : State). Ends (Reaches j) (trial g T false s)) (at_stand q (j + 1 + 1) d.at d.whole) (trial_law j (j + 1 + 1) q (omega arith) (over g run (j + 1) y d.key))) λ c p f.
          ends_make g _ _ p f

      operator_from_lem : (j fuel : ℕ) (w : State) → Place g run j → Ends (Reaches j) (operator_from g T false fuel (stand j w))
      unfolding operator_from operand
      operator_from_lem j zero w x = stops
      operator_from_lem j (suc fuel) w x =
          ends_test (not (among operators (Kind g j))) (λ _ _. ends_test (eqb (Kind g j) Infer) (λ e _. infer_law j w x e) λ _ _. postfix_law j w x) λ i _.
          ends_then (reaches_down (omega arith) (operator_from_lem (j + 1) fuel w (over g run j x (every_among property_key operators (Kind g j) refl (not-false (among operators (Kind g j)) i))))) λ t q d.
          ends_make g _ _ q d

      -- ---- Union, intersection

      module _ (mark : ℕ) (no_mark : not (begins mark or follows mark) ≡ true) (follow : stop mark ≡ true) (make : ℕ → ℕ → List Placed → Placed) (part : State → Result Placed)
          (parts : (j : ℕ) (w : State) → Place g run j → Ends (Reaches j) (part (stand j w))) where
        joined_law : (j : ℕ) (w : State) → Place g run j → Ends (Reaches j) (joined g mark make part (stand j w))
        unfolding joined
        joined_law j w x = by (eqb (Kind g j) mark) refl
          where
            by : (b : Bool) → eqb (Kind g j) mark ≡ b → Ends (Reaches j) (joined g mark make part (stand j w))
            by true e = absurd (lone j mark no_mark e x)
            by false e =
                rw e
                (ends_then (parts j w x) λ t q d.
                ends_test (not (stands g mark q)) (λ _ _. ends d) λ i _.
                let m = not-false (stands g mark q) i in
                let k = eqb-true (kind g q) mark m in
                let s : stop (kind g q) ≡ true = ap stop k ∙ follow in
                let here : q.half ≡ 0 = whole_kind_lem stop refl refl refl refl q.half (Kind g q.at) s in
                absurd (lone q.at mark no_mark (subst (λ (h : ℕ). eqb (kind_at g.words q.at h) mark ≡ true) here m) (d s).0))

      operator_law : (j : ℕ) (w : State) → Place g run j → Ends (Reaches j) (operator g T false (stand j w))
      unfolding operator
      operator_law j w x = operator_from_lem j (turns g) w x

      intersection_law : (j : ℕ) (w : State) → Place g run j → Ends (Reaches j) (intersection g T false (stand j w))
      unfolding intersection
      intersection_law = joined_law Amp refl refl node.intersection (operator g T false) operator_law

      union_law : (j : ℕ) (w : State) → Place g run j → Ends (Reaches j) (union g T false (stand j w))
      unfolding union
      union_law = joined_law Pipe refl refl node.union (intersection g T false) intersection_law

    -- ---- Function

    no_type_parameters : (i : ℕ) (w : State) → eqb (Kind g i) LAngle ≡ false → type_parameters g T false (stand i w) ≡ read absent (stand i w)
    unfolding type_parameters
    no_type_parameters i w e = rw e refl

    no_parameters : {P : ℕ → ℕ → Type 0} (isNew : Bool) (i : ℕ) (w : State) → eqb (Kind g i) LParen ≡ false → Ends P (parameters g T isNew (stand i w))
    unfolding parameters
    no_parameters isNew i w e = rw e stops

    -- At an arrow, at a whole token.
    arrow_at : (i h : ℕ) → h ≡ 0 → eqb (kind_at g.words i h) Arrow ≡ true → Dead g run i
    arrow_at i h w e = arrow_dead i (subst (λ (h : ℕ). eqb (kind_at g.words i h) Arrow ≡ true) w e)

    -- A function's parameters are no signature's: an arrow follows.
    function_sign : (j i : ℕ) (w : State) → past g New (past g Abstract (stand j w)) ≡ stand i w → AtSignature g run i → Ends (Reaches j) (function g T false (stand j w))
    unfolding function
    function_sign j i w e x = rw e (by (eqb (Kind g i) LAngle) (eqb (Kind g i) LParen) refl refl x.opens)
      where
        new : Bool
        new = stands g New (past g Abstract (stand j w))

        by : (a b : Bool) → eqb (Kind g i) LAngle ≡ a → eqb (Kind g i) LParen ≡ b → b or a or false ≡ true
            → Ends (Reaches j)
            (then (type_parameters g T false (stand i w)) λ ts q.
            then (parameters g T (stands g New (past g Abstract (stand j w))) q) λ ps q.
            expect g Arrow q λ q.
            then (return_type g T q) λ r q.
            function_node g T (first g (stand j w)) (stands g New (past g Abstract (stand j w))) (stands g Abstract (stand j w)) ts ps r q)
        by true b k m o =
            ends_then (type_parameters_close g T keeps false (stand i w) k) λ ts q c.
            ends_then (parameters_close g T keeps new q) λ ps r d.
            ends_test (stands g Arrow r) (λ a _. absurd (sign_angle g run i q.at r.at x k (shut_whole c) (shut_whole d) (arrow_at r.at r.half d.whole a))) stopped
        by false true k m o =
            rw (no_type_parameters i w k)
            (ends_then (parameters_close g T keeps new (stand i w)) λ ps r d.
            ends_test (stands g Arrow r) (λ a _. absurd (sign_paren g run i r.at x m (shut_whole d) (arrow_at r.at r.half d.whole a))) stopped)
        by false false k m o = both o refl

    -- It has parameters.
    function_none : {P : ℕ → ℕ → Type 0} (j i : ℕ) (w : State) → past g New (past g Abstract (stand j w)) ≡ stand i w → signs (Kind g i) ≡ false → Ends P (function g T false (stand j w))
    unfolding function
    function_none j i w e n =
        rw (e, no_type_parameters i w (not_kind signs LAngle (Kind g i) refl n)) (ends_then (no_parameters {P = λ _ _. ⊥} (stands g New (past g Abstract (stand j w))) i w (not_kind signs LParen (Kind g i) refl n)) λ _ _ z. absurd z)

    -- How a function begins.
    start_kinds : (j : ℕ) → functionBegins (function_start g.words j 0) ≡ true
        → among (LAngle ∷ LParen ∷ []) (Kind g j) ≡ true ⊎ ((eqb (Kind g j) New ≡ true) ⊎ ((eqb (Kind g j) Abstract ≡ true) × (eqb (Kind g (j + 1)) New ≡ true)))
    start_kinds j e = by (eqb (Kind g j) LAngle) (eqb (Kind g j) New) (eqb (Kind g j) Abstract) (eqb (Kind g j) LParen) (eqb (Kind g (j + 1)) New) e
      where
        by : (a b c d n : Bool)
            → functionBegins (test a (λ _. TypeParameters) (λ _. test b (λ _. NewStart) (λ _. test c (λ _. test n (λ _. AbstractNew) (λ _. Nothing)) (λ _. test d (λ _. in_brackets g.words (j + 1)) (λ _. Nothing))))) ≡ true
            → (a or d or false ≡ true) ⊎ ((b ≡ true) ⊎ ((c ≡ true) × (n ≡ true)))
        by true b c d n e = inl refl
        by false true c d n e = inr (inl refl)
        by false false true d true e = inr (inr (refl, refl))
        by false false true d false e = both e refl
        by false false false true n e = inl refl
        by false false false false n e = both e refl

    -- Where a signature stands, and nothing before it.
    past_sign : (j : ℕ) (w : State) → signs (Kind g j) ≡ true → past g New (past g Abstract (stand j w)) ≡ stand j w
    past_sign j w e = rw (other_kind signs Abstract (Kind g j) refl e, other_kind signs New (Kind g j) refl e) refl

    past_new : (j : ℕ) (w : State) → eqb (Kind g j) New ≡ true → past g New (past g Abstract (stand j w)) ≡ stand (j + 1) w
    past_new j w e = rw (other_kind (λ k. eqb k New) Abstract (Kind g j) refl e, e) refl

    function_law : (j : ℕ) (w : State) → Place g run j → functionBegins (function_start g.words j 0) ≡ true → Ends (Reaches j) (function g T false (stand j w))
    function_law j w x e =
        ⊎_elim (λ k. bracket k (sorted g run j x (starts_not (LAngle ∷ LParen ∷ []) k refl)))
        (λ r. ⊎_elim (λ k. new k (signs (Kind g (j + 1))) refl) (λ k. absurd (abstract k.0 k.1 (sorted g run j x (starts_not (Abstract ∷ []) (rw k.0 refl) refl)))) r) (start_kinds j e)
      where
        starts_not : (l : List ℕ) → among l (Kind g j) ≡ true → every (λ k. not (follows k)) l ≡ true → follows (Kind g j) ≡ false
        starts_not l k n = not-true _ (every_among (λ k. not (follows k)) l (Kind g j) n k)

        bracket : among (LAngle ∷ LParen ∷ []) (Kind g j) ≡ true → Sorted g run j → Ends (Reaches j) (function g T false (stand j w))
        bracket k (signed y) = function_sign j j w (past_sign j w y.opens) y
        bracket k (newly y m) = both k (ap (among (LAngle ∷ LParen ∷ [])) m)
        bracket k (marked y m) = both k (ap (among (LAngle ∷ LParen ∷ [])) m)
        bracket k (keyed y m) = both (every_among signs (LAngle ∷ LParen ∷ []) (Kind g j) refl k) m

        behind_new : signs (Kind g (j + 1)) ≡ true → Sorted g run (j + 1) → AtSignature g run (j + 1)
        behind_new k (signed y) = y
        behind_new k (newly y m) = both k (ap signs m)
        behind_new k (marked y m) = both k (ap signs m)
        behind_new k (keyed y m) = both k m

        new : eqb (Kind g j) New ≡ true → (b : Bool) → signs (Kind g (j + 1)) ≡ b → Ends (Reaches j) (function g T false (stand j w))
        new k true n =
            function_sign j (j + 1) w (past_new j w k)
            (behind_new n (sorted g run (j + 1) (over g run j x (stands_key j New refl k)) (not-true _ (every_among (λ k. not (follows k)) (LParen ∷ LAngle ∷ []) (Kind g (j + 1)) refl n))))
        new k false n = function_none j (j + 1) w (past_new j w k) n

        abstract : eqb (Kind g j) Abstract ≡ true → eqb (Kind g (j + 1)) New ≡ true → Sorted g run j → ⊥
        abstract k n (signed y) = both y.opens (ap signs (eqb-true (Kind g j) Abstract k))
        abstract k n (newly y m) = both k (ap (λ (k : ℕ). eqb k Abstract) m)
        abstract k n (marked y m) = both k (ap (λ (k : ℕ). eqb k Abstract) m)
        abstract k n (keyed y m) =
            let u : unsupported_here g (stand j y.w) ≡ true = rw (eqb-true (Kind g j) Abstract k, eqb-true (Kind g (j + 1)) New n) refl in
            unread g run y.same (unsupported g run y.b y.readonly j y.w (On g run y.turns y.list) u)

    -- ---- Type

    type_law : ((i : ℕ) (w : State) → Place g run i → Ends (Reaches i) (T false (stand i w))) → (j : ℕ) (w : State) → Place g run j → Ends (Reaches j) (typeRule g T false (stand j w))
    unfolding typeRule union_or_conditional
    type_law law j w x =
        ends_test (functionBegins (function_start g.words j 0)) (λ e _. function_law j w x e) λ _ _.
        ends_then (union_law law j w x) λ t q d. ends d

  -- A type that is tried, n type rules deep.
  pub types_law : (n j : ℕ) (w : State) → Place g run j → Ends (Reaches j) (read_type g n false (stand j w))
  unfolding read_type
  types_law zero j w x = stops
  types_law (suc n) j w x = type_law (read_type g n) (types_keep g n) (types_law n) j (entering w) x

-- ---- The whole

-- What a result ends at that is read.
ends_at : {A : Type 0} {P : ℕ → ℕ → Type 0} {r : Result A} (a : A) (q : State) → Ends P r → r ≡ read a q → P q.at q.half
ends_at {A} {P} a q h e = by (subst (Ends P) e h)
  where
    by : Ends P (read a q) → P q.at q.half
    by (ends p) = p

-- A key right before the end of what was tried: its member begins behind the `extends`, which is no readonly.
comes_by : (g : Given) (k m : ℕ) (l l' : List Placed) (s q v : State) (e : read l' q ≡ members_from g (read_type g k) m l s)
    → BehindKey g (record { reader = read_type g k; keeps = types_keep g k; turns = m; list = l; start = s; all = l'; last = q; reads = e }) v.at
    → s.at + 1 < v.at → whole_kind g.words s.at ≡ Extends → Comes g k m l s v
comes_by g k m l l' s q v e x late extends =
    let y = x.key.begun in
    record {
      turns = y.turns;
      fewer = y.fewer;
      list = y.list;
      w = stand x.key.home y.w;
      same = y.same;
      tally = y.tally;
      behind = ⊎_elim (λ i. omega (arith, late, x.at, i)) (λ i. by x.key.home y.behind i.0 (le_or_lt x.key.home s.at)) x.key.near;
      near = ⊎_elim (λ i. omega (arith, x.at, i)) (λ i. omega (arith, x.at, i.1)) x.key.near;
    }
  where
    by : (h : ℕ) → s.at ≤ h → whole_kind g.words h ≡ Readonly → (h ≤ s.at) ⊎ (s.at < h) → s.at + 1 ≤ h
    by h a r (inl b) =
        let same : s.at ≡ h = omega arith in
        let z : ◌≡◌ {A = ℕ} Extends Readonly = sym extends ∙ ap (whole_kind g.words) same ∙ r in
        absurd (omega arith)
    by h a r (inr b) = omega arith

-- Members that read on from an `extends` behind which a type was tried come to the end of that type by keys alone.
pub keys_only : (g : Given) → KeysOnly g
keys_only g n k s t fresh m l l' q e =
    let run : Run g = record { reader = read_type g k; keeps = types_keep g k; turns = m; list = l; start = s; all = l'; last = q; reads = sym e } in
    let here : stand s.at s ≡ s = at_stand s s.at refl t.whole in
    let extends : whole_kind g.words s.at ≡ Extends = eqb-true _ Extends (subst (λ (h : ℕ). eqb (kind_at g.words s.at h) Extends ≡ true) t.whole t.here) in
    let begun : AtMember g run s.at
    = record {
      turns = m;
      fewer = omega arith;
      list = l;
      w = s;
      same = ap (members_from g (read_type g k) m l) (sym here);
      tally = refl;
      behind = omega arith;
      fresh = subst (λ (h : ℕ). same_line g.words s.at h ≡ false) t.whole fresh;
    } in
    let from : Place g run (s.at + 1) = over g run s.at (at_member begun) (ap property_key extends) in
    let read-on = subst (λ (u : State). Ends (Reaches g run (s.at + 1)) (read_type g n false u)) (at_stand t.from (s.at + 1) t.behind t.fresh) (types_law g run n (s.at + 1) t.from from) in
    let asked : stop (kind g t.to) ≡ true = ap stop (eqb-true (kind g t.to) Question t.asked) in
    let there = ends_at t.tree t.to read-on t.reads asked in
    let whole : t.to.half ≡ 0 = whole_kind_lem stop refl refl refl refl t.to.half (whole_kind g.words t.to.at) asked in
    let question = subst (λ (h : ℕ). eqb (kind_at g.words t.to.at h) Question ≡ true) whole t.asked in
    comes_by g k m l l' s q t.to (sym e) (asked_after g run (read_type g n) (types_keep g n) t.to.at there.0 question) there.1 extends
