-- Members that read on where a type was tried: where the type has brackets, no member goes on behind them (02, W4).
use mathlib.Core.Path.{◌≡◌, refl, sym, ap, ◌∙◌, subst}
use mathlib.Core.Bool.{Bool, true, false, not}
use mathlib.Core.List.{List, [], ◌∷◌, ◌++◌}
use Prim.Native.Nat.{ℕ, zero, suc, ◌+◌}
use borrow.Author.Tests.{eqb-true, not-true}
use lib.Dec.{eqb}
use lib.ListN.{length}
use Rattle.words.specs.Test.{◌or◌, among}
use Rattle.words.specs.Kind.{Str, Dot3, This, RCurly, LBrack, RBrack, LParen, LAngle, Colon, Comma, Semicolon}
use Rattle.words.specs.Cursor.{kind_at, same_line}
use Rattle.words.specs.Ahead.{index_start}
use Rattle.keys.specs.Placed as node
use Rattle.keys.specs.Placed.{Placed, Opt, absent}
use Rattle.keys.proofs.BitsLaws.{clash}
use Rattle.rules.specs.State.{Given, State, Result, Reader, read, then, next, past, kind, stands, on_line, end, turns, expect, optional, make}
use Rattle.rules.specs.List.{count}
use Rattle.rules.specs.TypeParameters.{type_parameters}
use Rattle.rules.specs.Names.{binding_word}
use Rattle.rules.specs.Function.{parameter, parameters_from, parameters, return_type}
use Rattle.rules.specs.Object.{Signature, is_construct, signature_node, no_index, kept, unsupported_here, member_end, this_noted, signature, index, behind_readonly, members_from}
use Rattle.rules.proofs.Balance.{Shut, shut_same, brack_closes, close_next, level_here, Ends, ends, stops, Keeps, ends_then, noted, ends_test, stopped, ends_make}
use Rattle.rules.proofs.BalanceLaws.{type_parameters_close, parameters_close, index_from_lem, this_noted_lem, index_noted}
use Rattle.rules.proofs.KeysOnly.{Run, both, stand, begins, Never, not_kind, other_kind, Kind, Line, AtKey, AtSignature, Dead, unread, no_member}

module _ (g : Given) (run : Run g) where
  abbrev U : Reader
  U = run.reader

  abbrev keeps : (on : Bool) → Keeps g (U on)
  keeps = run.keeps

  -- Right before e, on a new line, where no member begins.
  pub record Past (e i h : ℕ) : Type 0 where
    pub at : i ≡ e
    pub whole : h ≡ 0
    pub none : begins (Kind g e) ≡ false

  -- A kind at a cursor that is known.
  kind_is : (s : State) (e : ℕ) → s.at ≡ e → s.half ≡ 0 → kind g s ≡ Kind g e
  kind_is s e a h = λ d. kind_at g.words (a d) (h d)

  line_is : (s : State) (e : ℕ) → s.at ≡ e → s.half ≡ 0 → on_line g s ≡ Line g e
  line_is s e a h = λ d. same_line g.words (a d) (h d)

  end_past : (lengths : List ℕ) (f : State → Placed) (e : ℕ) (s : State) → s.at ≡ e → s.half ≡ 0 → Dead g run e
      → Ends (Past e) (member_end g s (λ q. make g lengths (f q) q))
  end_past lengths f e s a h d =
      let k = kind_is s e a h in
      let l = line_is s e a h in
      ends_test (among (Comma ∷ Semicolon ∷ []) (kind g s)) (λ i _. clash (cc (not_end Comma refl, not_end Semicolon refl))) λ _ _.
      ends_test (stands g RCurly s or not (on_line g s)) (λ i _. ends_make g lengths (f s) s (record { at = a; whole = h; none = none (Line g e) refl (rw (k, l, not_end RCurly refl) at i) d.begun })) stopped
    where
      not_end : (c : ℕ) → among (Colon ∷ Comma ∷ Semicolon ∷ RCurly ∷ []) c ≡ true → eqb (Kind g e) c ≡ false
      not_end c i = not_kind (among (Colon ∷ Comma ∷ Semicolon ∷ RCurly ∷ [])) c (Kind g e) i d.ended

      none : (b : Bool) → Line g e ≡ b → not b ≡ true → b or not (begins (Kind g e)) ≡ true → begins (Kind g e) ≡ false
      none true i j m = clash (cc)
      none false i j m = not-true (begins (Kind g e)) m

  -- A signature whose parameters end at a dead place ends there.
  signature_past : (b : ℕ) (x : Signature) (j a e : ℕ) (w : State) → Ends (λ i h. i ≡ a) (type_parameters g U true (stand j w)) → Shut g.words (a + 1) 0 e 0 → Dead g run e
      → Ends (Past e) (signature g U b x (stand j w))
  unfolding signature
  signature_past b x j a e w t shut d =
      ends_then t λ ts q i.
      ends_then (parameters_close g U keeps (is_construct x) q) λ ps p c.
      let there : p.at ≡ e = shut_same c (subst (λ (i : ℕ). Shut g.words (i + 1) 0 e 0) (sym i) shut) in
      let colon : eqb (kind g p) Colon ≡ false = ap (λ (k : ℕ). eqb k Colon) (kind_is p e there c.whole) ∙ not_kind (among (Colon ∷ Comma ∷ Semicolon ∷ RCurly ∷ [])) Colon (Kind g e) refl d.ended in
      this_noted_lem g U keeps (this_noted x ps.this) p
      (λ q. then (optional g Colon (return_type g U) q) λ r q. member_end g q λ q. make g (count ts ∷ length ps.list ∷ []) (signature_node b (end g q) x ts ps r) q) λ l.
      rw colon (end_past (count ts ∷ length ps.list ∷ []) (λ q. signature_node b (end g q) x ts ps absent) e (noted p l) there c.whole d)

  -- What ends at such a place is followed by no member.
  past_never : (n : ℕ) (l : List Placed) (e : ℕ) (r : Result Placed) → Ends (Past e) r → Never (then r (λ t q. members_from g U n (l ++ (t ∷ [])) q))
  past_never n l e r h = ends_then h λ t q p.
      let same : members_from g U n (l ++ (t ∷ [])) (stand e q) ≡ members_from g U n (l ++ (t ∷ [])) q
      = λ d. members_from g U n (l ++ (t ∷ [])) (record { at = sym p.at d; half = sym p.whole d; nodes = q.nodes; notes = q.notes; tally = q.tally }) in
      subst Never same (no_member g run n (l ++ (t ∷ [])) e q p.none)

  -- ---- Signatures

  no_type_parameters : (j : ℕ) (w : State) → eqb (Kind g j) LAngle ≡ false → type_parameters g U true (stand j w) ≡ read absent (stand j w)
  unfolding type_parameters
  no_type_parameters j w e = rw e refl

  -- A signature in `(`, whose brackets end where the type's do.
  pub sign_paren : (j e : ℕ) → AtSignature g run j → eqb (Kind g j) LParen ≡ true → Shut g.words (j + 1) 0 e 0 → Dead g run e → ⊥
  sign_paren j e x k shut d =
      let none : Ends (λ i h. i ≡ j) (type_parameters g U true (stand j x.w)) = rw (no_type_parameters j x.w (other_kind (λ k. eqb k LParen) LAngle (Kind g j) refl k)) (ends refl) in
      unread g run x.same (past_never x.turns x.list e _ (signature_past x.b x.sort j j e x.w none shut d))

  -- Type parameters end where the type's, or its arguments, do.
  ends_angle : (j a : ℕ) (w : State) → eqb (Kind g j) LAngle ≡ true → Shut g.words (j + 1) 0 a 0 → Ends (λ i h. (i ≡ a) × (h ≡ 0)) (type_parameters g U true (stand j w))
  ends_angle j a w k shut = by (type_parameters_close g U keeps true (stand j w) k)
    where
      by : {r : Result (Opt (List Placed))} → Ends (Shut g.words (j + 1) 0) r → Ends (λ i h. (i ≡ a) × (h ≡ 0)) r
      by (ends c) = ends (shut_same c shut, c.whole)
      by stops = stops

  -- A signature in `<`, with its parameters.
  pub sign_angle : (j a e : ℕ) → AtSignature g run j → eqb (Kind g j) LAngle ≡ true → Shut g.words (j + 1) 0 a 0 → Shut g.words (a + 1) 0 e 0 → Dead g run e → ⊥
  sign_angle j a e x k angle shut d =
      unread g run x.same (past_never x.turns x.list e _ (signature_past x.b x.sort j a e x.w (by (ends_angle j a x.w k angle)) shut d))
    where
      by : {r : Result (Opt (List Placed))} → Ends (λ i h. (i ≡ a) × (h ≡ 0)) r → Ends (λ i h. i ≡ a) r
      by (ends c) = ends c.0
      by stops = stops

  no_parameters : (isNew : Bool) (s : State) → stands g LParen s ≡ false → Never (parameters g U isNew s)
  unfolding parameters
  no_parameters isNew s e = rw e stops

  -- Parameters must follow.
  pub sign_alone : (j a : ℕ) → AtSignature g run j → eqb (Kind g j) LAngle ≡ true → Shut g.words (j + 1) 0 a 0 → eqb (Kind g a) LParen ≡ false → ⊥
  unfolding signature
  sign_alone j a x k angle n =
      unread g run x.same
      (ends_then {P = λ _ _. ⊥}
      (ends_then (ends_angle j a x.w k angle) λ ts q c.
      ends_then {P = λ _ _. ⊥} (no_parameters (is_construct x.sort) q (ap (λ (k : ℕ). eqb k LParen) (kind_is q a c.0 c.1) ∙ n)) λ _ _ z. absurd z)
      λ _ _ z. absurd z)

  -- A string is no parameter.
  string_parameter : (j : ℕ) (w : State) → Kind g j ≡ Str → Never (parameter g U (stand j w))
  unfolding parameter binding_word
  string_parameter j w k =
      let none : past g Dot3 (stand j w) ≡ stand j w = rw k refl in
      rw (none, k) stops

  string_from : (fuel j : ℕ) (w : State) → Kind g j ≡ Str → Never (parameters_from g U absent fuel [] (stand j w))
  unfolding parameters_from
  string_from zero j w k = stops
  string_from (suc fuel) j w k = rw k (ends_then (string_parameter j w k) λ _ _ z. absurd z)

  string_never : (isNew : Bool) (j : ℕ) (w : State) → Kind g (j + 1) ≡ Str → Never (parameters g U isNew (stand j w))
  unfolding parameters
  string_never isNew j w k =
      ends_test (eqb (Kind g j) LParen) (λ _ _. ends_test (eqb (Kind g (j + 1)) This) (λ i _. both i (ap (λ (k : ℕ). eqb k This) k)) λ _ _. string_from (turns g) (j + 1) w k) stopped

  pub sign_string : (j : ℕ) → AtSignature g run j → eqb (Kind g j) LParen ≡ true → eqb (Kind g (j + 1)) Str ≡ true → ⊥
  unfolding signature
  sign_string j x k e =
      unread g run x.same
      (rw (no_type_parameters j x.w (other_kind (λ k. eqb k LParen) LAngle (Kind g j) refl k))
      (ends_then {P = λ _ _. ⊥} (ends_then {P = λ _ _. ⊥} (string_never (is_construct x.sort) j x.w (eqb-true (Kind g (j + 1)) Str e)) λ _ _ z. absurd z) λ _ _ z. absurd z))

  -- ---- Index signatures

  index_never : (b : ℕ) (readonly : Bool) (j e : ℕ) (w : State) → Shut g.words (j + 1) 0 e 0 → eqb (Kind g e) Colon ≡ false → Never (index g U b readonly (stand j w))
  unfolding index
  index_never b readonly j e w shut n =
      ends_then (index_from_lem g U keeps (turns g) no_index (stand (j + 1) w) (stand (j + 1) w) level_here) λ ps q d.
      ends_test (stands g RBrack q)
      (λ i _.
      let there = shut_same (close_next g RBrack brack_closes q i d) shut in
      index_noted g U keeps b ps (next q) (λ q. expect g Colon q λ q. then (U true q) λ t q. member_end g q λ q. make g [] (node.index_signature b (end g q) readonly (kept ps) t) q) λ l.
      rw (ap (λ (i : ℕ). eqb (Kind g i) Colon) there ∙ n) stops) stopped

  -- An index signature, whose brackets end where the type's do, with no `:` behind them.
  pub bracket_never : (j e : ℕ) → AtKey g run j → eqb (Kind g j) LBrack ≡ true → Shut g.words (j + 1) 0 e 0 → eqb (Kind g e) Colon ≡ false → ⊥
  unfolding behind_readonly
  bracket_never j e x k shut n =
      unread g run x.same
      (ends_then {P = λ _ _. ⊥}
      (ends_test (unsupported_here g (stand j x.w)) stopped λ _ _.
      ends_test (not (eqb (Kind g j) LBrack)) (λ i _. both k (not-true (eqb (Kind g j) LBrack) i)) λ _ _.
      ends_test (index_start g.words j) (λ _ _. index_never x.b x.readonly j e x.w shut n) stopped)
      λ _ _ z. absurd z)
