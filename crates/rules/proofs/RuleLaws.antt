-- One law for each rule: what it reads is of the node table and within the limits, its nodes are those in use and stand in order, it weighs about as much in a key as its tokens are worth at most, no half is left; it refuses at a token.
use mathlib.Core.Path.{◌≡◌, refl}
use mathlib.Core.Bool.{Bool, true, false, not}
use mathlib.Core.List.{List, [], ◌∷◌, ◌++◌}
use Prim.Native.Nat.{ℕ, zero, suc, ◌+◌, ◌≤◌, ◌<◌}
use native.Mathlib.Omega.{arith}
use borrow.Author.Tests.{eqb-true, eqb-false, not-false}
use lib.Dec.{eqb, leb}
use lib.ListN.{length}
use Rattle.words.specs.Limits.{most_open, most_trials}
use Rattle.words.specs.Test.{◌and◌, ◌or◌, between, among, test}
use Rattle.words.specs.Class as class
use Rattle.words.specs.Kind.{Eof, ShiftLeft, LtEq, ShiftLeftEq, Str, NumberLiteral, BigIntLiteral, NoSubstitutionTemplate, TemplateHead, TemplateMiddle, TemplateTail, LCurly, RCurly, LBrack, RBrack, LParen, RParen, LAngle, RAngle, Pipe, Amp, Question, Colon, Comma, Semicolon, Dot, Dot3, Arrow, Eq, Bang, Minus, Plus, Star, Any, Unknown, Null, Void, Abstract, As, Asserts, Infer, Is as IsWord, Readonly, Extends, Import, In, New, This, Typeof}
use Rattle.keys.specs.Form.{Form, height, nodes}
use Rattle.keys.specs.Table.{type, element, under_rest, type_param, param, member}
use Rattle.keys.specs.Placed as node
use Rattle.keys.specs.Placed.{Placed, void, join, tree, entries, maybe, maybe_list, Spelling, PropertyKey, Opt, absent, present, maybe_this, first_of, end_of, is_rest, is_asked, is_literal, is_no_index, as_element}
use Rattle.keys.proofs.Fitting.{Is, IsSpelling, Each, IfAny, IsList, IsNames, IsPiece, IsPropertyKey, IsNamed}
use Rattle.keys.proofs.Makers as makers
use Rattle.rules.specs.Refusal.{unexpected}
use Rattle.rules.specs.Notes.{note, required_after_optional, asked_after_label, NoteStands, of_one, of_two}
use Rattle.rules.specs.State.{Given, State, Result, Reader, read, refused, begin, next, halved, kind, kind_after, stands, on_line, first, end, spelling, turns, past, expect, optional, make, report_if, entering}
use Rattle.rules.specs.Names.{name, binding_word, reserved, bound, dots_from, dotted}
use Rattle.rules.specs.List.{no_entry, count, position, list_from, list}
use Rattle.rules.specs.Arguments.{opens, opened, arguments, named, import_from, import_type}
use Rattle.rules.specs.TypeParameters.{varies, type_parameter, type_parameters}
use Rattle.rules.specs.Function.{ThisParameter, Parameters, parameters_of, this_type, modified, predicates, subject, freed, separated, report_this, parameter, parameters_from, this_first, parameters, return_type, function_node, function}
use Rattle.rules.specs.Union.{parts_from, joined, intersection, union}
use Rattle.rules.specs.Operator.{operators, operand, operator_from, operator}
use Rattle.rules.specs.Infer.{Trial, constraint_of, opened as openedTrial, trial, infer}
use Rattle.rules.specs.Postfix.{suffixed, bracketed, suffix, postfix_from, postfix}
use Rattle.rules.specs.Primary.{keywords, literals, is_keyword, is_negative, is_assertion, keyword, literal, negative, this, assertion, query, curly, brackets, reference, enclosed, worded, primary}
use Rattle.rules.specs.Mapped.{modifier, mapped}
use Rattle.rules.specs.Object.{Signature, of_method, of_call, of_construct, is_construct, signature_node, IndexParameter, IndexParameters, no_index, one_index, several_index, with_one, has_one, kept, key_here, signs, constructs, is_readonly, unsupported_here, member_end, this_noted, report_index, signature, index_type, index_parameter, index_from, index, property, with_key, behind_readonly, member as objectMember, members_from, object}
use Rattle.rules.specs.Tuple.{latest_from, latest_optional, report_required, is_optional_element, labelled, member_node, member as namedMember, rest_of, labelled_element, element as elementRule, checked_element, tuple}
use Rattle.rules.specs.Template.{pieces_from, pieces, template}
use Rattle.rules.specs.TypeRule.{begins, conditional, union_or_conditional, type as typeRule}
use Rattle.rules.specs.Reading.{read_type, reading}
use Rattle.words.specs.Ahead.{starter, mapped_start, function_start, property_key, index_start}
use Rattle.words.specs.Word.{size}
use Rattle.words.specs.Cursor.{word_at}
use Rattle.rules.proofs.TokenLaws.{both_true, or_first, among_each, Checked, token_spells, spelled_by, split_size, word_inside, start_inside, taken_before}
use Rattle.rules.specs.Places.{after}
use Rattle.rules.specs.Told.{Told}
use Rattle.rules.specs.Weight.{weight}
use Rattle.rules.proofs.ToldLaws.{told_here, told_subject, told_literal, told_names, told_element}
use Rattle.rules.proofs.PlaceLaws.{Spans, spans_le, spans_up, spans_flat, spans_element, spans_node}
use Rattle.rules.proofs.Gives.{Gives, gives, stops, At, cursor, Has, Got, Good, Enough, Step, Past, size_of, weight_of, worth, itself, ReadsNames, ReadsOn, ReadsTree, ReadsBehind, ReadsIf, ReadsAbout, ReadsTypes, gives_then, gives_test, gives_must, gives_mark, gives_or, refusal, step, past_mark_lem, past_more, past_whole, counted, weight_more, flat_has, front_has, join_has, ◌&◌, regroup, drop_void, has_le, has_down, pick_has, has_on, has_next, has_more, gives_down, made_by, made, reported, reported_if, enough_more, list_is, names_are, if_list_is, tallied_at}
use Rattle.rules.proofs.PartLaws.{key_sort_lem, names_size, names_weight, subject_size, subject_weight, element_size, as_under_name, pieces_more, keyword_below, literal_size, literal_weight, literal_fits, negative_fits, asserted}

-- How parameters stand as values, where a constructor gave the nodes of its `this` back.
abbrev shape_of_this : Bool → Opt ThisParameter → Placed
shape_of_this true o = void
shape_of_this false o = maybe_this (this_type o)

abbrev shape_of_parameters : Bool → Parameters → Placed
shape_of_parameters isNew ps = join (shape_of_this isNew ps.this) (entries ps.list)

record AreParameters (ps : Parameters) : Type 0 where
  this_is : IfAny (IfAny (Is type)) (this_type ps.this)
  others : Enough (Is param) 0 ps.list

-- A diagnostic of one place, with another number than 4.
note_alone : {size : ℕ} (n b e : ℕ) → eqb n required_after_optional ≡ false → NoteStands size (note n b e)
note_alone n b e i = of_one (λ f. eqb-false n required_after_optional i f) refl refl

-- A node's bytes end by hi.
abbrev EndsBy : ℕ → Placed → Type 0
EndsBy hi o = (first_of o < end_of o) × (end_of o ≤ hi)

-- So do those of the latest optional one of elements that do.
latest_ends : (l : List Placed) (o : Opt Placed) {lo hi : ℕ} → Each (Is element) l → Spans lo hi (entries l) → IfAny (EndsBy hi) o → IfAny (EndsBy hi) (latest_from o l)
latest_ends [] o e x h = h
latest_ends (t ∷ l) o {lo} {hi} e x h = latest_ends l _ e.1 rest (by (is_optional_element t))
  where
    rest : Spans (after lo t) hi (entries l)
    rest = record { in_order = x.in_order.1; up_to = x.up_to }

    by : (b : Bool) → IfAny (EndsBy hi) (test b (λ _. present t) (λ _. o))
    by true = let p = spans_node t e.0 (record { in_order = x.in_order.0; up_to = spans_le rest }) in (p.1, p.2)
    by false = h

no_entries : {A : Type 0} {P : A → Type 0} → Enough P 0 []
no_entries = record { enough = omega arith; each = tt }

module _ (g : Given) (c : Checked g) where
  -- ---- Lists

  module _ (close : ℕ) (ok : eqb Eof close ≡ false) {f : Form} (entry : List Placed → State → Result Placed) (reads : ReadsBehind g f entry) where
    list_from_lem : (m n lo fuel : ℕ) (l : List Placed) (s : State) → Enough (Is f) 0 l → Has g n lo (entries l) s → weight_of (entries l) + m ≤ worth g s + 8
        → Gives g (Got g (Enough (Is f) 0) entries 1 m n lo) (list_from g close entry fuel l s)
    unfolding list_from
    list_from_lem m n lo zero l s e x o = stops tt (cursor x.at)
    list_from_lem m n lo (suc fuel) l s e x o =
        gives_or c close ok s x.at (λ u _. gives (record { is = e; has = has_next x u; whole = refl; rise = omega (arith, has_le x); light = omega arith })) λ _ _.
        gives_then (reads l lo _ (end g s) s e.each x.spans x.at.order x.at) λ t q b.
        let more = enough_more e b.is.is in
        let y = has_more l x b.has in
        let sum = weight_more l t in
        gives_or c close ok q y.at (λ u _. gives (record { is = more; has = has_next y u; whole = refl; rise = omega (arith, has_le y); light = omega arith })) λ _ _.
        gives_mark c Comma refl q y.at (refusal y.at tt) λ u _.
        list_from_lem m n lo fuel _ _ more (has_next y u) (omega arith)

    list_gives : (n lo : ℕ) (s : State) → lo ≤ end g s → At g n s → Gives g (Got g (Enough (Is f) 0) entries 1 (worth g s + 8) n lo) (list g close entry s)
    unfolding list
    list_gives n lo s l a = list_from_lem (worth g s + 8) n lo (turns g) [] s no_entries (flat_has void refl tt l a) (omega arith)

  -- ---- Names

  word_gives : (f : ℕ → Bool) → f Eof ≡ false → ReadsNames g 10 IsSpelling node.spell (λ s. test (f (kind g s)) (λ _. read (spelling g s) (next s)) (λ _. refused unexpected s))
  word_gives f ok n lo s l a =
      gives_must (f (kind g s)) (refusal a tt) λ e _.
      let t = step c f ok s e a in
      gives (record { is = spelled_by g c f ok s e; has = flat_has _ refl (told_here g c s) (omega arith) t.at; whole = refl; rise = omega arith; light = omega arith })

  name_gives : ReadsNames g 10 IsSpelling node.spell (name g)
  unfolding name
  name_gives = word_gives class.name refl

  binding_gives : ReadsNames g 10 IsSpelling node.spell (binding_word g)
  unfolding binding_word
  binding_gives = word_gives class.binding_word refl

  bound_gives : ReadsNames g 10 IsSpelling node.spell (bound g)
  unfolding bound
  bound_gives n lo s l a =
      gives_then (binding_gives n lo s l a) λ x q b.
      reported_if (reserved (kind g s)) _ (note_alone _ _ _ refl) q (read x) b λ q d.
      gives d

  dots_give : (m n lo least fuel : ℕ) (l : List Spelling) (s : State) → Got g (Enough IsSpelling least) node.listed_names 1 m n lo l s
      → Gives g (Got g (Enough IsSpelling least) node.listed_names 1 m n lo) (dots_from g fuel l s)
  unfolding dots_from
  dots_give m n lo least zero l s h = stops tt (cursor h.has.at)
  dots_give m n lo least (suc fuel) l s h =
      gives_mark c Dot refl s h.has.at (λ _ _. gives h) λ t _.
      gives_then (name_gives _ lo (next s) (omega arith) t.at) λ x q b.
      let all = l ++ (x ∷ []) in
      dots_give m n lo least fuel all q (record {
        is = enough_more h.is b.is;
        has = flat_has (node.listed_names all) (names_size all) (told_names g.text l x h.has.told b.has.told) (has_le b.has) (counted (omega (arith, names_size l)) b.has.at);
        whole = b.whole;
        rise = b.rise;
        light = omega (arith, names_weight l x);
      })

  dotted_gives : ReadsNames g 8 (Enough IsSpelling 1) node.listed_names (dotted g)
  unfolding dotted
  dotted_gives n lo s l a =
      gives_then (name_gives n lo s l a) λ x q b.
      dots_give _ n lo 1 (turns g) (x ∷ []) q (record {
        is = record { enough = omega arith; each = (b.is, tt) };
        has = flat_has _ refl (b.has.told, tt) (has_le b.has) (counted (omega arith) b.has.at);
        whole = b.whole;
        rise = b.rise;
        light = omega arith;
      })

  -- ---- Rules that read types

  module _ (T : Reader) (h : ReadsTypes g T) where
    optional_by : (k : ℕ) → eqb Eof k ≡ false → (part : State → Result Placed) → ReadsTree g type part → ReadsOn g (IfAny (Is type)) maybe (optional g k part)
    optional_by k ok part reads n lo s w l a =
        gives_or c k ok s a
        (λ u _.
        gives_then (reads _ lo (next s) (omega arith) u.at) λ t q b.
        gives (record { is = b.is.is; has = pick_has 1 b.has; whole = b.whole; rise = omega arith; light = omega arith }))
        λ _ _.
        gives (record { is = tt; has = flat_has (maybe absent) refl tt l a; whole = w; rise = omega arith; light = omega arith })

    optional_gives : (k : ℕ) → eqb Eof k ≡ false → (on : Bool) → ReadsOn g (IfAny (Is type)) maybe (optional g k (T on))
    optional_gives k ok on = optional_by k ok (T on) (h on)

    -- ---- Arguments

    opened_past : {n : ℕ} (s : State) → opens g s ≡ true → At g n s → Past g n s (opened g s)
    opened_past {n} s e a = by (stands g LAngle s) refl
      where
        whole : s.half ≡ 0
        whole = eqb-true s.half 0 (both_true (eqb s.half 0) _ (both_true (on_line g s) _ e).1).0

        split : stands g LAngle s ≡ false → among (ShiftLeft ∷ LtEq ∷ ShiftLeftEq ∷ []) (kind g s) ≡ true
        split i = rw i at (both_true (eqb s.half 0) _ (both_true (on_line g s) _ e).1).1

        long : stands g LAngle s ≡ false → 2 ≤ size (word_at g.words s.at)
        long i = split_size g c s.at (rw whole at (split i))

        by : (b : Bool) → stands g LAngle s ≡ b → Past g n s (test b (λ _. next s) (λ _. halved s))
        by true i =
            let t = step c (λ k. eqb k LAngle) refl s i a in
            record { at = t.at; first_later = omega arith; end_later = omega arith; worth_later = omega arith }
        by false i =
            record {
              at = record {
                used = a.used;
                roomy = a.roomy;
                few = a.few;
                recorded = a.recorded;
                noted = a.noted;
                inside = a.inside;
                one = omega arith;
                shown = omega (arith, long i, word_inside g.text g.words c.start c.sound s.at);
                order = omega arith;
                rest = λ _. long i;
              };
              first_later = omega (arith, whole);
              end_later = omega (arith, whole);
              worth_later = omega arith;
            }

    args_give : ReadsOn g (IfAny (Enough (Is type) 0)) maybe_list (arguments g T)
    unfolding arguments
    args_give n lo s w l a =
        gives_test (not (opens g s)) (λ _ _. gives (record { is = tt; has = flat_has (maybe_list absent) refl tt l a; whole = w; rise = omega arith; light = omega arith })) λ e _.
        let o = opened_past s (not-false (opens g s) e) a in
        gives_then (list_gives RAngle refl (λ l. T true) (λ l a n lo s _ _. h true n lo s) n lo (opened g s) (omega arith) o.at) λ ts q b.
        reported_if (no_entry ts) _ (note_alone _ _ _ refl) q (read (present ts)) b λ p d.
        gives (record { is = d.is; has = pick_has 1 (pick_has (length ts) d.has); whole = d.whole; rise = omega arith; light = omega arith })

    named_gives : (tag : ℕ)
        → ((b e : ℕ) (l : List Spelling) (o : Opt (List Placed)) → IsNames 1 l → IfAny (IsList 0 type) o → Is type (tree tag b e (join (node.listed_names l) (maybe_list o))))
        → (m n lo b : ℕ) (s : State) → lo ≤ b → b ≤ first g s → m ≤ worth g s → At g n s
        → Gives g (Got g (Good type) itself 1 m n lo) (named g T (λ b e l o. tree tag b e (join (node.listed_names l) (maybe_list o))) b s)
    unfolding named
    named_gives tag is m n lo b s l k v a =
        gives_then (dotted_gives n b s k a) λ ns q x.
        gives_then (args_give _ (end g q) q x.whole (omega arith) x.has.at) λ o p y.
        made _ y.whole (x.has & y.has) l (omega arith) (omega arith) λ few. is b _ ns o (names_are x.is few.0) (if_list_is type o y.is few.1.0)

    import_from_lem : (isTypeof : Bool) {x : Spelling} → IsSpelling x → Told g.text (node.spell x) → (m n lo b : ℕ) (s : State) → lo ≤ b → b < end g s → weight_of (node.spell x) + m ≤ worth g s → At g n s
        → Gives g (Got g (Good type) itself 1 m n lo) (import_from g T b isTypeof x s)
    unfolding import_from
    import_from_lem isTypeof {x} i o m n lo b s l k v a =
        gives_test (stands g Comma s) (refusal a tt) λ _ _.
        gives_mark c RParen refl s a (refusal a tt) λ t _.
        gives_then (dots_give (worth g (next s)) n b 0 (turns g) [] (next s) (record { is = no_entries; has = flat_has (node.listed_names []) refl tt (omega arith) t.at; whole = refl; rise = omega arith; light = omega arith })) λ ns q y.
        gives_then (args_give _ (end g q) q y.whole (omega arith) y.has.at) λ ts p z.
        made _ z.whole (front_has (node.bit isTypeof) refl tt (front_has (node.spell x) refl o (y.has & z.has))) l (omega arith) (omega arith) λ few.
        makers.import_is b _ isTypeof ts i (names_are y.is few.0) (if_list_is type ts z.is few.1.0)

    import_gives : (isTypeof : Bool) (m n lo b : ℕ) (s : State) → lo ≤ b → b ≤ first g s → m ≤ worth g s → At g n s → Gives g (Got g (Good type) itself 1 m n lo) (import_type g T b isTypeof s)
    unfolding import_type
    import_gives isTypeof m n lo b s l k i a =
        gives_mark c Import refl s a (refusal a tt) λ t _.
        gives_mark c LParen refl (next s) t.at (refusal t.at tt) λ u _.
        gives_must (stands g Str (next (next s))) (refusal u.at tt) λ e _.
        let v = step c (λ k. eqb k Str) refl (next (next s)) e u.at in
        import_from_lem isTypeof (spelled_by g c (λ k. eqb k Str) refl (next (next s)) e) (told_here g c (next (next s))) m n lo b _ l (omega arith) (omega arith) v.at

    -- ---- Type parameters

    type_parameter_lem : (on : Bool) → ReadsTree g type_param (type_parameter g T on)
    unfolding type_parameter
    type_parameter_lem on n lo s l a =
        gives_test (varies g s) (refusal a tt) λ _ _.
        gives_then (bound_gives n (first g s) s (omega arith) a) λ x q y.
        gives_then (optional_gives Extends refl on _ (end g q) q y.whole (omega arith) y.has.at) λ t p z.
        gives_then (optional_gives Eq refl on _ (end g p) p z.whole (omega arith) z.has.at) λ d r w.
        made [] w.whole (y.has & z.has & w.has) l (omega arith) (omega arith) λ _.
        makers.type_parameter_is (first g s) _ t d y.is z.is w.is

    -- They may be none where a half is left, and then it still is.
    type_parameters_lem : (on : Bool) (n lo : ℕ) (s : State) → lo ≤ first g s → At g n s
        → Gives g (λ (o : Opt (List Placed)) (q : State). IfAny (Enough (Is type_param) 0) o × At g (n + size_of (maybe_list o)) q × Spans lo (first g q) (maybe_list o) × Told g.text (maybe_list o) × (weight_of (maybe_list o) + worth g s ≤ worth g q + 2)) (type_parameters g T on s)
    unfolding type_parameters
    type_parameters_lem on n lo s l a =
        gives_test (not (stands g LAngle s)) (λ _ _. gives (tt, counted (omega arith) a, spans_flat (maybe_list absent) refl l, tt, omega arith)) λ e _.
        let t = step c (λ k. eqb k LAngle) refl s (not-false (stands g LAngle s) e) a in
        gives_then (list_gives RAngle refl (λ l. type_parameter g T on) (λ l a n lo s _ _. type_parameter_lem on n lo s) n lo (next s) (omega arith) t.at) λ ps q b.
        reported_if (no_entry ps) _ (note_alone _ _ _ refl) q (read (present ps)) b λ p d.
        let x = pick_has 1 (pick_has (length ps) d.has) in
        gives (d.is, x.at, spans_up x.spans x.at.order, x.told, omega arith)

    -- ---- Function

    subject_is : (s : State) → class.name (kind g s) ≡ true → IfAny IsSpelling (subject g s)
    subject_is s e = by (stands g This s)
      where
        by : (b : Bool) → IfAny IsSpelling (test b (λ _. absent) (λ _. present (spelling g s)))
        by true = tt
        by false = spelled_by g c class.name refl s e

    parameter_gives : ReadsTree g param (parameter g T)
    unfolding parameter
    parameter_gives n lo s l a =
        let dots = past_mark_lem c Dot3 refl s a in
        gives_test (stands g Dot3 s and stands g This (past g Dot3 s)) (refusal dots.at tt) λ _ _.
        gives_then (binding_gives n (first g s) (past g Dot3 s) dots.first_later dots.at) λ x q y.
        let asked = past_mark_lem c Question refl q y.has.at in
        gives_then (optional_gives Colon refl true _ (end g q) (past g Question q) (past_whole g Question q y.whole) asked.end_later asked.at) λ t p z.
        made [] z.whole (front_has (node.bit (stands g Dot3 s)) refl tt (y.has & front_has (node.bit (stands g Question q)) refl tt z.has)) l (omega arith) (omega arith) λ _.
        makers.parameter_is (first g s) _ (stands g Dot3 s) (stands g Question q) t y.is z.is

    separated_gives : {A : Type 0} {P : A → State → Type 0} {n : ℕ} (is_rest : Bool) (s : State) (close on : State → Result A) → At g n s
        → (Step g n s → Gives g P (close (next s))) → (Step g n s → Gives g P (on (next s))) → Gives g P (separated g is_rest s close on)
    separated_gives is_rest s close on a x y =
        gives_test (stands g Eq s) (refusal a tt) λ _ _.
        gives_or c RParen refl s a (λ t _. x t) λ _ _.
        gives_test (is_rest and stands g Comma s) (refusal a tt) λ _ _.
        gives_mark c Comma refl s a (refusal a tt) λ t _. y t

    module _ (isNew : Bool) where
      parameters_from_lem : {m n lo : ℕ} (this : Opt ThisParameter) → IfAny (IfAny (Is type)) (this_type this) → {from : State} → Has g n lo (shape_of_this isNew this) from
          → (fuel : ℕ) (l : List Placed) (s : State) → Enough (Is param) 0 l → Has g (n + size_of (shape_of_this isNew this)) (end g from) (entries l) s
          → weight_of (shape_of_parameters isNew (parameters_of this l)) + m ≤ worth g s + 8 → Gives g (Got g AreParameters (shape_of_parameters isNew) 1 m n lo) (parameters_from g T this fuel l s)
      unfolding parameters_from
      parameters_from_lem this t x zero l s e y o = stops tt (cursor y.at)
      parameters_from_lem this t x (suc fuel) l s e y o =
          gives_or c RParen refl s y.at
          (λ u _. gives (record { is = record { this_is = t; others = e }; has = x & has_next y u; whole = refl; rise = omega (arith, has_le x, has_le y); light = omega arith })) λ _ _.
          gives_test (modified g s) (refusal y.at tt) λ _ _.
          gives_test (stands g This s) (refusal y.at tt) λ _ _.
          gives_then (parameter_gives _ (end g s) s y.at.order y.at) λ p q b.
          let more = enough_more e b.is.is in
          let z = has_more l y b.has in
          let sum = weight_more l p in
          separated_gives (stands g Dot3 s) q (read (parameters_of this (l ++ (p ∷ [])))) (parameters_from g T this fuel (l ++ (p ∷ []))) z.at
          (λ u.
          gives (record {
            is = record { this_is = t; others = more };
            has = x & has_next z u;
            whole = refl;
            rise = omega (arith, has_le x, has_le z);
            light = omega arith;
          }))
          λ u. parameters_from_lem this t x fuel (l ++ (p ∷ [])) (next q) more (has_next z u) (omega arith)

      -- Their brackets leave ten bytes of what they are worth.
      parameters_give : ReadsNames g 10 AreParameters (shape_of_parameters isNew) (parameters g T isNew)
      unfolding parameters this_first
      parameters_give n lo s l a =
          gives_mark c LParen refl s a (refusal a tt) λ t _.
          gives_or c This refl (next s) t.at
          (λ u _.
          gives_then (optional_gives Colon refl true _ lo (next (next s)) refl (omega arith) u.at) λ o q b.
          let this : ThisParameter = record { first = first g (next s); end = end g q; type = o } in
          let x = freed_has isNew this (next s) q t.at b.has in
          let o = freed_light isNew this (next s) q in
          separated_gives false (freed isNew (next s) q) (read (parameters_of (present this) [])) (parameters_from g T (present this) (turns g) []) x.at
          (λ v.
          gives (record {
            is = record { this_is = b.is; others = no_entries };
            has = x & flat_has void refl tt (omega arith) v.at;
            whole = refl;
            rise = omega (arith, has_le x);
            light = omega arith;
          }))
          λ v. parameters_from_lem (present this) b.is x (turns g) [] _ no_entries (flat_has void refl tt (omega arith) v.at) (omega arith))
          λ _ _.
          let x = absent_has isNew (next s) (omega arith) t.at in
          parameters_from_lem absent tt x (turns g) [] (next s) no_entries (flat_has void refl tt (omega arith) x.at) (omega (arith, absent_light isNew))
        where
          freed_has : (isNew : Bool) (p : ThisParameter) (s q : State) → At g n s → Has g n lo (maybe p.type) q → Has g n lo (shape_of_this isNew (present p)) (freed isNew s q)
          freed_has true p s q a x =
              let b = x.at in
              flat_has void refl tt (has_le x)
              (record { used = a.used; roomy = a.roomy; few = b.few; recorded = b.recorded; noted = b.noted; inside = b.inside; one = b.one; shown = b.shown; order = b.order; rest = b.rest })
          freed_has false p s q a x = pick_has 1 x

          absent_has : (isNew : Bool) (q : State) → lo ≤ end g q → At g n q → Has g n lo (shape_of_this isNew absent) q
          absent_has true q l a = flat_has void refl tt l a
          absent_has false q l a = flat_has (maybe_this absent) refl tt l a

          freed_light : (isNew : Bool) (p : ThisParameter) (s q : State)
              → weight_of (shape_of_this isNew (present p)) + worth g q ≤ weight_of (maybe p.type) + worth g (freed isNew s q) + 2
          freed_light true p s q = omega arith
          freed_light false p s q = omega arith

          absent_light : (isNew : Bool) → weight_of (shape_of_this isNew absent) ≤ 2
          absent_light true = omega arith
          absent_light false = omega arith

    return_gives : ReadsTree g type (return_type g T)
    unfolding return_type
    return_gives n lo s l a =
        gives_test (not (predicates g s)) (λ _ _. h true n lo s l a) λ e _.
        let p = both_true (class.name (kind g s)) _ (not-false (predicates g s) e) in
        let t = step c class.name refl s p.0 a in
        let u = step c (λ k. eqb k IsWord) refl (next s) (both_true (eqb (kind_after g 1 s) IsWord) _ p.1).0 t.at in
        gives_then (h true n (first g s) (next (next s)) (omega arith) u.at) λ r q b.
        made [] b.whole (pick_has 0 (front_has (node.subject_of (subject g s)) (subject_size (subject g s)) (told_subject g c s) (pick_has 1 b.has))) l (omega arith) (omega (arith, subject_weight g s)) λ _.
        makers.predicate_is (first g s) _ false (subject g s) (subject_is s p.0) b.is.is

    function_node_lem : {m k n lo e : ℕ} (b : ℕ) (isNew isAbstract : Bool) (ts : Opt (List Placed)) (ps : Parameters) (r : Placed) {p : State} (s : State) → lo ≤ b → b < end g s
        → IfAny (Enough (Is type_param) 0) ts → AreParameters ps → Spans b e (maybe_list ts) → Told g.text (maybe_list ts) → Has g (n + size_of (maybe_list ts)) e (shape_of_parameters isNew ps) p
        → Got g (Good type) itself 1 k (n + size_of (maybe_list ts) + size_of (shape_of_parameters isNew ps)) (end g p) r s
        → weight_of (maybe_list ts) + weight_of (shape_of_parameters isNew ps) + m + 6 ≤ k → Gives g (Got g (Good type) itself 1 m n lo) (function_node g T b isNew isAbstract ts ps r s)
    unfolding function_node
    function_node_lem b false isAbstract ts ps r s l i is are x o y z d =
        made _ z.whole (join_has o x (regroup (length ps.list) y z.has)) l i (omega arith) λ few.
        makers.function_is b _ ts (this_type ps.this) (if_list_is type_param ts is few.0) are.this_is (list_is are.others few.1.0) z.is.is
    function_node_lem {m} {k} {n} {lo} b true isAbstract ts ps r {p} s l i is are x o y z d = by ps.this
      where
        last : (q : State) → Got g (Good type) itself 1 k (n + size_of (maybe_list ts) + size_of (shape_of_parameters true ps)) (end g p) r q
            → Gives g (Got g (Good type) itself 1 m n lo) (make g (count ts ∷ length ps.list ∷ []) (node.constructor b (end g q) isAbstract ts ps.list r) q)
        last q w =
            made _ w.whole (front_has (node.bit isAbstract) refl tt (join_has o x (drop_void (regroup (length ps.list) y w.has)))) l (omega (arith, spans_le x, has_le y)) (omega arith) λ few.
            makers.constructor_is b _ isAbstract ts (if_list_is type_param ts is few.0) (list_is are.others few.1.0) w.is.is

        by : (o : Opt ThisParameter)
            → Gives g (Got g (Good type) itself 1 m n lo) (report_this g o s λ q. make g (count ts ∷ length ps.list ∷ []) (node.constructor b (end g q) isAbstract ts ps.list r) q)
        by absent = last s z
        by (present t) = reported _ (note_alone _ _ _ refl) s (λ q. make g (count ts ∷ length ps.list ∷ []) (node.constructor b (end g q) isAbstract ts ps.list r) q) z last

    function_gives : (on : Bool) → ReadsTree g type (function g T on)
    unfolding function
    function_gives on n lo s l a =
        let p = past g Abstract s in
        let abstract = past_mark_lem c Abstract refl s a in
        let new = past_mark_lem c New refl p abstract.at in
        gives_then (type_parameters_lem on n (first g s) (past g New p) (omega arith) new.at) λ ts q x.
        gives_then (parameters_give (stands g New p) _ (first g q) q (omega arith) x.1) λ ps r y.
        gives_mark c Arrow refl r y.has.at (refusal y.has.at tt) λ t _.
        gives_then (return_gives _ (end g r) (next r) (omega arith) t.at) λ u v z.
        function_node_lem (first g s) (stands g New p) (stands g Abstract s) ts ps u v l (omega (arith, spans_le x.2)) x.0 y.is x.2 x.3 y.has z (omega (arith, x.4))

    -- ---- Mapped

    modifier_gives : (k : ℕ) → eqb Eof k ≡ false → ReadsOn g (λ (m : ℕ). m < 4) node.number (modifier g k)
    unfolding modifier
    modifier_gives k ok n lo s w l a =
        gives_or c k ok s a (λ t _. gives (record { is = omega arith; has = flat_has _ refl tt (omega arith) t.at; whole = refl; rise = omega arith; light = omega arith })) λ _ _.
        gives_or c Plus refl s a (λ t _. signed (next s) (omega arith) (omega arith) t.at 2 (omega arith)) λ _ _.
        gives_or c Minus refl s a (λ t _. signed (next s) (omega arith) (omega arith) t.at 3 (omega arith)) λ _ _.
        gives (record { is = omega arith; has = flat_has _ refl tt l a; whole = w; rise = omega arith; light = omega arith })
      where
        signed : (q : State) → lo ≤ end g q → worth g s ≤ worth g q → At g n q → (m : ℕ) → m < 4 → Gives g (Got g (λ (m : ℕ). m < 4) node.number 0 (worth g s) n lo) (expect g k q (read m))
        signed q l v a m i = gives_mark c k ok q a (refusal a tt) λ t _. gives (record { is = i; has = flat_has _ refl tt (omega arith) t.at; whole = refl; rise = omega arith; light = omega arith })

    mapped_gives : ReadsTree g type (mapped g T)
    unfolding mapped
    mapped_gives n lo s l a =
        gives_mark c LCurly refl s a (refusal a tt) λ curly _.
        gives_then (modifier_gives Readonly refl n (first g s) (next s) refl (omega arith) curly.at) λ readonly q b.
        gives_mark c LBrack refl q b.has.at (refusal b.has.at tt) λ bracket _.
        gives_then (binding_gives _ (end g q) (next q) (omega arith) bracket.at) λ key p d.
        gives_mark c In refl p d.has.at (refusal d.has.at tt) λ word _.
        gives_then (h true _ (end g p) (next p) (omega arith) word.at) λ x r e.
        gives_then (optional_gives As refl true _ (end g r) r e.whole (omega arith) e.has.at) λ m u f.
        gives_mark c RBrack refl u f.has.at (refusal f.has.at tt) λ closed _.
        gives_then (modifier_gives Question refl _ (end g u) (next u) refl (omega arith) closed.at) λ question v i.
        gives_then (optional_gives Colon refl true _ (end g v) v i.whole (omega arith) i.has.at) λ o y j.
        let semicolon = past_mark_lem c Semicolon refl y j.has.at in
        gives_mark c RCurly refl (past g Semicolon y) semicolon.at (refusal semicolon.at tt) λ t _.
        let all = b.has & d.has & e.has & f.has & i.has & j.has in
        made [] refl (has_on all (counted (omega arith) t.at) (omega arith)) l (omega (arith, has_le all)) (omega (arith, curly.more, b.light, bracket.more, d.light)) λ _.
        makers.mapped_is (first g s) _ readonly m question o b.is d.is e.is.is f.is i.is j.is

    -- ---- Tuple

    element_has : {n lo : ℕ} (t : Placed) {q : State} → Has g n lo t q → Has g n lo (as_element t) q
    element_has t x = record { at = counted (omega (arith, element_size nodes (λ _ _ _. refl) t)) x.at; spans = spans_element t x.spans; told = told_element g.text t x.told }

    member_node_lem : {m k n lo : ℕ} (label stood : State) (question : Bool) (t : Placed) (q : State) → class.name (kind g label) ≡ true → lo ≤ first g label
        → Got g (Good type) itself 1 k n (first g label) t q → weight_of (node.spell (spelling g label)) + m + 4 ≤ k
        → Gives g (Got g (λ (e : Placed). Good element e × Is under_rest e) itself 1 m n lo) (member_node g T label stood question t q)
    unfolding member_node
    member_node_lem label stood question t q e l b d =
        let spelt = spelled_by g c class.name refl label e in
        let under = as_under_name t b.is.is in
        gives_then
        (made_by [] 22 b.whole (front_has (node.spell (spelling g label)) refl (told_here g c label) (front_has (node.bit question) refl tt (element_has t b.has))) l (omega arith) (omega (arith, element_size weight (λ _ _ _. refl) t))
        λ _ low. (record { is = makers.named_is (first g label) _ question spelt under; low = low }, makers.named_under_rest (first g label) _ question spelt under))
        λ x q d.
        reported_if (stands g Dot3 stood) _ (note_alone _ _ _ refl) q (λ q. report_if (is_asked t) g (note asked_after_label (first g stood) (end g q)) q (read x)) d λ q d.
        reported_if (is_asked t) _ (note_alone _ _ _ refl) q (read x) d λ q d.
        gives d

    member_gives : (n lo : ℕ) (s : State) → class.name (kind g s) ≡ true → lo ≤ first g s → At g n s
        → Gives g (Got g (λ (e : Placed). Good element e × Is under_rest e) itself 1 (worth g s) n lo) (namedMember g T s)
    unfolding namedMember
    member_gives n lo s e l a =
        let t = step c class.name refl s e a in
        let asked = past_mark_lem c Question refl (next s) t.at in
        gives_mark c Colon refl (past g Question (next s)) asked.at (refusal asked.at tt) λ u _.
        let p = next (past g Question (next s)) in
        let dots = past_mark_lem c Dot3 refl p u.at in
        gives_then
        (h true n (first g s) (past g Dot3 p) (omega arith) dots.at)
        λ x q b. member_node_lem s p (stands g Question (next s)) x q e l b (omega arith)

    labelled_gives : ReadsIf g (λ s. labelled g (past g Dot3 s)) element (labelled_element g T)
    unfolding labelled_element rest_of
    labelled_gives n lo s e l a =
        let dots = past_mark_lem c Dot3 refl s a in
        gives_then (member_gives n (first g s) (past g Dot3 s) (both_true (class.name (kind g (past g Dot3 s))) _ e).0 dots.first_later dots.at) λ x q b.
        gives_test (stands g Dot3 s)
        (λ i _.
        reported_if (stands g Question (next (next s))) _ (note_alone _ _ _ refl) q (λ q. make g [] (node.rest (first g s) (end g q) x) q) b λ q b.
        made [] b.whole b.has l (omega arith) (omega (arith, past_more c Dot3 refl s i a)) λ _. makers.rest_is (first g s) _ b.is.1)
        λ _ _. gives (record { is = b.is.0; has = has_down l b.has; whole = b.whole; rise = omega arith; light = omega arith })

    element_gives : ReadsTree g element (elementRule g T)
    unfolding elementRule
    element_gives n lo s l a =
        let dots = past_mark_lem c Dot3 refl s a in
        gives_test (labelled g (past g Dot3 s)) (λ e _. labelled_gives n lo s e l a) λ _ _.
        gives_then (h true n (first g s) (past g Dot3 s) dots.first_later dots.at) λ t q b.
        gives_test (stands g Dot3 s)
        (λ i _. made [] b.whole b.has l (omega arith) (omega (arith, past_more c Dot3 refl s i a)) λ _. makers.rest_is (first g s) _ (makers.type_under_rest b.is.is)) λ _ _.
        gives (record {
          is = record { is = makers.as_element_is t b.is.is; low = omega (arith, element_size height (λ _ _ _. refl) t) };
          has = element_has t (has_down l b.has);
          whole = b.whole;
          rise = omega arith;
          light = omega (arith, element_size weight (λ _ _ _. refl) t);
        })

    -- Diagnostic 4: the latest optional element ended before the required one began.
    required_gives : {m n lo : ℕ} (o : Opt Placed) (e : Placed) (q : State) → IfAny (EndsBy lo) o → Got g (Good element) itself 1 m n lo e q
        → Gives g (Got g (Good element) itself 1 m n lo) (report_required g o e q)
    required_gives absent e q x b = gives b
    required_gives (present o) e q x b =
        let p = spans_node e b.is.is b.has.spans in
        reported_if (not (is_optional_element e) and not (is_rest e)) _ (of_two refl x.0 (omega arith) p.1 (omega (arith, p, b.has.at.order, b.has.at.shown))) q (read e) b λ q d.
        gives d

    checked_gives : ReadsBehind g element (checked_element g T)
    unfolding checked_element
    checked_gives es a n lo s each spans l at =
        gives_then (element_gives n lo s l at) λ e q b.
        required_gives (latest_optional es) e q (latest_ends es absent each spans tt) b

    tuple_gives : ReadsTree g type (tuple g T)
    unfolding tuple
    tuple_gives n lo s l a =
        gives_mark c LBrack refl s a (refusal a tt) λ t _.
        gives_then (list_gives RBrack refl (checked_element g T) checked_gives n (first g s) (next s) (omega arith) t.at) λ es q b.
        made _ b.whole (pick_has (length es) b.has) l (omega arith) (omega arith) λ few. makers.tuple_is (first g s) _ (list_is b.is few.0)

    -- ---- Object

    module _ {A B : Type 0} {P : A → Type 0} {shape : A → Placed} {k m n lo : ℕ} {a : A} {Q : B → State → Type 0} where
      -- What was got stays after diagnostic 3, or where there is none.
      this_noted_lem : (o : Opt ThisParameter) (s : State) (on : State → Result B) → Got g P shape k m n lo a s → ((q : State) → Got g P shape k m n lo a q → Gives g Q (on q))
          → Gives g Q (report_this g o s on)
      this_noted_lem absent s on x f = f s x
      this_noted_lem (present t) s on x f = reported _ (note_alone _ _ _ refl) s on x f

      -- Alike after the diagnostics of an index signature.
      index_noted : (b : ℕ) (ps : IndexParameters) (s : State) (on : State → Result B) → Got g P shape k m n lo a s → ((q : State) → Got g P shape k m n lo a q → Gives g Q (on q))
          → Gives g Q (report_index g b ps s on)
      index_noted b no_index s on x f = reported _ (note_alone _ _ _ refl) s on x f
      index_noted b (several_index p) s on x f = reported _ (note_alone _ _ _ refl) s on x f
      index_noted b (one_index p) s on x f =
          gives_test (is_literal p.type) (λ _ _. reported _ (note_alone _ _ _ refl) s on x f) λ _ _.
          reported_if (is_no_index p.type) _ (note_alone _ _ _ refl) s on x f

    -- Past the end of a member.
    end_gives : {A : Type 0} {P : A → State → Type 0} {n : ℕ} (s : State) (on : State → Result A) → s.half ≡ 0 → At g n s
        → ((q : State) → q.half ≡ 0 → Past g n s q → Gives g P (on q)) → Gives g P (member_end g s on)
    end_gives s on w a f =
        gives_test (among (Comma ∷ Semicolon ∷ []) (kind g s))
        (λ e _.
        let t = step c (among (Comma ∷ Semicolon ∷ [])) refl s e a in
        f (next s) refl (record { at = t.at; first_later = omega arith; end_later = omega arith; worth_later = omega arith })) λ _ _.
        gives_test (stands g RCurly s or not (on_line g s))
        (λ _ _. f s w (record { at = a; first_later = omega arith; end_later = omega arith; worth_later = omega arith })) (refusal a tt)

    key_is : (s : State) → property_key (kind g s) ≡ true → IsPropertyKey (key_here g s)
    key_is s e = record { known = key_sort_lem (kind g s); spelling_is = spelled_by g c property_key refl s e }

    -- What stands before the type parameters of a signature is such, and what it weighs.
    abbrev IsSigned : Signature → Type 0
    IsSigned (of_method k question) = IsPropertyKey k × Told g.text (node.spell_key k)
    IsSigned of_call = Unit {0}
    IsSigned of_construct = Unit {0}

    abbrev signed_weight : Signature → ℕ
    signed_weight (of_method k question) = weight_of (node.spell_key k) + 2
    signed_weight of_call = 0
    signed_weight of_construct = 0

    signature_node_lem : (m : ℕ) {n lo e : ℕ} (b : ℕ) (x : Signature) (ts : Opt (List Placed)) (ps : Parameters) (r : Opt Placed) {p v : State} (s : State) → IsSigned x → lo ≤ b → b < end g s
        → s.half ≡ 0 → IfAny (Enough (Is type_param) 0) ts → AreParameters ps → IfAny (Is type) r → Spans b e (maybe_list ts) → Told g.text (maybe_list ts)
        → Has g (n + size_of (maybe_list ts)) e (shape_of_parameters (is_construct x) ps) p
        → Has g (n + size_of (maybe_list ts) + size_of (shape_of_parameters (is_construct x) ps)) (end g p) (maybe r) v
        → Past g (n + size_of (maybe_list ts) + size_of (shape_of_parameters (is_construct x) ps) + size_of (maybe r)) v s
        → signed_weight x + weight_of (maybe_list ts) + weight_of (shape_of_parameters (is_construct x) ps) + weight_of (maybe r) + m + 4 ≤ worth g s
        → Gives g (Got g (Good member) itself 1 (m + 2) n lo) (make g (count ts ∷ length ps.list ∷ []) (signature_node b (end g s) x ts ps r) s)
    signature_node_lem m b (of_method k question) ts ps r s i l j w is are ir x o y z d v =
        let all = front_has (node.spell_key k) refl i.1 (front_has (node.bit question) refl tt (join_has o x (regroup (length ps.list) y z))) in
        made _ w (has_on all (counted (omega arith) d.at) d.end_later) l j (omega arith) λ few.
        makers.method_is b _ question ts (this_type ps.this) r i.0 (if_list_is type_param ts is few.0) are.this_is (list_is are.others few.1.0) ir
    signature_node_lem m b of_call ts ps r s i l j w is are ir x o y z d v =
        let all = join_has o x (regroup (length ps.list) y z) in
        made _ w (has_on all (counted (omega arith) d.at) d.end_later) l j (omega arith) λ few.
        makers.call_signature_is b _ ts (this_type ps.this) r (if_list_is type_param ts is few.0) are.this_is (list_is are.others few.1.0) ir
    signature_node_lem m b of_construct ts ps r s i l j w is are ir x o y z d v =
        let all = join_has o x (drop_void (regroup (length ps.list) y z)) in
        made _ w (has_on all (counted (omega arith) d.at) d.end_later) l j (omega arith) λ few.
        makers.construct_signature_is b _ ts r (if_list_is type_param ts is few.0) (list_is are.others few.1.0) ir

    signature_gives : (b : ℕ) (x : Signature) → IsSigned x → (m n lo : ℕ) (s : State) → lo ≤ b → b ≤ first g s → signed_weight x + m ≤ worth g s → At g n s
        → Gives g (Got g (Good member) itself 1 (m + 2) n lo) (signature g T b x s)
    unfolding signature
    signature_gives b x i m n lo s l k v a =
        gives_then (type_parameters_lem true n b s k a) λ ts q t.
        gives_then (parameters_give (is_construct x) _ (first g q) q (omega arith) t.1) λ ps r y.
        this_noted_lem (this_noted x ps.this) r _ y λ r y.
        gives_then (optional_by Colon refl (return_type g T) return_gives _ (end g r) r y.whole (omega arith) y.has.at) λ u p z.
        end_gives p _ z.whole z.has.at λ e w d.
        signature_node_lem m b x ts ps u e i l (omega (arith, spans_le t.2, y.rise, has_le z.has, d.end_later)) w t.0 y.is z.is t.2 t.3 y.has z.has d
        (omega (arith, t.4, y.light, z.light, d.worth_later))

    abbrev shape_of_index : IndexParameter → Placed
    shape_of_index p = join (node.spell p.name) p.type

    abbrev IsIndex : IndexParameter → Type 0
    IsIndex p = IsNamed (p.name, p.type)

    index_parameter_lem : ReadsNames g 10 IsIndex shape_of_index (index_parameter g T)
    unfolding index_parameter index_type
    index_parameter_lem n lo s l a =
        gives_then (binding_gives n lo s l a) λ x q b.
        reported_if (stands g Question q) _ (note_alone _ _ _ refl) q (index_type g T (first g s) x) b λ q b.
        let asked = past_mark_lem c Question refl q b.has.at in
        gives_mark c Colon refl (past g Question q) asked.at (refusal asked.at tt) λ u _.
        gives_then (h true _ (end g q) (next (past g Question q)) (omega arith) u.at) λ t r d.
        gives {a = record { first = first g s; end = end g r; name = x; type = t }} (record {
          is = record { name_is = b.is; type_is = d.is.is };
          has = b.has & d.has;
          whole = d.whole;
          rise = omega arith;
          light = omega arith;
        })

    abbrev shape_of_kept : IndexParameters → Placed
    shape_of_kept ps = node.maybe_named (kept ps)

    abbrev AreIndex : IndexParameters → Type 0
    AreIndex ps = IfAny IsNamed (kept ps)

    -- What a later parameter took is free again.
    back : {m n lo a b : ℕ} {p : Placed} {r : IndexParameter} {s q : State} → Has g n lo p s → Got g IsIndex shape_of_index a m b (end g s) r q → Has g n lo p (freed true s q)
    back x b =
        let y = b.has.at in
        has_on x
        (record { used = x.at.used; roomy = x.at.roomy; few = y.few; recorded = y.recorded; noted = y.noted; inside = y.inside; one = y.one; shown = y.shown; order = y.order; rest = y.rest })
        (has_le b.has)

    freed_whole : (later : Bool) (s q : State) → q.half ≡ 0 → (freed later s q).half ≡ 0
    freed_whole true s q w = w
    freed_whole false s q w = w

    freed_worth : (later : Bool) (s q : State) → worth g (freed later s q) ≡ worth g q
    freed_worth true s q = refl
    freed_worth false s q = refl

    -- One parameter more, whose nodes are free again if it is a later one.
    one_more : (m : ℕ) {n lo : ℕ} (ps : IndexParameters) (p : IndexParameter) (s q : State) → AreIndex ps → Has g n lo (shape_of_kept ps) s → weight_of (shape_of_kept ps) + m ≤ worth g s
        → Got g IsIndex shape_of_index 1 (worth g s + 10) (n + size_of (shape_of_kept ps)) (end g s) p q
        → AreIndex (with_one ps p) × Has g n lo (shape_of_kept (with_one ps p)) (freed (has_one ps) s q) × (weight_of (shape_of_kept (with_one ps p)) + m ≤ worth g q)
    one_more m no_index p s q i x o b =
        let y = pick_has 1 (has_down (has_le x) b.has) in
        (b.is, record { at = counted (omega arith) y.at; spans = y.spans; told = y.told }, omega (arith, b.light))
    one_more m (one_index r) p s q i x o b = (i, back x b, omega (arith, b.light))
    one_more m (several_index r) p s q i x o b = (i, back x b, omega (arith, b.light))

    index_from_lem : (m n lo fuel : ℕ) (ps : IndexParameters) (s : State) → s.half ≡ 0 → AreIndex ps → Has g n lo (shape_of_kept ps) s → weight_of (shape_of_kept ps) + m ≤ worth g s
        → Gives g (Got g AreIndex shape_of_kept 0 m n lo) (index_from g T fuel ps s)
    unfolding index_from
    index_from_lem m n lo zero ps s w i x o = stops tt (cursor x.at)
    index_from_lem m n lo (suc fuel) ps s w i x o =
        gives_test (stands g RBrack s) (λ _ _. gives (record { is = i; has = x; whole = w; rise = omega (arith, has_le x); light = omega arith })) λ _ _.
        gives_then (index_parameter_lem _ (end g s) s x.at.order x.at) λ p q b.
        let one = one_more m ps p s q i x o b in
        let z = freed (has_one ps) s q in
        gives_test (stands g RBrack z)
        (λ _ _. gives (record { is = one.0; has = one.1; whole = freed_whole (has_one ps) s q b.whole; rise = omega (arith, has_le one.1); light = omega (arith, one.2, freed_worth (has_one ps) s q) })) λ _ _.
        gives_mark c Comma refl z one.1.at (refusal one.1.at tt) λ u _.
        let y = has_next one.1 u in
        let e : Got g AreIndex shape_of_kept 0 (m + 2) n lo (with_one ps p) (next z)
        = record { is = one.0; has = y; whole = refl; rise = omega (arith, has_le y); light = omega (arith, one.2, freed_worth (has_one ps) s q, u.more) } in
        reported_if (stands g RBrack (next z)) _ (note_alone _ _ _ refl) (next z) (index_from g T fuel (with_one ps p)) e λ r d.
        index_from_lem m n lo fuel (with_one ps p) r d.whole d.is d.has (omega (arith, d.light))

    index_gives : (b : ℕ) (readonly : Bool) (m n lo : ℕ) (s : State) → stands g LBrack s ≡ true → lo ≤ b → b ≤ first g s → m ≤ worth g s → At g n s
        → Gives g (Got g (Good member) itself 1 (m + 2) n lo) (index g T b readonly s)
    unfolding index
    index_gives b readonly m n lo s e l k v a =
        let t = step c (λ k. eqb k LBrack) refl s e a in
        gives_then (index_from_lem (worth g s + 8) n b (turns g) no_index (next s) refl tt (flat_has (node.maybe_named absent) refl tt (omega arith) t.at) (omega arith)) λ ps q x.
        gives_mark c RBrack refl q x.has.at (refusal x.has.at tt) λ u _.
        let y : Got g AreIndex shape_of_kept 0 (worth g s + 18) n b ps (next q) = record { is = x.is; has = has_next x.has u; whole = refl; rise = omega arith; light = omega arith } in
        index_noted b ps (next q) _ y λ q y.
        gives_mark c Colon refl q y.has.at (refusal y.has.at tt) λ u _.
        gives_then (h true _ (end g q) (next q) (omega arith) u.at) λ t r d.
        end_gives r _ d.whole d.has.at λ z w f.
        let all = front_has (node.bit readonly) refl tt (y.has & d.has) in
        made [] w (has_on all (counted (omega arith) f.at) f.end_later) l (omega (arith, y.rise, d.rise, f.end_later)) (omega (arith, y.light, d.light, f.worth_later)) λ _.
        makers.index_signature_is b _ readonly (kept ps) y.is d.is.is

    property_gives : (b : ℕ) (readonly : Bool) (k : PropertyKey) (question : Bool) → IsPropertyKey k → Told g.text (node.spell_key k) → (m n lo : ℕ) (s : State) → s.half ≡ 0 → lo ≤ b
        → b < end g s → weight_of (node.spell_key k) + m + 8 ≤ worth g s → At g n s → Gives g (Got g (Good member) itself 1 (m + 2) n lo) (property g T b readonly k question s)
    unfolding property
    property_gives b readonly k question i o m n lo s w l j v a =
        gives_then (optional_gives Colon refl true n (end g s) s w (omega arith) a) λ t q x.
        end_gives q _ x.whole x.has.at λ z w f.
        let all = front_has (node.bit readonly) refl tt (front_has (node.spell_key k) refl o (front_has (node.bit question) refl tt (has_down (omega arith) x.has))) in
        made [] w (has_on all (counted (omega arith) f.at) f.end_later) l (omega (arith, has_le x.has, f.end_later)) (omega (arith, x.light, f.worth_later)) λ _.
        makers.property_is b _ readonly question t i x.is

    keyed_gives : (b : ℕ) (readonly : Bool) (m n lo : ℕ) (s : State) → lo ≤ b → b ≤ first g s → m ≤ worth g s → At g n s
        → Gives g (Got g (Good member) itself 1 (m + 2) n lo) (with_key g T b readonly s)
    unfolding with_key
    keyed_gives b readonly m n lo s l k v a =
        gives_test (not (property_key (kind g s))) (refusal a tt) λ e _.
        let is = not-false (property_key (kind g s)) e in
        let t = step c property_key refl s is a in
        let asked = past_mark_lem c Question refl (next s) t.at in
        let q = past g Question (next s) in
        let question = stands g Question (next s) in
        gives_test (signs (kind g q))
        (λ _ _. signature_gives b (of_method (key_here g s) question) (key_is s is, told_here g c s) m n lo q l (omega arith) (omega arith) asked.at) λ _ _.
        property_gives b readonly (key_here g s) question (key_is s is) (told_here g c s) m n lo q (past_whole g Question (next s) refl) l (omega arith) (omega arith) asked.at

    readonly_gives : (b : ℕ) (readonly : Bool) (m n lo : ℕ) (s : State) → lo ≤ b → b ≤ first g s → m ≤ worth g s → At g n s
        → Gives g (Got g (Good member) itself 1 (m + 2) n lo) (behind_readonly g T b readonly s)
    unfolding behind_readonly
    readonly_gives b readonly m n lo s l k v a =
        gives_test (unsupported_here g s) (refusal a tt) λ _ _.
        gives_test (not (stands g LBrack s)) (λ _ _. keyed_gives b readonly m n lo s l k v a) λ e _.
        gives_must (index_start g.words s.at) (refusal a tt) λ _ _.
        index_gives b readonly m n lo s (not-false (stands g LBrack s) e) l k v a

    member_reads : ReadsNames g 2 (Good member) itself (objectMember g T)
    unfolding objectMember
    member_reads n lo s l a =
        gives_test (signs (kind g s)) (λ _ _. signature_gives (first g s) of_call tt (worth g s) n lo s l (omega arith) (omega arith) a) λ _ _.
        gives_test (constructs g s)
        (λ e _.
        let t = step c (λ k. eqb k New) refl s (both_true (stands g New s) _ e).0 a in
        signature_gives (first g s) of_construct tt (worth g s) n lo (next s) l (omega arith) (omega arith) t.at) λ _ _.
        gives_test (is_readonly g s)
        (λ e _.
        let t = step c (λ k. eqb k Readonly) refl s (both_true (stands g Readonly s) _ e).0 a in
        readonly_gives (first g s) true (worth g s) n lo (next s) l (omega arith) (omega arith) t.at) λ _ _.
        readonly_gives (first g s) false (worth g s) n lo s l (omega arith) (omega arith) a

    members_from_lem : (m n lo fuel : ℕ) (l : List Placed) (s : State) → Enough (Is member) 0 l → Has g n lo (entries l) s → weight_of (entries l) + m ≤ worth g s
        → Gives g (Got g (Enough (Is member) 0) entries 1 m n lo) (members_from g T fuel l s)
    unfolding members_from
    members_from_lem m n lo zero l s e x o = stops tt (cursor x.at)
    members_from_lem m n lo (suc fuel) l s e x o =
        gives_or c RCurly refl s x.at (λ u _. gives (record { is = e; has = has_next x u; whole = refl; rise = omega (arith, has_le x); light = omega arith })) λ _ _.
        gives_then (member_reads _ (end g s) s x.at.order x.at) λ t q b.
        let sum = weight_more l t in
        members_from_lem m n lo fuel (l ++ (t ∷ [])) q (enough_more e b.is.is) (has_more l x b.has) (omega arith)

    object_gives : ReadsTree g type (object g T)
    unfolding object
    object_gives n lo s l a =
        gives_mark c LCurly refl s a (refusal a tt) λ t _.
        gives_then (members_from_lem (worth g s + 8) n (first g s) (turns g) [] (next s) no_entries (flat_has void refl tt (omega arith) t.at) (omega arith)) λ ms q b.
        made _ b.whole (pick_has (length ms) b.has) l (omega arith) (omega arith) λ few. makers.object_is (first g s) _ (list_is b.is few.0)

    -- ---- Template

    pieces_from_lem : (m n lo fuel : ℕ) (l : List (Placed × Spelling)) (s : State) → Each IsPiece l → Has g n lo (entries (node.pieces l)) s
        → weight_of (entries (node.pieces l)) + m ≤ worth g s
        → Gives g (Got g (Each IsPiece) (λ (l : List (Placed × Spelling)). entries (node.pieces l)) 0 m n lo) (pieces_from g T fuel l s)
    unfolding pieces_from
    pieces_from_lem m n lo zero l s e x o = stops tt (cursor x.at)
    pieces_from_lem m n lo (suc fuel) l s e x o =
        gives_then (h true _ (end g s) s x.at.order x.at) λ t q b.
        let p : Placed × Spelling = (t, spelling g q) in
        let sum = heavier p in
        gives_test (stands g TemplateMiddle q)
        (λ i _.
        let u = step c (λ k. eqb k TemplateMiddle) refl q i b.has.at in
        pieces_from_lem m n lo fuel (l ++ (p ∷ [])) (next q) (more p b.is.is (spelled_by g c (λ k. eqb k TemplateMiddle) refl q i)) (grown p (told_here g c q) x b.has u) (omega arith)) λ _ _.
        gives_must (stands g TemplateTail q) (refusal b.has.at tt) λ i _.
        let u = step c (λ k. eqb k TemplateTail) refl q i b.has.at in
        let y = grown p (told_here g c q) x b.has u in
        gives (record { is = more p b.is.is (spelled_by g c (λ k. eqb k TemplateTail) refl q i); has = y; whole = refl; rise = omega (arith, has_le y); light = omega arith })
      where
        more : (p : Placed × Spelling) → Is type p.0 → IsSpelling p.1 → Each IsPiece (l ++ (p ∷ []))
        more p i j = makers.each_more IsPiece l p e (record { type_is = i; spelling_is = j })

        heavier : (p : Placed × Spelling) → weight_of (entries (node.pieces (l ++ (p ∷ [])))) ≡ weight_of (entries (node.pieces l)) + (weight_of p.0 + (2 + length p.1.1))
        heavier p = rw pieces_more (weight_more (node.pieces l) (join p.0 (node.spell p.1)))

        grown : (p : Placed × Spelling) → Told g.text (node.spell p.1) → {q : State} → Has g n lo (entries (node.pieces l)) s → Has g (n + size_of (entries (node.pieces l))) (end g s) p.0 q
            → Step g (n + size_of (entries (node.pieces l)) + size_of p.0) q → Has g n lo (entries (node.pieces (l ++ (p ∷ [])))) (next q)
        grown p o x y u = rw pieces_more (has_more (node.pieces l) x (y & flat_has (node.spell p.1) refl o (omega arith) u.at))

    template_gives : ReadsIf g (λ s. among (NoSubstitutionTemplate ∷ TemplateHead ∷ []) (kind g s)) type (template g T)
    unfolding template pieces
    template_gives n lo s e l a =
        let t = step c (among (NoSubstitutionTemplate ∷ TemplateHead ∷ [])) refl s e a in
        let head : Has g n (first g s) (node.spell (spelling g s)) (next s) = flat_has _ refl (told_here g c s) (omega arith) t.at in
        let none : Has g (n + 0) (end g (next s)) void (next s) = flat_has void refl tt (omega arith) head.at in
        gives_then
        (gives_test (stands g NoSubstitutionTemplate s) (λ _ _. gives (record { is = tt; has = none; whole = refl; rise = omega arith; light = omega arith })) λ _ _.
        pieces_from_lem (worth g (next s)) _ (end g (next s)) (turns g) [] (next s) tt none (omega arith))
        λ ps q b.
        made _ b.whole (pick_has (length ps) (head & b.has)) l (omega (arith, has_le b.has)) (omega arith) λ few.
        makers.template_is (first g s) _ ps (spelled_by g c (among (NoSubstitutionTemplate ∷ TemplateHead ∷ [])) refl s e) few.0 b.is

    -- ---- Primary

    keyword_gives : (n lo : ℕ) (s : State) → position (kind g s) keywords < 13 → lo ≤ first g s → Step g n s → Gives g (Got g (Good type) itself 1 (worth g s) n lo) (keyword g s)
    unfolding keyword
    keyword_gives n lo s e l t =
        made [] refl (flat_has (node.number _) refl tt (omega arith) t.at) l t.rise (omega arith) λ _. makers.keyword_is (first g s) _ _ e

    literal_gives : ReadsIf g (λ s. among literals (kind g s)) type (literal g)
    unfolding literal
    literal_gives n lo s e l a =
        let t = step c (among literals) refl s e a in
        made [] refl (flat_has _ (literal_size (kind g s) (spelling g s)) (told_literal g c s (kind g s)) (omega arith) t.at) l t.rise (omega (arith, literal_weight (kind g s) (spelling g s))) λ _.
        literal_fits (first g s) _ (kind g s) (spelled_by g c (among literals) refl s e) e

    negative_gives : ReadsIf g (is_negative g) type (negative g)
    unfolding negative
    negative_gives n lo s e l a =
        let p = both_true (stands g Minus s) _ e in
        let t = step c (λ k. eqb k Minus) refl s p.0 a in
        let u = step c (among (NumberLiteral ∷ BigIntLiteral ∷ [])) refl (next s) p.1 t.at in
        let x = spelled_by g c (among (NumberLiteral ∷ BigIntLiteral ∷ [])) refl (next s) p.1 in
        made [] refl (flat_has _ refl (told_here g c (next s)) (omega arith) u.at) l (omega arith) (omega arith) λ _.
        negative_fits (first g s) _ (kind_after g 1 s) (record { some = x.some; few = x.few; bytes = x.bytes }) p.1

    this_gives : ReadsIf g (stands g This) type (this g T)
    unfolding this
    this_gives n lo s e l a =
        let t = step c (λ k. eqb k This) refl s e a in
        gives_test (not (on_line g (next s) and stands g IsWord (next s)))
        (λ _ _. keyword_gives n lo s (among_each (λ (k : ℕ). position k keywords < 13) (This ∷ []) (kind g s) (omega arith, tt) (rw e refl)) l t) λ i _.
        let is = (both_true (on_line g (next s)) _ (not-false (on_line g (next s) and stands g IsWord (next s)) i)).1 in
        let u = step c (λ k. eqb k IsWord) refl (next s) is t.at in
        gives_then (h true n (first g s) (next (next s)) (omega arith) u.at) λ x q b.
        made [] b.whole (pick_has 0 (front_has (node.subject_of absent) refl tt (pick_has 1 b.has))) l (omega arith) (omega arith) λ _.
        makers.predicate_is (first g s) _ false absent tt b.is.is

    assertion_gives : ReadsIf g (is_assertion g) type (assertion g T)
    unfolding assertion
    assertion_gives n lo s e l a =
        let p = both_true (stands g Asserts s) _ e in
        let named = (both_true (class.name (kind_after g 1 s)) _ p.1).0 in
        let t = step c (λ k. eqb k Asserts) refl s p.0 a in
        let u = step c class.name refl (next s) named t.at in
        gives_then (optional_gives IsWord refl true n (end g (next (next s))) (next (next s)) refl (omega arith) u.at) λ x q b.
        let m : first g s < end g (next (next s)) = omega arith in
        let y = front_has (node.subject_of (subject g (next s))) (subject_size (subject g (next s))) (told_subject g c (next s)) (has_down (omega arith) b.has) in
        made [] b.whole (pick_has 1 y) l (omega arith) (omega (arith, subject_weight g (next s))) λ _.
        asserted (first g s) _ (subject g (next s)) x (subject_is (next s) named) b.is

    query_gives : ReadsIf g (stands g Typeof) type (query g T)
    unfolding query
    query_gives n lo s e l a =
        let t = step c (λ k. eqb k Typeof) refl s e a in
        let m : first g s ≤ first g (next s) = omega arith in
        gives_test (stands g Import (next s)) (λ _ _. import_gives true (worth g s) n lo (first g s) (next s) l m (omega arith) t.at) λ _ _.
        named_gives 17 (λ b e l o. makers.typeof_is b e o) (worth g s) n lo (first g s) (next s) l m (omega arith) t.at

    brackets_give : ReadsIf g (stands g LParen) type (brackets g T)
    unfolding brackets
    brackets_give n lo s e l a =
        let t = step c (λ k. eqb k LParen) refl s e a in
        gives_then (h true n (first g s) (next s) (omega arith) t.at) λ x q b.
        gives_mark c RParen refl q b.has.at (refusal b.has.at tt) λ u _.
        let y = has_next b.has u in
        gives_test g.parens (λ _ _. made [] refl y l (omega arith) (omega arith) λ _. makers.parens_is (first g s) _ b.is.is) λ _ _.
        gives (record { is = b.is; has = has_down l y; whole = refl; rise = omega arith; light = omega arith })

    enclosed_gives : ReadsTree g type (enclosed g T)
    unfolding enclosed curly reference
    enclosed_gives n lo s l a =
        gives_test (stands g LCurly s) (λ _ _. gives_test (mapped_start g.words s.at) (λ _ _. mapped_gives n lo s l a) λ _ _. object_gives n lo s l a) λ _ _.
        gives_test (stands g LBrack s) (λ _ _. tuple_gives n lo s l a) λ _ _.
        gives_test (stands g LParen s) (λ e _. brackets_give n lo s e l a) λ _ _.
        gives_test (among (NoSubstitutionTemplate ∷ TemplateHead ∷ []) (kind g s)) (λ e _. template_gives n lo s e l a) λ _ _.
        gives_test (class.binding_word (kind g s)) (λ _ _. named_gives 1 (λ b e l o. makers.reference_is b e o) (worth g s) n lo (first g s) s l (omega arith) (omega arith) a) λ _ _.
        gives_test (among (Question ∷ Bang ∷ Star ∷ []) (kind g s)) (refusal a tt) λ _ _. stops tt (cursor a)

    worded_gives : ReadsTree g type (worded g T)
    unfolding worded
    worded_gives n lo s l a =
        gives_test (is_assertion g s) (λ e _. assertion_gives n lo s e l a) λ _ _.
        gives_test (stands g Typeof s) (λ e _. query_gives n lo s e l a) λ _ _.
        gives_test (stands g Import s) (λ _ _. import_gives false (worth g s) n lo (first g s) s l (omega arith) (omega arith) a) λ _ _.
        enclosed_gives n lo s l a

    primary_gives : ReadsTree g type (primary g T)
    unfolding primary
    primary_gives n lo s l a =
        gives_test (is_keyword g s)
        (λ e _. keyword_gives n lo s (keyword_below g s e) l (step c (λ k. (between Any Unknown k and not (eqb (kind_after g 1 s) Dot)) or among (Null ∷ Void ∷ []) k) refl s e a)) λ _ _.
        gives_test (stands g This s) (λ e _. this_gives n lo s e l a) λ _ _.
        gives_test (among literals (kind g s)) (λ e _. literal_gives n lo s e l a) λ _ _.
        gives_test (is_negative g s) (λ e _. negative_gives n lo s e l a) λ _ _.
        worded_gives n lo s l a

    -- ---- Postfix

    bracketed_gives : (m n lo b : ℕ) (t : Placed) (s : State) → lo ≤ b → b < end g s → Is type t → Has g n b t s → weight_of t + m ≤ worth g s
        → Gives g (Got g (Good type) itself 1 m n lo) (bracketed g T b t s)
    unfolding bracketed
    bracketed_gives m n lo b t s l k i x o =
        gives_test (not (starter g.words s.at))
        (λ _ _. gives_mark c RBrack refl s x.at (refusal x.at tt) λ u _. made [] refl (has_next x u) l (omega arith) (omega arith) λ _. makers.array_is b _ i) λ _ _.
        gives_then (h true _ (end g s) s x.at.order x.at) λ y q d.
        gives_mark c RBrack refl q d.has.at (refusal d.has.at tt) λ u _.
        made [] refl (x & has_next d.has u) l (omega arith) (omega arith) λ _. makers.indexed_is b _ i d.is.is

    suffix_gives : ReadsAbout g (suffixed g) (suffix g T)
    unfolding suffix
    suffix_gives m n lo b t s e l r i x o =
        let u = step c (λ k. eqb k Bang or (eqb k Question and not (starter g.words (s.at + 1))) or eqb k LBrack) refl s (both_true (on_line g s) _ e).1 x.at in
        let y = has_next x u in
        let k : b < end g (next s) = omega arith in
        gives_test (stands g Bang s) (λ _ _. made [] refl y l k (omega arith) λ _. makers.non_null_is b _ i) λ _ _.
        gives_test (stands g Question s) (λ _ _. made [] refl y l k (omega arith) λ _. makers.asked_is b _ i) λ _ _.
        bracketed_gives m n lo b t (next s) l k i y (omega arith)

    postfix_from_lem : (m n b fuel : ℕ) (t : Placed) (s : State) → Got g (Good type) itself 1 m n b t s → Gives g (Got g (Good type) itself 1 m n b) (postfix_from g T b fuel t s)
    unfolding postfix_from
    postfix_from_lem m n b zero t s x = stops tt (cursor x.has.at)
    postfix_from_lem m n b (suc fuel) t s x =
        gives_test (suffixed g s)
        (λ e _. gives_then (suffix_gives m n b b t s e (omega arith) (omega arith) x.is.is x.has x.light) λ u q d. postfix_from_lem m n b fuel u q d) λ _ _. gives x

    postfix_gives : ReadsTree g type (postfix g T)
    unfolding postfix
    postfix_gives n lo s l a =
        gives_then (primary_gives n (first g s) s (omega arith) a) λ t q b.
        gives_down l (omega arith) (postfix_from_lem (worth g s) n (first g s) (turns g) t q b)

    -- ---- Infer

    trial_gives : (on : Bool) → ReadsOn g (λ (t : Trial). IfAny (Is type) (constraint_of t)) (λ (t : Trial). maybe (constraint_of t)) (trial g T on)
    unfolding trial
    trial_gives on n lo s w l a =
        gives_test (not (stands g Extends s)) (λ _ _. gives (record { is = tt; has = flat_has (maybe absent) refl tt l a; whole = w; rise = omega arith; light = omega arith })) λ e _.
        gives_test (on and leb most_trials s.tally.trials) (refusal a tt) λ _ _.
        let u = step c (λ k. eqb k Extends) refl s (not-false (stands g Extends s) e) a in
        gives_then (tried_gives on lo (next s) (omega arith) u.at) λ t q b.
        gives_test (on and stands g Question q)
        (λ _ _. gives (record { is = tt; has = flat_has (maybe absent) refl tt l (tallied_at _ _ a); whole = w; rise = omega arith; light = omega arith })) λ _ _.
        gives (record { is = b.is.is; has = has_on (pick_has 1 b.has) (tallied_at _ _ b.has.at) (omega arith); whole = b.whole; rise = omega arith; light = omega arith })
      where
        -- With one more trial open or not.
        tried_gives : (on : Bool) (lo : ℕ) (s : State) → lo ≤ first g s → At g n s → Gives g (Got g (Good type) itself 1 (worth g s) n lo) (T false (openedTrial on s))
        tried_gives true lo s l a = h false n lo (openedTrial true s) l (tallied_at _ _ a)
        tried_gives false lo s l a = h false n lo s l a

    infer_gives : (on : Bool) → ReadsIf g (stands g Infer) type (infer g T on)
    unfolding infer
    infer_gives on n lo s e l a =
        let u = step c (λ k. eqb k Infer) refl s e a in
        gives_then (bound_gives n (first g s) (next s) (omega arith) u.at) λ x q b.
        gives_then (trial_gives on _ (end g q) q b.whole (omega arith) b.has.at) λ t p d.
        made [] d.whole (b.has & d.has) l (omega arith) (omega arith) λ _. makers.infer_is (first g s) _ (constraint_of t) b.is d.is

    -- ---- Operator

    operator_from_lem : (on : Bool) (fuel : ℕ) → ReadsTree g type (operator_from g T on fuel)
    unfolding operator_from operand
    operator_from_lem on zero n lo s l a = stops tt (cursor a)
    operator_from_lem on (suc fuel) n lo s l a =
        gives_test (not (among operators (kind g s))) (λ _ _. gives_test (stands g Infer s) (λ e _. infer_gives on n lo s e l a) λ _ _. postfix_gives n lo s l a) λ e _.
        let isOne = not-false (among operators (kind g s)) e in
        let u = step c (among operators) refl s isOne a in
        gives_then (operator_from_lem on fuel n (first g s) (next s) (omega arith) u.at) λ t q b.
        made [] b.whole (front_has (node.number _) refl tt b.has) l (omega arith) (omega arith) λ _.
        makers.operator_is (first g s) _ _ (among_each (λ (k : ℕ). position k operators < 3) operators (kind g s) (omega arith, (omega arith, (omega arith, tt))) isOne) b.is.is

    -- ---- Union, intersection

    module _ (mark : ℕ) (ok : eqb Eof mark ≡ false) (tag : ℕ) (part : State → Result Placed)
        (is : (b e : ℕ) (l : List Placed) → IsList 1 type l → Is type (tree tag b e (node.listed l))) (reads : ReadsTree g type part) where
      parts_from_lem : (m n lo fuel : ℕ) (l : List Placed) (s : State) → Got g (Enough (Is type) 1) entries 1 m n lo l s
          → (stands g mark s ≡ false → weight_of (entries l) + m + 2 ≤ worth g s) → Gives g (Got g (Enough (Is type) 1) entries 1 (m + 4) n lo) (parts_from g mark part fuel l s)
      unfolding parts_from
      parts_from_lem m n lo zero l s x o = stops tt (cursor x.has.at)
      parts_from_lem m n lo (suc fuel) l s x o =
          gives_mark c mark ok s x.has.at (λ e _. gives (record { is = x.is; has = x.has; whole = x.whole; rise = x.rise; light = omega (arith, o e) })) λ u _.
          gives_then (reads _ (end g s) (next s) (omega arith) u.at) λ t q b.
          let sum = weight_more l t in
          parts_from_lem m n lo fuel (l ++ (t ∷ [])) q
          (record { is = enough_more x.is b.is.is; has = has_more l x.has b.has; whole = b.whole; rise = omega arith; light = omega arith })
          λ _. omega arith

      joined_gives : ReadsTree g type (joined g mark (λ b e l. tree tag b e (node.listed l)) part)
      unfolding joined
      joined_gives n lo s l a =
          let leading = past_mark_lem c mark ok s a in
          gives_then (reads n (first g s) (past g mark s) leading.first_later leading.at) λ t q b.
          gives_test (not (stands g mark s or stands g mark q)) (λ _ _. gives (record { is = b.is; has = has_down l b.has; whole = b.whole; rise = omega arith; light = omega arith })) λ i _.
          gives_then
          (parts_from_lem (worth g s) n (first g s) (turns g) (t ∷ []) q
          (record {
            is = record { enough = omega arith; each = (b.is.is, tt) };
            has = b.has & flat_has void refl tt (omega arith) b.has.at;
            whole = b.whole;
            rise = b.rise;
            light = omega arith;
          })
          λ j. omega (arith, past_more c mark ok s (or_first (stands g mark s) (not-false _ i) j) a))
          λ ts p d.
          made _ d.whole (pick_has (length ts) d.has) l (omega arith) (omega arith) λ few. is (first g s) _ ts (list_is d.is few.0)

    -- ---- Type

    union_gives : (on : Bool) → ReadsTree g type (union g T on)
    unfolding union intersection operator
    union_gives on =
        joined_gives Pipe refl 5 (intersection g T on) (λ b e l i. makers.union_is b e i)
        (joined_gives Amp refl 6 (operator g T on) (λ b e l i. makers.intersection_is b e i) (operator_from_lem on (turns g)))

    conditional_gives : ReadsAbout g (stands g Extends) (conditional g T)
    unfolding conditional
    conditional_gives m n lo b t s e l k i x o =
        let u = step c (λ k. eqb k Extends) refl s e x.at in
        gives_then (h false _ (end g s) (next s) (omega arith) u.at) λ y q d.
        gives_mark c Question refl q d.has.at (refusal d.has.at tt) λ v _.
        gives_then (h true _ (end g q) (next q) (omega arith) v.at) λ z p e.
        gives_mark c Colon refl p e.has.at (refusal e.has.at tt) λ j _.
        gives_then (h true _ (end g p) (next p) (omega arith) j.at) λ w r f.
        made [] f.whole (x & d.has & e.has & f.has) l (omega arith) (omega arith) λ _. makers.conditional_is b _ i d.is.is e.is.is f.is.is

    type_gives : (on : Bool) → ReadsTree g type (typeRule g T on)
    unfolding typeRule union_or_conditional
    type_gives on n lo s l a =
        gives_test (begins (function_start g.words s.at s.half)) (λ _ _. function_gives on n lo s l a) λ _ _.
        gives_then (union_gives on n (first g s) s (omega arith) a) λ t q b.
        gives_test (on and on_line g q and stands g Extends q)
        (λ e _. conditional_gives (worth g s) n lo (first g s) t q (both_true (on_line g q) _ (both_true on _ e).1).1 l (omega arith) b.is.is b.has b.light) λ _ _.
        gives (record { is = b.is; has = has_down l b.has; whole = b.whole; rise = omega arith; light = omega arith })

-- ---- All rules together

types_read : (g : Given) → Checked g → (n : ℕ) → ReadsTypes g (read_type g n)
unfolding read_type
types_read g c zero = λ on m lo s l a. stops tt (cursor a)
types_read g c (suc n) = λ on m lo s l a. type_gives g c (read_type g n) (types_read g c n) on m lo (entering s) l (tallied_at _ _ a)

begin_at : (g : Given) (c : Checked g) → At g 0 (begin c.start)
begin_at g c =
    record {
      used = refl;
      roomy = omega arith;
      few = omega arith;
      recorded = omega arith;
      noted = tt;
      inside = start_inside g c;
      one = omega arith;
      shown = omega (arith, word_inside g.text g.words c.start c.sound c.start);
      order = taken_before g c c.start (start_inside g c);
      rest = λ ne. (token_spells g c c.start ne).some;
    }

-- What a reading of a checked list reads.
pub reading_gives : (g : Given) (c : Checked g) → Gives g (Got g (Good type) itself 1 0 0 0) (reading g c.start)
unfolding reading
reading_gives g c = gives_down (omega arith) (omega arith) (types_read g c most_open true 0 0 (begin c.start) (omega arith) (begin_at g c))
