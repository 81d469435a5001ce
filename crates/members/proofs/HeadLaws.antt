-- Members up to their first type: what the rules come to by what their tests answer, and what the code found of it.
use mathlib.Core.Path.{◌≡◌, refl, sym, ap, ap₂, ◌∙◌, subst}
use mathlib.Core.Bool.{Bool, true, false}
use mathlib.Core.List.{List, [], ◌∷◌}
use Prim.Native.Nat.{ℕ, ◌+◌, ◌*◌}
use Rattle.words.specs.Kind.{LBrack, Question}
use Rattle.words.specs.Cursor.{kind_at}
use Rattle.words.specs.Ahead.{property_key, index_start}
use Rattle.keys.specs.Bits.{unit}
use Rattle.keys.specs.Placed.{Placed}
use Rattle.rules.specs.Refusal.{unexpected, member_form}
use Rattle.rules.specs.State as rule
use Rattle.rules.specs.State.{State, Result, Reader, refuse, next, kind, stands, first, spelling, past}
use Rattle.rules.specs.Object as object
use Rattle.rules.specs.Object.{of_method, of_call, of_construct, signs, key_sort, key_here}
use Rattle.marks.specs.State.{view, given_of, next_mark, named_mark, past_mark, Spelt, Moved}
use Rattle.marks.specs.Laid.{Spoken}
use Rattle.marks.specs.Names.{Speaks}
use Rattle.marks.specs.List.{here}
use Rattle.marks.proofs.StepLaws.{view_past}
use Rattle.marks.proofs.BuiltLaws.{spoken_none, spoken_from, spoken_to}
use Rattle.members.specs.Object.{a_property, a_signature, an_index, key_choices, GotMember, FindsMember}
use Rattle.marks.specs.declared.state.Given.{Given}
use Rattle.marks.specs.declared.state.Mark.{Mark}
use Rattle.members.specs.Told.{MemberHead}

-- ---- The rules

module _ (g : rule.Given) (T : Reader) (b : ℕ) (readonly : Bool) (s : State) where
  -- No key stands there.
  pub key_none : property_key (kind g s) ≡ false → object.with_key g T b readonly s ≡ refuse unexpected s.at s.half
  unfolding object.with_key
  key_none e = rw e

  -- A method's key does.
  pub key_method : property_key (kind g s) ≡ true → signs (kind g (past g Question (next s))) ≡ true
      → object.with_key g T b readonly s ≡ object.signature g T b (of_method (key_here g s) (stands g Question (next s))) (past g Question (next s))
  unfolding object.with_key
  key_method e h = rw (e, h)

  -- A property's does.
  pub key_property : property_key (kind g s) ≡ true → signs (kind g (past g Question (next s))) ≡ false
      → object.with_key g T b readonly s ≡ object.property g T b readonly (key_here g s) (stands g Question (next s)) (past g Question (next s))
  unfolding object.with_key
  key_property e h = rw (e, h)

  -- What may not stand there does.
  pub behind_unsupported : object.unsupported_here g s ≡ true → object.behind_readonly g T b readonly s ≡ refuse member_form s.at s.half
  unfolding object.behind_readonly
  behind_unsupported e = rw e

  -- A key may.
  pub behind_key : object.unsupported_here g s ≡ false → stands g LBrack s ≡ false → object.behind_readonly g T b readonly s ≡ object.with_key g T b readonly s
  unfolding object.behind_readonly
  behind_key e k = rw (e, k)

  -- An index signature's bracket does.
  pub behind_index_lem : object.unsupported_here g s ≡ false → stands g LBrack s ≡ true → index_start g.words s.at ≡ true
      → object.behind_readonly g T b readonly s ≡ object.index g T b readonly s
  unfolding object.behind_readonly
  behind_index_lem e k i = rw (e, k, i)

  -- Another bracket does.
  pub behind_computed : object.unsupported_here g s ≡ false → stands g LBrack s ≡ true → index_start g.words s.at ≡ false
      → object.behind_readonly g T b readonly s ≡ refuse member_form s.at s.half
  unfolding object.behind_readonly
  behind_computed e k i = rw (e, k, i)

module _ (g : rule.Given) (T : Reader) (s : State) where
  -- A call signature's mark begins a member.
  pub member_call : signs (kind g s) ≡ true → object.member g T s ≡ object.signature g T (first g s) of_call s
  unfolding object.member
  member_call e = rw e

  -- A construct signature's new does.
  pub member_construct : signs (kind g s) ≡ false → object.constructs g s ≡ true → object.member g T s ≡ object.signature g T (first g s) of_construct (next s)
  unfolding object.member
  member_construct e n = rw (e, n)

  -- A readonly does.
  pub member_readonly : signs (kind g s) ≡ false → object.constructs g s ≡ false → object.is_readonly g s ≡ true
      → object.member g T s ≡ object.behind_readonly g T (first g s) true (next s)
  unfolding object.member
  member_readonly e n r = rw (e, n, r)

  -- None of these does.
  pub member_plain : signs (kind g s) ≡ false → object.constructs g s ≡ false → object.is_readonly g s ≡ false
      → object.member g T s ≡ object.behind_readonly g T (first g s) false s
  unfolding object.member
  member_plain e n r = rw (e, n, r)

-- ---- What the code found

-- A head that was refused.
abbrev pub refused_head : ℕ → Mark → MemberHead
refused_head why m = record { why = why; sort = 0; choices = 0; m = m }

-- It was refused.
pub finds_refused : {x : Reader → Result Placed} {g : rule.Given} {b : ℕ} {m : Mark} {M M' O : List ℕ} {h : MemberHead} (why : ℕ) (q : Mark) → (why ≡ 0 → ⊥)
    → h ≡ refused_head why q → ((T : Reader) → x T ≡ refuse why q.at q.half) → FindsMember x g b m h M M' O
finds_refused {x} {g} {b} {m} {M} {M'} {O} why q n e f =
    subst (λ (h : MemberHead). FindsMember x g b m h M M' O) (sym e) (record { done = λ z. absurd (n z); refused = λ _ T. f T })

-- It was found.
pub finds_got : {x : Reader → Result Placed} {g : rule.Given} {b : ℕ} {m : Mark} {M M' O : List ℕ} {sort choices : ℕ} {q : Mark}
    → GotMember x g b m (record { why = 0; sort = sort; choices = choices; m = q }) M M' O
    → FindsMember x g b m (record { why = 0; sort = sort; choices = choices; m = q }) M M' O
finds_got w = record { done = λ _. w; refused = λ z. absurd (z refl) }

-- The same of a rule that comes to the same, from a mark with the same numbers.
pub finds_from : {x y : Reader → Result Placed} {g : rule.Given} {b : ℕ} {m p : Mark} {M M' O : List ℕ} {h : MemberHead} → m.used ≡ p.used → m.named ≡ p.named → m.noted ≡ p.noted
    → ((T : Reader) → y T ≡ x T) → FindsMember x g b p h M M' O → FindsMember y g b m h M M' O
finds_from {m = m} u n o e w =
    record {
      done = λ z.
          record {
            what = (w.done z).what;
            is = λ T. e T ∙ (w.done z).is T;
            sort_is = (w.done z).sort_is;
            choices_are = (w.done z).choices_are;
            spoken = spoken_from m u n o (w.done z).spoken;
          };
      refused = λ z T. e T ∙ w.refused z T;
    }

-- ---- A key

module _ (text W : List ℕ) (given : Given) (b : ℕ) (readonly : Bool) (m p q : Mark) (M M' O : List ℕ) {len k : ℕ} (kind_is : k ≡ kind_at W m.at m.half) (is_key : property_key k ≡ true)
    (p-is : p ≡ named_mark m) (q-is : q ≡ past_mark W Question p) (moved : Moved len p q) (speaks : Speaks W m M M') (spelt : Spelt text W) where
  -- It is one in the rules' words.
  key_here_lem : property_key (kind_at W m.at m.half) ≡ true
  key_here_lem = ap property_key (sym kind_is) ∙ is_key

  -- Where the rules stand behind its `?`.
  behind_question_lem : view q O ≡ past (given_of text W given) Question (next (view m O))
  behind_question_lem = ap (λ (x : Mark). view x O) (q-is ∙ ap (λ (x : Mark). past_mark W Question x) p-is) ∙ view_past text W given Question (named_mark m) O

  -- Its name is the only one.
  spoken_key : Spoken (spelling (given_of text W given) (view m O) ∷ []) m q M M'
  spoken_key =
      spoken_to q (moved.used_is ∙ ap (λ (x : Mark). x.used) p-is) (moved.named_is ∙ ap (λ (x : Mark). x.named) p-is) (moved.noted_is ∙ ap (λ (x : Mark). x.noted) p-is) (speaks text spelt)

  -- Its choices.
  key_same : {asked : Bool} {key : ℕ} → asked ≡ here W Question p → key ≡ key_choices (key_sort k) asked
      → key ≡ key_choices (key_sort (kind_at W m.at m.half)) (here W Question (named_mark m))
  key_same a e = e ∙ ap₂ (λ (x : ℕ) (y : Bool). key_sort x + 4 * unit y) kind_is (a ∙ ap (λ (x : Mark). here W Question x) p-is)

  -- A method.
  pub got_method : {asked : Bool} {key : ℕ} → asked ≡ here W Question p → key ≡ key_choices (key_sort k) asked → signs (kind_at W q.at q.half) ≡ true
      → GotMember (λ T. object.with_key (given_of text W given) T b readonly (view m O)) (given_of text W given) b m (record { why = 0; sort = 1; choices = 1 + 8 * key; m = q }) M M' O
  got_method a e h =
      let g = given_of text W given in
      let s = view m O in
      record {
        what = a_signature (of_method (key_here g s) (stands g Question (next s)));
        is = λ T.
            key_method g T b readonly s key_here_lem (ap (λ (z : State). signs (kind g z)) (sym behind_question_lem) ∙ h)
            ∙ ap (λ (z : State). object.signature g T b (of_method (key_here g s) (stands g Question (next s))) z) (sym behind_question_lem);
        sort_is = refl;
        choices_are = ap (λ (n : ℕ). 1 + 8 * n) (key_same a e);
        spoken = spoken_key;
      }

  -- A property.
  pub got_property : {asked : Bool} {key bit : ℕ} → asked ≡ here W Question p → key ≡ key_choices (key_sort k) asked → bit ≡ unit readonly → signs (kind_at W q.at q.half) ≡ false
      → GotMember (λ T. object.with_key (given_of text W given) T b readonly (view m O)) (given_of text W given) b m (record { why = 0; sort = 0; choices = 8 * (bit + 2 * key); m = q }) M M' O
  got_property a e r h =
      let g = given_of text W given in
      let s = view m O in
      record {
        what = a_property readonly (key_here g s) (stands g Question (next s));
        is = λ T.
            key_property g T b readonly s key_here_lem (ap (λ (z : State). signs (kind g z)) (sym behind_question_lem) ∙ h)
            ∙ ap (λ (z : State). object.property g T b readonly (key_here g s) (stands g Question (next s)) z) (sym behind_question_lem);
        sort_is = refl;
        choices_are = ap₂ (λ (x y : ℕ). 8 * (x + 2 * y)) r (key_same a e);
        spoken = spoken_key;
      }

-- ---- What begins otherwise

module _ (text W : List ℕ) (given : Given) (m : Mark) (M O : List ℕ) where
  -- An index signature's bracket, behind a readonly if there is one.
  pub got_index : {bit b : ℕ} (readonly : Bool) → bit ≡ unit readonly → object.unsupported_here (given_of text W given) (view m O) ≡ false → here W LBrack m ≡ true → index_start W m.at ≡ true
      → GotMember (λ T. object.behind_readonly (given_of text W given) T b readonly (view m O)) (given_of text W given) b m (record { why = 0; sort = 4; choices = 4 + 8 * bit; m = m }) M M O
  got_index {b = b} readonly r u k i =
      record {
        what = an_index readonly;
        is = λ T. behind_index_lem (given_of text W given) T b readonly (view m O) u k i;
        sort_is = refl;
        choices_are = ap (λ (n : ℕ). 4 + 8 * n) r;
        spoken = spoken_none m m M refl refl refl;
      }

  -- A call signature's mark.
  pub got_call : {b : ℕ} → b ≡ first (given_of text W given) (view m O) → signs (kind_at W m.at m.half) ≡ true
      → GotMember (λ T. object.member (given_of text W given) T (view m O)) (given_of text W given) b m (record { why = 0; sort = 2; choices = 2; m = m }) M M O
  got_call {b} e h =
      record {
        what = a_signature of_call;
        is = λ T. member_call (given_of text W given) T (view m O) h ∙ ap (λ (n : ℕ). object.signature (given_of text W given) T n of_call (view m O)) (sym e);
        sort_is = refl;
        choices_are = refl;
        spoken = spoken_none m m M refl refl refl;
      }

  -- A construct signature's new.
  pub got_construct : {b : ℕ} {q : Mark} → b ≡ first (given_of text W given) (view m O) → q ≡ next_mark m → signs (kind_at W m.at m.half) ≡ false
      → object.constructs (given_of text W given) (view m O) ≡ true
      → GotMember (λ T. object.member (given_of text W given) T (view m O)) (given_of text W given) b m (record { why = 0; sort = 3; choices = 3; m = q }) M M O
  got_construct {b} {q} e i h n =
      record {
        what = a_signature of_construct;
        is = λ T.
            member_construct (given_of text W given) T (view m O) h n
            ∙ ap₂ (λ (x : ℕ) (y : Mark). object.signature (given_of text W given) T x of_construct (view y O)) (sym e) (sym i);
        sort_is = refl;
        choices_are = refl;
        spoken = spoken_none m q M (ap (λ (x : Mark). x.used) i) (ap (λ (x : Mark). x.named) i) (ap (λ (x : Mark). x.noted) i);
      }
