-- Members of object types: what their heads begin, steps between their types, a property, a signature behind its names.
use mathlib.Core.Path.{◌≡◌, refl, sym, ap, ◌∙◌, subst}
use mathlib.Core.Bool.{Bool, true, false}
use mathlib.Core.List.{List, [], ◌∷◌}
use mathlib.Core.Logic.{◌⊎◌, inl, inr}
use Prim.Native.Nat.{ℕ, ◌+◌, ◌*◌}
use native.Mathlib.Omega.{arith}
use borrow.Author.Tests.{eq-eqb, ne_eqb}
use lib.Dec.{eqb}
use lib.ListN.{length}
use Rattle.words.specs.Kind.{Colon}
use Rattle.words.specs.Cursor.{first_byte}
use Rattle.keys.specs.Bits.{unit}
use Rattle.keys.specs.Placed as node
use Rattle.keys.specs.Placed.{Placed, PropertyKey, Opt, absent, present, join, bit, spell_key, maybe}
use Rattle.keys.specs.Store.{Run, ◌⊕◌}
use Rattle.keys.proofs.StoreLaws.{join_done}
use Rattle.rules.specs.State as rule
use Rattle.rules.specs.State.{State, Result, Reader, read, refuse, then, next, stands, end, optional, make}
use Rattle.rules.specs.List.{count}
use Rattle.rules.specs.TypeParameters.{type_parameters}
use Rattle.rules.specs.Function as function
use Rattle.rules.specs.Function.{Parameters, report_this}
use Rattle.rules.specs.Object as object
use Rattle.rules.specs.Object.{Signature, of_method, of_call, of_construct, is_construct, signature_node, this_noted, member_end}
use Rattle.marks.specs.State.{view, given_of, next_mark}
use Rattle.marks.specs.Laid.{run_opt, opt_bit, runs, runs_opt, names_run, node as isNode, IsOpt, AllOpt, Was, was, Laid, BuiltAt, Spoken, Shape}
use Rattle.marks.specs.Says.{Got, Says, is_there}
use Rattle.functions.specs.Function.{this_run, GotParams, SaysParams, ThisIs, LinksParams}
use Rattle.members.specs.Object.{MemberStart, a_property, a_signature, an_index, member_as, key_choices, signature_names, signature_head, index_head, start_sort, start_names, start_choices, GotMember, SaysStep, property_choices, MakesSignature}
use Rattle.marks.proofs.Answers.{then_read_lem, then_refused, says_same}
use Rattle.marks.proofs.BuiltLaws.{laid_spoken}
use Rattle.parts.proofs.RingLaws.{optional_none, optional_some}
use Rattle.marks.specs.declared.state.Given.{Given}
use Rattle.marks.specs.declared.state.Mark.{Mark}
use Rattle.marks.specs.declared.state.Begin.{Begin}
use Rattle.marks.specs.declared.state.Kids.{Kids}
use Rattle.marks.specs.Told.{Answer}
use Rattle.functions.specs.declared.function.This.{This as ThisCode}
use Rattle.functions.specs.Told.{Params}
use Rattle.members.specs.Told.{MemberHead, sort_number}
use Rattle.members.specs.declared.object.Sort.{Sort}
use Rattle.members.specs.declared.object.Sort.TheVariants.{Method, Call, Construct}
use Rattle.readers.proofs.SignatureLaws.{return_linked}

-- ---- Steps

-- What is built stands where a step ends.
pub built_stepped : {A : Type 0} {step : (State → Result A) → Result A} {m : Mark} {O : List ℕ} {a : Answer} {O' : List ℕ} {B : Was} {t : Run} {k : Kids} {N M : List ℕ}
    → SaysStep step m O a O' → a.why ≡ 0 → BuiltAt B t k m N M O → BuiltAt B t k a.m N M O'
built_stepped {B = B} {t = t} {N = N} {M = M} s z b = record { laid = s.kept z B t N M b.laid; first_is = b.first_is; high_is = b.high_is }

-- ---- Heads

-- A signature's sort is neither an index signature's nor a property's.
pub signature_sort : (x : Sort) → (x ≡ Method) ⊎ ((x ≡ Call) ⊎ (x ≡ Construct)) → (sort_number x ≡ 4 → ⊥) × (sort_number x ≡ 0 → ⊥)
signature_sort x (inl e) = ((λ z. omega (arith, z, ap sort_number e)), λ z. omega (arith, z, ap sort_number e))
signature_sort x (inr (inl e)) = ((λ z. omega (arith, z, ap sort_number e)), λ z. omega (arith, z, ap sort_number e))
signature_sort x (inr (inr e)) = ((λ z. omega (arith, z, ap sort_number e)), λ z. omega (arith, z, ap sort_number e))

module _ (text W : List ℕ) (given : Given) (T : Reader) {m : Mark} {h : MemberHead} {b : ℕ} {M M' O : List ℕ}
    (got : GotMember (λ T. object.member (given_of text W given) T (view m O)) (given_of text W given) (first_byte W m.at m.half) m h M M' O)
    (first_is : b ≡ first_byte W m.at m.half) where
  -- The member as it begins, from its first byte on.
  begins_as : object.member (given_of text W given) T (view m O) ≡ member_as (given_of text W given) T b got.what (view h.m O)
  begins_as = got.is T ∙ ap (λ (x : ℕ). member_as (given_of text W given) T x got.what (view h.m O)) (sym first_is)

  -- An index signature.
  pub member_index : {a : Answer} {N N₁ M₁ O₁ : List ℕ} → h.sort ≡ 4
      → ((readonly : Bool) → Laid (was m N M O) (names_run []) h.m.used h.m.named h.m.noted N M' O → h.choices ≡ index_head readonly
      → Says 6 (was m N M O) (object.index (given_of text W given) T b readonly (view h.m O)) a N₁ M₁ O₁)
      → Says 6 (was m N M O) (object.member (given_of text W given) T (view m O)) a N₁ M₁ O₁
  member_index {a} {N} {N₁} {M₁} {O₁} z f = by got.what begins_as got.sort_is got.choices_are got.spoken
    where
      by : (w : MemberStart) → object.member (given_of text W given) T (view m O) ≡ member_as (given_of text W given) T b w (view h.m O) → h.sort ≡ start_sort w → h.choices ≡ start_choices w
          → Spoken (start_names w) m h.m M M' → Says 6 (was m N M O) (object.member (given_of text W given) T (view m O)) a N₁ M₁ O₁
      by (a_property r k q) i s c p = absurd (omega (arith, z, s))
      by (a_signature (of_method k q)) i s c p = absurd (omega (arith, z, s))
      by (a_signature of_call) i s c p = absurd (omega (arith, z, s))
      by (a_signature of_construct) i s c p = absurd (omega (arith, z, s))
      by (an_index r) i s c p = says_same i (f r (laid_spoken N O p) c)

  -- A signature.
  pub member_signature : {a : Answer} {N N₁ M₁ O₁ : List ℕ} → (h.sort ≡ 4 → ⊥) → (h.sort ≡ 0 → ⊥)
      → ((x : Signature) → Laid (was m N M O) (names_run (signature_names x)) h.m.used h.m.named h.m.noted N M' O → h.choices ≡ signature_head x
      → Says 6 (was m N M O) (object.signature (given_of text W given) T b x (view h.m O)) a N₁ M₁ O₁)
      → Says 6 (was m N M O) (object.member (given_of text W given) T (view m O)) a N₁ M₁ O₁
  member_signature {a} {N} {N₁} {M₁} {O₁} y z f = by got.what begins_as got.sort_is got.choices_are got.spoken
    where
      by : (w : MemberStart) → object.member (given_of text W given) T (view m O) ≡ member_as (given_of text W given) T b w (view h.m O) → h.sort ≡ start_sort w → h.choices ≡ start_choices w
          → Spoken (start_names w) m h.m M M' → Says 6 (was m N M O) (object.member (given_of text W given) T (view m O)) a N₁ M₁ O₁
      by (a_property r k q) i s c p = absurd (z s)
      by (a_signature x) i s c p = says_same i (f x (laid_spoken N O p) c)
      by (an_index r) i s c p = absurd (y s)

  -- A property.
  pub member_property : {a : Answer} {N N₁ M₁ O₁ : List ℕ} → h.sort ≡ 0
      → ((readonly : Bool) (k : PropertyKey) (question : Bool) → Laid (was m N M O) (names_run (k.spelling ∷ [])) h.m.used h.m.named h.m.noted N M' O
      → h.choices ≡ 8 * (unit readonly + 2 * key_choices k.which question)
      → Says 6 (was m N M O) (object.property (given_of text W given) T b readonly k question (view h.m O)) a N₁ M₁ O₁)
      → Says 6 (was m N M O) (object.member (given_of text W given) T (view m O)) a N₁ M₁ O₁
  member_property {a} {N} {N₁} {M₁} {O₁} z f = by got.what begins_as got.sort_is got.choices_are got.spoken
    where
      by : (w : MemberStart) → object.member (given_of text W given) T (view m O) ≡ member_as (given_of text W given) T b w (view h.m O) → h.sort ≡ start_sort w → h.choices ≡ start_choices w
          → Spoken (start_names w) m h.m M M' → Says 6 (was m N M O) (object.member (given_of text W given) T (view m O)) a N₁ M₁ O₁
      by (a_property r k q) i s c p = says_same i (f r k q (laid_spoken N O p) c)
      by (a_signature (of_method k q)) i s c p = absurd (omega (arith, z, s))
      by (a_signature of_call) i s c p = absurd (omega (arith, z, s))
      by (a_signature of_construct) i s c p = absurd (omega (arith, z, s))
      by (an_index r) i s c p = absurd (omega (arith, z, s))

-- ---- Properties

-- What stands behind the sort of a property.
abbrev pub property_content : Bool → PropertyKey → Bool → Opt Placed → Placed
property_content readonly k question t = join (bit readonly) (join (spell_key k) (join (bit question) (maybe t)))

-- Its optional type was read.
pub property_typed : (g : rule.Given) (T : Reader) (b : ℕ) (readonly : Bool) (k : PropertyKey) (question : Bool) (s : State) {t : Opt Placed} {q : State}
    → optional g Colon (T true) s ≡ read t q
    → object.property g T b readonly k question s ≡ member_end g q λ q. make g [] (node.property b (end g q) readonly k question t) q
unfolding object.property
property_typed g T b readonly k question s e =
    then_read_lem (λ t q. member_end g q λ q. make g [] (node.property b (end g q) readonly k question t) q) e

-- It is refused.
pub property_refused : (g : rule.Given) (T : Reader) (b : ℕ) (readonly : Bool) (k : PropertyKey) (question : Bool) (s : State) {n i h : ℕ}
    → optional g Colon (T true) s ≡ refuse n i h → object.property g T b readonly k question s ≡ refuse n i h
unfolding object.property
property_refused g T b readonly k question s e =
    then_refused (λ t q. member_end g q λ q. make g [] (node.property b (end g q) readonly k question t) q) e

-- Its names, children and choices.
pub property_shaped : (readonly : Bool) (k : PropertyKey) (question : Bool) (t : Opt Placed) (typed : Bool) {head choices : ℕ} → IsOpt 0 t
    → head ≡ 8 * (unit readonly + 2 * key_choices k.which question) → choices ≡ property_choices head typed → unit typed ≡ opt_bit t
    → Shape 6 0 (property_content readonly k question t) (names_run (k.spelling ∷ []) ⊕ run_opt 0 t) choices
property_shaped readonly k question absent typed h e c y = record { same = refl; choices_are = omega (arith, e, c, y); allowed_is = tt }
property_shaped readonly k question (present t) typed (isNode a) e c y = record { same = refl; choices_are = omega (arith, e, c, y); allowed_is = tt }

-- ---- Signatures

-- Whether it is a construct signature, by the choices of its head.
pub construct_is : (x : Signature) {head : ℕ} → head ≡ signature_head x → eqb head 3 ≡ is_construct x
construct_is (of_method k question) {head} e = ne_eqb head 3 (λ z. omega (arith, e, z))
construct_is of_call {head} e = ne_eqb head 3 (λ z. omega (arith, e, z))
construct_is of_construct {head} e = eq-eqb head 3 e

-- The same parameters, of an equal test.
pub params_as : {B : Was} {t : Run} (g : rule.Given) (T : Reader) (s : State) {isNew isNew' : Bool} {p : Params} {N M O : List ℕ} → isNew ≡ isNew'
    → SaysParams B t (this_run isNew) (function.parameters g T isNew s) p N M O → SaysParams B t (this_run isNew') (function.parameters g T isNew' s) p N M O
params_as {B} {t} g T s {p = p} {N = N} {M = M} {O = O} e w = subst (λ (b : Bool). SaysParams B t (this_run b) (function.parameters g T b s) p N M O) e w

module _ (g : rule.Given) (T : Reader) (b : ℕ) (x : Signature) where
  -- What is due behind the return type.
  abbrev pub end_signature : Opt (List Placed) → Parameters → Opt Placed → State → Result Placed
  end_signature ts ps r q = member_end g q λ q. make g (count ts ∷ length ps.list ∷ []) (signature_node b (end g q) x ts ps r) q

  -- Behind diagnostic 3.
  abbrev pub behind_note : Opt (List Placed) → Parameters → State → Result Placed
  behind_note ts ps q = then (optional g Colon (function.return_type g T) q) (end_signature ts ps)

  -- Behind the parameters.
  abbrev pub behind_params : Opt (List Placed) → Parameters → State → Result Placed
  behind_params ts ps q = report_this g (this_noted x ps.this) q (behind_note ts ps)

  -- Behind the type parameters.
  abbrev pub behind_types : Opt (List Placed) → State → Result Placed
  behind_types ts q = then (function.parameters g T (is_construct x) q) (behind_params ts)

  -- The rule, from its type parameters on.
  pub sign_is : (s : State) → object.signature g T b x s ≡ then (type_parameters g T true s) behind_types
  unfolding object.signature
  sign_is s = refl

  module _ (s : State) {ts : Opt (List Placed)} {q : State} {ps : Parameters} {p n : State} (e : type_parameters g T true s ≡ read ts q)
      (f : function.parameters g T (is_construct x) q ≡ read ps p) (h : (on : State → Result Placed) → report_this g (this_noted x ps.this) p on ≡ on n) where
    -- Type parameters and parameters were read, and diagnostic 3 was looked at.
    sign_noted : object.signature g T b x s ≡ behind_note ts ps n
    sign_noted = sign_is s ∙ then_read_lem behind_types e ∙ then_read_lem (behind_params ts) f ∙ h (behind_note ts ps)

    -- No return type stands there.
    pub sign_plain : stands g Colon n ≡ false → object.signature g T b x s ≡ end_signature ts ps absent n
    sign_plain c = sign_noted ∙ then_read_lem (end_signature ts ps) (optional_none g Colon (function.return_type g T) n c)

    -- One does, and was read.
    pub sign_returns : {r : Placed} {o : State} → stands g Colon n ≡ true → function.return_type g T (next n) ≡ read r o
        → object.signature g T b x s ≡ end_signature ts ps (present r) o
    sign_returns c i =
        sign_noted ∙ then_read_lem (end_signature ts ps) (optional_some g Colon (function.return_type g T) n c ∙ then_read_lem (λ t q. read (present t) q) i)

    -- It is refused.
    pub sign_stops : {k i o : ℕ} → stands g Colon n ≡ true → function.return_type g T (next n) ≡ refuse k i o → object.signature g T b x s ≡ refuse k i o
    sign_stops c i =
        sign_noted ∙ then_refused (end_signature ts ps) (optional_some g Colon (function.return_type g T) n c ∙ then_refused (λ t q. read (present t) q) i)

module _ (text W : List ℕ) (given : Given) (T : Reader) (b : Begin) (m : Mark) {head : ℕ} {there : Bool} {many : ℕ} {p : Params} {B : Was} (x : Signature) (ts : Opt (List Placed))
    {y : Result Parameters} {N M O O' : List ℕ} (got : GotParams B (names_run (signature_names x) ⊕ runs_opt 4 ts) (this_run (is_construct x)) y p N M O)
    (built : BuiltAt B (((names_run (signature_names x) ⊕ runs_opt 4 ts) ⊕ this_run (is_construct x) got.what.this) ⊕ runs 5 got.what.list) p.kids m N M O')
    (each : AllOpt 4 ts) (there_is : there ≡ is_there ts) (many_is : many ≡ count ts) (name_is : b.name ≡ B.named) (head-is : head ≡ signature_head x) where
  -- The node of a signature without a return type.
  pub sign_untyped : {a : Answer} {N' : List ℕ} → MakesSignature W given b head there many p false m N a N'
      → Says 6 B (end_signature (given_of text W given) T b.first x ts got.what absent (view m O')) a N' M O'
  sign_untyped makes =
      makes text B x ts got.what absent M O' (subst (λ (r : Run). BuiltAt B r p.kids m N M O') (sym
      (join_done (((names_run (signature_names x) ⊕ runs_opt 4 ts) ⊕ this_run (is_construct x) got.what.this) ⊕ runs 5 got.what.list))) built)
      name_is head-is there_is many_is got.this_is got.count_is refl each got.is_this got.each tt

  -- The return type is the last child, and the node is made of all.
  pub sign_typed : (f : Params) (r : Answer) {a : Answer} {z : Result Placed} {N₁ M₁ O₁ N₂ N₃ : List ℕ} (ret : Got 0 (was (next_mark m) N M O') z r.high r.m N₁ M₁ O₁)
      → LinksParams p (next_mark m) r N₁ f N₂ → length N ≡ length N₁ → MakesSignature W given b head there many f true f.m N₂ a N₃
      → Says 6 B (end_signature (given_of text W given) T b.first x ts got.what (present ret.tree) (view r.m O₁)) a N₃ M₁ O₁
  sign_typed f r {a} {N₁ = N₁} {M₁ = M₁} {O₁ = O₁} {N₂ = N₂} {N₃ = N₃} ret links same makes =
      subst (λ (q : Mark). Says 6 B (end_signature (given_of text W given) T b.first x ts got.what (present ret.tree) (view q O₁)) a N₃ M₁ O₁) links.3
      (makes text B x ts got.what (present ret.tree) M₁ O₁
      (return_linked (((names_run (signature_names x) ⊕ runs_opt 4 ts) ⊕ this_run (is_construct x) got.what.this) ⊕ runs 5 got.what.list) m p f r built ret links same)
      name_is head-is there_is many_is (subst (λ (q : ThisCode). ThisIs q got.what.this) (sym links.2) got.this_is) (links.1 ∙ got.count_is)
      refl each got.is_this got.each ret.stands.is_node)
