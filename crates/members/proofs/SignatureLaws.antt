-- Signatures: diagnostic 3, the shapes of their nodes, and the node that the rules make of their parts.
use mathlib.Core.Path.{◌≡◌, refl, sym, ap, ◌∙◌, subst}
use mathlib.Core.Bool.{Bool, true, false, not}
use mathlib.Core.List.{List, [], ◌∷◌}
use Prim.Native.Nat.{ℕ, ◌+◌, ◌*◌}
use native.Mathlib.Omega.{arith}
use borrow.Author.Tests.{ne_eqb}
use lib.Dec.{eqb, ltb, leb-zero}
use lib.ListN.{length}
use Rattle.words.specs.Limits.{longest}
use Rattle.words.specs.Test.{◌or◌, test}
use Rattle.keys.specs.Bits.{unit}
use Rattle.keys.specs.Limits.{count_width, tags, counts}
use Rattle.keys.specs.Form.{child}
use Rattle.keys.specs.Key.{node_table}
use Rattle.keys.specs.Table.{list, opt}
use Rattle.keys.specs.Placed.{Placed, tree, join, PropertyKey, spell_key, bit, Opt, absent, listed, maybe, maybe_list, maybe_this, signature}
use Rattle.keys.specs.Store.{Run, done, name, plant, packed, ◌⊕◌}
use Rattle.keys.proofs.StoreLaws.{join_done}
use Rattle.rules.specs.Refusal.{too_long}
use Rattle.rules.specs.Notes.{note, this_on_constructor}
use Rattle.rules.specs.State.{end, make}
use Rattle.rules.specs.List.{count}
use Rattle.rules.specs.Function.{ThisParameter, Parameters, this_type, report_this}
use Rattle.rules.specs.Object.{Signature, of_method, of_call, of_construct, is_construct, signature_node}
use Rattle.marks.specs.State.{view, given_of}
use Rattle.marks.specs.Laid.{skeleton, run_opt, opt_bit, runs, runs_opt, names_run, IsOpt, AllNodes, AllOpt, Shape}
use Rattle.marks.specs.Says.{is_there}
use Rattle.marks.specs.Notes.{refused_at, Reports, Noted}
use Rattle.marks.specs.Node.{Makes, opt_list, list_scale}
use Rattle.marks.proofs.Answers.{says_same, says_stop, says_refused}
use Rattle.functions.specs.Function.{IsThis, this_bits, this_run, this_scale, new_choices, call_choices}
use Rattle.marks.proofs.ShapeLaws.{skeleton_maybe, packed_maybe, skeleton_list, packed_list, skeleton_maybe_list, packed_maybe_list}
use Rattle.functions.proofs.FunctionLaws.{this_skeleton, this_packed, skeleton_on, joined, some_long, none_long, report_this_lem}
use Rattle.members.specs.Object.{signature_names, signature_head, key_choices, a_signature, start_sort, SaysStep, ends_member, NotesThis, after_this, signature_choices, MakesSignature}
use Rattle.marks.proofs.ReportLaws.{reports_as}
use Rattle.members.proofs.StepLaws.{step_reports}
use Rattle.marks.specs.declared.state.Given.{Given}
use Rattle.marks.specs.declared.state.Mark.{Mark}
use Rattle.marks.specs.declared.state.Begin.{Begin}
use Rattle.marks.specs.Told.{Answer}
use Rattle.functions.specs.declared.function.This.{This as ThisCode}
use Rattle.functions.specs.Told.{Params}

-- ---- Diagnostic 3

-- It is for the `this` of one that is.
pub this_noted_lem : (given : Given) (isNew : Bool) (this : ThisCode) {m : Mark} {O : List ℕ} {a : Answer} {O' : List ℕ} → isNew ≡ true
    → Reports (not (eqb this.bits 0)) given (note this_on_constructor this.first this.end) m O a O' → Noted given m a → NotesThis given isNew this m O a O'
this_noted_lem given isNew this {m} {O} f r k text W x t i j =
    step_reports {p = m} text W refl refl refl
    (λ on. ap (λ (y : Bool). report_this (given_of text W given) (test y (λ _. t) (λ _. absent)) (view m O) on) (sym i ∙ f) ∙ report_this_lem (given_of text W given) t (view m O) on)
    (reports_as (ap (λ (n : ℕ). not (eqb n 0)) j.bits) j.first j.end r) k

-- ---- The shapes

module _ (ts : Opt (List Placed)) (l : List Placed) (r : Opt Placed) (each-type : AllOpt 4 ts) (each : AllNodes 5 l) (is_opt : IsOpt 0 r) where
  -- The return type.
  abbrev typed : Run
  typed = plant node_table (opt (child 0)) (maybe r) done

  -- The parameters before it.
  abbrev ends : Run
  ends = plant node_table (list count_width 0 (child 5)) (listed l) typed

  -- Their children.
  ends_skeleton : skeleton ends ≡ skeleton (runs 5 l ⊕ run_opt 0 r)
  ends_skeleton = skeleton_list 5 0 l typed (leb-zero (length l)) ∙ skeleton_on (runs 5 l) typed (run_opt 0 r) (skeleton_maybe r done ∙ ap skeleton (join_done (run_opt 0 r)))

  -- Their choices.
  ends_packed : packed ends ≡ length l + counts * opt_bit r
  ends_packed =
      packed_list 5 0 l typed (leb-zero (length l)) each
      ∙ ap (λ (n : ℕ). length l + counts * n) (packed_maybe r done is_opt ∙ (let e : opt_bit r + 2 * 0 ≡ opt_bit r = omega arith in e))

  module _ (t : Opt ThisParameter) (is_this : IsThis t) where
    -- A `this` before them.
    abbrev this : Run
    this = plant node_table (opt (opt (child 0))) (maybe_this (this_type t)) ends

    -- Type parameters before that.
    abbrev signed : Run
    signed = plant node_table (opt (list count_width 0 (child 4))) (maybe_list ts) this

    -- The children of all these.
    signed_skeleton : skeleton signed ≡ skeleton (((runs_opt 4 ts ⊕ this_run false t) ⊕ runs 5 l) ⊕ run_opt 0 r)
    signed_skeleton =
        skeleton_maybe_list 4 ts this
        ∙ skeleton_on (runs_opt 4 ts) this (this_run false t ⊕ (runs 5 l ⊕ run_opt 0 r)) (this_skeleton t ends ∙ skeleton_on (this_run false t) ends (runs 5 l ⊕ run_opt 0 r) ends_skeleton)
        ∙ ap skeleton (joined (runs_opt 4 ts) (this_run false t) (runs 5 l) (run_opt 0 r))

    -- Their choices.
    signed_packed : packed signed ≡ call_choices (is_there ts) (count ts) (this_bits t) (length l + counts * opt_bit r)
    signed_packed =
        packed_maybe_list 4 ts this each-type
        ∙ ap (λ (n : ℕ). opt_list (is_there ts) (count ts) + list_scale (is_there ts) * n)
        (this_packed t ends is_this ∙ ap (λ (n : ℕ). this_bits t + this_scale (this_bits t) * n) ends_packed)

    -- A call signature.
    pub shape_call : Shape 6 2 (signature ts (this_type t) l r) (((runs_opt 4 ts ⊕ this_run false t) ⊕ runs 5 l) ⊕ run_opt 0 r)
        (2 + 8 * call_choices (is_there ts) (count ts) (this_bits t) (length l + counts * opt_bit r))
    shape_call = record { same = signed_skeleton; choices_are = sym (ap (λ (n : ℕ). 2 + 8 * n) signed_packed); allowed_is = tt }

    -- A method.
    pub shape_method : (k : PropertyKey) (question : Bool)
        → Shape 6 1 (join (spell_key k) (join (bit question) (signature ts (this_type t) l r))) ((((names_run (k.spelling ∷ []) ⊕ runs_opt 4 ts) ⊕ this_run false t) ⊕ runs 5 l) ⊕ run_opt 0 r)
        (1 + 8 * key_choices k.which question + tags * call_choices (is_there ts) (count ts) (this_bits t) (length l + counts * opt_bit r))
    shape_method k question =
        record {
          same = ap (λ (x : Run). name k.spelling.0 k.spelling.1 x) signed_skeleton;
          choices_are =
              above k.which (unit question) (call_choices (is_there ts) (count ts) (this_bits t) (length l + counts * opt_bit r))
              ∙ sym (ap (λ (n : ℕ). 1 + 8 * (k.which + 4 * (unit question + 2 * n))) signed_packed);
          allowed_is = tt;
        }
      where
        above : (w u n : ℕ) → 1 + 8 * (w + 4 * u) + tags * n ≡ 1 + 8 * (w + 4 * (u + 2 * n))
        above w u n = omega arith

  -- A construct signature.
  pub shape_construct : Shape 6 3 (join (maybe_list ts) (join (listed l) (maybe r))) (((runs_opt 4 ts ⊕ done) ⊕ runs 5 l) ⊕ run_opt 0 r)
      (3 + 8 * new_choices (is_there ts) (count ts) (length l + counts * opt_bit r))
  shape_construct =
      record {
        same =
            skeleton_maybe_list 4 ts ends ∙ skeleton_on (runs_opt 4 ts) ends (runs 5 l ⊕ run_opt 0 r) ends_skeleton
            ∙ ap skeleton (joined (runs_opt 4 ts) done (runs 5 l) (run_opt 0 r));
        choices_are =
            sym (ap (λ (n : ℕ). 3 + 8 * n)
            (packed_maybe_list 4 ts ends each-type ∙ ap (λ (n : ℕ). opt_list (is_there ts) (count ts) + list_scale (is_there ts) * n) ends_packed));
        allowed_is = tt;
      }

-- What a signature's node holds.
abbrev pub holds : Signature → Opt (List Placed) → Parameters → Opt Placed → Placed
holds (of_method k question) ts ps r = join (spell_key k) (join (bit question) (signature ts (this_type ps.this) ps.list r))
holds of_call ts ps r = signature ts (this_type ps.this) ps.list r
holds of_construct ts ps r = join (maybe_list ts) (join (listed ps.list) (maybe r))

-- That is the node of the rules.
pub node_is : (b e : ℕ) (x : Signature) (ts : Opt (List Placed)) (ps : Parameters) (r : Opt Placed) → signature_node b e x ts ps r ≡ tree (start_sort (a_signature x)) b e (holds x ts ps r)
node_is b e (of_method k question) ts ps r = refl
node_is b e of_call ts ps r = refl
node_is b e of_construct ts ps r = refl

-- The choices of a method, whose head is none of the other two's.
method_choices : (head : ℕ) (there : Bool) (many bits params : ℕ) (isTyped : Bool) → eqb head 3 ≡ false → eqb head 2 ≡ false
    → signature_choices head there many bits params isTyped ≡ head + tags * call_choices there many bits (after_this params isTyped)
method_choices head there many bits params isTyped a b = rw (a, b)

-- The shape of any signature.
pub shape_signature : (x : Signature) (ts : Opt (List Placed)) (ps : Parameters) (r : Opt Placed) (isTyped : Bool) → unit isTyped ≡ opt_bit r → AllOpt 4 ts → IsThis ps.this → AllNodes 5 ps.list → IsOpt 0 r
    → Shape 6 (start_sort (a_signature x)) (holds x ts ps r) ((((names_run (signature_names x) ⊕ runs_opt 4 ts) ⊕ this_run (is_construct x) ps.this) ⊕ runs 5 ps.list) ⊕ run_opt 0 r)
    (signature_choices (signature_head x) (is_there ts) (count ts) (this_bits ps.this) (length ps.list) isTyped)
shape_signature (of_method k question) ts ps r isTyped e a b c d =
    subst (Shape 6 1 (holds (of_method k question) ts ps r) ((((names_run (k.spelling ∷ []) ⊕ runs_opt 4 ts) ⊕ this_run false ps.this) ⊕ runs 5 ps.list) ⊕ run_opt 0 r))
    (ap (λ (n : ℕ). 1 + 8 * key_choices k.which question + tags * call_choices (is_there ts) (count ts) (this_bits ps.this) (length ps.list + counts * n)) (sym e)
    ∙ sym (method_choices (1 + 8 * key_choices k.which question) (is_there ts) (count ts) (this_bits ps.this) (length ps.list) isTyped (ne_eqb (1 + 8 * key_choices k.which question) 3 (λ z. omega arith)) (ne_eqb (1 + 8 * key_choices k.which question) 2 (λ z. omega arith))))
    (shape_method ts ps.list r a c d ps.this b k question)
shape_signature of_call ts ps r isTyped e a b c d = rw e (shape_call ts ps.list r a c d ps.this b)
shape_signature of_construct ts ps r isTyped e a b c d = rw e (shape_construct ts ps.list r a c d)

-- ---- The node

module _ (W : List ℕ) (given : Given) (b : Begin) (head : ℕ) (there : Bool) (many : ℕ) (p : Params) (isTyped : Bool) (m : Mark) (N : List ℕ) (e : Answer)
    (over : (text O : List ℕ) (given : Given) → SaysStep (ends_member (given_of text W given) (view m O)) m O e O) where
  -- The member's end is refused.
  pub signature_stops : (e.why ≡ 0 → ⊥) → MakesSignature W given b head there many p isTyped m N e N
  signature_stops stop text B x ts ps r M O d name_is head-is there_is many_is this_is count_is typed-is each-type is_this each is_opt =
      let g = given_of text W given in
      says_stop stop ((over text O given).refused stop (λ q. make g (count ts ∷ length ps.list ∷ []) (signature_node b.first (end g q) x ts ps r) q))

  -- It is passed, and some list is too long.
  pub signature_long : e.why ≡ 0 → ltb longest many or ltb longest p.count ≡ true → MakesSignature W given b head there many p isTyped m N (refused_at too_long e.m) N
  signature_long go long text B x ts ps r M O d name_is head-is there_is many_is this_is count_is typed-is each-type is_this each is_opt =
      let g = given_of text W given in
      says_refused 6
      ((over text O given).done go (λ q. make g (count ts ∷ length ps.list ∷ []) (signature_node b.first (end g q) x ts ps r) q)
      ∙ some_long g (count ts) (length ps.list) _ (view e.m O) (rw (← many_is, ← count_is) long))

  -- None is, and the node is put.
  pub signature_put : {choices : ℕ} {a : Answer} {N' : List ℕ} → e.why ≡ 0 → ltb longest many or ltb longest p.count ≡ false
      → choices ≡ signature_choices head there many p.this.bits p.count isTyped → Makes W given b choices p.kids e.m N a N'
      → MakesSignature W given b head there many p isTyped m N a N'
  signature_put go long choices_are makes text B x ts ps r M O d name_is head-is there_is many_is this_is count_is typed-is each-type is_this each is_opt =
      let g = given_of text W given in
      let run : Run = (((names_run (signature_names x) ⊕ runs_opt 4 ts) ⊕ this_run (is_construct x) ps.this) ⊕ runs 5 ps.list) ⊕ run_opt 0 r in
      says_same
      ((over text O given).done go (λ q. make g (count ts ∷ length ps.list ∷ []) (signature_node b.first (end g q) x ts ps r) q)
      ∙ none_long g (count ts) (length ps.list) _ (view e.m O) (rw (← many_is, ← count_is) long)
      ∙ ap (λ (t : Placed). make g [] t (view e.m O)) (node_is b.first (end g (view e.m O)) x ts ps r))
      (makes text 6 B run (start_sort (a_signature x)) (holds x ts ps r) M O (record { laid = (over text O given).kept go B run N M d.laid; first_is = d.first_is; high_is = d.high_is }) name_is
      (rw (choices_are, head-is, there_is, many_is, this_is.bits, count_is) (shape_signature x ts ps r isTyped typed-is each-type is_this each is_opt)))
