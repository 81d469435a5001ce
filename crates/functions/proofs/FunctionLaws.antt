-- Function types: the shapes of their nodes, and the node that the rules make of their parts.
use mathlib.Core.Path.{◌≡◌, refl, sym, ap, ◌∙◌}
use mathlib.Core.Bool.{Bool, true, false, not}
use mathlib.Core.List.{List, [], ◌∷◌}
use Prim.Native.Nat.{ℕ, ◌+◌, ◌*◌}
use native.Mathlib.Omega.{arith}
use lib.Dec.{ltb, eqb, leb-zero}
use lib.ListN.{length}
use Rattle.words.specs.Limits.{longest}
use Rattle.words.specs.Test.{◌or◌}
use Rattle.keys.specs.Bits.{unit}
use Rattle.keys.specs.Limits.{count_width, tags, counts}
use Rattle.keys.specs.Form.{child}
use Rattle.keys.specs.Key.{node_table}
use Rattle.keys.specs.Table.{list, opt}
use Rattle.keys.specs.Placed as node
use Rattle.keys.specs.Placed.{Placed, join, Opt, absent, present, bit, listed, maybe, maybe_list, maybe_this}
use Rattle.keys.specs.Store.{Run, done, plant, packed, ◌⊕◌}
use Rattle.keys.proofs.StoreLaws.{join_join}
use Rattle.rules.specs.Refusal.{too_long}
use Rattle.rules.specs.Notes.{note, this_on_constructor}
use Rattle.rules.specs.State as rule
use Rattle.rules.specs.State.{State, Result, Reader, refuse, end, make, report_if}
use Rattle.rules.specs.List.{count}
use Rattle.rules.specs.Function.{ThisParameter, Parameters, this_type, report_this, function_node}
use Rattle.marks.specs.State.{view, given_of}
use Rattle.marks.specs.Laid.{skeleton, run_in, runs, runs_opt, IsNode, IsOpt, AllNodes, AllOpt, Shape}
use Rattle.marks.specs.Says.{is_there}
use Rattle.marks.specs.Notes.{refused_at, Reports, Noted}
use Rattle.marks.specs.Node.{Makes, opt_list, list_scale}
use Rattle.functions.specs.Function.{type_bits, this_bits, this_first, this_end, ThisIs, IsThis, this_run, this_scale, function_choices, constructor_choices, MakesFunction}
use Rattle.marks.proofs.RunLaws.{skeleton_join}
use Rattle.marks.proofs.Answers.{says_same, says_refused, says_stop}
use Rattle.marks.proofs.ReportLaws.{reports_done, reports_refused, built_reported}
use Rattle.marks.proofs.ShapeLaws.{packed_node, skeleton_maybe, packed_maybe, skeleton_list, packed_list, skeleton_maybe_list, packed_maybe_list}
use Rattle.functions.proofs.ParameterLaws.{type_bits_lem}
use Rattle.marks.proofs.MarkLaws.{or_false}
use Rattle.marks.specs.declared.state.Given.{Given}
use Rattle.marks.specs.Told.{Answer}
use Rattle.functions.specs.declared.function.FunctionHead.{FunctionHead}
use Rattle.functions.specs.declared.function.This.{This as ThisCode}
use Rattle.functions.specs.Told.{Params}

-- ---- What a `this` puts before a run

-- Its type, which may be absent.
pub type_packed : (u : Opt Placed) (r : Run) → IsOpt 0 u → 1 + 2 * packed (plant node_table (opt (child 0)) (maybe u) r) ≡ type_bits u + 4 * packed r
type_packed u r h = omega (arith, packed_maybe u r h, type_bits_lem u h)

pub this_skeleton : (t : Opt ThisParameter) (r : Run) → skeleton (plant node_table (opt (opt (child 0))) (maybe_this (this_type t)) r) ≡ skeleton (this_run false t ⊕ r)
this_skeleton absent r = refl
this_skeleton (present t) r = skeleton_maybe t.type r

type_scale : (u : Opt Placed) → this_scale (type_bits u) ≡ 4
type_scale absent = refl
type_scale (present u) = refl

pub this_packed : (t : Opt ThisParameter) (r : Run) → IsThis t
    → packed (plant node_table (opt (opt (child 0))) (maybe_this (this_type t)) r) ≡ this_bits t + this_scale (this_bits t) * packed r
this_packed absent r h = omega arith
this_packed (present t) r h = type_packed t.type r h ∙ ap (λ (n : ℕ). type_bits t.type + n * packed r) (sym (type_scale t.type))

-- ---- The shapes

-- What stands behind a run may be rewritten, choices aside.
pub skeleton_on : (a r s : Run) → skeleton r ≡ skeleton s → skeleton (a ⊕ r) ≡ skeleton (a ⊕ s)
skeleton_on a r s e = skeleton_join a r ∙ ap (λ (x : Run). skeleton a ⊕ x) e ∙ sym (skeleton_join a s)

-- The four parts of a function type, joined from the first on.
pub joined : (a b c d : Run) → a ⊕ (b ⊕ (c ⊕ d)) ≡ ((a ⊕ b) ⊕ c) ⊕ d
joined a b c d = sym (join_join (a ⊕ b) c d ∙ join_join a b (c ⊕ d))

module _ (ts : Opt (List Placed)) (l : List Placed) (u : Placed) (each-type : AllOpt 4 ts) (each : AllNodes 5 l) (is_node : IsNode 0 u) where
  -- The parameters and the return type.
  abbrev ends : Run
  ends = plant node_table (list count_width 0 (child 5)) (listed l) (run_in 0 u)

  ends_skeleton : skeleton ends ≡ skeleton (runs 5 l ⊕ run_in 0 u)
  ends_skeleton = skeleton_list 5 0 l (run_in 0 u) (leb-zero (length l))

  ends_packed : packed ends ≡ length l
  ends_packed = packed_list 5 0 l (run_in 0 u) (leb-zero (length l)) each ∙ ap (λ (n : ℕ). length l + counts * n) (packed_node done is_node) ∙ (let e : length l + counts * 0 ≡ length l = omega arith in e)

  pub shape_function : (t : Opt ThisParameter) → IsThis t
      → Shape 0 12 (join (maybe_list ts) (join (maybe_this (this_type t)) (join (listed l) u))) (((runs_opt 4 ts ⊕ this_run false t) ⊕ runs 5 l) ⊕ run_in 0 u)
      (function_choices (is_there ts) (count ts) (this_bits t) (length l))
  shape_function t h =
      let this : Run = plant node_table (opt (opt (child 0))) (maybe_this (this_type t)) ends in
      record {
        same =
            skeleton_maybe_list 4 ts this
            ∙ skeleton_on (runs_opt 4 ts) this (this_run false t ⊕ (runs 5 l ⊕ run_in 0 u)) (this_skeleton t ends ∙ skeleton_on (this_run false t) ends (runs 5 l ⊕ run_in 0 u) ends_skeleton)
            ∙ ap skeleton (joined (runs_opt 4 ts) (this_run false t) (runs 5 l) (run_in 0 u));
        choices_are =
            sym (ap (λ (n : ℕ). 12 + tags * n)
            (packed_maybe_list 4 ts this each-type
            ∙ ap (λ (n : ℕ). opt_list (is_there ts) (count ts) + list_scale (is_there ts) * n)
            (this_packed t ends h ∙ ap (λ (n : ℕ). this_bits t + this_scale (this_bits t) * n) ends_packed)));
        allowed_is = tt;
      }

  pub shape_constructor : (isAbstract : Bool)
      → Shape 0 13 (join (bit isAbstract) (join (maybe_list ts) (join (listed l) u))) (((runs_opt 4 ts ⊕ done) ⊕ runs 5 l) ⊕ run_in 0 u)
      (constructor_choices isAbstract (is_there ts) (count ts) (length l))
  shape_constructor isAbstract =
      record {
        same =
            skeleton_maybe_list 4 ts ends ∙ skeleton_on (runs_opt 4 ts) ends (runs 5 l ⊕ run_in 0 u) ends_skeleton
            ∙ ap skeleton (joined (runs_opt 4 ts) done (runs 5 l) (run_in 0 u));
        choices_are =
            sym (ap (λ (n : ℕ). 13 + tags * (unit isAbstract + 2 * n))
            (packed_maybe_list 4 ts ends each-type ∙ ap (λ (n : ℕ). opt_list (is_there ts) (count ts) + list_scale (is_there ts) * n) ends_packed));
        allowed_is = tt;
      }

-- ---- What the rules make

-- Two lists, one of which is too long, or none.
module _ (g : rule.Given) (a b : ℕ) (t : Placed) (s : State) where
  pub some_long : ltb longest a or ltb longest b ≡ true → make g (a ∷ b ∷ []) t s ≡ refuse too_long s.at s.half
  unfolding make
  some_long e = rw (ap (λ (x : Bool). ltb longest a or x) (sym (or_false (ltb longest b))) ∙ e)

  pub none_long : ltb longest a or ltb longest b ≡ false → make g (a ∷ b ∷ []) t s ≡ make g [] t s
  unfolding make
  none_long e = rw (ap (λ (x : Bool). ltb longest a or x) (sym (or_false (ltb longest b))) ∙ e)

type_there : (u : Opt Placed) → not (eqb (type_bits u) 0) ≡ true
type_there absent = refl
type_there (present u) = refl

-- Diagnostic 3 is reported where a `this` has bits.
pub report_this_lem : {A : Type 0} (g : rule.Given) (t : Opt ThisParameter) (s : State) (on : State → Result A)
    → report_this g t s on ≡ report_if (not (eqb (this_bits t) 0)) g (note this_on_constructor (this_first t) (this_end t)) s on
report_this_lem g absent s on = refl
report_this_lem g (present t) s on = rw type_there

-- A constructor's node.
abbrev construct : rule.Given → (first : ℕ) → Bool → Opt (List Placed) → List Placed → Placed → State → Result Placed
construct g first isAbstract ts l u s = make g (count ts ∷ length l ∷ []) (node.constructor first (end g s) isAbstract ts l u) s

module _ (g : rule.Given) (T : Reader) (b : ℕ) (isAbstract : Bool) (ts : Opt (List Placed)) (ps : Parameters) (u : Placed) (s : State) where
  function_node_is : function_node g T b false isAbstract ts ps u s ≡ make g (count ts ∷ length ps.list ∷ []) (node.function b (end g s) ts (this_type ps.this) ps.list u) s
  unfolding function_node
  function_node_is = refl

  -- A constructor's node, and the diagnostic before it, by the code's `this`.
  constructor_node_is : (r : ThisCode) → ThisIs r ps.this
      → function_node g T b true isAbstract ts ps u s ≡ report_if (not (eqb r.bits 0)) g (note this_on_constructor r.first r.end) s (construct g b isAbstract ts ps.list u)
  unfolding function_node
  constructor_node_is r i = rw (report_this_lem, ← i.bits, ← i.first, ← i.end)

-- ---- What the code's node says

module _ (W : List ℕ) (given : Given) (h : FunctionHead) (there : Bool) (many : ℕ) (p : Params) (N O : List ℕ) where
  -- Some list is too long, or none and the node is put.
  pub function_long : h.is_new ≡ false → ltb longest many or ltb longest p.count ≡ true → MakesFunction W given h there many p N O (refused_at too_long p.m) N O
  function_long new long text R B ts ps u M b first_is there_is many_is this_is count_is each-type is_this each is_node =
      let g = given_of text W given in
      rw new
      (says_refused 6
      (function_node_is g R h.b.first h.is_abstract ts ps u (view p.m O)
      ∙ some_long g (count ts) (length ps.list) _ (view p.m O) (rw (← many_is, ← count_is) long)))

  pub function_put : {choices : ℕ} {a : Answer} {N' : List ℕ} → h.is_new ≡ false → ltb longest many or ltb longest p.count ≡ false
      → choices ≡ function_choices there many p.this.bits p.count → Makes W given h.b choices p.kids p.m N a N' → MakesFunction W given h there many p N O a N' O
  function_put new long choices_are makes text R B ts ps u M b first_is there_is many_is this_is count_is each-type is_this each is_node =
      let g = given_of text W given in
      rw new
      (says_same
      (function_node_is g R h.b.first h.is_abstract ts ps u (view p.m O)
      ∙ none_long g (count ts) (length ps.list) _ (view p.m O) (rw (← many_is, ← count_is) long))
      (makes text 0 B (((runs_opt 4 ts ⊕ this_run false ps.this) ⊕ runs 5 ps.list) ⊕ run_in 0 u) 12 _ M O (rw new at b) first_is
      (rw (choices_are, there_is, many_is, this_is.bits, count_is) (shape_function ts ps.list u each-type each is_node ps.this is_this))))

  -- A constructor's diagnostic has no record; or some list is too long; or the node is put.
  module _ (new : h.is_new ≡ true) (a : Answer) (O' : List ℕ)
      (reports : Reports (not (eqb p.this.bits 0)) given (note this_on_constructor p.this.first p.this.end) p.m O a O') where
    pub constructor_stops : (a.why ≡ 0 → ⊥) → MakesFunction W given h there many p N O a N O'
    constructor_stops stop text R B ts ps u M b first_is there_is many_is this_is count_is each-type is_this each is_node =
        let g = given_of text W given in
        rw new
        (says_stop stop
        (constructor_node_is g R h.b.first h.is_abstract ts ps u (view p.m O) p.this this_is
        ∙ reports_refused text W (construct g h.b.first h.is_abstract ts ps.list u) reports stop))

    pub constructor_long : a.why ≡ 0 → ltb longest many or ltb longest p.count ≡ true → MakesFunction W given h there many p N O (refused_at too_long a.m) N O'
    constructor_long go long text R B ts ps u M b first_is there_is many_is this_is count_is each-type is_this each is_node =
        let g = given_of text W given in
        rw new
        (says_refused 6
        (constructor_node_is g R h.b.first h.is_abstract ts ps u (view p.m O) p.this this_is
        ∙ reports_done text W (construct g h.b.first h.is_abstract ts ps.list u) reports go
        ∙ some_long g (count ts) (length ps.list) _ (view a.m O') (rw (← many_is, ← count_is) long)))

    pub constructor_put : {choices : ℕ} {d : Answer} {N' : List ℕ} → a.why ≡ 0 → Noted given p.m a → ltb longest many or ltb longest p.count ≡ false
        → choices ≡ constructor_choices h.is_abstract there many p.count → Makes W given h.b choices p.kids a.m N d N' → MakesFunction W given h there many p N O d N' O'
    constructor_put go more long choices_are makes text R B ts ps u M b first_is there_is many_is this_is count_is each-type is_this each is_node =
        let g = given_of text W given in
        rw new
        (says_same
        (constructor_node_is g R h.b.first h.is_abstract ts ps u (view p.m O) p.this this_is
        ∙ reports_done text W (construct g h.b.first h.is_abstract ts ps.list u) reports go
        ∙ none_long g (count ts) (length ps.list) _ (view a.m O') (rw (← many_is, ← count_is) long))
        (makes text 0 B (((runs_opt 4 ts ⊕ done) ⊕ runs 5 ps.list) ⊕ run_in 0 u) 13 _ M O' (built_reported reports more (rw new at b)) first_is
        (rw (choices_are, there_is, many_is, count_is) (shape_constructor ts ps.list u each-type each is_node h.is_abstract))))
