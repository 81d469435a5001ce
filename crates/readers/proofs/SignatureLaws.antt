-- A function type: its rule from the head on, and its node over all its parts.
use mathlib.Core.Path.{◌≡◌, sym, ap, ◌∙◌, subst}
use mathlib.Core.Bool.{Bool, true, false}
use mathlib.Core.List.{List}
use Prim.Native.Nat.{ℕ}
use lib.ListN.{length}
use Rattle.words.specs.Kind.{Arrow, Abstract, New}
use Rattle.keys.specs.Placed.{Placed, Opt}
use Rattle.keys.specs.Store.{Run, ◌⊕◌}
use Rattle.rules.specs.State as rule
use Rattle.rules.specs.Refusal.{unexpected}
use Rattle.rules.specs.State.{State, Result, Reader, read, refuse, then, next, stands, past}
use Rattle.rules.specs.List.{count}
use Rattle.rules.specs.TypeParameters.{type_parameters}
use Rattle.rules.specs.Function as function
use Rattle.rules.specs.Function.{Parameters}
use Rattle.marks.specs.State.{view, given_of, next_mark, past_mark}
use Rattle.marks.specs.Laid.{run_in, runs, runs_opt, AllOpt, Was, was, BuiltAt}
use Rattle.marks.specs.Says.{Got, Says, is_there}
use Rattle.functions.specs.Function.{this_run, ThisIs, GotParams, LinksParams, HeadIs, MakesFunction}
use Rattle.primaries.specs.Onward.{signature}
use Rattle.marks.proofs.Answers.{then_read_lem}
use Rattle.parts.proofs.RingLaws.{expect_yes, expect_no, function_is, behind_parameters, signature_is}
use Rattle.marks.proofs.StepLaws.{view_past}
use Rattle.marks.specs.declared.state.Given.{Given}
use Rattle.marks.specs.declared.state.Mark.{Mark}
use Rattle.marks.specs.Told.{Answer}
use Rattle.functions.specs.declared.function.This.{This as ThisCode}
use Rattle.functions.specs.declared.function.FunctionHead.{FunctionHead}
use Rattle.functions.specs.Told.{Params}

-- The rule from where its head ends.
pub function_from : (text W : List ℕ) (given : Given) (T : Reader) (on : Bool) {m : Mark} {h : FunctionHead} (O : List ℕ) → HeadIs W m h
    → function.function (given_of text W given) T on (view m O)
    ≡ then (type_parameters (given_of text W given) T on (view h.m O)) (signature (given_of text W given) T h.b.first h.is_new h.is_abstract)
function_from text W given T on {m} {h} O i =
    function_is g T on (view m O)
    ∙ ap (λ (s : State). from (rule.first g (view m O)) (stands g New (past g Abstract (view m O))) (stands g Abstract (view m O)) s) (sym ends)
    ∙ ap (λ (b : Bool). from (rule.first g (view m O)) b (stands g Abstract (view m O)) (view h.m O)) (sym (i.new_is ∙ ap (stands g New) behind))
    ∙ ap (λ (b : Bool). from (rule.first g (view m O)) h.is_new b (view h.m O)) (sym i.abstract_is)
    ∙ ap (λ (b : ℕ). from b h.is_new h.is_abstract (view h.m O)) (sym i.first_is)
  where
    g : rule.Given
    g = given_of text W given

    from : ℕ → Bool → Bool → State → Result Placed
    from b isNew isAbstract s = then (type_parameters g T on s) (signature g T b isNew isAbstract)

    behind : view (past_mark W Abstract m) O ≡ past g Abstract (view m O)
    behind = view_past text W given Abstract m O

    ends : view h.m O ≡ past g New (past g Abstract (view m O))
    ends = ap (λ (x : Mark). view x O) i.mark_is ∙ view_past text W given New (past_mark W Abstract m) O ∙ ap (past g New) behind

module _ (g : rule.Given) (T : Reader) (b : ℕ) (isNew isAbstract : Bool) (ts : Opt (List Placed)) (s : State) {q : State} {ps : Parameters}
    (e : function.parameters g T isNew s ≡ read ps q) where
  -- No arrow stands behind the parameters.
  pub signature_stops : stands g Arrow q ≡ false → signature g T b isNew isAbstract ts s ≡ refuse unexpected q.at q.half
  signature_stops h =
      signature_is g T b isNew isAbstract ts s ∙ then_read_lem (behind_parameters g T b isNew isAbstract ts) e
      ∙ expect_no g Arrow q (λ p. then (function.return_type g T p) λ r n. function.function_node g T b isNew isAbstract ts ps r n) h

  -- One does, and the return type is read behind it.
  pub signature_goes : stands g Arrow q ≡ true
      → signature g T b isNew isAbstract ts s ≡ then (function.return_type g T (next q)) (λ r n. function.function_node g T b isNew isAbstract ts ps r n)
  signature_goes h =
      signature_is g T b isNew isAbstract ts s ∙ then_read_lem (behind_parameters g T b isNew isAbstract ts) e
      ∙ expect_yes g Arrow q (λ p. then (function.return_type g T p) λ r n. function.function_node g T b isNew isAbstract ts ps r n) h

-- The return type, read behind a mark at m, is the last child.
pub return_linked : {B : Was} (t : Run) (m : Mark) (p f : Params) (r : Answer) {y : Result Placed} {N M O N₁ M₁ O₁ N₂ : List ℕ} → BuiltAt B t p.kids m N M O
    → (ret : Got 0 (was (next_mark m) N M O) y r.high r.m N₁ M₁ O₁) → LinksParams p (next_mark m) r N₁ f N₂ → length N ≡ length N₁
    → BuiltAt B (t ⊕ run_in 0 ret.tree) f.kids f.m N₂ M₁ O₁
return_linked {B} t m p f r {N = N} {M = M} {O = O} {M₁ = M₁} {O₁ = O₁} {N₂ = N₂} built ret links same =
    subst (λ (q : Mark). BuiltAt B (t ⊕ run_in 0 ret.tree) f.kids q N₂ M₁ O₁) (sym links.3)
    (links.4 0 B t ret.tree N M O M₁ O₁ m.named m.noted r.m.named r.m.noted built same
    ret.stands.is_node ret.stands.high_is ret.stands.laid)

-- The node is made of all its parts.
pub signature_node_lem : (text W : List ℕ) (given : Given) (T : Reader) (h : FunctionHead) {there : Bool} {many : ℕ} {p : Params} (f : Params) (r : Answer) {a : Answer} {B : Was}
    (ts : Opt (List Placed)) {x : Result Parameters} {y : Result Placed} {N M O N₁ M₁ O₁ N₂ N₃ O₃ : List ℕ}
    → (got : GotParams B (runs_opt 4 ts) (this_run h.is_new) x p N M O) (ret : Got 0 (was (next_mark p.m) N M O) y r.high r.m N₁ M₁ O₁)
    → LinksParams p (next_mark p.m) r N₁ f N₂ → MakesFunction W given h there many f N₂ O₁ a N₃ O₃ → length N ≡ length N₁
    → AllOpt 4 ts → there ≡ is_there ts → many ≡ count ts → h.b.name ≡ B.named
    → Says 0 B (function.function_node (given_of text W given) T h.b.first h.is_new h.is_abstract ts got.what ret.tree (view r.m O₁)) a N₃ M₁ O₃
signature_node_lem text W given T h {p = p} f r {a} {B} ts {M₁ = M₁} {O₁ = O₁} {N₃ = N₃} {O₃ = O₃} got ret links makes same each there_is many_is name_is =
    subst (λ (q : Mark). Says 0 B (function.function_node (given_of text W given) T h.b.first h.is_new h.is_abstract ts got.what ret.tree (view q O₁)) a N₃ M₁ O₃)
    links.3
    (makes text T B ts got.what ret.tree M₁
    (return_linked ((runs_opt 4 ts ⊕ this_run h.is_new got.what.this) ⊕ runs 5 got.what.list) p.m p f r got.built ret links same)
    name_is there_is many_is (subst (λ (q : ThisCode). ThisIs q got.what.this) (sym links.2) got.this_is) (links.1 ∙ got.count_is)
    each got.is_this got.each ret.stands.is_node)
