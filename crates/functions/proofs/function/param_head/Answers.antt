-- Dots, a name, a `?`: what stands there of these.
use mathlib.Core.Path.{refl, ◌≡◌, sym, ap, ap₂, ◌∙◌}
use mathlib.Core.Bool.{Bool, false}
use Prim.Native.Nat.{ℕ, ◌+◌, ◌*◌}
use lib.Dec.{eqb}
use Rattle.words.specs.Kind.{Question, Dot3, This}
use Rattle.words.specs.Test.{◌and◌}
use Rattle.keys.specs.Bits.{unit}
use Rattle.marks.proofs.MarkLaws.{bit_is}
use Rattle.functions.proofs.HeadLaws.{parameter_head_read}
use Rattle.marks.specs.List.{here}
use Rattle.functions.proofs.function.param_head.Goals as goal

pub returns-clause-starts_parameter : goal.returns-clause-starts_parameter
returns-clause-starts_parameter c =
    let rest_is : eqb c.kind_at-rest.result Dot3 ≡ here c.args.words.now Dot3 c.args.m = ap (λ (n : ℕ). eqb n Dot3) c.kind_at-rest.ensures.value in
    let this_is : (here c.args.words.now Dot3 c.args.m and here c.args.words.now This c.past-p.result) ≡ false = ap (λ (b : Bool). b and here c.args.words.now This c.past-p.result) (sym rest_is) ∙ sym c.this_after.ensures ∙ c.if-this_after.false in
    λ text O given s.
    parameter_head_read text c.args.words.now O given c.args.m c.past-p.result c.past-p.ensures.value this_is (c.in_ok-q.ensures.starts_names text O given s) c.past.result _ refl c.past.ensures.value
    c.past-p.ensures.moved c.past.ensures.moved
    (ap₂ (λ (a b : ℕ). a + 2 * b) (c.from.ensures ∙ bit_is _ ∙ ap unit rest_is) (c.from-2.ensures ∙ bit_is _ ∙ ap unit (ap (λ (n : ℕ). eqb n Question) c.kind_at-asked.ensures.value)))
