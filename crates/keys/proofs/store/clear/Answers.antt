-- One more is zero.
use mathlib.Core.Path.{◌≡◌, ◌∙◌, ap, ap₂}
use mathlib.Core.List.{List}
use Prim.Native.Nat.{ℕ, ◌+◌, ◌-◌, ◌≤◌, ◌<◌}
use lib.ListN.{length, set, replicate}
use lib.Seq.{paste}
use native.Mathlib.Omega.{arith}
use Rattle.std.proofs.lemmas.List.Edits.{fill_from_more}
use Rattle.keys.proofs.store.clear.Goals as goal

more : {X : Type 0} (old now : List X) (from i : ℕ) (z : X) → now ≡ paste old from (replicate (i - from) z) (i - from) → from ≤ i → i < length old
    → set now i z ≡ paste old from (replicate (i + 1 - from) z) (i + 1 - from)
more {X} old now from i z e h l =
    ap₂ (λ (s : List X) (k : ℕ). set s k z) e (let p : i ≡ from + (i - from) = omega arith in p)
    ∙ fill_from_more old from (i - from) z (omega arith)
    ∙ ap (λ (k : ℕ). paste old from (replicate k z) k) (let p : i - from + 1 ≡ i + 1 - from = omega arith in p)

pub loop-i-preserved : goal.loop-i-preserved
loop-i-preserved g c =
    more c.args.words.now c.loop-i.words c.args.from c.loop-i.i c.args.zero c.loop-i.invariant c.loop-i.auto.i c.loop-i-test.true
