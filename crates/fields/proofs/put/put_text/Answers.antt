use native.Mathlib.Omega.{arith}
use mathlib.Core.Path.{◌≡◌, ap, ◌∙◌}
use Prim.Native.Nat.{ℕ, ◌+◌, ◌-◌}
use lib.ListN.{length-drop, drop}
use lib.Seq.{sets, length-take-le}
use Rattle.keys.specs.Bits.{bits_of_bytes}
use Rattle.keys.specs.Store.{part}
use Rattle.keys.proofs.BitsLaws.{length_bytes}
use Rattle.fields.proofs.put.put_text.Goals as goal

pub returns-then-bit-key : goal.returns-then-bit-key
returns-then-bit-key c =
    let few : c.args.from + c.args.count - c.args.from ≡ c.args.count = omega arith in
    let long = length-take-le c.args.count (drop c.args.from c.args.text.now) (omega (arith, length-drop c.args.from c.args.text.now)) in
    record {
      short = c.requires.0;
      next = omega (arith, c.on_by.ensures, length_bytes (part c.args.text.now c.args.from c.args.count), long);
      same = c.put_within.auto.key;
      bits = c.put_within.ensures ∙ ap (λ (k : ℕ). sets (bits_of_bytes c.args.key.now) c.args.bit (bits_of_bytes (part c.args.text.now c.args.from k))) few;
    }
