use native.Mathlib.Omega.{arith}
use mathlib.Core.Path.{◌≡◌, ap, sym, ◌∙◌}
use Prim.Native.Nat.{ℕ, ◌+◌, ◌-◌, ◌*◌}
use lib.ListN.{length, take, drop, length-drop}
use lib.Seq.{length-take-le, take_all}
use Rattle.keys.specs.Bits.{bits_of_bytes, row}
use Rattle.fields.proofs.Windows.{bytes_whole}
use Rattle.fields.proofs.take.copy_whole.Goals as goal

pub returns : goal.returns
returns c =
    let n : ℕ = length c.args.to.now in
    let few : c.args.from + n - c.args.from ≡ n = omega arith in
    let bytes : c.copy.new.to ≡ take n (drop c.args.from c.args.key.now) = c.copy.ensures ∙ ap (λ (k : ℕ). take k (drop c.args.from c.args.key.now)) few in
    let none : 0 + n ≡ n = omega arith in
    let many : length c.copy.new.to ≡ n = ap length bytes ∙ length-take-le n (drop c.args.from c.args.key.now) (omega (arith, length-drop c.args.from c.args.key.now)) in
    record {
      bytes = c.copy.new.to;
      are = bytes_whole c.args.key.now c.args.from n (omega arith) (λ i. omega (arith, c.type_inv.key i)) ∙ ap (λ x. row x (drop (c.args.from * 8 + n * 8) (bits_of_bytes c.args.key.now))) (sym bytes);
      text = ap (λ (k : ℕ). take k c.copy.new.to) none ∙ take_all n c.copy.new.to (omega (arith, many));
      many = many;
    }
