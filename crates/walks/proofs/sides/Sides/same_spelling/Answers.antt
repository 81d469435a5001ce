-- Spellings of different lengths differ.
use native.Mathlib.Omega.{arith}
use mathlib.Core.Path.{◌∙◌}
use borrow.Author.Tests.{ne_eqb}
use Rattle.keys.proofs.BitsLaws.{length_bytes}
use Rattle.walks.specs.Walk.{left_bits, right_bits}
use Rattle.walks.proofs.Walking.{sizes_differ}
use Rattle.walks.proofs.sides.Sides.same_spelling.Goals as goal

pub returns-else-n-m : goal.returns-else-n-m
returns-else-n-m c =
    ne_eqb _ _ c.if-n-m.false
    ∙ sizes_differ (left_bits c.args.self.now) (right_bits c.args.self.now) c.args.at.left c.args.at.right c.args.n c.args.m (omega (arith, c.requires.0, length_bytes c.args.self.now.left.key.now)) (omega (arith, c.requires.1, length_bytes c.args.self.now.right.key.now)) c.if-n-m.false
