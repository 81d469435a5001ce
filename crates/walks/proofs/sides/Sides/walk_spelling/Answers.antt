-- Two spellings: the same, or a pair.
use native.Mathlib.Omega.{arith}
use Rattle.walks.proofs.Walking.{word_within, word_ends, words_same, words_apart}
use Rattle.walks.proofs.sides.Sides.walk_spelling.Goals as goal

pub number-n-requires : goal.number-n-requires
number-n-requires c =
    (word_within c.args.self.now.left.key.now c.args.w.left c.args.p.left c.requires.2.left c.requires.3, c.requires.0)

pub number-m-requires : goal.number-m-requires
number-m-requires c =
    (word_within c.args.self.now.right.key.now c.args.w.right c.args.p.right c.requires.2.right c.requires.4, c.requires.1)

pub past-from-requires : goal.past-from-requires
past-from-requires c =
    (omega (arith, word_within c.args.self.now.left.key.now c.args.w.left c.args.p.left c.requires.2.left c.requires.3, c.args.self.now.left.short), omega (arith, word_within c.args.self.now.right.key.now c.args.w.right c.args.p.right c.requires.2.right c.requires.4, c.args.self.now.right.short))

pub past-end-requires : goal.past-end-requires
past-end-requires c =
    rw c.past-from.ensures (omega (arith, word_ends c.args.self.now.left.key.now c.args.w.left c.args.p.left c.requires.2.left c.requires.3 c.number-n.result c.number-n.ensures.0, c.args.self.now.left.short), omega (arith, word_ends c.args.self.now.right.key.now c.args.w.right c.args.p.right c.requires.2.right c.requires.4 c.number-m.result c.number-m.ensures.0, c.args.self.now.right.short))

pub same_spelling-requires : goal.same_spelling-requires
same_spelling-requires c =
    rw c.past-from.ensures (word_ends c.args.self.now.left.key.now c.args.w.left c.args.p.left c.requires.2.left c.requires.3 c.number-n.result c.number-n.ensures.0, word_ends c.args.self.now.right.key.now c.args.w.right c.args.p.right c.requires.2.right c.requires.4 c.number-m.result c.number-m.ensures.0)

pub returns-then-same_spelling : goal.returns-then-same_spelling
returns-then-same_spelling c =
    rw (c.past-end.ensures, c.past-from.ensures) (words_same c.args.self.now.left.key.now c.args.self.now.right.key.now c.args.w.left c.args.w.right c.args.p c.requires.2 c.requires.3 c.requires.4 c.args.list.now c.number-n.result c.number-n.ensures.0 c.number-m.result c.number-m.ensures.0 c.same_spelling.result (rw c.past-from.ensures at c.same_spelling.ensures) c.if-same_spelling.true)

pub returns : goal.returns
returns c =
    rw (c.past-end.ensures, c.past-from.ensures) (words_apart c.args.self.now.left.key.now c.args.self.now.right.key.now c.args.w.left c.args.w.right c.args.p c.requires.2 c.requires.3 c.requires.4 c.args.list.now c.number-n.result c.number-n.ensures.0 c.number-m.result c.number-m.ensures.0 c.same_spelling.result (rw c.past-from.ensures at c.same_spelling.ensures) c.if-same_spelling.false _ c.put_pair.ensures)
