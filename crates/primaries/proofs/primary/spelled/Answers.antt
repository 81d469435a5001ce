-- The name, and the node over it.
use Rattle.marks.proofs.LeafLaws.{named_says}
use Rattle.marks.specs.Told.{told}
use Rattle.primaries.proofs.primary.spelled.Goals as goal

pub returns-clause-says_spelled : goal.returns-clause-says_spelled
returns-clause-says_spelled c =
    named_says c.args.words.now c.args.given c.args.b c.args.choices c.args.m c.args.nodes.now (told c.put.result) c.put.new.nodes c.none.ensures c.spell-q.ensures.0 c.spell-q.ensures.1 c.put.ensures.makes
