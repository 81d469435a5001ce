-- By the tag of the last record.
use Rattle.tuples.proofs.ElementLaws.{converts_none, converts_one}
use Rattle.tuples.proofs.tuple.convert_type_to_tuple_element.Goals as goal

pub returns-then-word : goal.returns-then-word
returns-then-word c =
    converts_none c.args.used c.args.nodes.now c.requires.1 c.requires.0 c.if-word.true

pub returns : goal.returns
returns c =
    converts_one c.args.used c.args.nodes.now c.requires.1 c.requires.0 c.if-word.false
