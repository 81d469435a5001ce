-- What is left of a node, as the check passes it over.
use Rattle.walks.proofs.Rests.{checks_end}
use Rattle.walks.proofs.walk.end_of.Goals as goal

pub unwrap-requires : goal.unwrap-requires
unwrap-requires c =
    checks_end _ _ c.check_rest.result c.check_rest.ensures c.requires.3
