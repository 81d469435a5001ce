use lib.ListN.{length}
use Rattle.visits.proofs.VisitsLaws.{visited}
use Rattle.visits.proofs.visits.walk.Goals as goal

pub returns : goal.returns
returns c =
    visited c.args.nodes.now c.args.names.now c.args.root c.args.tall (length c.args.visits.now) c.put_tree.result.name c.put_tree.result.to c.fill.new.self c.put_tree.new.items (c.fill.ensures.after (λ y e. e)) c.put_tree.ensures
