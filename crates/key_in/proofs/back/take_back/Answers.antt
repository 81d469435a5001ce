-- Takes a key back, and clears what is not used.
use lib.ListN.{length}
use Rattle.key_in.proofs.Whole.{call_taken}
use Rattle.key_in.proofs.back.take_back.Goals as goal

pub returns-in-Ok : goal.returns-in-Ok
returns-in-Ok c =
    call_taken c.args.key.now (length c.args.nodes.now) (length c.args.names.now) (length c.args.text.now) _ _ _ c.take_whole.auto.nodes c.take_whole.auto.names c.take_whole.auto.text c.in-Ok.q c.in-Ok.ensures _ _ _ c.clear.ensures c.clear-in-Ok.ensures c.clear-in-Ok-2.ensures
