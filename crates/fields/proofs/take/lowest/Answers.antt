use Rattle.fields.proofs.Windows.{masked}
use Rattle.fields.proofs.take.lowest.Goals as goal

pub returns : goal.returns
returns c = masked c.args.x c.args.k c.requires
