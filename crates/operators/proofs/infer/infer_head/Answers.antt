-- Past infer, one name.
use Rattle.marks.specs.State.{given_of}
use Rattle.marks.proofs.BoundLaws.{bound_next}
use Rattle.operators.proofs.infer.infer_head.Goals as goal

pub returns-clause-starts_infer : goal.returns-clause-starts_infer
returns-clause-starts_infer c =
    λ text t. bound_next (given_of text c.args.words.now c.args.given) c.next.ensures (c.bound.ensures.starts_bound text t)
