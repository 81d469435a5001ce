-- The names with dots between.
use mathlib.Core.Path.{refl}
use Rattle.marks.specs.State.{view, given_of}
use Rattle.parts.proofs.ArgumentLaws.{reference_read}
use Rattle.parts.proofs.arguments.reference.Goals as goal

pub returns-clause-starts_dotted : goal.returns-clause-starts_dotted
returns-clause-starts_dotted c =
    λ text O given make d spelt. reference_read (given_of text c.args.words.now given) (view c.args.m O) c.args.choices make c.args.m c.in_ok-q.q d ((c.in_ok-q.ensures.starts_names text O given spelt).done refl)
