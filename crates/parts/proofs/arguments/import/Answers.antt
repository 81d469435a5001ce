-- The source, then the names with dots before.
use mathlib.Core.Path.{refl}
use mathlib.Core.List.{[]}
use Rattle.marks.specs.State.{view, given_of}
use Rattle.parts.proofs.ArgumentLaws.{import_read}
use Rattle.parts.proofs.arguments.import.Goals as goal

pub returns-clause-starts_import : goal.returns-clause-starts_import
returns-clause-starts_import c =
    λ text O given isTypeof e spelt.
    import_read (given_of text c.args.words.now given) (view c.args.m O) isTypeof c.args.choices c.args.m c.in_ok-p.p c.in_ok-q.q e
    ((c.in_ok-p.ensures.starts_names text O given spelt).done refl) ((c.in_ok-q.ensures.starts_dots text O given [] spelt).done refl)
