-- A name, then dots.
use mathlib.Core.Path.{refl}
use mathlib.Core.List.{[], ◌∷◌}
use Rattle.marks.specs.State.{given_of, view}
use Rattle.marks.proofs.NameLaws.{dotted_refused, says_dotted}
use Rattle.marks.proofs.ToldLaws.{handed_on, refusal_some}
use Rattle.marks.proofs.names.dotted_name.Goals as goal

pub returns-in_err-q-clause-starts_names : goal.returns-in_err-q-clause-starts_names
returns-in_err-q-clause-starts_names c =
    rw (handed_on c.from_residual.ensures.1)
    (λ text O given w.
    record {
      done = λ z. absurd (refusal_some c.in_err-q.field-0.0.why z);
      refused = λ z. dotted_refused (given_of text c.args.words.now given) (view c.args.m O) ((c.in_err-q.ensures.starts_names text O given w).refused z);
    })

pub returns-clause-starts_names : goal.returns-clause-starts_names
returns-clause-starts_names c =
    λ text O given w.
    let got = (c.in_ok-q.ensures.starts_names text O given w).done refl in
    says_dotted (given_of text c.args.words.now given) got (c.dots.ensures.starts_dots text O given (got.what ∷ []) w)
