-- The modifier, the bracket, the key, and the word in.
use Rattle.words.specs.Refusal.{number_of}
use Rattle.marks.proofs.ToldLaws.{handed_on, refusal_some}
use mathlib.Core.Path.{refl, sym, ap, ◌∙◌, subst}
use native.Mathlib.Omega.{arith}
use lib.ListN.{length}
use Rattle.words.specs.Kind.{Readonly}
use Rattle.rules.specs.State.{read}
use Rattle.rules.specs.Mapped as rule
use Rattle.marks.specs.State.{view, given_of, next_mark, Moved}
use Rattle.marks.specs.Names.{one_name}
use Rattle.marks.proofs.BuiltLaws.{spoken_from}
use Rattle.marks.proofs.MarkLaws.{is_here, is_not_here, inside_along}
use Rattle.marks.proofs.StepLaws.{names_refused, names_read, moved_taken, moved_then, inside_moved, spoken_between}
use Rattle.parts.proofs.MappingLaws.{head_name, head_in, head_read}
use Rattle.marks.specs.declared.state.Mark.{Mark}
use Rattle.parts.proofs.mapped.mapped_head.Goals as goal

pub returns-then-kind_at-ne-IN-clause-starts_mapped : goal.returns-then-kind_at-ne-IN-clause-starts_mapped
returns-then-kind_at-ne-IN-clause-starts_mapped c =
    let moved : Moved (length c.args.words.now) (next_mark c.args.m) c.in_ok-r.r.m = subst (λ (q : Mark). Moved (length c.args.words.now) q c.in_ok-r.r.m) c.next.ensures c.in_ok-r.ensures.moved.0 in
    let inner : Moved (length c.args.words.now) (next_mark c.args.m) c.next-2.result = moved_then moved (moved_taken c.next-2.ensures (inside_moved moved) (omega arith)) in
    λ text O given spelt.
    let v = (c.in_ok-q.ensures.starts_names text O given spelt).done refl in
    names_refused (λ z. omega arith)
    (head_in (given_of text c.args.words.now given) (view (next_mark c.args.m) O) (view c.in_ok-r.r.m O) c.in_ok-r.r.choices
    (ap (λ (q : Mark). rule.modifier (given_of text c.args.words.now given) Readonly (view q O)) (sym c.next.ensures) ∙ (c.in_ok-r.ensures.by_index text O given).done refl)
    v.what (view c.in_ok-q.q O)
    (is_here c.args.words.now c.in_ok-r.r.m c.kind_at.ensures.value c.if-kind_at-ne-L_BRACK.false)
    (ap (λ (q : Mark). one_name 0 (given_of text c.args.words.now given) (view q O)) (sym c.next-2.ensures) ∙ v.is)
    (is_not_here c.args.words.now c.in_ok-q.q c.kind_at-2.ensures.value c.if-kind_at-ne-IN.true))

pub returns-clause-starts_mapped : goal.returns-clause-starts_mapped
returns-clause-starts_mapped c =
    let moved : Moved (length c.args.words.now) (next_mark c.args.m) c.in_ok-r.r.m = subst (λ (q : Mark). Moved (length c.args.words.now) q c.in_ok-r.r.m) c.next.ensures c.in_ok-r.ensures.moved.0 in
    let inner : Moved (length c.args.words.now) (next_mark c.args.m) c.next-2.result = moved_then moved (moved_taken c.next-2.ensures (inside_moved moved) (omega arith)) in
    let last : Moved (length c.args.words.now) c.in_ok-q.q c.next-3.result = moved_taken c.next-3.ensures (inside_along c.in_ok-q.ensures.along.0) (omega (arith, c.kind_at-2.ensures.upper_bound, c.if-kind_at-ne-IN.false)) in
    λ text O given spelt.
    let v = (c.in_ok-q.ensures.starts_names text O given spelt).done refl in
    names_read
    (record {
      what = (c.in_ok-r.r.choices, v.what);
      is =
          head_read (given_of text c.args.words.now given) (view (next_mark c.args.m) O) (view c.in_ok-r.r.m O) c.in_ok-r.r.choices
          (ap (λ (q : Mark). rule.modifier (given_of text c.args.words.now given) Readonly (view q O)) (sym c.next.ensures) ∙ (c.in_ok-r.ensures.by_index text O given).done refl)
          v.what (view c.in_ok-q.q O)
          (is_here c.args.words.now c.in_ok-r.r.m c.kind_at.ensures.value c.if-kind_at-ne-L_BRACK.false)
          (ap (λ (q : Mark). one_name 0 (given_of text c.args.words.now given) (view q O)) (sym c.next-2.ensures) ∙ v.is)
          (is_here c.args.words.now c.in_ok-q.q c.kind_at-2.ensures.value c.if-kind_at-ne-IN.false)
          ∙ ap (λ (q : Mark). read (c.in_ok-r.r.choices, v.what) (view q O)) (sym c.next-3.ensures);
      such = refl;
      spoken = spoken_from c.args.m refl refl refl (spoken_between inner last v.spoken);
    })

pub returns-in_err-q-clause-starts_mapped : goal.returns-in_err-q-clause-starts_mapped
returns-in_err-q-clause-starts_mapped c =
    rw (handed_on c.from_residual-in_err-q.ensures.1)
    (λ text O given spelt.
    names_refused (refusal_some c.in_err-q.field-0.0.why)
    (head_name (given_of text c.args.words.now given) (view (next_mark c.args.m) O) (view c.in_ok-r.r.m O) c.in_ok-r.r.choices
    (ap (λ (q : Mark). rule.modifier (given_of text c.args.words.now given) Readonly (view q O)) (sym c.next.ensures) ∙ (c.in_ok-r.ensures.by_index text O given).done refl)
    (number_of c.in_err-q.field-0.0.why) c.in_err-q.field-0.0.m.at c.in_err-q.field-0.0.m.half
    (is_here c.args.words.now c.in_ok-r.r.m c.kind_at.ensures.value c.if-kind_at-ne-L_BRACK.false)
    (ap (λ (q : Mark). one_name 0 (given_of text c.args.words.now given) (view q O)) (sym c.next-2.ensures) ∙ (c.in_err-q.ensures.starts_names text O given spelt).refused (refusal_some c.in_err-q.field-0.0.why))))
