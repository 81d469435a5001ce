use mathlib.Core.Path.{refl, ◌∙◌, subst}
use Prim.Native.Nat.{◌<◌}
use native.Mathlib.Omega.{arith}
use lib.ListN.{length}
use Rattle.marks.specs.State.{given_of, Along, next_mark}
use Rattle.marks.proofs.MarkLaws.{is_here, is_not_here, moved_next, along_same, along_moved, along_then, inside_along}
use Rattle.marks.proofs.NameLaws.{dotting_none, dotting_step, dotting_stop, dotting_taken}
use Rattle.marks.specs.declared.state.Mark.{Mark}
use Rattle.marks.proofs.ToldLaws.{handed_on, refusal_some}
use Rattle.marks.proofs.names.dots.Goals as goal

pub loop-names-init : goal.loop-names-init
loop-names-init c =
    (refl, along_same c.requires.1, λ text O given l w. dotting_none (given_of text c.args.words.now given) l c.args.m c.args.names.now O)

pub returns-in_err-p-clause-starts_dots : goal.returns-in_err-p-clause-starts_dots
returns-in_err-p-clause-starts_dots c =
    rw (handed_on c.from_residual.ensures.1)
    (λ text O given l w. dotting_stop (c.loop-names.invariant.2 text O given l w) c.next.ensures (is_here c.args.words.now c.loop-names.p c.kind_at.ensures.value c.loop-names-test.true) (c.in_err-p.ensures.starts_names text O given w) (refusal_some c.in_err-p.field-0.0.why))

pub loop-names-preserved : goal.loop-names-preserved
loop-names-preserved c =
    let there : c.loop-names.p.at < length c.args.words.now = omega (arith, c.kind_at.ensures.upper_bound, c.loop-names-test.true) in
    let on : Along (length c.args.words.now) (next_mark c.loop-names.p) c.in_ok-p.p = subst (λ (q : Mark). Along (length c.args.words.now) q c.in_ok-p.p) c.next.ensures c.in_ok-p.ensures.along.0 in (
      c.name.auto.names ∙ c.loop-names.invariant.0,
      along_then c.loop-names.invariant.1 (along_then (along_moved (moved_next (inside_along c.loop-names.invariant.1) there)) on),
      λ text O given l w. dotting_step (c.loop-names.invariant.2 text O given l w) c.next.ensures (is_here c.args.words.now c.loop-names.p c.kind_at.ensures.value c.loop-names-test.true) there (omega (arith, on.ahead)) (c.in_ok-p.ensures.starts_names text O given w) refl,
    )

pub returns-clause-starts_dots : goal.returns-clause-starts_dots
returns-clause-starts_dots c =
    λ text O given l w. dotting_taken (c.loop-names.invariant.2 text O given l w) refl (is_not_here c.args.words.now c.loop-names.p c.kind_at.ensures.value c.loop-names-test.false)
