-- The bracket, the string, no comma, and the other bracket.
use mathlib.Core.Path.{◌≡◌, ap, ◌∙◌}
use Prim.Native.Nat.{◌+◌, ◌<◌}
use native.Mathlib.Omega.{arith}
use lib.ListN.{length}
use Rattle.words.specs.Kind.{RParen, Str, Comma}
use Rattle.rules.specs.State as rule
use Rattle.rules.specs.State.{spelling}
use Rattle.marks.specs.State.{view, given_of, next_mark, named_mark}
use Rattle.marks.specs.Notes.{taken_at}
use Rattle.marks.proofs.MarkLaws.{is_here}
use Rattle.marks.proofs.StepLaws.{is_at, not_at, answer_read}
use Rattle.parts.proofs.ArgumentLaws.{source_read, source_spoken, along_source}
use Rattle.marks.specs.declared.state.Mark.{Mark}
use Rattle.parts.proofs.arguments.import_source.Goals as goal

pub returns-clause-starts_names : goal.returns-clause-starts_names
returns-clause-starts_names c =
    let name : c.spell-q.result ≡ named_mark (next_mark c.args.m) = c.spell-q.ensures.0 ∙ ap named_mark c.next-p.ensures in
    let on : c.args.m.at + 1 < (length c.args.words.now) = omega (arith, c.kind_at-2.ensures.upper_bound, c.if-kind_at-ne-STR.false, ap (λ (q : Mark). q.at) c.next-p.ensures) in
    let last : c.args.m.at + 1 + 1 < (length c.args.words.now) = omega (arith, c.kind_at-4.ensures.upper_bound, c.if-kind_at-ne-R_PAREN.false, ap (λ (q : Mark). q.at) name) in
    let is : taken_at c.next.result ≡ taken_at (next_mark (named_mark (next_mark c.args.m))) = ap taken_at (c.next.ensures ∙ ap next_mark name) in
    let along = along_source c.args.m c.requires.1 on in
    λ text O given spelt.
    answer_read (taken_at c.next.result) (next_mark (named_mark (next_mark c.args.m))) is
    (record {
      what = spelling (given_of text c.args.words.now given) (rule.next (view c.args.m O));
      is = source_read (given_of text c.args.words.now given) (view c.args.m O) (is_here c.args.words.now c.args.m c.kind_at.ensures.value c.if-kind_at-ne-L_PAREN.false) (is_at c.args.words.now Str c.next-p.ensures c.kind_at-2.ensures.value c.if-kind_at-ne-STR.false) (not_at c.args.words.now Comma name c.kind_at-3.ensures.value c.if-kind_at-eq-COMMA.false) (is_at c.args.words.now RParen name c.kind_at-4.ensures.value c.if-kind_at-ne-R_PAREN.false);
      such = tt;
      spoken = source_spoken text c.args.words.now given c.args.m O c.next-p.ensures c.spell-q.ensures.1 spelt;
    })
