-- What may not stand there; a key; an index signature; another bracket.
use Rattle.marks.proofs.MarkLaws.{bit_is}
use mathlib.Core.Path.{refl, sym, ◌∙◌}
use native.Mathlib.Omega.{arith}
use Rattle.rules.specs.Refusal.{member_form}
use Rattle.marks.specs.State.{view, given_of}
use Rattle.marks.proofs.MarkLaws.{is_here, is_not_here}
use Rattle.members.proofs.HeadLaws.{behind_unsupported, behind_key, behind_computed, finds_refused, finds_got, finds_from, got_index}
use Rattle.members.proofs.object.behind_readonly.Goals as goal

pub returns-then-unsupported_here-clause-says_member : goal.returns-then-unsupported_here-clause-says_member
returns-then-unsupported_here-clause-says_member c =
    λ O given b.
    finds_refused member_form c.args.m (λ z. omega arith) refl (λ T. behind_unsupported (given_of c.args.text.now c.args.words.now given) T b c.args.readonly (view c.args.m O) (sym (c.unsupported_here.ensures O given) ∙ c.if-unsupported_here.true))

pub returns-then-kind_at-ne-L_BRACK-clause-says_member : goal.returns-then-kind_at-ne-L_BRACK-clause-says_member
returns-then-kind_at-ne-L_BRACK-clause-says_member c =
    λ O given b.
    finds_from refl refl refl
    (λ T. behind_key (given_of c.args.text.now c.args.words.now given) T b c.args.readonly (view c.args.m O) (sym (c.unsupported_here.ensures O given) ∙ c.if-unsupported_here.false) (is_not_here c.args.words.now c.args.m c.kind_at.ensures.value c.if-kind_at-ne-L_BRACK.true))
    (c.with_key.ensures.starts_key c.args.text.now c.requires.1 O given b)

pub returns-then-index_start-clause-says_member : goal.returns-then-index_start-clause-says_member
returns-then-index_start-clause-says_member c =
    λ O given b.
    finds_got
    (got_index c.args.text.now c.args.words.now given c.args.m c.args.names.now O c.args.readonly (c.from.ensures ∙ bit_is _) (sym (c.unsupported_here.ensures O given) ∙ c.if-unsupported_here.false) (is_here c.args.words.now c.args.m c.kind_at.ensures.value c.if-kind_at-ne-L_BRACK.false)
    (sym c.index_start.ensures ∙ c.if-index_start.true))

pub returns-clause-says_member : goal.returns-clause-says_member
returns-clause-says_member c =
    λ O given b.
    finds_refused member_form c.args.m (λ z. omega arith) refl
    (λ T. behind_computed (given_of c.args.text.now c.args.words.now given) T b c.args.readonly (view c.args.m O) (sym (c.unsupported_here.ensures O given) ∙ c.if-unsupported_here.false) (is_here c.args.words.now c.args.m c.kind_at.ensures.value c.if-kind_at-ne-L_BRACK.false) (sym c.index_start.ensures ∙ c.if-index_start.false))
