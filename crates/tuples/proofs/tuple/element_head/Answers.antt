-- With a label, and with none.
use mathlib.Core.Path.{sym, ◌∙◌}
use Rattle.tuples.proofs.LabelLaws.{head_label, head_plain}
use Rattle.tuples.proofs.tuple.element_head.Goals as goal

pub returns-then-is_next_token_colon_or_question_colon-clause-starts_element : goal.returns-then-is_next_token_colon_or_question_colon-clause-starts_element
returns-then-is_next_token_colon_or_question_colon-clause-starts_element c =
    let h = head_label c.args.words.now c.args.m c.past-p.result c.at-b.result c.kind_at-rest.result c.past-p.ensures.value c.at-b.ensures.first_value.0 c.at-b.ensures.first_value.1 c.kind_at-rest.ensures.value
    c.labelled.result _ _ c.labelled.ensures.value.0 c.labelled.ensures.value.1 (sym c.is_next_token_colon_or_question_colon.ensures ∙ c.if-is_next_token_colon_or_question_colon.true) in
    h.1

pub returns-clause-starts_element : goal.returns-clause-starts_element
returns-clause-starts_element c =
    let h = head_plain c.args.words.now c.args.m c.past-p.result c.at-b.result c.kind_at-rest.result c.past-p.ensures.value c.at-b.ensures.first_value.0 c.at-b.ensures.first_value.1 c.kind_at-rest.ensures.value
    c.args.names.now (sym c.is_next_token_colon_or_question_colon.ensures ∙ c.if-is_next_token_colon_or_question_colon.false) in
    h.1
