-- A spelling: refused, or its bytes and its name behind those before them.
use native.Mathlib.Omega.{arith}
use mathlib.Core.Path.{sym, ◌∙◌}
use Rattle.keys.proofs.BitsLaws.{length_bytes}
use Rattle.key_parts.proofs.SpellingLaws.{spell_short, spell_within, spell_zero, spell_cut, spell_full, spell_crowded, spell_done}
use Rattle.key_parts.proofs.spelling.take_spelling.Goals as goal
use Rattle.key_parts.proofs.spelling.take_spelling.Goals.{then-count-eq0-via-then-count-eq0, then-count-eq0-via-else-count-eq0+then-key-from, then-text-p-via-then-text-p, then-text-p-via-else-text-p+then-names-p}

pub field_at-requires : goal.field_at-requires
field_at-requires c =
    (c.requires.0, omega (arith, c.requires.2.in_key, length_bytes c.args.key.now), c.requires.1)

pub returns-in_default : goal.returns-in_default
returns-in_default c =
    spell_short c.args.key.now c.args.w c.args.p c.args.names.now c.args.text.now c.requires.2 (sym c.in_default.is ∙ c.field_at.ensures)

pub overflow_sub-key : goal.overflow_sub-key
overflow_sub-key c =
    spell_within c.args.key.now c.args.w c.args.p c.args.names.now c.args.text.now c.requires.2 c.in-Some.n _ (sym c.in-Some.is ∙ c.field_at.ensures)

pub returns-then-count-eq0 : goal.returns-then-count-eq0
returns-then-count-eq0 c =
    elim c.then-count-eq0.branch [
      | then-count-eq0-via-then-count-eq0 w ↦ spell_zero c.args.key.now c.args.w c.args.p c.args.names.now c.args.text.now c.requires.2 c.in-Some.n _ (sym c.in-Some.is ∙ c.field_at.ensures) w.if-count-eq0.true
      | then-count-eq0-via-else-count-eq0+then-key-from w ↦ spell_cut c.args.key.now c.args.w c.args.p c.args.names.now c.args.text.now c.requires.2 c.in-Some.n _ (sym c.in-Some.is ∙ c.field_at.ensures) w.if-count-eq0.false w.if-key-from.true
    ]

pub returns-then-text-p : goal.returns-then-text-p
returns-then-text-p c =
    elim c.then-text-p.branch [
      | then-text-p-via-then-text-p w ↦ spell_full c.args.key.now c.args.w c.args.p c.args.names.now c.args.text.now c.requires.2 c.in-Some.n _ (sym c.in-Some.is ∙ c.field_at.ensures) c.if-count-eq0.false (omega (arith, c.if-key-from.false)) w.if-text-p.true
      | then-text-p-via-else-text-p+then-names-p w ↦ spell_crowded c.args.key.now c.args.w c.args.p c.args.names.now c.args.text.now c.requires.2 c.in-Some.n _ (sym c.in-Some.is ∙ c.field_at.ensures) c.if-count-eq0.false (omega (arith, c.if-key-from.false)) (omega (arith, w.if-text-p.false)) w.if-names-p.true
    ]

pub returns : goal.returns
returns c =
    spell_done c.args.key.now c.args.w c.args.p c.args.names.now c.args.text.now c.requires.2 c.in-Some.n _ (sym c.in-Some.is ∙ c.field_at.ensures) c.if-count-eq0.false (omega (arith, c.if-key-from.false)) (omega (arith, c.if-text-p.false)) (omega (arith, c.if-names-p.false))
    _ _ c.copy_bytes.ensures c.append_name.ensures c.append_name.auto.names c.copy_bytes.auto.text
