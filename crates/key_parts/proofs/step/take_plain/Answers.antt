-- A step that goes into no child.
use native.Mathlib.Omega.{arith}
use lib.ListN.{length}
use Rattle.keys.specs.Bits.{bits_of_bytes}
use Rattle.keys.proofs.BitsLaws.{length_bytes}
use Rattle.std.proofs.lemmas.Result.{err_from_is_err_and}
use Rattle.key_parts.proofs.Walk.{plain_words, plain_word, choice_bad, choice_good, plain_never, nothing_else}
use Rattle.key_parts.proofs.step.take_plain.Goals as goal

pub take_choice-requires : goal.take_choice-requires
take_choice-requires c =
    (c.requires.0, omega (arith, c.requires.1.inside.in_key, length_bytes c.args.key.now), c.requires.2.w, c.requires.2.a, c.requires.2.b, c.if-op-ge-CHOICE.true)

pub returns-in_err-c : goal.returns-in_err-c
returns-in_err-c c =
    let p = err_from_is_err_and c.from_residual.result c.from_residual.ensures.1 in
    rw (p.1, p.2) (choice_bad (bits_of_bytes c.args.key.now) (length c.args.names.now) (length c.args.text.now) c.args.forms.now c.args.steps c.args.r c.args.s c.requires.1 c.requires.2 c.requires.5 c.if-op-ge-CHOICE.true _ c.in_err-c.ensures c.args.names.now c.args.text.now)

pub returns-then-op-ge-CHOICE : goal.returns-then-op-ge-CHOICE
returns-then-op-ge-CHOICE c =
    rw c.choose.ensures (choice_good (bits_of_bytes c.args.key.now) (length c.args.names.now) (length c.args.text.now) c.args.forms.now c.args.steps c.args.r c.args.s c.requires.1 c.requires.2 c.requires.5 c.if-op-ge-CHOICE.true c.in_ok-c.c c.in_ok-c.ensures.picked c.args.names.now c.args.text.now)

pub returns-in_err-at : goal.returns-in_err-at
returns-in_err-at c =
    let p = err_from_is_err_and c.from_residual-in_err-at.result c.from_residual-in_err-at.ensures.1 in
    rw (p.1, p.2) (plain_words (bits_of_bytes c.args.key.now) (length c.args.names.now) (length c.args.text.now) c.args.forms.now c.args.steps c.args.r c.args.s c.requires.1 c.requires.2 c.requires.5 c.if-op-eq-SPELLINGS.true c.args.names.now c.args.text.now _ _ _ c.in_err-at.ensures)

pub returns-then-op-eq-SPELLINGS : goal.returns-then-op-eq-SPELLINGS
returns-then-op-eq-SPELLINGS c =
    plain_words (bits_of_bytes c.args.key.now) (length c.args.names.now) (length c.args.text.now) c.args.forms.now c.args.steps c.args.r c.args.s c.requires.1 c.requires.2 c.requires.5 c.if-op-eq-SPELLINGS.true c.args.names.now c.args.text.now _ _ _ c.in_ok-at.ensures

pub returns-in_err-at-2 : goal.returns-in_err-at-2
returns-in_err-at-2 c =
    let p = err_from_is_err_and c.from_residual-in_err-at-2.result c.from_residual-in_err-at-2.ensures.1 in
    rw (p.1, p.2) (plain_word (bits_of_bytes c.args.key.now) (length c.args.names.now) (length c.args.text.now) c.args.forms.now c.args.steps c.args.r c.args.s c.requires.1 c.requires.2 c.requires.5 c.if-op-eq-SPELLING.true c.args.names.now c.args.text.now _ _ _ c.in_err-at-2.ensures)

pub returns-then-op-eq-SPELLING : goal.returns-then-op-eq-SPELLING
returns-then-op-eq-SPELLING c =
    plain_word (bits_of_bytes c.args.key.now) (length c.args.names.now) (length c.args.text.now) c.args.forms.now c.args.steps c.args.r c.args.s c.requires.1 c.requires.2 c.requires.5 c.if-op-eq-SPELLING.true c.args.names.now c.args.text.now _ _ _ c.in_ok-at-2.ensures

pub returns : goal.returns
returns c =
    plain_never (bits_of_bytes c.args.key.now) (length c.args.names.now) (length c.args.text.now) c.args.forms.now c.args.steps c.args.r c.args.s c.requires.1 c.requires.2 c.requires.5 (nothing_else c.args.r.op c.requires.3 c.if-op-eq-SPELLINGS.false c.requires.4 c.if-op-eq-SPELLING.false c.if-op-ge-CHOICE.false) c.args.names.now c.args.text.now
