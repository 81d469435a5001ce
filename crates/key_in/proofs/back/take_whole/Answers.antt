-- A whole key: not too long, its edition, its tree, its last bits.
use borrow.Author.Rules.{rules}
use native.Mathlib.Omega.{arith}
use mathlib.Core.Path.{refl, sym, ◌∙◌}
use Prim.Native.Nat.{◌/◌}
use lib.ListN.{length}
use Rattle.keys.proofs.BitsLaws.{length_bytes}
use Rattle.std.proofs.lemmas.Result.{err_from_is_err_and}
use Rattle.key_in.proofs.Whole.{whole_kept, whole_long, whole_short, whole_other, whole_asks, whole_stop, whole_left, whole_done}
use Rattle.key_in.proofs.back.take_whole.Goals as goal

pub returns-then-key-gt-MOST : goal.returns-then-key-gt-MOST
returns-then-key-gt-MOST c =
    whole_long c.args.key.now (length c.args.nodes.now / 4) (length c.args.names.now) (length c.args.text.now) c.if-key-gt-MOST.true _ _ _

pub returns-in_default : goal.returns-in_default
returns-in_default c =
    whole_short c.args.key.now (length c.args.nodes.now / 4) (length c.args.names.now) (length c.args.text.now) (omega (arith, c.if-key-gt-MOST.false)) (sym c.in_default.is ∙ c.field_at.ensures) _ _ _

pub returns-then-e-ne-EDITION : goal.returns-then-e-ne-EDITION
returns-then-e-ne-EDITION c =
    whole_other c.args.key.now (length c.args.nodes.now / 4) (length c.args.names.now) (length c.args.text.now) (omega (arith, c.if-key-gt-MOST.false)) _ _ (sym c.in-Some.is ∙ c.field_at.ensures) c.if-e-ne-EDITION.true _ _ _

pub node-requires : goal.node-requires
node-requires c =
    (omega (arith, c.if-key-gt-MOST.false), whole_asks c.args.key.now (length c.args.nodes.now / 4) (length c.args.names.now) (length c.args.text.now) (omega (arith, c.if-key-gt-MOST.false)) _ _ (sym c.in-Some.is ∙ c.field_at.ensures) c.if-e-ne-EDITION.false _ c.words-words.ensures c.args.nodes.now c.args.names.now c.args.text.now refl refl (omega arith))

pub returns-in_err-q : goal.returns-in_err-q
returns-in_err-q c =
    let p = err_from_is_err_and c.from_residual.result c.from_residual.ensures.1 in
    rw (p.1, p.2) (whole_kept (whole_stop c.args.key.now (length c.args.nodes.now / 4) (length c.args.names.now) (length c.args.text.now) (omega (arith, c.if-key-gt-MOST.false)) _ _ (sym c.in-Some.is ∙ c.field_at.ensures) c.if-e-ne-EDITION.false _ c.words-words.ensures c.args.nodes.now c.args.names.now c.args.text.now refl refl _ _ _ _ c.in_err-q.ensures.takes) (search rules) (search rules) (search rules))

pub pad_end-end-requires : goal.pad_end-end-requires
pad_end-end-requires c =
    (omega (arith, c.if-key-gt-MOST.false), omega (arith, c.in_ok-q.ensures.takes.grown.inside.in_key, length_bytes c.args.key.now))

pub returns-then-end-key : goal.returns-then-end-key
returns-then-end-key c =
    whole_kept (whole_left c.args.key.now (length c.args.nodes.now / 4) (length c.args.names.now) (length c.args.text.now) (omega (arith, c.if-key-gt-MOST.false)) _ _ (sym c.in-Some.is ∙ c.field_at.ensures) c.if-e-ne-EDITION.false _ c.words-words.ensures c.args.nodes.now c.args.names.now c.args.text.now refl refl _ _ _ c.in_ok-q.q c.in_ok-q.ensures.takes _ c.pad_end-end.ensures c.if-end-key.true) (search rules) (search rules) (search rules)

pub returns : goal.returns
returns c =
    whole_kept (whole_done c.args.key.now (length c.args.nodes.now / 4) (length c.args.names.now) (length c.args.text.now) (omega (arith, c.if-key-gt-MOST.false)) _ _ (sym c.in-Some.is ∙ c.field_at.ensures) c.if-e-ne-EDITION.false _ c.words-words.ensures c.args.nodes.now c.args.names.now c.args.text.now refl refl _ _ _ c.in_ok-q.q c.in_ok-q.ensures.takes _ c.pad_end-end.ensures (omega (arith, c.if-end-key.false))) (search rules) (search rules) (search rules)
