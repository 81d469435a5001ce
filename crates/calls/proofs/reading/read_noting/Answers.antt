-- The ring reads from the first cursor on: a refusal of the rules, or a tree that is finished.
use mathlib.Core.Path.{refl, ap, sym, ◌∙◌}
use native.Mathlib.Omega.{arith}
use lib.ListN.{length}
use Rattle.key_out.proofs.KeyedLaws.{bytes_of_lem}
use Rattle.words.specs.Refusal.{number_of}
use Rattle.words.specs.declared.cursor.Cursor.{Cursor}
use Rattle.rules.specs.Read.{lend}
use Rattle.rules.specs.State.{refuse}
use Rattle.rules.proofs.TokenLaws.{start_there}
use Rattle.calls.proofs.Ruled.{sound_list, spelt_list, reading_from, same_lent, few_used, few_noted, held, reads_read, reads_refused}
use Rattle.marks.proofs.ToldLaws.{refusal_some}
use Rattle.calls.proofs.reading.read_noting.Goals as goal

pub ty-requires : goal.ty-requires
ty-requires c =
    record {
      sound = sound_list c.args.text.now c.args.tokens.now c.args.start c.requires.0;
      spelt = spelt_list c.args.text.now c.args.tokens.now c.args.start c.requires.0;
      room = omega (arith, c.well_formed);
      fine = omega (arith, start_there c.args.text.now c.args.tokens.now c.args.start c.requires.0, c.well_formed);
    }

pub returns-in-Err : goal.returns-in-Err
returns-in-Err c =
    reads_refused c.args.text.now c.args.tokens.now c.args.start c.args.preserve_parens (lend (length c.args.nodes.now) (length c.args.names.now) (length c.args.notes.now) (length c.args.key.now)) c.requires.0 (reading_from _ _ c.args.noting.now c.requires.1 (refl, refl) ∙ c.in-Err.ensures.reads.refused (refusal_some c.in-Err.stop.why) ∙ ap (λ (x : Cursor). refuse (number_of c.in-Err.stop.why) x.at x.half) (sym c.cursor-place.ensures)) c.first_byte.ensures c.refuse.ensures (same_lent c.ty.auto.nodes c.ty.auto.names)

pub finish-requires : goal.finish-requires
finish-requires c =
    (omega (arith, c.in-Ok.ensures.onward refl), few_used c.args.text.now c.args.tokens.now c.args.start c.args.preserve_parens (lend (length c.args.nodes.now) (length c.args.names.now) (length c.args.notes.now) (length c.args.key.now)) c.requires.0 (bytes_of_lem c.args.text.now (λ i. omega (arith, c.shared_slice_known-1.given i))) c.in-Ok.a.m _ (reading_from _ _ c.args.noting.now c.requires.1 (refl, refl) ∙ (c.in-Ok.ensures.reads.done refl).is), omega (arith, c.in-Ok.ensures.within.0, c.ty.auto), few_noted c.args.text.now c.args.tokens.now c.args.start c.args.preserve_parens (lend (length c.args.nodes.now) (length c.args.names.now) (length c.args.notes.now) (length c.args.key.now)) c.requires.0 (bytes_of_lem c.args.text.now (λ i. omega (arith, c.shared_slice_known-1.given i))) c.in-Ok.a.m _ (reading_from _ _ c.args.noting.now c.requires.1 (refl, refl) ∙ (c.in-Ok.ensures.reads.done refl).is), omega (arith, c.in-Ok.ensures.within.0))

pub returns-in-Ok : goal.returns-in-Ok
returns-in-Ok c =
    reads_read c.args.text.now c.args.tokens.now c.args.start c.args.preserve_parens (lend (length c.args.nodes.now) (length c.args.names.now) (length c.args.notes.now) (length c.args.key.now)) c.requires.0 (reading_from _ _ c.args.noting.now c.requires.1 (refl, refl) ∙ (c.in-Ok.ensures.reads.done refl).is) (c.finish.ensures (c.in-Ok.ensures.reads.done refl).tree (held c.args.text.now c.args.tokens.now c.args.start c.args.preserve_parens (lend (length c.args.nodes.now) (length c.args.names.now) (length c.args.notes.now) (length c.args.key.now)) c.requires.0 (bytes_of_lem c.args.text.now (λ i. omega (arith, c.shared_slice_known-1.given i))) c.in-Ok.a.m _ (reading_from _ _ c.args.noting.now c.requires.1 (refl, refl) ∙ (c.in-Ok.ensures.reads.done refl).is) c.args.nodes.now c.args.names.now c.args.noting.now (omega (arith, c.ty.auto)) (c.in-Ok.ensures.reads.done refl).stands.laid)) (same_lent c.ty.auto.nodes c.ty.auto.names)
