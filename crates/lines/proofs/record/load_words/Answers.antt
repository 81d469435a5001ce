-- `record::load_words` goes on: the bytes that were read are those of the next words.
use Rattle.std.proofs.Common.{◌≡◌, ℕ, ◌+◌, ◌≤◌, List, rules, arith, length, take, sym, ap, ◌∙◌, subst}
use Rattle.std.specs.Prelude.{flat_map, Option}
use Rattle.std.specs.Int.{to_le_bytes, w64}
use Rattle.std.specs.Io.KnownBytes.{Consumes}
use Rattle.std.proofs.KnownBytes.{Consumes-trans}
use Rattle.std.proofs.lemmas.Grind.{flat_map-append}
use Rattle.std.proofs.lemmas.Slice.{take-put_mid}
use borrow.Rule.Slice.PartMut.{put_mid}
use Rattle.lines.proofs.record.load_words.Goals as goal

part_read : (a b d : Option (List ℕ)) (xs ys : List ℕ) (i n k : ℕ) → i ≤ length xs → n ≡ i + length ys → Consumes a b (flat_map (to_le_bytes w64) (take i xs)) → Consumes b d (flat_map (to_le_bytes w64) ys) → Consumes a d (flat_map (to_le_bytes w64) (take n (put_mid i k xs ys)))
part_read a b d xs ys i n k within end before now =
    let f = to_le_bytes w64 in
    let joined = sym (flat_map-append f (take i xs) ys) ∙ ap (flat_map f) (sym (take-put_mid i k xs ys n end within)) in
    subst (Consumes a d) joined (Consumes-trans a b d _ _ before now)

pub loop-done-preserved : goal.loop-done-preserved
loop-done-preserved g c = record {
  same = search rules;
  within = search rules;
  read = part_read _ _ _ c.loop-done.words c.load_part.new.words c.loop-done.done _ _ c.loop-done.invariant.within (omega arith) c.loop-done.invariant.read c.in_ok-load_part.ensures.read;
}
