-- `record::put_words` goes on: the next eight bytes are the next word's; at the end the eights are all bytes.
use Rattle.std.proofs.Common.{◌≡◌, ℕ, zero, suc, ◌+◌, ◌*◌, ◌/◌, ◌<◌, List, [], ◌∷◌, ◌++◌, arith, length, take, drop, get_or, slice_set, sym, ap, ◌∙◌, length-drop}
use Rattle.std.specs.Prelude.{flat_map}
use Rattle.std.specs.Int.{to_le_bytes, w64}
use Rattle.std.specs.Simd.{first_chunks}
use Rattle.std.proofs.lemmas.Grind.{flat_map-append}
use Rattle.std.proofs.lemmas.List.{append-nil, nil_from_length, take_more, take_more_set, take_all, take-append-drop}
use Rattle.lines.proofs.record.put_words.Goals as goal

flat_map_next : {X : Type 0} (f : X → List ℕ) (xs : List X) (x : X) → flat_map f (xs ++ x ∷ []) ≡ flat_map f xs ++ f x
flat_map_next f xs x = flat_map-append f xs (x ∷ []) ∙ ap (λ l. flat_map f xs ++ l) (append-nil (f x))

word_put : (words : List ℕ) (eights : List (List ℕ)) (i w : ℕ) (d : List ℕ) → i < length words → i < length eights → flat_map (to_le_bytes w64) (take i words) ≡ flat_map (λ x. x) (take i eights) → to_le_bytes w64 w ≡ get_or eights i d → flat_map (to_le_bytes w64) (take (i + 1) (slice_set words i w)) ≡ flat_map (λ x. x) (take (i + 1) eights)
word_put words eights i w d here there before now =
    let f = to_le_bytes w64 in
    let left = ap (flat_map f) (take_more_set words i w here) ∙ flat_map_next f (take i words) w in
    let right = ap (flat_map (λ x. x)) (take_more eights i d there) ∙ flat_map_next (λ x. x) (take i eights) (get_or eights i d) in
    left ∙ ap (λ l. l ++ f w) before ∙ ap (λ l. flat_map (λ x. x) (take i eights) ++ l) now ∙ sym right

joined_eights : (k : ℕ) (xs : List ℕ) → length xs ≡ 8 * k → flat_map (λ x. x) (first_chunks 8 k xs) ≡ xs
joined_eights zero xs h = sym (nil_from_length xs (omega arith))
joined_eights (suc k) xs h =
    ap (λ l. take 8 xs ++ l) (joined_eights k (drop 8 xs) (omega (arith, length-drop 8 xs))) ∙ take-append-drop 8 xs

pub loop-i-preserved : goal.loop-i-preserved
loop-i-preserved c =
    word_put c.loop-i.words c.as_chunks.result.0.now c.loop-i.i _ _ (omega arith) (omega (arith, c.as_chunks.ensures.front_len)) c.loop-i.invariant c.word_of.ensures

pub returns : goal.returns
returns c =
    let id = λ (x : List ℕ). x in
    let bytes = c.args.bytes.now in
    let whole = joined_eights (length bytes / 8) bytes (omega arith) in
    ap (flat_map (to_le_bytes w64)) (sym (take_all c.loop-i.i c.loop-i.words (omega arith))) ∙ c.loop-i.invariant ∙ ap (flat_map id) (take_all c.loop-i.i c.as_chunks.result.0.now (omega (arith, c.as_chunks.ensures.front_len))) ∙ ap (flat_map id) c.as_chunks.ensures.front ∙ whole
