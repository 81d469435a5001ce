-- A spelling of the key: each way in which the code answers.
use mathlib.Core.Path.{◌≡◌, refl, sym, ◌∙◌, subst, subst₂}
use mathlib.Core.List.{List, [], ◌∷◌, ◌++◌}
use Prim.Native.Nat.{ℕ, ◌+◌, ◌-◌, ◌*◌, ◌/◌, ◌≤◌, ◌<◌}
use native.Mathlib.Omega.{arith}
use lib.ListN.{length, take, drop}
use Rattle.keys.specs.Limits.{half_word}
use Rattle.keys.specs.Bits.{Bits, take_field, bits_of_bytes}
use Rattle.keys.specs.Form.{spelt, state, got, stop, take_spelling}
use Rattle.keys.proofs.BitsLaws.{length_bytes}
use Rattle.keys.specs.Words.{first_names}
use Rattle.keys.proofs.Cells.{name_roomy}
use Rattle.fields.specs.Take.{answered, Copied}
use Rattle.fields.specs.Reader.{remembered}
use Rattle.std.specs.Prelude.{Some, None, Ok, Err}
use Rattle.words.specs.Refusal.{number_of}
use Rattle.words.specs.declared.refusal.Refusal.TheVariants.{BadKey, NoSpace}
use Rattle.key_parts.specs.declared.refusal.Stop.{Stop}
use Rattle.fields.proofs.Chunks.{Told}
use Rattle.fields.proofs.ReaderLaws.{read_told, read_next}
use Rattle.key_parts.specs.Place.{state_at, Inside}
use Rattle.key_parts.specs.Spelling.{SpellingIn}
use Rattle.key_parts.specs.declared.place.Pos.{Pos}
use Rattle.key_parts.proofs.NeverLaws.{before_one, some_times}
use Rattle.key_parts.proofs.Steps.{word_short, word_zero, word_cut, word_full, word_crowded, word_got, spelling_bad, spelling_good}

module _ (key : List ℕ) (w : ℕ) (p : Pos) (M X : List ℕ) (h : Inside (bits_of_bytes key) (length M) (length X) p) where
  abbrev bs : Bits
  bs = bits_of_bytes key

  abbrev lm : ℕ
  lm = length M

  abbrev lx : ℕ
  lx = length X

  long : length (bits_of_bytes key) ≡ length key * 8
  long = length_bytes key

  abbrev bad_key_here : Stop
  bad_key_here = record { why = BadKey; bit = p.bit }

  abbrev no_space_here : Stop
  no_space_here = record { why = NoSpace; bit = p.bit }

  bad : (e : Stop) → e.bit ≡ p.bit → take_spelling w (state_at bs lm lx p) ≡ stop (number_of e.why) (length (drop p.bit bs)) → SpellingIn bs lm lx w p M X (Err e) M X
  bad e b i = spelling_bad bs lm lx w p M X e b h.in_key i

  pub spell_short : None ≡ remembered (answered (take_field w (drop p.bit (bits_of_bytes key)))) (p.bit + w) → SpellingIn (bits_of_bytes key) (length M) (length X) w p M X (Err (record { why = BadKey; bit = p.bit })) M X
  spell_short e = bad bad_key_here refl (word_short bs p.bit w p.nodes (lm - p.names) (lx - p.chars) e)

  module _ (n from : ℕ) (e : Some (n, from) ≡ remembered (answered (take_field w (drop p.bit (bits_of_bytes key)))) (p.bit + w)) where
    t : Told (bits_of_bytes key) p.bit w n
    t = read_told bs p.bit w (p.bit + w) n from e

    next : from ≡ p.bit + w
    next = read_next bs p.bit w (p.bit + w) n from e

    pub spell_within : from ≤ length key * 8
    spell_within = omega (arith, next, t.within h.in_key, long)

    pub spell_zero : n ≡ 0 → SpellingIn (bits_of_bytes key) (length M) (length X) w p M X (Err (record { why = BadKey; bit = p.bit })) M X
    spell_zero z = bad bad_key_here refl (word_zero bs p.bit w p.nodes (lm - p.names) (lx - p.chars) n t z)

    module _ (some : n ≡ 0 → ⊥) where
      pub spell_cut : (length key * 8 - from) / 8 < n → SpellingIn (bits_of_bytes key) (length M) (length X) w p M X (Err (record { why = BadKey; bit = p.bit })) M X
      spell_cut l =
          bad bad_key_here refl (word_cut bs p.bit w p.nodes (lm - p.names) (lx - p.chars) n t (n - 1) (before_one n some)
          (subst₂ (λ (x y : ℕ). (x - y) / 8 < n) (sym long) next l))

      module _ (l : n ≤ (length key * 8 - from) / 8) where
        l' : n ≤ (length (bits_of_bytes key) - (p.bit + w)) / 8
        l' = subst₂ (λ (x y : ℕ). n ≤ (x - y) / 8) (sym long) next l

        pub spell_full : length X - p.chars < n → SpellingIn (bits_of_bytes key) (length M) (length X) w p M X (Err (record { why = NoSpace; bit = p.bit })) M X
        spell_full z =
            bad no_space_here refl (word_full bs p.bit w p.nodes (lm - p.names) (lx - p.chars) n t (n - 1) (before_one n some) l' z)

        module _ (room : n ≤ length X - p.chars) where
          pub spell_crowded : length M ≤ p.names → SpellingIn (bits_of_bytes key) (length M) (length X) w p M X (Err (record { why = NoSpace; bit = p.bit })) M X
          spell_crowded z =
              bad no_space_here refl (word_crowded bs p.bit w p.nodes (lm - p.names) (lx - p.chars) n t (n - 1) (before_one n some) l' room (omega arith))

          pub spell_ends : from + n * 8 ≤ length key * 8
          spell_ends = omega (arith, spell_within)

          module _ (fewer : p.names < length M) (X' M' : List ℕ) (copied : Copied (bits_of_bytes key) from X p.chars n X')
              (d : first_names M' (p.names + 1) ≡ take (length M) (first_names M p.names ++ ((p.chars * half_word + n) ∷ []))) where
            c : Copied (bits_of_bytes key) (p.bit + w) X p.chars n X'
            c = subst (λ (x : ℕ). Copied bs x X p.chars n X') next copied

            got_is : take_spelling w (state_at bs lm lx p)
                ≡ got (spelt c.bytes) (state p.nodes (lm - (p.names + 1)) (lx - p.chars - length c.bytes) (drop (p.bit + w + n * 8) bs))
            got_is =
                word_got bs p.bit w p.nodes (lm - p.names) (lx - p.chars) n t (n - 1) (before_one n some) c.bytes c.are c.many room
                (lm - (p.names + 1)) (omega arith)

            pub spell_done : length M' ≡ length M → length X' ≡ length X
                → SpellingIn (bits_of_bytes key) (length M) (length X) w p M X
                (Ok (record { bit = from + n * 8; nodes = p.nodes; used = p.used; names = p.names + 1; chars = p.chars + n })) M' X'
            spell_done a b =
                subst (λ (x : ℕ). SpellingIn bs lm lx w p M X (Ok (record { bit = x + n * 8; nodes = p.nodes; used = p.used; names = p.names + 1; chars = p.chars + n })) M' X')
                (sym next)
                (spelling_good bs lm lx w p M X c.bytes n M' X' c.many h (omega (arith, h.in_text)) fewer (some_times n some)
                (omega (arith, next, spell_ends, long)) got_is a b (d ∙ name_roomy M p.names (p.chars * half_word + n) fewer) c.text)
