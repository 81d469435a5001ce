-- The laws of the whole key: what is written into zeros from their start is the key, as much of it as fits.
use mathlib.Core.Path.{◌≡◌, refl, sym, ap, ap₂, ◌∙◌, subst}
use mathlib.Core.Bool.{false}
use mathlib.Core.List.{List, [], ◌∷◌, ◌++◌, append_assoc}
use Prim.Native.Nat.{ℕ, zero, suc, ◌+◌, ◌*◌, ◌/◌, ◌^◌, ◌≤◌, ◌<◌}
use native.Mathlib.Omega.{arith}
use lib.ListN.{length, get_or, take, replicate, replicate-append-replicate}
use lib.Seq.{sets, take_all}
use Rattle.keys.specs.Bits.{Bits, bits_of, bits_of_bytes}
use Rattle.keys.proofs.BitsLaws.{length_bits, bytes_one}
use Rattle.keys.specs.Form.{choice, one, child, both, Grammar, Bytes, height, nodes, write}
use Rattle.keys.specs.Limits.{newest, edition, count_width}
use Rattle.keys.specs.Table.{type, whole_key}
use Rattle.keys.specs.Placed.{Placed, bare}
use Rattle.keys.specs.Key.{gap, bytes_of, node_table}
use Rattle.keys.proofs.KeyLaws.{packs, length_packed}
use Rattle.keys.specs.Store.{run_of}
use Rattle.keys.specs.Lines.{lined}
use Rattle.keys.specs.Holds.{Spells, Stands, cursor}
use Rattle.keys.proofs.HoldsLaws.{of_type, stands_holds, stands_low, stands_written}
use Rattle.fields.specs.Put.{Put, fitted}
use Rattle.fields.proofs.PutLaws.{put_append, bytes_append, take_more, sets_copies}
use Rattle.node_table.specs.Forms.{grammar_of, table_words}
use Rattle.node_table.proofs.FormsLaws.{words_are}
use Rattle.node_table.specs.Moves.{Noded}
use Rattle.node_table.proofs.MovesLaws.{all_put}
use Rattle.key_out.specs.Out.{key_bits, Keyed}
use Rattle.key_out.specs.Sound.{bits_sound}
use Rattle.key_out.proofs.OutLaws.{items_written}

-- ---- Bytes and their bits

bits_zeros : (n : ℕ) → bits_of_bytes (replicate n 0) ≡ replicate (n * 8) false
bits_zeros zero = refl
bits_zeros (suc n) =
    let q : 8 + n * 8 ≡ suc n * 8 = omega arith in
    ap (λ (x : Bits). bits_of 8 0 ++ x) (bits_zeros n) ∙ replicate-append-replicate 8 (n * 8) false ∙ ap (λ (x : ℕ). replicate x false) q

bits_take : (n : ℕ) (s : List ℕ) → bits_of_bytes (take n s) ≡ take (n * 8) (bits_of_bytes s)
bits_take zero s = refl
bits_take (suc n) [] = sym (take_all (suc n * 8) [] (omega arith))
bits_take (suc n) (x ∷ s) =
    let q : length (bits_of 8 x) + n * 8 ≡ suc n * 8 = omega (arith, length_bits 8 x) in
    ap (λ (y : Bits). bits_of 8 x ++ y) (bits_take n s) ∙ sym (take_more (bits_of 8 x) (bits_of_bytes s) (n * 8))
    ∙ ap (λ (k : ℕ). take k (bits_of 8 x ++ bits_of_bytes s)) q

bytes_plus : (s t : List ℕ) → Bytes s → Bytes t → Bytes (s ++ t)
bytes_plus [] t a b = b
bytes_plus (x ∷ s) t a b = (a.0, bytes_plus s t a.1 b)

bytes_zeros : (n : ℕ) → Bytes (replicate n 0)
bytes_zeros zero = tt
bytes_zeros (suc n) = (omega arith, bytes_zeros n)

bytes_take : (n : ℕ) (s : List ℕ) → Bytes s → Bytes (take n s)
bytes_take zero s b = tt
bytes_take (suc n) [] b = tt
bytes_take (suc n) (x ∷ s) b = (b.0, bytes_take n s b.1)

-- A list whose elements are bytes.
pub bytes_of_lem : (l : List ℕ) → ((i : ℕ) → get_or l i 0 < 2 ^ 8) → Bytes l
bytes_of_lem [] h = tt
bytes_of_lem (x ∷ l) h = (h 0, bytes_of_lem l (λ i. h (suc i)))

-- Bytes whose bits are bits stored into zeros from the start are the packed bytes and zeros, as many as there are.
packed_in : (n : ℕ) (bs : Bits) (k : List ℕ) → Bytes k → bits_of_bytes k ≡ sets (bits_of_bytes (replicate n 0)) 0 bs → k ≡ fitted n (bytes_of bs)
packed_in n bs k b e =
    bytes_one k (fitted n (bytes_of bs)) b (bytes_take n (bytes_of bs ++ replicate n 0) (bytes_plus (bytes_of bs) (replicate n 0) (packs bs).bytes (bytes_zeros n)))
    (e ∙ left ∙ sym right)
  where
    left : sets (bits_of_bytes (replicate n 0)) 0 bs ≡ take (n * 8) (bs ++ replicate (gap (length bs) + n * 8) false)
    left = ap (λ (x : Bits). sets x 0 bs) (bits_zeros n) ∙ sets_copies false (n * 8) (gap (length bs) + n * 8) bs (omega arith)

    right : bits_of_bytes (fitted n (bytes_of bs)) ≡ take (n * 8) (bs ++ replicate (gap (length bs) + n * 8) false)
    right =
        bits_take n (bytes_of bs ++ replicate n 0)
        ∙ ap (take (n * 8))
        (bytes_append (bytes_of bs) (replicate n 0) ∙ ap₂ (λ (x y : Bits). x ++ y) (packs bs).bits (bits_zeros n)
        ∙ append_assoc bs (replicate (gap (length bs)) false) (replicate (n * 8) false)
        ∙ ap (λ (x : Bits). bs ++ x) (replicate-append-replicate (gap (length bs)) (n * 8) false))

-- ---- The whole key

module _ (N M X : List ℕ) (root tall n m bit0 bit : ℕ) (k0 k1 k : List ℕ) (z : k0 ≡ replicate n 0) (p : Put 0 (bits_of 4 1) bit0 k0 k1)
    (d : Noded key_bits (grammar_of (table_words count_width)) N (Spells M X) tall 0 (length M) 0 root 0 bit0 k1 m bit k) where
  -- The root is written by the node table.
  rooted : Noded key_bits (lined node_table) N (Spells M X) tall 0 (length M) 0 root 0 bit0 k1 m bit k
  rooted = subst (λ (G : Grammar). Noded key_bits G N (Spells M X) tall 0 (length M) 0 root 0 bit0 k1 m bit k) (words_are newest) d

  all : (p : Placed) → Stands N M X p → root + 1 ≡ nodes (bare p) → height (bare p) ≤ tall → Put bit0 (write node_table type (bare p)) bit k1 k
  all p s e h =
      subst (λ (b : Bits). Put bit0 b bit k1 k)
      (items_written (lined node_table) N (both (child 0) one) (run_of p) (cursor 0 root 0) 0 ∙ stands_written N M X p s)
      (all_put key_bits bits_sound (lined node_table) N (Spells M X) tall 0 (cursor 0 root 0) rooted (run_of p)
      (of_type p s.fits) (stands_low N M X p tall h) (stands_holds N M X p s root e))

  whole : (p : Placed) → Stands N M X p → root + 1 ≡ nodes (bare p) → height (bare p) ≤ tall → Put 0 (write node_table whole_key (choice edition (bare p))) bit k0 k
  whole q s e h = put_append p (all q s e h)

  pub keyed : Bytes k → Keyed N M X root tall n ((bit + 7) / 8) k
  keyed b =
      record {
        long = λ q s e h. omega (arith, (whole q s e h).next, length_packed (write node_table whole_key (choice edition (bare q))));
        is = λ q s e h.
            packed_in n (write node_table whole_key (choice edition (bare q))) k b
            ((whole q s e h).bits ∙ ap (λ (x : List ℕ). sets (bits_of_bytes x) 0 (write node_table whole_key (choice edition (bare q)))) z);
      }
