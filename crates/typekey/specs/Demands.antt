-- The three demands, sentence by sentence, of what a caller of the open calls sees, what W9 asks of the third, W4's count, and W14's positions and spaces. A text or a key is a list of bytes; trees are compared as bare values, positions aside.
-- That what is seen is `left c`, `takeBack` or `differ`, whatever is given and lent, is the promise of each call: `Reads` in `answers/specs/Reading`, `TakesBack` in `taking_back/specs/Call`, `Differs` in `comparing/specs/Call`.
use Rattle.std.specs.Prelude.{Ok, Err, ◌≡◌, refl, ◌↔◌, Bool, true, false, List, [], ℕ, ◌+◌, ◌*◌, ◌/◌, ◌≤◌, leb, length, take}
use Rattle.std.proofs.Common.{sym, ap, ◌∙◌, subst}
use Rattle.std.proofs.Math.Seq.{take-append_seam}
use Rattle.keys.specs.Bits.{bits_of_bytes}
use Rattle.keys.specs.Form.{Value, Bytes, nodes, write}
use Rattle.keys.specs.Limits.{newest, record_words, edition_width}
use Rattle.keys.specs.Table.{type}
use Rattle.keys.specs.Placed.{Placed, bare}
use Rattle.keys.specs.Key as table
use Rattle.keys.specs.Key.{taken, refused, node_table, key_of, HasRoom, IsKey}
use Rattle.keys.specs.Store.{TakenBack, back, no, lent, take_back, nodes_of, names_of, Left}
use Rattle.keys.specs.Holds.{Stands}
use Rattle.keys.proofs.BitsLaws.{clash}
use Rattle.keys.proofs.Fitting.{Each}
use Rattle.keys.proofs.Theorems as keys
use Rattle.keys.proofs.Theorems.{one_standing}
use Rattle.rules.specs.Notes.{NoteStands}
use Rattle.rules.specs.State.{State}
use Rattle.rules.specs.Read.{granted, refuses, Called, written}
use Rattle.rules.specs.Call.{Call, left, grants, entered_count, key_left, Granted, Kept, AllZero, IsRefusal}
use Rattle.rules.specs.Places.{after, InOrder}
use Rattle.rules.specs.Like.{Respaced, note_numbers, without_byte}
use Rattle.rules.proofs.Theorems as rules
use Rattle.differs.specs.Content.{Pair, content_of, differences}
use Rattle.differs.specs.Differ as difference
use Rattle.differs.specs.Differ.{checked, found, Differed, declined, reported, besides, begins, differ, turned, Rises, many_differences, no_side, left_side, right_side}
use Rattle.comparing.specs.Call as differing
use Rattle.comparing.specs.Call.{Differing}
use Rattle.comparing.proofs.Differing.{one_answer}
use Rattle.words.specs.Refusal.{number_of}
use Rattle.words.proofs.Refusals.{one_refusal}
use Rattle.differs.proofs.Theorems as pairs
use Rattle.comparing.proofs.Keys as alike
use Rattle.answers.specs.Reading as reading
use Rattle.answers.specs.Reading.{Reading}
use Rattle.taking_back.specs.Call as taking
use Rattle.taking_back.specs.Call.{Taking}

-- ---- What a caller of `read` sees
module _ (c : Call) (bytes : Bytes c.text) {z : Called} (seen : z ≡ left c) where
  -- Demand 1, with W2: a refusal has one of the numbers, at a token of the list with its half and byte, or at 0 for 1 and 11.
  pub refusal_placed : {n i h b : ℕ} → z.answer ≡ refuses n i h b → IsRefusal c.text c.words n i h b
  refusal_placed e = rules.refusals c bytes (sym (ap (λ y. y.answer) seen) ∙ e)

  -- Every lent output is then all zero.
  pub refused_zero : grants z.answer ≡ false → AllZero c.lent z
  refused_zero e = rw seen (rules.call_refused c (rw seen at e))

  -- Whatever is answered, every output has the length that it was lent with.
  pub lengths_kept : Kept c.lent z
  lengths_kept = rw seen (rules.lengths_kept c bytes)

  -- Demand 2: where a tree is granted, the rules read one ..
  pub granted_ruled : grants z.answer ≡ true → (t : Placed) × (s : State) × Granted c t s
  granted_ruled e =
      let g : grants (left c).answer ≡ true = rw seen at e in
      let x = rules.call_ruled c g in
      (x.0, x.1, record { bytes = bytes; grant = g; rules = x.2 })

  module _ {t : Placed} {s : State} (x : Granted c t s) where
    -- .. and tree, names, diagnostics, end, key and count of type rules are those of that reading, each with zeros behind it.
    pub granted_leaves : z ≡ written c.lent (granted t s.notes s.at s.half (key_of (bare t)) s.tally.entered)
    granted_leaves = seen ∙ rules.call_leaves x

    -- The tree stands in the words, its names pointing at its spellings in the text in the key's order; no other tree does (`one-standing`).
    pub granted_stands : Stands z.node_words z.name_words c.text t
    granted_stands =
        record {
          fits = (rules.call_tree x).fits;
          few = rules.call_few x;
          nodes_there = ap (λ y. take (length (nodes_of t)) y.node_words) granted_leaves ∙ take-append_seam (nodes_of t) _;
          names_there = ap (λ y. take (length (names_of t)) y.name_words) granted_leaves ∙ take-append_seam (names_of t) _;
          spelled = rules.call_spelled x;
        }

    -- W6: of its diagnostics a 4 has a second place, which ends no later than the first begins, both in the text; the others have none.
    pub granted_notes : Each (NoteStands (length c.text)) s.notes
    granted_notes = rules.call_notes x

    -- W4: it entered sixteen type rules for each token at most.
    pub granted_few : entered_count z.answer ≤ 16 * length c.words
    granted_few = rw seen (rules.entered_few x)

    -- W14: a node's first byte is below its end byte, a child's bytes lie inside its parent's, entries of a list come in order without overlap, and all end inside the text.
    pub granted_in_order : InOrder 0 t × (after 0 t ≤ length c.text)
    granted_in_order = rules.call_in_order x

    -- The key is the tree's, as the node table lays it out.
    pub granted_key : key_left z ≡ key_of (bare t)
    granted_key = ap key_left seen ∙ rules.call_key x

    -- That key, taken back with room, gives the tree.
    pub granted_back : (a b d : ℕ) → HasRoom (a / record_words) b d (bare t) → take_back (key_left z) a b d ≡ lent a b d (taken (bare t))
    granted_back a b d room = ap (λ key. take_back (key_left key) a b d) seen ∙ rules.call_back x a b d room

-- ---- What a caller of `take_back` sees, who lends a words for nodes, b words for names and d bytes for text
module _ (key : List ℕ) (bytes : Bytes key) (a b d : ℕ) {z : TakenBack} (seen : z ≡ take_back key a b d) where
  -- Demand 1: a refusal has one of the numbers, at a bit of the key or at its end, or at 0 for 11.
  pub untaken_placed : {n p : ℕ} → z.answer ≡ no n p → table.IsRefusal (length (bits_of_bytes key)) n p
  untaken_placed e = keys.call_placed key a b d bytes (sym (ap (λ y. y.answer) seen) ∙ e)

  -- It leaves zeros.
  pub untaken_zero : {n p : ℕ} → z.answer ≡ no n p → z ≡ lent a b d (refused n p)
  untaken_zero e = seen ∙ keys.call_refused key a b d bytes (sym (ap (λ y. y.answer) seen) ∙ e)

  -- Demand 3: bytes are taken back only if they are the key of a tree of the table, which is then what is left ..
  pub taken_key : {n m l : ℕ} → z.answer ≡ back n m l → Left key a b d z
  taken_key e = rw seen (keys.call_back key a b d bytes (sym (ap (λ y. y.answer) seen) ∙ e))

  -- .. they are if they are one and there is room for its tree ..
  pub key_taken : {t : Value} → IsKey (a / record_words) b d t key → z ≡ lent a b d (taken t)
  key_taken x = seen ∙ keys.call_taken key a b d bytes x

-- .. and they are the key of no other.
pub one_tree : {n k m n' k' m' : ℕ} {key : List ℕ} {t u : Value} → IsKey n k m t key → IsKey n' k' m' u key → t ≡ u
one_tree x y = keys.one_tree newest x y

-- ---- What a caller of `differ` sees, who lends a list of n words

-- A refusal is one that taking back may meet: the left key's, or else the right key's; or 29, which has no side and no bit.
pub data IsDeclined (left right : List ℕ) : (number side bit : ℕ) → Type 0 where
  of_left : {number bit : ℕ} → table.IsRefusal (length (bits_of_bytes left)) number bit → IsDeclined left right number left_side bit
  of_right : {number bit : ℕ} → table.IsRefusal (length (bits_of_bytes right)) number bit → IsDeclined left right number right_side bit
  of_neither : IsDeclined left right many_differences no_side 0

module _ (n : ℕ) (left right : List ℕ) {z : Differed} (seen : z ≡ differ n left right) where
  -- W9: a refusal has one of the numbers, its side, and a bit of that key or its end; 0 for 29. It leaves zeros.
  pub undiffered : {number side bit : ℕ} → z.answer ≡ difference.no number side bit → IsDeclined left right number side bit × (z ≡ declined n number side bit)
  undiffered {number} {side} {bit} e =
      let w = by_left (checked left) refl (sym (ap (λ y. y.answer) seen) ∙ e) in (w.0, seen ∙ w.1)
    where
      settled : {a b c : ℕ} → difference.no a b c ≡ difference.no number side bit → IsDeclined left right a b c
          → IsDeclined left right number side bit × (declined n a b c ≡ declined n number side bit)
      settled {a} {b} {c} f x =
          let p : a ≡ number = cc in
          let q : b ≡ side = cc in
          let r : c ≡ bit = cc in (
            subst (λ (y : ℕ). IsDeclined left right y side bit) p (subst (λ (y : ℕ). IsDeclined left right a y bit) q (subst (λ (y : ℕ). IsDeclined left right a b y) r x)),
            λ i. declined n (p i) (q i) (r i),
          )

      listed : (b : Bool) (l : List Pair) → (reported n b l).answer ≡ difference.no number side bit
          → IsDeclined left right number side bit × (reported n b l ≡ declined n number side bit)
      listed true l f = clash (cc)
      listed false l f = settled f of_neither

      by_right : (t : Value) (o : table.Taken) → checked right ≡ o → (besides n t o).answer ≡ difference.no number side bit
          → IsDeclined left right number side bit × (besides n t o ≡ declined n number side bit)
      by_right t (taken u) j f =
          listed (leb (length (differences (content_of node_table t) (content_of node_table u))) (n / 2)) (differences (content_of node_table t) (content_of node_table u)) f
      by_right t (refused w x) j f = settled f (of_right (keys.refusals newest (length right * 8) (length right * 8) (length right) right j))

      by_left : (o : table.Taken) → checked left ≡ o → (begins n o right).answer ≡ difference.no number side bit
          → IsDeclined left right number side bit × (begins n o right ≡ declined n number side bit)
      by_left (taken t) j f = by_right t (checked right) refl f
      by_left (refused w x) j f = settled f (of_left (keys.refusals newest (length left * 8) (length left * 8) (length left) left j))

  -- Of two keys, each of a tree (`alike.passes`):
  module _ (bytes : Bytes left) (bytes' : Bytes right) {t u : Value} (l-is : checked left ≡ taken t) (r-is : checked right ≡ taken u) where
    -- there is no pair exactly where they are the same bytes ..
    pub no_pair_alike : (z.answer ≡ found 0) ↔ (left ≡ right)
    no_pair_alike =
        let same = alike.same_bytes n left right bytes bytes' l-is r-is in
        (λ e. same.0 (sym (ap (λ y. y.answer) seen) ∙ e), λ e. ap (λ y. y.answer) seen ∙ same.1 e)

    -- .. and that is where the trees are the same;
    pub no_pair_one_tree : (differences (content_of node_table t) (content_of node_table u) ≡ []) ↔ (t ≡ u)
    no_pair_one_tree = pairs.none_same ((alike.passes left bytes t).0 l-is).0.fits ((alike.passes right bytes' u).0 r-is).0.fits

    -- the list holds the pairs, or there are too many; exchanging the keys exchanges the sides of each pair, and no more;
    pub pairs_turn : {z' : Differed} → z' ≡ differ n right left → (l : List Pair) → l ≡ differences (content_of node_table t) (content_of node_table u)
        → (z ≡ reported n (leb (length l) (n / 2)) l) × (z' ≡ reported n (leb (length l) (n / 2)) (turned l))
    pairs_turn seen' l e = let w = pairs.call_turned n left right l-is r-is l e in (seen ∙ w.0, seen' ∙ w.1)

    -- each place stands there once, in the key's order, inside the tree.
    pub pairs_rise : Rises edition_width edition_width (differences (content_of node_table t) (content_of node_table u)) (edition_width + length (write node_table type t)) (edition_width + length (write node_table type u))
    pairs_rise = pairs.in_order_lem ((alike.passes left bytes t).0 l-is).0.fits ((alike.passes right bytes' u).0 r-is).0.fits

-- ---- Two readings, under either option
module _ {c c' : Call} {t t' : Placed} {s s' : State} (x : Granted c t s) (x' : Granted c' t' s') {z z' : Called} (seen : z ≡ left c) (seen' : z' ≡ left c') where
  -- Demand 3: they have equal keys exactly when the rules give the same tree.
  pub keys_tell : (key_left z ≡ key_left z') ↔ (bare t ≡ bare t')
  keys_tell =
      let same = rules.same_keys x x' in
      (λ e. same.0 (sym (ap key_left seen) ∙ e ∙ ap key_left seen'), λ e. ap key_left seen ∙ same.1 e ∙ sym (ap key_left seen'))

  -- Demand 2: what they leave is a tree and no other: of one text, equal answers, nodes and names are of equal trees.
  pub words_tell : c.text ≡ c'.text → z.answer ≡ z'.answer → z.node_words ≡ z'.node_words → z.name_words ≡ z'.name_words → bare t ≡ bare t'
  words_tell e f n m =
      let same = sym (ap (λ y. y.answer) (granted_leaves c x.bytes seen x)) ∙ f ∙ ap (λ y. y.answer) (granted_leaves c' x'.bytes seen' x') in
      let count : nodes (bare t) ≡ nodes (bare t') = cc in
      one_standing {q = t'} (granted_stands c x.bytes seen x) (rw (e, n, m) (granted_stands c' x'.bytes seen' x')) count

-- ---- W14: two readings of lists past refusals 1 and 2 that are alike in kinds, newline flags, spellings, start, option and room
module _ {c c' : Call} (bytes : Bytes c.text) (bytes' : Bytes c'.text) (r : Respaced c c') {z z' : Called} (seen : z ≡ left c) (seen' : z' ≡ left c') where
  -- They have the same answer but for the byte of a refusal: the same refusal number, token and half, or the same counts and end cursor ..
  pub spaced_answer : without_byte z.answer ≡ without_byte z'.answer
  spaced_answer = ap (λ y. without_byte y.answer) seen ∙ rules.spaces_answer c c' bytes bytes' r ∙ sym (ap (λ y. without_byte y.answer) seen')

  -- .. the same key ..
  pub spaced_key : key_left z ≡ key_left z'
  spaced_key = ap key_left seen ∙ rules.spaces_key c c' bytes bytes' r ∙ sym (ap key_left seen')

  -- .. and, where trees are granted, the same tree and diagnostics of the same numbers.
  pub spaced_tree : {t t' : Placed} {s s' : State} → Granted c t s → Granted c' t' s' → (bare t ≡ bare t') × (note_numbers s.notes ≡ note_numbers s'.notes)
  spaced_tree x x' = rules.spaces_tree c c' bytes bytes' r x x'

-- ---- Nothing is left open: any two results that fit a call's promise coincide, without exception

same_reading : (a b : Reading) → reading.answer_of a ≡ reading.answer_of b → a ≡ b
same_reading (Ok c) (Ok d) e =
    let e0 : c.nodes ≡ d.nodes = cc in
    let e1 : c.names ≡ d.names = cc in
    let e2 : c.notes ≡ d.notes = cc in
    let e3 : c.key ≡ d.key = cc in
    let e4 : c.at ≡ d.at = cc in
    let e5 : c.half ≡ d.half = cc in
    let e6 : c.entered ≡ d.entered = cc in
    λ i. Ok (record { nodes = e0 i; names = e1 i; notes = e2 i; key = e3 i; at = e4 i; half = e5 i; entered = e6 i })
same_reading (Ok c) (Err d) e = clash (cc)
same_reading (Err c) (Ok d) e = clash (cc)
same_reading (Err c) (Err d) e =
    let e0 : number_of c.why ≡ number_of d.why = cc in
    let e1 : c.why ≡ d.why = one_refusal c.why d.why e0 in
    let e2 : c.token ≡ d.token = cc in
    let e3 : c.half ≡ d.half = cc in
    let e4 : c.byte ≡ d.byte = cc in
    λ i. Err (record { why = e1 i; token = e2 i; half = e3 i; byte = e4 i })

-- Of `read`.
pub one_reading : {c : Called} (r r' : Reading) {N M O K N' M' O' K' : List ℕ} → reading.seen r N M O K ≡ c → reading.seen r' N' M' O' K' ≡ c
    → (r ≡ r') × (N ≡ N') × (M ≡ M') × (O ≡ O') × (K ≡ K')
one_reading r r' a b =
    let e = a ∙ sym b in
    (same_reading r r' (ap (λ y. y.answer) e), ap (λ y. y.node_words) e, ap (λ y. y.name_words) e, ap (λ y. y.note_words) e, ap (λ y. y.key) e)

same_taking : (a b : Taking) → taking.answer_of a ≡ taking.answer_of b → a ≡ b
same_taking (Ok c) (Ok d) e =
    let e0 : c.nodes ≡ d.nodes = cc in
    let e1 : c.names ≡ d.names = cc in
    let e2 : c.letters ≡ d.letters = cc in
    λ i. Ok (record { nodes = e0 i; names = e1 i; letters = e2 i })
same_taking (Ok c) (Err d) e = clash (cc)
same_taking (Err c) (Ok d) e = clash (cc)
same_taking (Err c) (Err d) e =
    let e0 : number_of c.why ≡ number_of d.why = cc in
    let e1 : c.why ≡ d.why = one_refusal c.why d.why e0 in
    let e2 : c.bit ≡ d.bit = cc in
    λ i. Err (record { why = e1 i; bit = e2 i })

-- Of `take_back`.
pub one_taking : {c : TakenBack} (r r' : Taking) {N M X N' M' X' : List ℕ} → taking.seen r N M X ≡ c → taking.seen r' N' M' X' ≡ c
    → (r ≡ r') × (N ≡ N') × (M ≡ M') × (X ≡ X')
one_taking r r' a b =
    let e = a ∙ sym b in (same_taking r r' (ap (λ y. y.answer) e), ap (λ y. y.node_words) e, ap (λ y. y.name_words) e, ap (λ y. y.text) e)

-- Of `differ`.
pub one_difference : {c : Differed} (r r' : Differing) {L L' : List ℕ} → differing.seen r L ≡ c → differing.seen r' L' ≡ c → (r ≡ r') × (L ≡ L')
one_difference r r' a b =
    let e = a ∙ sym b in (one_answer r r' (ap (λ y. y.answer) e), ap (λ y. y.list) e)
