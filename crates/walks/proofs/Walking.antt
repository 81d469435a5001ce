-- Steps of the walk of two keys: spellings, choices, nodes, and how they join.
use mathlib.Core.Path.{◌≡◌, refl, sym, ap, ap₂, ◌∙◌, subst}
use mathlib.Core.Bool.{Bool, true, false}
use mathlib.Core.List.{List, [], ◌∷◌, ◌++◌, append_assoc, append-nil}
use Prim.Native.Nat.{ℕ, zero, suc, ◌+◌, ◌-◌, ◌*◌, ◌≤◌, ◌<◌}
use native.Mathlib.Omega.{arith}
use borrow.Author.Tests.{eq-eqb, ne_eqb}
use lib.Dec.{eqb}
use lib.ListN.{length, drop, length-append, length-drop}
use Rattle.words.specs.Test.{◌and◌, same}
use Rattle.words.proofs.Bytes.{same_long}
use Rattle.keys.specs.Bits.{Bits, Field, short, field, take_field, Row, cut, row, ahead, after_byte, take_bytes, bits_of_bytes}
use Rattle.keys.proofs.BitsLaws.{clash, length_bytes, bytes_back}
use Rattle.keys.specs.Form.{Form, one, word, both, child, Grammar}
use Rattle.keys.specs.Key.{bytes_in}
use Rattle.fields.specs.Take.{answered}
use Rattle.std.proofs.Common.{Some}
use Rattle.fields.proofs.Chunks.{Told, number_told, take_rest}
use Rattle.node_table.specs.Forms.{spellings_then, spelling_if, nodes_then}
use Rattle.key_parts.proofs.Steps.{bytes_whole}
use Rattle.differs.specs.Content.{Content, ends, spells, enters, own, Pair, unless, inside, differences}
use Rattle.sound_keys.specs.Sound.{Scan, reads, fails, ◌⊕◌, after, then_read, read_letters, read_length, read_spelling, read_form, read_node}
use Rattle.walks.specs.Walk.{Grows, Puts, Beside, beside_ends, beside_chooses, beside_spells, beside_enters, IsRead, Inside, Abreast, no_node, SpelledOn, SpelledAll, SpelledAfter, Walked}
use Rattle.walks.specs.declared.walk.Both.{Both}
use Rattle.sound_keys.proofs.Checking.{after_ends, after_after}
use Rattle.walks.proofs.Listed.{grows_none, grows_as, grows_then, puts_grows}

-- ---- Contents beside each other

beside_join : {u v c d : Content} → Beside u v → Beside c d → Beside (u ⊕ c) (v ⊕ d)
beside_join beside_ends e = e
beside_join (beside_chooses b) e = beside_chooses (beside_join b e)
beside_join (beside_spells b) e = beside_spells (beside_join b e)
beside_join (beside_enters b) e = beside_enters (beside_join b e)

pub beside_differ : {u v : Content} → Beside u v → (c d : Content) → differences (u ⊕ c) (v ⊕ d) ≡ differences u v ++ differences c d
beside_differ beside_ends c d = refl
beside_differ (beside_chooses b) c d = beside_differ b c d
beside_differ (beside_spells {a = a} {b = b} {s = s} {t = t} {c = u} {d = v} e) c d =
    ap (λ (l : List Pair). unless (same s t) (a, b) ++ l) (beside_differ e c d) ∙ sym (append_assoc (unless (same s t) (a, b)) (differences u v) (differences c d))
beside_differ (beside_enters {a = a} {b = b} {u = x} {v = y} {c = u} {d = v} e) c d =
    let I : List Pair = inside (same (own x) (own y)) (a, b) (differences x y) in
    ap (λ (l : List Pair). I ++ l) (beside_differ e c d) ∙ sym (append_assoc I (differences u v) (differences c d))

pub beside_own : {u v : Content} → Beside u v → (c d : Content) → same (own (u ⊕ c)) (own (v ⊕ d)) ≡ same (own c) (own d)
beside_own beside_ends c d = refl
beside_own (beside_chooses {k = k} b) c d = ap₂ ◌and◌ (eq-eqb k k refl) (beside_own b c d)
beside_own (beside_spells b) c d = beside_own b c d
beside_own (beside_enters b) c d = beside_own b c d

-- ---- What was read

-- What stands behind a content that was passed.
pub record Behind (c : Content) (x : Scan) (d : Content) (e : ℕ) : Type 0 where
  pub rest : Content
  pub is : x ≡ reads rest e
  pub whole : d ≡ c ⊕ rest

pub after_back : (c : Content) (x : Scan) (d : Content) (e : ℕ) → after c x ≡ reads d e → Behind c x d e
after_back c (reads r k) d e i =
    let p : c ⊕ r ≡ d = cc in
    let q : k ≡ e = cc in
    record { rest = r; is = ap (reads r) q; whole = sym p }
after_back c (fails n b) d e i = clash (cc)

pub read_behind : (c : Content) (x : Scan) {y : Scan} → IsRead y → y ≡ after c x → IsRead x
read_behind c x r e =
    let b = after_back c x r.content r.end (sym e ∙ r.is) in
    record { content = b.rest; end = r.end; is = b.is }

-- The first of two, and then the second.
pub record Firstly (x : Scan) (K : ℕ → Scan) : Type 0 where
  pub content : Content
  pub end : ℕ
  pub is : x ≡ reads content end
  pub next : IsRead (K end)

pub then_back : (x : Scan) (K : ℕ → Scan) → IsRead (then_read x K) → Firstly x K
then_back (reads c e) K r = record { content = c; end = e; is = refl; next = read_behind c (K e) r refl }
then_back (fails n b) K r = let i = r.is in clash (cc i)

-- ---- Going along

module _ (bs cs : Bits) (X Y : ℕ → ℕ → Scan) where
  pub along_none : (g g' : Form) (p : Both) (l : List ℕ) → Inside (length bs) (length cs) p → Abreast bs cs X Y g g' g g' p p l l
  along_none g g' p l h =
      record {
        c = ends;
        d = ends;
        left = sym (after_ends (read_form bs X g p.left));
        right = sym (after_ends (read_form cs Y g' p.right));
        beside = beside_ends;
        found = omega arith;
        grows = grows_none l p.found;
        inside = h;
      }

  pub along_then : {f f' g g' h h' : Form} {p q r : Both} {l m k : List ℕ} → Abreast bs cs X Y f f' g g' p q l m → Abreast bs cs X Y g g' h h' q r m k → Abreast bs cs X Y f f' h h' p r l k
  along_then {h = h} {h' = h'} {r = r} a b =
      let e : differences (a.c ⊕ b.c) (a.d ⊕ b.d) ≡ differences a.c a.d ++ differences b.c b.d = beside_differ a.beside b.c b.d in
      record {
        c = a.c ⊕ b.c;
        d = a.d ⊕ b.d;
        left = a.left ∙ ap (after a.c) b.left ∙ after_after a.c b.c (read_form bs X h r.left);
        right = a.right ∙ ap (after a.d) b.right ∙ after_after a.d b.d (read_form cs Y h' r.right);
        beside = beside_join a.beside b.beside;
        found = omega (arith, a.found, b.found, ap length e, length-append (differences a.c a.d) (differences b.c b.d));
        grows = grows_as refl (sym e) (grows_then a.grows (grows_as a.found refl b.grows));
        inside = b.inside;
      }

-- ---- A spelling

-- A spelling that is there.
pub record Word (bs : Bits) (w a : ℕ) : Type 0 where
  pub n : ℕ
  pub told : Told bs a w n
  pub fits : a + w + n * 8 ≤ length bs
  pub is : read_spelling bs w a ≡ reads (spells a (bytes_in (take_bytes n (drop (a + w) bs))) ends) (a + w + n * 8)
  pub some : 1 ≤ n

pub word_good : (bs : Bits) (w a : ℕ) → a ≤ length bs → IsRead (read_spelling bs w a) → Word bs w a
word_good bs w a h r = long (take_field w (drop a bs)) refl
  where
    letters : (m : ℕ) (q : Bits) → take_field w (drop a bs) ≡ field (suc m) q → (x : Row) → take_bytes (suc m) q ≡ x → Word bs w a
    letters m q i cut j =
        let e = sym r.is ∙ ap (read_length w a) i ∙ ap (read_letters a (a + w + suc m * 8)) j in
        clash (cc e)
    letters m q i (row s y) j =
        let t = number_told bs a w (suc m) (ap answered (sym i)) in
        let e : q ≡ drop (a + w) bs = take_rest w 0 a bs (suc m) q i in
        let k = bytes_back (suc m) q s y j in
        record {
          n = suc m;
          told = t;
          fits = omega (arith, t.within h, ap length e, length-drop (a + w) bs, ap length k.bits, length-append (bits_of_bytes s) y, length_bytes s, k.size);
          is =
              ap (read_length w a) i ∙ ap (read_letters a (a + w + suc m * 8)) j
              ∙ ap (λ (z : List ℕ). reads (spells a z ends) (a + w + suc m * 8)) (sym (ap bytes_in (ap (take_bytes (suc m)) (sym e) ∙ j)));
          some = omega arith;
        }

    long : (x : Field) → take_field w (drop a bs) ≡ x → Word bs w a
    long short i =
        let e = sym r.is ∙ ap (read_length w a) i in
        clash (cc e)
    long (field zero q) i =
        let e = sym r.is ∙ ap (read_length w a) i in
        clash (cc e)
    long (field (suc m) q) i = letters m q i (take_bytes (suc m) q) refl

-- The number that was taken is the one that is there.
pub told_one : {bs : Bits} {a w n m : ℕ} → Told bs a w n → Some m ≡ answered (take_field w (drop a bs)) → m ≡ n
told_one t e =
    let i = e ∙ ap answered t.is in
    cc i

-- ---- Bytes that are compared

bytes_step : (bs : Bits) (a k x : ℕ) → a + suc k * 8 ≤ length bs → Told bs a 8 x → bytes_in (take_bytes (suc k) (drop a bs)) ≡ x ∷ bytes_in (take_bytes k (drop (a + 8) bs))
bytes_step bs a k x h t =
    let d = bytes_whole k (drop (a + 8) bs) (omega (arith, length-drop (a + 8) bs)) in
    ap (λ (y : Field). bytes_in (after_byte (λ r. take_bytes k r) y)) t.is ∙ ap (λ (y : Row). bytes_in (ahead x y)) d.is ∙ ap (λ (y : Row). x ∷ bytes_in y) (sym d.is)

-- i of n bytes are the same.
pub record Comparing (bs cs : Bits) (a b n i : ℕ) : Type 0 where
  pub few : i ≤ n
  pub is : same (bytes_in (take_bytes n (drop a bs))) (bytes_in (take_bytes n (drop b cs)))
      ≡ same (bytes_in (take_bytes (n - i) (drop (a + i * 8) bs))) (bytes_in (take_bytes (n - i) (drop (b + i * 8) cs)))

module _ {bs cs : Bits} {a b n i : ℕ} (d : Comparing bs cs a b n i) (h : i < n) (u : a + n * 8 ≤ length bs) (v : b + n * 8 ≤ length cs) {x y : ℕ} (s : Told bs (a + i * 8) 8 x) (t : Told cs (b + i * 8) 8 y) where
  stepped : same (bytes_in (take_bytes n (drop a bs))) (bytes_in (take_bytes n (drop b cs)))
      ≡ (eqb x y and same (bytes_in (take_bytes (n - (i + 1)) (drop (a + i * 8 + 8) bs))) (bytes_in (take_bytes (n - (i + 1)) (drop (b + i * 8 + 8) cs))))
  stepped =
      let z : n - i ≡ suc (n - (i + 1)) = omega arith in
      d.is ∙ ap (λ (k : ℕ). same (bytes_in (take_bytes k (drop (a + i * 8) bs))) (bytes_in (take_bytes k (drop (b + i * 8) cs)))) z
      ∙ ap₂ same (bytes_step bs (a + i * 8) (n - (i + 1)) x (omega arith) s) (bytes_step cs (b + i * 8) (n - (i + 1)) y (omega arith) t)

  pub comparing_not : (x ≡ y → ⊥) → false ≡ same (bytes_in (take_bytes n (drop a bs))) (bytes_in (take_bytes n (drop b cs)))
  comparing_not z = sym (stepped ∙ ap (λ (k : Bool). k and same (bytes_in (take_bytes (n - (i + 1)) (drop (a + i * 8 + 8) bs))) (bytes_in (take_bytes (n - (i + 1)) (drop (b + i * 8 + 8) cs)))) (ne_eqb x y z))

  pub comparing_more : x ≡ y → Comparing bs cs a b n (i + 1)
  comparing_more z =
      let e : a + i * 8 + 8 ≡ a + (i + 1) * 8 = omega arith in
      let f : b + i * 8 + 8 ≡ b + (i + 1) * 8 = omega arith in
      record {
        few = omega arith;
        is =
            stepped ∙ ap (λ (k : Bool). k and same (bytes_in (take_bytes (n - (i + 1)) (drop (a + i * 8 + 8) bs))) (bytes_in (take_bytes (n - (i + 1)) (drop (b + i * 8 + 8) cs)))) (eq-eqb x y z)
            ∙ (λ j. same (bytes_in (take_bytes (n - (i + 1)) (drop (e j) bs))) (bytes_in (take_bytes (n - (i + 1)) (drop (f j) cs))));
      }

bytes_size : (bs : Bits) (a n : ℕ) → a + n * 8 ≤ length bs → length (bytes_in (take_bytes n (drop a bs))) ≡ n
bytes_size bs a n h =
    let d = bytes_whole n (drop a bs) (omega (arith, length-drop a bs)) in
    ap (λ (y : Row). length (bytes_in y)) d.is ∙ (bytes_back n (drop a bs) d.bytes (drop (n * 8) (drop a bs)) d.is).size

-- Spellings of different lengths are not the same.
pub sizes_differ : (bs cs : Bits) (a b n m : ℕ) → a + n * 8 ≤ length bs → b + m * 8 ≤ length cs → (n ≡ m → ⊥)
    → false ≡ same (bytes_in (take_bytes n (drop a bs))) (bytes_in (take_bytes m (drop b cs)))
sizes_differ bs cs a b n m h k z = same_long (bytes_in (take_bytes n (drop a bs))) (bytes_in (take_bytes m (drop b cs))) (λ e. z (sym (bytes_size bs a n h) ∙ e ∙ bytes_size cs b m k))

-- ---- Two spellings

module _ (bs cs : Bits) (w v : ℕ) (p : Both) (h : Inside (length bs) (length cs) p) (x : Word bs w p.left) (y : Word cs v p.right) (l : List ℕ) where
  abbrev S : List ℕ
  S = bytes_in (take_bytes x.n (drop (p.left + w) bs))

  abbrev U : List ℕ
  U = bytes_in (take_bytes y.n (drop (p.right + v) cs))

  pairs : (b : Bool) → same S U ≡ b → differences (spells p.left S ends) (spells p.right U ends) ≡ unless b (p.left, p.right)
  pairs b e = ap (λ (z : Bool). unless z (p.left, p.right) ++ []) e ∙ append-nil (unless b (p.left, p.right))

  spelled : (b : Bool) → same S U ≡ b → (q : Both) → q.left ≡ p.left + w + x.n * 8 → q.right ≡ p.right + v + y.n * 8 → q.found ≡ p.found + length (unless b (p.left, p.right))
      → (m : List ℕ) → Grows l p.found m (unless b (p.left, p.right)) → SpelledOn bs cs w v p q l m
  spelled b e q i j k m g X Y f f' =
      record {
        c = spells p.left S ends;
        d = spells p.right U ends;
        left = ap (λ (o : Scan). then_read o λ z. read_form bs X f z) x.is ∙ ap (λ (z : ℕ). after (spells p.left S ends) (read_form bs X f z)) (sym i);
        right = ap (λ (o : Scan). then_read o λ z. read_form cs Y f' z) y.is ∙ ap (λ (z : ℕ). after (spells p.right U ends) (read_form cs Y f' z)) (sym j);
        beside = beside_spells beside_ends;
        found = k ∙ ap (λ (z : List Pair). p.found + length z) (sym (pairs b e));
        grows = grows_as refl (sym (pairs b e)) g;
        inside = record { left = omega (arith, x.fits); right = omega (arith, y.fits); few = omega (arith, h.few, x.some, one_most b) };
      }
    where
      one_most : (b : Bool) → length (unless b (p.left, p.right)) ≤ 1
      one_most true = omega arith
      one_most false = omega arith

  pub spelled_same : same S U ≡ true → (q : Both) → q.left ≡ p.left + w + x.n * 8 → q.right ≡ p.right + v + y.n * 8 → q.found ≡ p.found → SpelledOn bs cs w v p q l l
  spelled_same e q i j k = spelled true e q i j (omega arith) l (grows_none l p.found)

  pub spelled_apart : same S U ≡ false → (q : Both) → q.left ≡ p.left + w + x.n * 8 → q.right ≡ p.right + v + y.n * 8 → q.found ≡ p.found + 1
      → (m : List ℕ) → Puts l p.found p.left p.right m → SpelledOn bs cs w v p q l m
  spelled_apart e q i j k m d = spelled false e q i j (omega arith) m (puts_grows d)

-- ---- Two spellings, as the code meets them

pub inside_bits : (left right : List ℕ) {p : Both} → Inside (length left * 8) (length right * 8) p → Inside (length (bits_of_bytes left)) (length (bits_of_bytes right)) p
inside_bits left right h = record { left = omega (arith, h.left, length_bytes left); right = omega (arith, h.right, length_bytes right); few = h.few }

pub inside_bytes : (left right : List ℕ) {p : Both} → Inside (length (bits_of_bytes left)) (length (bits_of_bytes right)) p → Inside (length left * 8) (length right * 8) p
inside_bytes left right h = record { left = omega (arith, h.left, length_bytes left); right = omega (arith, h.right, length_bytes right); few = h.few }

-- A spelling's length is in the key.
pub word_within : (key : List ℕ) (w a : ℕ) → a ≤ length key * 8 → IsRead (read_spelling (bits_of_bytes key) w a) → a + w ≤ length key * 8
word_within key w a h r =
    let x = word_good (bits_of_bytes key) w a (omega (arith, length_bytes key)) r in
    omega (arith, x.fits, length_bytes key)

-- Its bytes are, too.
pub word_ends : (key : List ℕ) (w a : ℕ) → a ≤ length key * 8 → IsRead (read_spelling (bits_of_bytes key) w a) → (n : ℕ) → Some n ≡ answered (take_field w (drop a (bits_of_bytes key)))
    → a + w + n * 8 ≤ length key * 8
word_ends key w a h r n e =
    let x = word_good (bits_of_bytes key) w a (omega (arith, length_bytes key)) r in
    omega (arith, x.fits, length_bytes key, told_one x.told e)

module _ (left right : List ℕ) (w v : ℕ) (p : Both) (h : Inside (length left * 8) (length right * 8) p)
    (r : IsRead (read_spelling (bits_of_bytes left) w p.left)) (s : IsRead (read_spelling (bits_of_bytes right) v p.right)) (l : List ℕ)
    (n : ℕ) (i : Some n ≡ answered (take_field w (drop p.left (bits_of_bytes left)))) (m : ℕ) (j : Some m ≡ answered (take_field v (drop p.right (bits_of_bytes right)))) (b : Bool)
    (e : b ≡ same (bytes_in (take_bytes n (drop (p.left + w) (bits_of_bytes left)))) (bytes_in (take_bytes m (drop (p.right + v) (bits_of_bytes right))))) where
  x : Word (bits_of_bytes left) w p.left
  x = word_good (bits_of_bytes left) w p.left (inside_bits left right h).left r

  y : Word (bits_of_bytes right) v p.right
  y = word_good (bits_of_bytes right) v p.right (inside_bits left right h).right s

  n_is : n ≡ x.n
  n_is = told_one x.told i

  m_is : m ≡ y.n
  m_is = told_one y.told j

  is_same : same (bytes_in (take_bytes x.n (drop (p.left + w) (bits_of_bytes left)))) (bytes_in (take_bytes y.n (drop (p.right + v) (bits_of_bytes right)))) ≡ b
  is_same = sym (e ∙ ap₂ (λ (a c : ℕ). same (bytes_in (take_bytes a (drop (p.left + w) (bits_of_bytes left)))) (bytes_in (take_bytes c (drop (p.right + v) (bits_of_bytes right))))) n_is m_is)

  pub words_same : b ≡ true → SpelledOn (bits_of_bytes left) (bits_of_bytes right) w v p (record { left = p.left + w + n * 8; right = p.right + v + m * 8; found = p.found }) l l
  words_same z =
      spelled_same (bits_of_bytes left) (bits_of_bytes right) w v p (inside_bits left right h) x y l (is_same ∙ z) _ (ap (λ (a : ℕ). p.left + w + a * 8) n_is) (ap (λ (a : ℕ). p.right + v + a * 8) m_is) refl

  pub words_apart : b ≡ false → (k : List ℕ) → Puts l p.found p.left p.right k
      → SpelledOn (bits_of_bytes left) (bits_of_bytes right) w v p (record { left = p.left + w + n * 8; right = p.right + v + m * 8; found = p.found + 1 }) l k
  words_apart z k d =
      spelled_apart (bits_of_bytes left) (bits_of_bytes right) w v p (inside_bits left right h) x y l (is_same ∙ z) _ (ap (λ (a : ℕ). p.left + w + a * 8) n_is) (ap (λ (a : ℕ). p.right + v + a * 8) m_is) refl k d

-- ---- n spellings

-- i of n spellings are walked on each side.
pub record Spelling (bs cs : Bits) (w v n : ℕ) (p : Both) (l : List ℕ) (i : ℕ) (q : Both) (m : List ℕ) : Type 0 where
  pub few : i ≤ n
  pub on : (X Y : ℕ → ℕ → Scan) (g g' : Form) → Abreast bs cs X Y (spellings_then n w g) (spellings_then n v g') (spellings_then (n - i) w g) (spellings_then (n - i) v g') p q l m

pub spelling_none : (bs cs : Bits) (w v n : ℕ) (p : Both) (l : List ℕ) → Inside (length bs) (length cs) p → Spelling bs cs w v n p l 0 p l
spelling_none bs cs w v n p l h =
    let e : n ≡ n - 0 = omega arith in
    record {
      few = omega arith;
      on = λ X Y g g'. subst (λ (k : ℕ). Abreast bs cs X Y (spellings_then n w g) (spellings_then n v g') (spellings_then k w g) (spellings_then k v g') p p l l) e (along_none bs cs X Y (spellings_then n w g) (spellings_then n v g') p l h);
    }

module _ {bs cs : Bits} {w v n : ℕ} {p : Both} {l : List ℕ} {i : ℕ} {q : Both} {m : List ℕ} (d : Spelling bs cs w v n p l i q m) (h : i < n) where
  back : (X Y : ℕ → ℕ → Scan) (g g' : Form)
      → Abreast bs cs X Y (spellings_then n w g) (spellings_then n v g') (both (word w) (spellings_then (n - (i + 1)) w g)) (both (word v) (spellings_then (n - (i + 1)) v g')) p q l m
  back X Y g g' =
      let z : n - i ≡ suc (n - (i + 1)) = omega arith in
      subst (λ (k : ℕ). Abreast bs cs X Y (spellings_then n w g) (spellings_then n v g') (spellings_then k w g) (spellings_then k v g') p q l m) z (d.on X Y g g')

  -- The next spelling is there on each side.
  pub next_left : IsRead (read_form bs no_node (spellings_then n w one) p.left) → IsRead (read_spelling bs w q.left)
  next_left r =
      let f = then_back (read_spelling bs w q.left) (λ e. read_form bs no_node (spellings_then (n - (i + 1)) w one) e) (let o = back no_node no_node one one in read_behind o.c _ r o.left) in
      record { content = f.content; end = f.end; is = f.is }

  pub next_right : IsRead (read_form cs no_node (spellings_then n v one) p.right) → IsRead (read_spelling cs v q.right)
  next_right r =
      let f = then_back (read_spelling cs v q.right) (λ e. read_form cs no_node (spellings_then (n - (i + 1)) v one) e) (let o = back no_node no_node one one in read_behind o.d _ r o.right) in
      record { content = f.content; end = f.end; is = f.is }

  pub spelling_more : {o : Both} {k : List ℕ} → SpelledOn bs cs w v q o m k → Spelling bs cs w v n p l (i + 1) o k
  spelling_more e =
      record {
        few = omega arith;
        on = λ X Y g g'. along_then bs cs X Y (back X Y g g') (e X Y (spellings_then (n - (i + 1)) w g) (spellings_then (n - (i + 1)) v g'));
      }

pub spelling_all : {bs cs : Bits} {w v n : ℕ} {p : Both} {l : List ℕ} {i : ℕ} {q : Both} {m : List ℕ} → Spelling bs cs w v n p l i q m → n ≤ i → SpelledAll bs cs w v n p q l m
spelling_all {bs} {cs} {w} {v} {n} {p} {l} {i} {q} {m} d h X Y g g' =
    let z : n - i ≡ 0 = omega arith in
    subst (λ (k : ℕ). Abreast bs cs X Y (spellings_then n w g) (spellings_then n v g') (spellings_then k w g) (spellings_then k v g') p q l m) z (d.on X Y g g')

-- ---- The spellings after two children

pub after_none : (bs cs : Bits) (w v : ℕ) (p : Both) (l : List ℕ) → Inside (length bs) (length cs) p → w ≡ 0 → v ≡ w → SpelledAfter bs cs w v p p l l
after_none bs cs w v p l h z e X Y g g' =
    let y : v ≡ 0 = e ∙ z in
    subst (λ (x : ℕ). Abreast bs cs X Y (spelling_if x g) (spelling_if v g') g g' p p l l) (sym z)
    (subst (λ (x : ℕ). Abreast bs cs X Y g (spelling_if x g') g g' p p l l) (sym y) (along_none bs cs X Y g g' p l h))

-- ---- n nodes

pub along_node : {bs cs : Bits} {G : Grammar} {high class : ℕ} {p q : Both} {l m : List ℕ} → Walked bs cs G high class p q l m → (g g' : Form)
    → Abreast bs cs (read_node bs G high) (read_node cs G high) (both (child class) g) (both (child class) g') g g' p q l m
along_node {bs} {cs} {G} {high} {class} {p} {q} {l} {m} d g g' =
    record {
      c = enters p.left d.u ends;
      d = enters p.right d.v ends;
      left = ap (λ (o : Scan). then_read o λ z. read_form bs (read_node bs G high) g z) d.left;
      right = ap (λ (o : Scan). then_read o λ z. read_form cs (read_node cs G high) g' z) d.right;
      beside = beside_enters beside_ends;
      found = d.found;
      grows = d.grows;
      inside = d.inside;
    }

-- i of n nodes are walked on each side.
pub record Turn (bs cs : Bits) (G : Grammar) (high class w v n : ℕ) (p : Both) (l : List ℕ) (i : ℕ) (q : Both) (m : List ℕ) : Type 0 where
  pub few : i ≤ n
  pub on : (g g' : Form) → Abreast bs cs (read_node bs G high) (read_node cs G high) (nodes_then n class w g) (nodes_then n class v g') (nodes_then (n - i) class w g) (nodes_then (n - i) class v g') p q l m

pub turn_none : (bs cs : Bits) (G : Grammar) (high class w v n : ℕ) (p : Both) (l : List ℕ) → Inside (length bs) (length cs) p → Turn bs cs G high class w v n p l 0 p l
turn_none bs cs G high class w v n p l h =
    let e : n ≡ n - 0 = omega arith in
    record {
      few = omega arith;
      on = λ g g'. subst (λ (k : ℕ). Abreast bs cs (read_node bs G high) (read_node cs G high) (nodes_then n class w g) (nodes_then n class v g') (nodes_then k class w g) (nodes_then k class v g') p p l l) e (along_none bs cs (read_node bs G high) (read_node cs G high) (nodes_then n class w g) (nodes_then n class v g') p l h);
    }

-- A spelling that may follow is read whatever reads nodes.
pub after_alone : (bs : Bits) (X : ℕ → ℕ → Scan) (w a : ℕ) (g : Form) → IsRead (read_form bs X (spelling_if w g) a) → IsRead (read_form bs no_node (spelling_if w one) a)
after_alone bs X zero a g r = record { content = ends; end = a; is = refl }
after_alone bs X (suc w) a g r =
    let f = then_back (read_spelling bs (suc w) a) (λ k. read_form bs X g k) r in
    record { content = f.content ⊕ ends; end = f.end; is = ap (λ (o : Scan). then_read o λ k. reads ends k) f.is }

module _ {bs cs : Bits} {G : Grammar} {high class w v n : ℕ} {p : Both} {l : List ℕ} {i : ℕ} {q : Both} {m : List ℕ}
    (d : Turn bs cs G high class w v n p l i q m) (h : i < n) where
  here : (g g' : Form) → Abreast bs cs (read_node bs G high) (read_node cs G high) (nodes_then n class w g) (nodes_then n class v g')
      (both (child class) (spelling_if w (nodes_then (n - (i + 1)) class w g))) (both (child class) (spelling_if v (nodes_then (n - (i + 1)) class v g'))) p q l m
  here g g' =
      let z : n - i ≡ suc (n - (i + 1)) = omega arith in
      subst (λ (k : ℕ). Abreast bs cs (read_node bs G high) (read_node cs G high) (nodes_then n class w g) (nodes_then n class v g') (nodes_then k class w g) (nodes_then k class v g') p q l m) z (d.on g g')

  pub node_left : IsRead (read_form bs (read_node bs G high) (nodes_then n class w one) p.left) → IsRead (read_node bs G high class q.left)
  node_left r =
      let f = then_back (read_node bs G high class q.left) (λ e. read_form bs (read_node bs G high) (spelling_if w (nodes_then (n - (i + 1)) class w one)) e) (let o = here one one in read_behind o.c _ r o.left) in
      record { content = f.content; end = f.end; is = f.is }

  pub node_right : IsRead (read_form cs (read_node cs G high) (nodes_then n class v one) p.right) → IsRead (read_node cs G high class q.right)
  node_right r =
      let f = then_back (read_node cs G high class q.right) (λ e. read_form cs (read_node cs G high) (spelling_if v (nodes_then (n - (i + 1)) class v one)) e) (let o = here one one in read_behind o.d _ r o.right) in
      record { content = f.content; end = f.end; is = f.is }

  module _ {o : Both} {k : List ℕ} (e : Walked bs cs G high class q o m k) where
    past : (g g' : Form) → Abreast bs cs (read_node bs G high) (read_node cs G high) (nodes_then n class w g) (nodes_then n class v g')
        (spelling_if w (nodes_then (n - (i + 1)) class w g)) (spelling_if v (nodes_then (n - (i + 1)) class v g')) p o l k
    past g g' = along_then bs cs (read_node bs G high) (read_node cs G high) (here g g') (along_node e (spelling_if w (nodes_then (n - (i + 1)) class w g)) (spelling_if v (nodes_then (n - (i + 1)) class v g')))

    pub word_left : IsRead (read_form bs (read_node bs G high) (nodes_then n class w one) p.left) → IsRead (read_form bs no_node (spelling_if w one) o.left)
    word_left r = after_alone bs (read_node bs G high) w o.left (nodes_then (n - (i + 1)) class w one) (let o = past one one in read_behind o.c _ r o.left)

    pub word_right : IsRead (read_form cs (read_node cs G high) (nodes_then n class v one) p.right) → IsRead (read_form cs no_node (spelling_if v one) o.right)
    word_right r = after_alone cs (read_node cs G high) v o.right (nodes_then (n - (i + 1)) class v one) (let o = past one one in read_behind o.d _ r o.right)

    pub turn_more : {y : Both} {j : List ℕ} → SpelledAfter bs cs w v o y k j → Turn bs cs G high class w v n p l (i + 1) y j
    turn_more f =
        record {
          few = omega arith;
          on = λ g g'. along_then bs cs (read_node bs G high) (read_node cs G high) (past g g') (f (read_node bs G high) (read_node cs G high) (nodes_then (n - (i + 1)) class w g) (nodes_then (n - (i + 1)) class v g'));
        }
