-- Steps of taking back: names, choices, and how runs join.
use mathlib.Core.Path.{◌≡◌, refl, sym, ap, ap₂, ◌∙◌, subst, subst₂}
use mathlib.Core.Bool.{Bool, true, false}
use mathlib.Core.List.{List, [], ◌∷◌, ◌++◌}
use mathlib.Core.Logic.{◌⊎◌, inl, inr}
use Prim.Native.Nat.{ℕ, zero, suc, ◌+◌, ◌-◌, ◌*◌, ◌/◌, ◌≤◌, ◌<◌}
use native.Mathlib.Omega.{arith}
use borrow.Author.Tests.{le-leb, lt-leb}
use lib.Dec.{leb}
use lib.ListN.{length, take, drop, length-drop}
use lib.Seq.{drop-drop}
use Rattle.keys.specs.Bits.{Bits, field, take_field, cut, row, ahead, after_byte, take_bytes}
use Rattle.keys.specs.Form as form
use Rattle.keys.specs.Form.{spelt, Form, one, word, both, is_never, State, state, got, stop, keep, take_letters, take_length, take_spelling}
use Rattle.keys.specs.Limits.{bad_key, no_space, half_word}
use Rattle.keys.specs.Store.{Run, done, name, ◌⊕◌}
use Rattle.keys.proofs.StoreLaws.{join_join}
use Rattle.keys.proofs.BitsLaws.{take_whole_lem, take_short, bytes_back, le_or_lt}
use Rattle.keys.specs.Words.{first_names}
use Rattle.keys.specs.Stored.{Stored, Own}
use Rattle.keys.proofs.StoredLaws.{stored_same, own_same, stored_name, own_name}
use Rattle.fields.specs.Take.{answered}
use Rattle.fields.specs.Reader.{remembered}
use Rattle.std.specs.Prelude.{Some, None, Result, Ok, Err}
use Rattle.words.specs.Refusal.{number_of}
use Rattle.words.specs.declared.refusal.Refusal.TheVariants.{BadKey}
use Rattle.fields.proofs.Chunks.{Told, take_rest}
use Rattle.fields.proofs.ReaderLaws.{field_cut, read_told, read_next}
use Rattle.node_table.specs.Forms.{form_of, spellings_then, spelling_if, table_most}
use Rattle.key_parts.specs.Runs.{Ran, ran, halt, after, then_run, as_name, choice_run, whole_run, allowed_run, form_run}
use Rattle.key_parts.specs.Place.{state_at, Inside, Halts}
use Rattle.key_parts.specs.Spelling.{Gone, SpellingIn, SpellingsIn}
use Rattle.key_parts.specs.Choice.{PickedIn}
use Rattle.key_parts.specs.declared.place.Pos.{Pos}
use Rattle.key_parts.specs.declared.refusal.Stop.{Stop}

-- ---- Runs

pub after_done : (x : Ran) → after done x ≡ x
after_done (ran r s) = refl
after_done (halt n l) = refl

pub after_after : (u v : Run) (x : Ran) → after u (after v x) ≡ after (u ⊕ v) x
after_after u v (ran r s) = ap (λ (y : Run). ran y s) (sym (join_join u v r))
after_after u v (halt n l) = refl

pub then_after : (u : Run) (x : Ran) (k : State → Ran) → then_run (after u x) k ≡ after u (then_run x k)
then_after u (ran r s) k = sym (after_after u r (k s))
then_after u (halt n l) k = refl

-- ---- Names, one after the other

module _ (bs : Bits) (lm lx : ℕ) where
  pub gone_none : (g : Form) (p : Pos) (M X : List ℕ) → Inside bs lm lx p → Gone bs lm lx g g p M X p M X
  gone_none g p M X h =
      record {
        run = done;
        went = λ Y. sym (after_done (form_run lx Y g (state_at bs lm lx p)));
        left = record { inside = h; used = refl; nodes = refl; stored = λ B t N d. stored_same d; own = λ B t a b c o. own_same o };
      }

  pub gone_then : {f g h : Form} {p q r : Pos} {M X M' X' M'' X'' : List ℕ} → Gone bs lm lx f g p M X q M' X' → Gone bs lm lx g h q M' X' r M'' X'' → Gone bs lm lx f h p M X r M'' X''
  gone_then {h = h} {r = r} {M'' = M''} {X'' = X''} d e =
      record {
        run = d.run ⊕ e.run;
        went = λ Y. d.went Y ∙ ap (after d.run) (e.went Y) ∙ after_after d.run e.run (form_run lx Y h (state_at bs lm lx r));
        left =
            record {
              inside = e.left.inside;
              used = e.left.used ∙ d.left.used;
              nodes = e.left.nodes ∙ d.left.nodes;
              stored =
                  λ B t N x. subst (λ (y : Run). Stored B y N M'' X'' r.used r.names r.chars) (join_join t d.run e.run) (e.left.stored B (t ⊕ d.run) N (d.left.stored B t N x));
              own = λ B t a b c x. subst (λ (y : Run). Own B y a b c) (join_join t d.run e.run) (e.left.own B (t ⊕ d.run) a b c (d.left.own B t a b c x));
            };
      }

  -- A refusal further on.
  pub halts_after : {x y : Ran} {e : Stop} (u : Run) → x ≡ after u y → Halts bs y e → Halts bs x e
  halts_after u i d = record { in_key = d.in_key; is = i ∙ ap (after u) d.is }

  -- i of n spellings are taken.
  pub record Spelling (w n : ℕ) (p : Pos) (M X : List ℕ) (i : ℕ) (q : Pos) (M' X' : List ℕ) : Type 0 where
    pub inside : Inside bs lm lx q
    pub names_same : length M' ≡ length M
    pub text_same : length X' ≡ length X
    pub gone : (g : Form) → Gone bs lm lx (spellings_then n w g) (spellings_then (n - i) w g) p M X q M' X'

  pub spelling_none : (w n : ℕ) (p : Pos) (M X : List ℕ) → Inside bs lm lx p → Spelling w n p M X 0 p M X
  spelling_none w n p M X h =
      let e : n ≡ n - 0 = omega arith in
      record {
        inside = h;
        names_same = refl;
        text_same = refl;
        gone = λ g. subst (λ (k : ℕ). Gone bs lm lx (spellings_then n w g) (spellings_then k w g) p M X p M X) e (gone_none (spellings_then n w g) p M X h);
      }

  module _ {w n : ℕ} {p : Pos} {M X : List ℕ} {i : ℕ} {q : Pos} {M' X' : List ℕ} (d : Spelling w n p M X i q M' X') (h : i < n) where
    here : (g : Form) → Gone bs lm lx (spellings_then n w g) (both (word w) (spellings_then (n - (i + 1)) w g)) p M X q M' X'
    here g =
        let z : n - i ≡ suc (n - (i + 1)) = omega arith in
        subst (λ (k : ℕ). Gone bs lm lx (spellings_then n w g) (spellings_then k w g) p M X q M' X') z (d.gone g)

    pub spelling_more : {r : Pos} {M'' X'' : List ℕ} → SpellingIn bs lm lx w q M' X' (Ok r) M'' X'' → Spelling w n p M X (i + 1) r M'' X''
    spelling_more e =
        record {
          inside = (e one).gone.left.inside;
          names_same = (e one).names_same ∙ d.names_same;
          text_same = (e one).text_same ∙ d.text_same;
          gone = λ g. gone_then (here g) (e (spellings_then (n - (i + 1)) w g)).gone;
        }

    pub spelling_stop : {r : Stop} {M'' X'' : List ℕ} → SpellingIn bs lm lx w q M' X' (Err r) M'' X'' → SpellingsIn bs lm lx w n p M X (Err r) M'' X''
    spelling_stop e g =
        record {
          names_same = (e one).names_same ∙ d.names_same;
          text_same = (e one).text_same ∙ d.text_same;
          stopped = λ Y. halts_after (here g).run ((here g).went Y) ((e (spellings_then (n - (i + 1)) w g)).stopped Y);
          gone = tt;
        }

  pub spelling_all : {w n : ℕ} {p : Pos} {M X : List ℕ} {i : ℕ} {q : Pos} {M' X' : List ℕ} → Spelling w n p M X i q M' X' → n ≤ i → SpellingsIn bs lm lx w n p M X (Ok q) M' X'
  spelling_all {w} {n} {p} {M} {X} {i} {q} {M'} {X'} d h g =
      let z : n - i ≡ 0 = omega arith in
      record {
        names_same = d.names_same;
        text_same = d.text_same;
        stopped = tt;
        gone = subst (λ (k : ℕ). Gone bs lm lx (spellings_then n w g) (spellings_then k w g) p M X q M' X') z (d.gone g);
      }

-- The same over lengths that are equal.
pub spelling_as : {bs : Bits} {lm lx lm' lx' w : ℕ} {p : Pos} {M X : List ℕ} {q : Result Pos Stop} {M' X' : List ℕ} → lm' ≡ lm → lx' ≡ lx
    → SpellingIn bs lm' lx' w p M X q M' X' → SpellingIn bs lm lx w p M X q M' X'
spelling_as {bs} {lm} {lx} {lm'} {lx'} {w} {p} {M} {X} {q} {M'} {X'} a b d = subst₂ (λ (x y : ℕ). SpellingIn bs x y w p M X q M' X') a b d

pub inside_as : {bs : Bits} {lm lx lm' lx' : ℕ} {p : Pos} → Inside bs lm lx p → lm' ≡ lm → lx' ≡ lx → Inside bs lm' lx' p
inside_as h a b =
    record { in_key = h.in_key; in_names = omega (arith, h.in_names); in_text = omega (arith, h.in_text); few_names = h.few_names; few_chars = h.few_chars }

-- ---- The bytes of a spelling

pub bytes_cut : (n : ℕ) (bs : Bits) → length bs < n * 8 → take_bytes n bs ≡ cut
bytes_cut zero bs h = absurd (omega arith)
bytes_cut (suc n) bs h =
    by (le_or_lt 8 (length bs))
    λ l. let d = take_whole_lem 8 0 bs l in ap (after_byte (λ r. take_bytes n r)) d.is ∙ ap (ahead d.number) (bytes_cut n d.rest (omega (arith, d.long)))
  where
    by : (8 ≤ length bs) ⊎ (length bs < 8) → (8 ≤ length bs → take_bytes (suc n) bs ≡ cut) → take_bytes (suc n) bs ≡ cut
    by (inl l) k = k l
    by (inr l) k = ap (after_byte (λ r. take_bytes n r)) (take_short 8 0 bs l)

-- A row of bytes that is whole.
pub record Whole (n : ℕ) (bs : Bits) : Type 0 where
  pub bytes : List ℕ
  pub is : take_bytes n bs ≡ row bytes (drop (n * 8) bs)

pub bytes_whole : (n : ℕ) (bs : Bits) → n * 8 ≤ length bs → Whole n bs
bytes_whole zero bs h = record { bytes = []; is = refl }
bytes_whole (suc n) bs h =
    let d = take_whole_lem 8 0 bs (omega arith) in
    let s = bytes_whole n d.rest (omega (arith, d.long)) in
    record {
      bytes = d.number ∷ s.bytes;
      is = ap (after_byte (λ r. take_bytes n r)) d.is ∙ ap (ahead d.number) s.is ∙ ap (row (d.number ∷ s.bytes)) (tail d.number d.rest d.is);
    }
  where
    tail : (x : ℕ) (r : Bits) → take_field 8 bs ≡ field x r → drop (n * 8) r ≡ drop (suc n * 8) bs
    tail x r i =
        let k : 0 + 8 + n * 8 ≡ suc n * 8 = omega arith in
        ap (drop (n * 8)) (take_rest 8 0 0 bs x r i) ∙ drop-drop (n * 8) (0 + 8) bs ∙ ap (λ (m : ℕ). drop m bs) k

-- ---- A spelling, as the code meets it

module _ (bs : Bits) (bit w a k m : ℕ) where
  abbrev S : State
  S = state a k m (drop bit bs)

  pub word_short : None ≡ remembered (answered (take_field w (drop bit bs))) (bit + w) → take_spelling w S ≡ stop bad_key (length (drop bit bs))
  word_short e = ap (take_length S) (field_cut (take_field w (drop bit bs)) (bit + w) e)

  module _ (n : ℕ) (t : Told bs bit w n) where
    pub word_zero : n ≡ 0 → take_spelling w S ≡ stop bad_key (length (drop bit bs))
    word_zero e = ap (take_length S) t.is ∙ ap (λ (x : ℕ). take_length S (field x (drop (bit + w) bs))) e

    module _ (j : ℕ) (q : n ≡ suc j) where
      in_letters : take_spelling w S ≡ take_letters S (take_bytes (suc j) (drop (bit + w) bs))
      in_letters = ap (take_length S) t.is ∙ ap (λ (y : ℕ). take_length S (field y (drop (bit + w) bs))) q

      pub word_cut : (length bs - (bit + w)) / 8 < n → take_spelling w S ≡ stop bad_key (length (drop bit bs))
      word_cut h = in_letters ∙ ap (take_letters S) (bytes_cut (suc j) (drop (bit + w) bs) (omega (arith, length-drop (bit + w) bs)))

      module _ (h : n ≤ (length bs - (bit + w)) / 8) where
        d : Whole (suc j) (drop (bit + w) bs)
        d = bytes_whole (suc j) (drop (bit + w) bs) (omega (arith, length-drop (bit + w) bs))

        size : length d.bytes ≡ suc j
        size = (bytes_back (suc j) (drop (bit + w) bs) d.bytes (drop (suc j * 8) (drop (bit + w) bs)) d.is).size

        in_keep : take_spelling w S ≡ keep S d.bytes (drop (suc j * 8) (drop (bit + w) bs)) (leb (length d.bytes) m) k
        in_keep = in_letters ∙ ap (take_letters S) d.is

        pub word_full : m < n → take_spelling w S ≡ stop no_space (length (drop bit bs))
        word_full l = in_keep ∙ ap (λ (x : Bool). keep S d.bytes (drop (suc j * 8) (drop (bit + w) bs)) x k) (lt-leb (length d.bytes) m (omega (arith, size)))

        pub word_crowded : n ≤ m → k ≡ 0 → take_spelling w S ≡ stop no_space (length (drop bit bs))
        word_crowded l z =
            in_keep
            ∙ ap₂ (λ (x : Bool) (y : ℕ). keep S d.bytes (drop (suc j * 8) (drop (bit + w) bs)) x y) (le-leb (length d.bytes) m (omega (arith, size))) z

      pub word_got : (s : List ℕ) → take_bytes n (drop (bit + w) bs) ≡ row s (drop (bit + w + n * 8) bs) → length s ≡ n → n ≤ m → (k' : ℕ) → k ≡ suc k'
          → take_spelling w S ≡ got (spelt s) (state a k' (m - length s) (drop (bit + w + n * 8) bs))
      word_got s e i l k' z =
          in_letters ∙ ap (λ (y : ℕ). take_letters S (take_bytes y (drop (bit + w) bs))) (sym q) ∙ ap (take_letters S) e
          ∙ ap₂ (λ (x : Bool) (y : ℕ). keep S s (drop (bit + w + n * 8) bs) x y) (le-leb (length s) m (omega arith)) z

-- ---- What the code answers for a spelling

module _ (bs : Bits) (lm lx w : ℕ) (p : Pos) (M X : List ℕ) where
  pub spelling_bad : (e : Stop) → e.bit ≡ p.bit → p.bit ≤ length bs → take_spelling w (state_at bs lm lx p) ≡ stop (number_of e.why) (length (drop p.bit bs)) → SpellingIn bs lm lx w p M X (Err e) M X
  spelling_bad e b k i g =
      record {
        names_same = refl;
        text_same = refl;
        stopped =
            λ Y. record {
              in_key = omega arith;
              is =
                  ap (λ (x : form.Result). then_run (as_name (lx - (lx - p.chars)) x) λ r. form_run lx Y g r) i
                  ∙ ap (halt (number_of e.why)) (length-drop p.bit bs ∙ ap (λ (x : ℕ). length bs - x) (sym b));
            };
        gone = tt;
      }

  pub spelling_good : (s : List ℕ) (n : ℕ) (M' X' : List ℕ) → length s ≡ n → Inside bs lm lx p → p.chars + n ≤ lx → p.names < lm → 1 ≤ n → p.bit + w + n * 8 ≤ length bs
      → take_spelling w (state_at bs lm lx p) ≡ got (spelt s) (state p.nodes (lm - (p.names + 1)) (lx - p.chars - length s) (drop (p.bit + w + n * 8) bs))
      → length M' ≡ length M → length X' ≡ length X
      → first_names M' (p.names + 1) ≡ first_names M p.names ++ ((p.chars * half_word + n) ∷ []) → take (p.chars + n) X' ≡ take p.chars X ++ s
      → SpellingIn bs lm lx w p M X (Ok (record { bit = p.bit + w + n * 8; nodes = p.nodes; used = p.used; names = p.names + 1; chars = p.chars + n })) M' X'
  spelling_good s n M' X' l h room fewer some key e a b c d g =
      let here : lx - (lx - p.chars) ≡ p.chars = omega (arith, h.in_text) in
      let there : lx - p.chars - length s ≡ lx - (p.chars + n) = omega arith in
      record {
        names_same = a;
        text_same = b;
        stopped = tt;
        gone =
            record {
              run = name p.chars s done;
              went =
                  λ Y. ap (λ (x : form.Result). then_run (as_name (lx - (lx - p.chars)) x) λ r. form_run lx Y g r) e
                  ∙ ap₂ (λ (x y : ℕ). after (name x s done) (form_run lx Y g (state p.nodes (lm - (p.names + 1)) y (drop (p.bit + w + n * 8) bs)))) here there;
              left =
                  record {
                    inside =
                        record {
                          in_key = key;
                          in_names = omega arith;
                          in_text = room;
                          few_names = omega (arith, h.few_names);
                          few_chars = omega (arith, h.few_chars);
                        };
                    used = refl;
                    nodes = refl;
                    stored =
                        λ B t N x. subst (λ (y : ℕ). Stored B (t ⊕ name p.chars s done) N M' X' p.used (p.names + 1) (p.chars + y)) l
                        (stored_name s M' X' x (c ∙ ap (λ (y : ℕ). first_names M p.names ++ ((p.chars * half_word + y) ∷ [])) (sym l)) (ap (λ (y : ℕ). take (p.chars + y) X') l ∙ d));
                    own = λ B t x y z o. own_name p.chars s o;
                  };
            };
      }

-- The spelling after a child, if there is one.
pub if_spelled : (w : ℕ) (g : Form) → (w ≡ 0 → ⊥) → both (word w) g ≡ spelling_if w g
if_spelled zero g h = absurd (h refl)
if_spelled (suc w) g h = refl

-- ---- A choice, as the code meets it

module _ (bs : Bits) (T : List ℕ) (steps w : ℕ) (fs : ℕ → Form) (bit : ℕ) (h : bit ≤ length bs) where
  abbrev bad : Stop
  bad = record { why = BadKey; bit = bit }

  picked_bad : ((n k m : ℕ) (K : ℕ → Bits → Ran) → choice_run w fs (state n k m (drop bit bs)) K ≡ halt bad_key (length (drop bit bs))) → PickedIn bs T steps w fs bit (Err bad)
  picked_bad e = record { stopped = (refl, refl, λ n k m K. record { in_key = h; is = e n k m K ∙ ap (halt bad_key) (length-drop bit bs) }); picked = tt }

  pub picked_short : None ≡ remembered (answered (take_field w (drop bit bs))) (bit + w) → PickedIn bs T steps w fs bit (Err bad)
  picked_short e = picked_bad (λ n k m K. ap (whole_run (state n k m (drop bit bs)) fs K) (field_cut (take_field w (drop bit bs)) (bit + w) e))

  module _ (t next : ℕ) (read : Some (t, next) ≡ remembered (answered (take_field w (drop bit bs))) (bit + w)) where
    o : Told bs bit w t
    o = read_told bs bit w (bit + w) t next read

    pub picked_never : is_never (fs t) ≡ true → PickedIn bs T steps w fs bit (Err bad)
    picked_never e = picked_bad (λ n k m K. ap (whole_run (state n k m (drop bit bs)) fs K) o.is ∙ ap (allowed_run (state n k m (drop bit bs)) K t (drop (bit + w) bs)) e)

    pub picked_to : (form n : ℕ) → is_never (fs t) ≡ false → fs t ≡ form_of T steps n form → form < table_most → n < table_most
        → PickedIn bs T steps w fs bit (Ok (record { bit = next; number = t; form = form; n = n }))
    picked_to form n e q a b =
        subst (λ (x : ℕ). PickedIn bs T steps w fs bit (Ok (record { bit = x; number = t; form = form; n = n }))) (sym (read_next bs bit w (bit + w) t next read))
        (record {
          stopped = tt;
          picked =
              record {
                went = λ i k m K. ap (whole_run (state i k m (drop bit bs)) fs K) o.is ∙ ap (allowed_run (state i k m (drop bit bs)) K t (drop (bit + w) bs)) e;
                small = o.small;
                next = refl;
                inside = o.within h;
                to = q;
                in_table = a;
                few = b;
              };
        })
