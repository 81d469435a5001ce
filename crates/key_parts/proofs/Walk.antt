-- The walk of a node's fields: steps, and how they join.
use mathlib.Core.Path.{◌≡◌, refl, sym, ap, ap₂, ◌∙◌, subst, subst₂}
use mathlib.Core.List.{List}
use Prim.Native.Nat.{ℕ, zero, suc, ◌+◌, ◌-◌, ◌*◌, ◌≤◌, ◌<◌}
use native.Mathlib.Omega.{arith}
use lib.ListN.{length, set, length-set, length-drop}
use Rattle.keys.specs.Limits.{widest, choices_wide}
use Rattle.keys.specs.Bits.{Bits}
use Rattle.keys.specs.Form.{Form, one, word, choose, both, State}
use Rattle.keys.specs.Store.{Run, done, chose, ◌⊕◌}
use Rattle.keys.proofs.StoreLaws.{join_join}
use Rattle.keys.specs.Stored.{Base, Stored, Own}
use Rattle.keys.proofs.StoredLaws.{stored_same, own_same, stored_choice, own_choice, kid_first, kid_next, own_first, own_next}
use Rattle.node_table.specs.Forms.{Entry, form_by, form_of, leads, entry_of, spellings_then, nodes_then, spelling_if, table_most, entry_at, IsRow, Narrow}
use Rattle.node_table.specs.declared.forms.Row.{Row}
use Rattle.key_parts.specs.Runs.{Ran, halt, after, form_run}
use Rattle.key_parts.specs.Place.{state_at, Inside, Halts, fill_at, at_bit}
use Rattle.key_parts.specs.Spelling.{Gone, NamesIn, SpellingIn, SpellingsIn}
use Rattle.key_parts.specs.Choice.{chosen, Picked, PickedIn}
use Rattle.key_parts.specs.Widths.{Spans, Sized}
use Rattle.key_parts.specs.Step.{Steady, with_child, fill_on, Went, PlainIn, Linked, AfterIn}
use Rattle.std.specs.Prelude.{Result, Ok, Err}
use Rattle.words.specs.declared.refusal.Refusal.TheVariants.{BadKey}
use Rattle.key_parts.specs.declared.refusal.Stop.{Stop}
use Rattle.key_parts.specs.declared.place.Pos.{Pos}
use Rattle.key_parts.specs.declared.place.Fill.{Fill}
use Rattle.key_parts.specs.declared.choice.Pick.{Pick}
use Rattle.key_parts.proofs.ChoiceLaws.{pack_lt}
use Rattle.key_parts.proofs.Steps.{after_done, after_after, gone_none, if_spelled}

-- ---- Widths

-- A row that was read fits the table.
pub row_sized : (T : List ℕ) (f : ℕ) {r : Row} → IsRow (entry_at T f) r → Narrow T → Sized r
row_sized T f {r} i n = record { w = subst (λ (x : Entry). x.w ≤ widest) (sym i.is) (n.at f); a = i.from; b = i.next }

pub spans_words : (n w : ℕ) (g : Form) (m : ℕ) → Spans (spellings_then n w g) m → Spans g m
spans_words zero w g m h = h
spans_words (suc n) w g m h = spans_words n w g m h

if_spans : (w : ℕ) (g : Form) (m : ℕ) → Spans (spelling_if w g) m → Spans g m
if_spans zero g m h = h
if_spans (suc w) g m h = h

spans_if : (w : ℕ) (g : Form) (m : ℕ) → Spans g m → Spans (spelling_if w g) m
spans_if zero g m h = h
spans_if (suc w) g m h = h

pub spans_nodes : (n c w : ℕ) (g : Form) (m : ℕ) → Spans (nodes_then n c w g) m → Spans g m
spans_nodes zero c w g m h = h
spans_nodes (suc n) c w g m h = spans_nodes n c w g m (if_spans w (nodes_then n c w g) m h)

pub nodes_spans : (n c w : ℕ) (g : Form) (m : ℕ) → Spans g m → Spans (nodes_then n c w g) m
nodes_spans zero c w g m h = h
nodes_spans (suc n) c w g m h = spans_if w (nodes_then n c w g) m (nodes_spans n c w g m h)

-- ---- Steps in general

pub steady_as : {bs : Bits} {lm lx lm' lx' : ℕ} {s : Fill} → Steady bs lm lx s → lm' ≡ lm → lx' ≡ lx → Steady bs lm' lx' s
steady_as {bs} {lm} {lx} {lm'} {lx'} {s} h a b = subst₂ (λ (x y : ℕ). Steady bs x y s) (sym a) (sym b) h

module _ (bs : Bits) (lm lx : ℕ) (Y : ℕ → State → Ran) where
  pub went_none : (f : Form) (s : Fill) (N M X : List ℕ) → Steady bs lm lx s → Spans f (choices_wide - s.shift) → Went bs lm lx Y f f s N M X s N M X
  went_none f s N M X h z =
      record {
        steady = h;
        housed = λ x. x;
        spans = z;
        base_same = refl;
        total = refl;
        nodes_same = refl;
        names_same = refl;
        text_same = refl;
        run = done;
        same = sym (after_done (form_run lx Y f (state_at bs lm lx s.at)));
        fill = λ B t e a o. (stored_same a, own_same o);
      }

  pub went_then : {f f' f'' : Form} {s s' s'' : Fill} {N M X N' M' X' N'' M'' X'' : List ℕ} → Went bs lm lx Y f f' s N M X s' N' M' X'
      → Went bs lm lx Y f' f'' s' N' M' X' s'' N'' M'' X'' → Went bs lm lx Y f f'' s N M X s'' N'' M'' X''
  went_then {f} {f'} {f''} {s} {s'} {s''} {N} {M} {X} {N'} {M'} {X'} {N''} {M''} {X''} d e =
      record {
        steady = e.steady;
        housed = λ x. e.housed (d.housed x);
        spans = e.spans;
        base_same = e.base_same ∙ d.base_same;
        total = e.total ∙ d.total;
        nodes_same = e.nodes_same ∙ d.nodes_same;
        names_same = e.names_same ∙ d.names_same;
        text_same = e.text_same ∙ d.text_same;
        run = d.run ⊕ e.run;
        same = d.same ∙ ap (after d.run) e.same ∙ after_after d.run e.run (form_run lx Y f'' (state_at bs lm lx s''.at));
        fill = λ B t i a o. up B t (d.fill B t i a o) (i ∙ sym d.base_same);
      }
    where
      up : (B : Base) (t : Run) → Stored B (t ⊕ d.run) N' M' X' s'.at.used s'.at.names s'.at.chars × Own B (t ⊕ d.run) s'.word s'.shift s'.child → B.used ≡ s'.base
          → Stored B (t ⊕ (d.run ⊕ e.run)) N'' M'' X'' s''.at.used s''.at.names s''.at.chars × Own B (t ⊕ (d.run ⊕ e.run)) s''.word s''.shift s''.child
      up B t (a, o) i =
          subst (λ (x : Run). Stored B x N'' M'' X'' s''.at.used s''.at.names s''.at.chars × Own B x s''.word s''.shift s''.child) (join_join t d.run e.run)
          (e.fill B (t ⊕ d.run) i a o)

  -- Names alone are a step.
  pub names_went : {f g : Form} (s : Fill) {M X : List ℕ} (q : Pos) {M' X' : List ℕ} → Gone bs lm lx f g s.at M X q M' X' → length M' ≡ length M → length X' ≡ length X → Steady bs lm lx s
      → Spans g (choices_wide - s.shift) → (form n : ℕ) → form < table_most → n < table_most → (N : List ℕ) → Went bs lm lx Y f g s N M X (fill_on s q form n) N M' X'
  names_went s q d e f h sp form n a b N =
      let l = d.left in
      record {
        steady = record { inside = l.inside; small = h.small; narrow = h.narrow; in_table = a; few = b };
        housed = λ x. record { above = omega (arith, l.used, x.above); nodes_fit = omega (arith, l.used, l.nodes, x.nodes_fit); in_nodes = x.in_nodes };
        spans = sp;
        base_same = refl;
        total = ap₂ (λ (x y : ℕ). x + y) l.used l.nodes;
        nodes_same = refl;
        names_same = e;
        text_same = f;
        run = d.run;
        same = d.went Y;
        fill = λ B t i x o. (l.stored B t N x, l.own B t s.word s.shift s.child o);
      }

  -- The walk may be told another form to come.
  pub went_fill_on : {f g : Form} {s q : Fill} {N M X N' M' X' : List ℕ} → Went bs lm lx Y f g s N M X q N' M' X' → (form n : ℕ) → form < table_most → n < table_most
      → Went bs lm lx Y f g s N M X (fill_on q q.at form n) N' M' X'
  went_fill_on d form n a b =
      let h = d.steady in
      record {
        steady = record { inside = h.inside; small = h.small; narrow = h.narrow; in_table = a; few = b };
        housed = λ x. let y = d.housed x in record { above = y.above; nodes_fit = y.nodes_fit; in_nodes = y.in_nodes };
        spans = d.spans;
        base_same = d.base_same;
        total = d.total;
        nodes_same = d.nodes_same;
        names_same = d.names_same;
        text_same = d.text_same;
        run = d.run;
        same = d.same;
        fill = d.fill;
      }

-- ---- A step that goes into no child

module _ (bs : Bits) (lm lx : ℕ) (T : List ℕ) (steps : ℕ) (r : Row) (s : Fill) (h : Steady bs lm lx s) (z : Sized r)
    (y : Spans (form_by T (form_of T steps) s.n (entry_of r) r.op) (choices_wide - s.shift)) where
  abbrev F : Form
  F = form_by T (form_of T steps) s.n (entry_of r) r.op

  at_op : (o : ℕ) → r.op ≡ o → F ≡ form_by T (form_of T steps) s.n (entry_of r) o
  at_op o e = ap (form_by T (form_of T steps) s.n (entry_of r)) e

  -- A walk on over names to the row's next form, done n times.
  abbrev pub onward : ℕ → Result Pos Stop → Result Fill Stop
  onward n (Ok q) = Ok (fill_on s q r.b n)
  onward n (Err e) = Err e

  names_plain : (f : Form) (n : ℕ) → F ≡ f → n < table_most → Spans (form_of T steps n r.b) (choices_wide - s.shift) → (M X : List ℕ) (q : Result Pos Stop) (M' X' : List ℕ)
      → NamesIn bs lm lx f (form_of T steps n r.b) s.at M X q M' X' → PlainIn bs lm lx T steps r s M X (onward n q) M' X'
  names_plain f n e l sp M X (Err x) M' X' d =
      record {
        names_same = d.names_same;
        text_same = d.text_same;
        stopped = λ Y. subst (λ (g : Form). Halts bs (form_run lx Y g (state_at bs lm lx s.at)) x) (sym e) (d.stopped Y);
        went = tt;
      }
  names_plain f n e l sp M X (Ok q) M' X' d =
      record {
        names_same = d.names_same;
        text_same = d.text_same;
        stopped = tt;
        went =
            λ Y N. subst (λ (x : Form). Went bs lm lx Y x (form_of T steps n r.b) s N M X (fill_on s q r.b n) N M' X') (sym e)
            (names_went bs lm lx Y s q d.gone d.names_same d.text_same h sp r.b n z.b l N);
      }

  pub plain_words : r.op ≡ 2 → (M X : List ℕ) (q : Result Pos Stop) (M' X' : List ℕ) → SpellingsIn bs lm lx r.w s.n s.at M X q M' X'
      → PlainIn bs lm lx T steps r s M X (onward 1 q) M' X'
  plain_words e M X q M' X' d =
      names_plain (spellings_then s.n r.w (form_of T steps 1 r.b)) 1 (at_op 2 e) (omega arith)
      (spans_words s.n r.w (form_of T steps 1 r.b) (choices_wide - s.shift) (subst (λ (x : Form). Spans x (choices_wide - s.shift)) (at_op 2 e) y)) M X q M' X' (d (form_of T steps 1 r.b))

  pub plain_word : r.op ≡ 4 → (M X : List ℕ) (q : Result Pos Stop) (M' X' : List ℕ) → SpellingIn bs lm lx r.w s.at M X q M' X'
      → PlainIn bs lm lx T steps r s M X (onward s.n q) M' X'
  plain_word e M X q M' X' d =
      names_plain (both (word r.w) (form_of T steps s.n r.b)) s.n (at_op 4 e) h.few
      (subst (λ (x : Form). Spans x (choices_wide - s.shift)) (at_op 4 e) y) M X q M' X' (d (form_of T steps s.n r.b))

  -- A choice.
  module _ (k : 5 ≤ r.op) where
    abbrev fs : ℕ → Form
    fs = leads T (form_of T steps) (entry_of r) (r.op - 5)

    by_op : (o : ℕ) → 5 ≤ o → form_by T (form_of T steps) s.n (entry_of r) o ≡ choose r.w 0 (leads T (form_of T steps) (entry_of r) (o - 5))
    by_op zero l = absurd (omega arith)
    by_op (suc zero) l = absurd (omega arith)
    by_op (suc (suc zero)) l = absurd (omega arith)
    by_op (suc (suc (suc zero))) l = absurd (omega arith)
    by_op (suc (suc (suc (suc zero)))) l = absurd (omega arith)
    by_op (suc (suc (suc (suc (suc o))))) l = let e : o ≡ suc (suc (suc (suc (suc o)))) - 5 = omega arith in ap (λ (x : ℕ). choose r.w 0 (leads T (form_of T steps) (entry_of r) x)) e

    is_choice : F ≡ choose r.w 0 fs
    is_choice = by_op r.op k

    spanned : Spans (choose r.w 0 fs) (choices_wide - s.shift)
    spanned = subst (λ (x : Form). Spans x (choices_wide - s.shift)) is_choice y

    pub choice_fits : s.shift + r.w ≤ choices_wide
    choice_fits = omega (arith, spanned.0, h.narrow)

    pub choice_bad : (e : Stop) → PickedIn bs T steps r.w (leads T (form_of T steps) (entry_of r) (r.op - 5)) s.at.bit (Err e) → (M X : List ℕ) → PlainIn bs lm lx T steps r s M X (Err e) M X
    choice_bad e d M X =
        record {
          names_same = refl;
          text_same = refl;
          stopped =
              λ Y. subst (λ (x : Form). Halts bs (form_run lx Y x (state_at bs lm lx s.at)) e) (sym is_choice) (d.stopped.2 s.at.nodes (lm - s.at.names) (lx - s.at.chars) _);
          went = tt;
        }

    module _ (c : Pick) (d : Picked bs T steps r.w (leads T (form_of T steps) (entry_of r) (r.op - 5)) s.at.bit c) (M X : List ℕ) where
      module _ (Y : ℕ → State → Ran) (N : List ℕ) where
        less : (i j : ℕ) → choices_wide - i - j ≡ choices_wide - (i + j)
        less i j = omega arith

        choice_went : Went bs lm lx Y F (form_of T steps c.n c.form) s N M X (chosen s c r.w) N M X
        choice_went =
            record {
              steady =
                  record {
                    inside =
                        record {
                          in_key = d.inside;
                          in_names = h.inside.in_names;
                          in_text = h.inside.in_text;
                          few_names = h.inside.few_names;
                          few_chars = omega (arith, d.next, h.inside.few_chars);
                        };
                    small = pack_lt s.word s.shift c.number r.w h.small (d.small);
                    narrow = choice_fits;
                    in_table = d.in_table;
                    few = d.few;
                  };
              housed = λ x. record { above = x.above; nodes_fit = x.nodes_fit; in_nodes = x.in_nodes };
              spans =
                  subst (λ (x : Form). Spans x (choices_wide - (s.shift + r.w))) (d.to)
                  (subst (λ (x : ℕ). Spans (fs c.number) x) (less s.shift r.w) (spanned.1 c.number));
              base_same = refl;
              total = refl;
              nodes_same = refl;
              names_same = refl;
              text_same = refl;
              run = chose r.w c.number done;
              same =
                  ap (λ (x : Form). form_run lx Y x (state_at bs lm lx s.at)) is_choice ∙ d.went s.at.nodes (lm - s.at.names) (lx - s.at.chars) _
                  ∙ ap (λ (x : Form). after (chose r.w c.number done) (form_run lx Y x (state_at bs lm lx (at_bit s.at c.bit)))) (d.to);
              fill = λ B t i x q. (stored_choice r.w c.number x, own_choice r.w c.number q);
            }

      pub choice_good : PlainIn bs lm lx T steps r s M X (Ok (chosen s c r.w)) M X
      choice_good = record { names_same = refl; text_same = refl; stopped = tt; went = λ Y N. choice_went Y N }

  pub plain_never : r.op ≡ 0 → (M X : List ℕ) → PlainIn bs lm lx T steps r s M X (Err (record { why = BadKey; bit = s.at.bit })) M X
  plain_never e M X =
      record {
        names_same = refl;
        text_same = refl;
        stopped = λ Y. record { in_key = h.inside.in_key; is = ap (λ (x : Form). form_run lx Y x (state_at bs lm lx s.at)) (at_op 0 e) ∙ ap (halt 10) (length-drop s.at.bit bs) };
        went = tt;
      }

-- ---- A child

pub linked_next : (N : List ℕ) (s : Fill) (p : Pos) (N' : List ℕ) → N' ≡ set N (4 * (s.at.used - 1) + 3) (p.used - 1) → s.base < s.at.used → p.used * 4 ≤ length N → s.child * 4 ≤ length N
    → Linked N s p (with_child s p s.child) N'
linked_next N s p N' e h l k =
    subst (λ (x : List ℕ). Linked N s p (with_child s p s.child) x) (sym e)
    (record {
      same = length-set N (4 * (s.at.used - 1) + 3) (p.used - 1);
      child = s.child;
      is = refl;
      small = k;
      grew = λ B t a N₀ M₀ X₀ M X i j d o f. (kid_next d f (omega arith) (omega arith) j, own_next d f o (omega arith));
    })

pub linked_first : (N : List ℕ) (s : Fill) (p : Pos) → s.at.used ≡ s.base → (p.used - 1) * 4 ≤ length N → Linked N s p (with_child s p (p.used - 1)) N
linked_first N s p h l =
    record {
      same = refl;
      child = p.used - 1;
      is = refl;
      small = l;
      grew = λ B t a N₀ M₀ X₀ M X i j d o f. (kid_first d f (h ∙ sym i), own_first d f o (h ∙ sym i));
    }

module _ (bs : Bits) (lm lx w : ℕ) (s : Fill) (M X : List ℕ) where
  pub after_none : w ≡ 0 → Inside bs lm lx s.at → AfterIn bs lm lx w s M X (Ok s) M X
  after_none e h =
      record {
        names_same = refl;
        text_same = refl;
        stopped = tt;
        gone = (refl, λ g. subst (λ (x : ℕ). Gone bs lm lx (spelling_if x g) g s.at M X s.at M X) (sym e) (gone_none bs lm lx g s.at M X h));
      }

  module _ (z : w ≡ 0 → ⊥) (M' X' : List ℕ) where
    pub after_some : (p : Pos) → SpellingIn bs lm lx w s.at M X (Ok p) M' X' → AfterIn bs lm lx w s M X (Ok (fill_at s p)) M' X'
    after_some p d =
        record {
          names_same = (d one).names_same;
          text_same = (d one).text_same;
          stopped = tt;
          gone = (refl, λ g. subst (λ (x : Form). Gone bs lm lx x g s.at M X p M' X') (if_spelled w g z) (d g).gone);
        }

    pub after_stop : (e : Stop) → SpellingIn bs lm lx w s.at M X (Err e) M' X' → AfterIn bs lm lx w s M X (Err e) M' X'
    after_stop e d =
        record {
          names_same = (d one).names_same;
          text_same = (d one).text_same;
          stopped = λ g Y. subst (λ (x : Form). Halts bs (form_run lx Y x (state_at bs lm lx s.at)) e) (if_spelled w g z) ((d g).stopped Y);
          gone = tt;
        }

-- An operation that is none of the others is never.
pub nothing_else : (o : ℕ) → (o ≡ 1 → ⊥) → (o ≡ 2 → ⊥) → (o ≡ 3 → ⊥) → (o ≡ 4 → ⊥) → o < 5 → o ≡ 0
nothing_else zero a b c d e = refl
nothing_else (suc zero) a b c d e = absurd (a refl)
nothing_else (suc (suc zero)) a b c d e = absurd (b refl)
nothing_else (suc (suc (suc zero))) a b c d e = absurd (c refl)
nothing_else (suc (suc (suc (suc zero)))) a b c d e = absurd (d refl)
nothing_else (suc (suc (suc (suc (suc o))))) a b c d e = absurd (omega arith)
