-- A whole key: its length, its edition, its tree and its last bits; and what the call leaves of it.
use mathlib.Core.Path.{◌≡◌, refl, sym, ap, ap₂, ◌∙◌, subst, subst₂}
use mathlib.Core.Bool.{Bool, true, false}
use mathlib.Core.List.{List, [], ◌++◌, append_assoc, append-nil}
use Prim.Native.Nat.{ℕ, ◌+◌, ◌-◌, ◌*◌, ◌/◌, ◌%◌, ◌≤◌, ◌<◌}
use native.Mathlib.Omega.{arith}
use borrow.Author.Tests.{le-leb, lt-leb}
use lib.Dec.{eqb}
use lib.ListN.{length, take, drop}
use Rattle.keys.specs.Bits.{Bits, take_field, bits_of_bytes}
use Rattle.keys.specs.Form as form
use Rattle.keys.specs.Form.{Value, nothing, spelt, choice, pair, node, Form, child, Grammar, is_never, branch, left, right, class, nodes, names, letters, State, state, got, stop, into, allowed, if_whole, take_form, take_node}
use Rattle.keys.specs.Limits.{longest_key, tallest, newest, count_width, record_words, bad_key, no_space}
use Rattle.keys.specs.Table.{type, type_under, whole_key}
use Rattle.keys.specs.Placed.{bare, laid}
use Rattle.keys.specs.Key.{padding, closed, refused, refusal_place, outcome, node_table, take_within, take_key}
use Rattle.keys.specs.Store.{Run, done, kid, plant, under, called, records, names_in, nodes_of, names_of, text_of, filled, lent, take_back}
use Rattle.keys.specs.Store as store
use Rattle.keys.proofs.BitsLaws.{clash, length_bytes}
use Rattle.keys.proofs.StoreLaws.{under_plant, called_plant, length_text_of, bare_laid}
use Rattle.keys.specs.Words.{first_nodes, first_names}
use Rattle.keys.specs.Stored.{letters_in}
use Rattle.fields.specs.Take.{answered}
use Rattle.fields.specs.Reader.{remembered}
use Rattle.std.specs.Prelude.{Some, None, Result, Ok, Err}
use Rattle.words.specs.Refusal.{number_of}
use Rattle.words.specs.declared.refusal.Refusal.TheVariants.{BadKey}
use Rattle.key_parts.specs.declared.refusal.Stop.{Stop}
use Rattle.fields.proofs.Chunks.{Told}
use Rattle.fields.proofs.ReaderLaws.{field_cut, read_told, read_next}
use Rattle.node_table.specs.Forms.{grammar_of, table_words}
use Rattle.node_table.proofs.FormsLaws.{words_are}
use Rattle.key_parts.specs.Runs.{ran, halt, node_run}
use Rattle.key_parts.specs.Place.{state_at}
use Rattle.key_parts.specs.Padding.{Ends}
use Rattle.key_parts.specs.Widths.{Slim}
use Rattle.key_in.specs.Back.{NodeIn, Asks, Grown, Held, WholeIn, Answers}
use Rattle.key_parts.specs.declared.place.Pos.{Pos}
use Rattle.key_parts.proofs.Lines.{run_by, node_run_lem, lined_run}
use Rattle.key_parts.proofs.Rows.{table_fine, words_slim, other_edition}

-- ---- What a tree's run holds

letters_plant : (G : Grammar) (f : Form) (v : Value) (x : ℕ) (r : Run) → letters_in (plant G f (laid v x) r) ≡ text_of v ++ letters_in r
letters_plant G f nothing x r = refl
letters_plant G f (spelt s) x r = refl
letters_plant G f (choice k v) x r = letters_plant G (branch f k) v x r
letters_plant G f (pair a b) x r =
    letters_plant G (left f) a x (plant G (right f) (laid b (x + letters a)) r) ∙ ap (λ (l : List ℕ). text_of a ++ l) (letters_plant G (right f) b (x + letters a) r) ∙ sym (append_assoc (text_of a) (text_of b) (letters_in r))
letters_plant G f (node t v) x r = ap (λ (l : List ℕ). l ++ letters_in r) (letters_plant G (G.row (class f) t) v x done ∙ append-nil (text_of v))

-- ---- From a run back to the value

record Was (G : Grammar) (f : Form) (y : form.Result) (r : Run) (s : State) : Type 0 where
  value : Value
  is : y ≡ got value s
  plants : plant G f (laid value 0) done ≡ r

was : (G : Grammar) (f : Form) (y : form.Result) (r : Run) (s : State) → run_by G f 0 y ≡ ran r s → Was G f y r s
was G f (got v q) r s e =
    let a : plant G f (laid v 0) done ≡ r = cc in
    let b : q ≡ s = cc in
    record { value = v; is = ap (got v) b; plants = a }
was G f (stop n l) r s e = clash (cc)

was_stop : (G : Grammar) (f : Form) (y : form.Result) (n l : ℕ) → run_by G f 0 y ≡ halt n l → y ≡ stop n l
was_stop G f (got v q) n l e = clash (cc)
was_stop G f (stop x y) n l e =
    let a : x ≡ n = cc in
    let b : y ≡ l = cc in
    ap₂ stop a b

-- The node that the table of words takes is the node that the definition takes.
node_is : (lm lx : ℕ) (T : List ℕ) → T ≡ table_words count_width → (bs : Bits) (p : Pos) → p.names ≡ 0 → p.chars ≡ 0 → (h c : ℕ)
    → run_by node_table (child c) 0 (take_node node_table h c (state p.nodes lm lx (drop p.bit bs))) ≡ node_run lx (grammar_of T) h c (state_at bs lm lx p)
node_is lm lx T e bs p z y h c =
    let s : State = state p.nodes lm lx (drop p.bit bs) in
    let a : lx - lx ≡ 0 = omega arith in
    let b : lm ≡ lm - p.names = omega arith in
    let d : lx ≡ lx - p.chars = omega arith in
    ap (λ (x : ℕ). run_by node_table (child c) x (take_node node_table h c s)) (sym a) ∙ node_run_lem lx node_table h c s (omega arith)
    ∙ sym (lined_run lx node_table 54 table_fine h c s)
    ∙ ap (λ (G : Grammar). node_run lx G h c s) (sym (ap grammar_of e ∙ words_are newest))
    ∙ ap₂ (λ (i j : ℕ). node_run lx (grammar_of T) h c (state p.nodes i j (drop p.bit bs))) b d

-- ---- The key

place_zero : (b : Bool) → refusal_place b 0 ≡ 0
place_zero true = refl
place_zero false = refl

module _ (key : List ℕ) (n k m : ℕ) where
  abbrev bs : Bits
  bs = bits_of_bytes key

  abbrev S : State
  S = state n k m (bits_of_bytes key)

  abbrev X : ℕ → State → form.Result
  X = take_node node_table tallest

  bad : take_key n k m key ≡ refused bad_key 0 → (N M Z : List ℕ) → WholeIn key n k m (Err (record { why = BadKey; bit = 0 })) N M Z
  bad i N M Z = record { stopped = i ∙ ap (refused bad_key) (sym (place_zero (eqb 10 no_space))); held = tt }

  pub whole_long : longest_key < length key → (N M Z : List ℕ) → WholeIn key n k m (Err (record { why = BadKey; bit = 0 })) N M Z
  whole_long h N M Z = bad (ap (λ (b : Bool). take_within newest b n k m key) (lt-leb (length key) longest_key h)) N M Z

  module _ (h : length key ≤ longest_key) where
    within : take_key n k m key ≡ outcome (length (bits_of_bytes key)) (closed (take_form (take_node node_table tallest) whole_key (state n k m (bits_of_bytes key))))
    within = ap (λ (b : Bool). take_within newest b n k m key) (le-leb (length key) longest_key h)

    early : take_form (take_node node_table tallest) whole_key (state n k m (bits_of_bytes key)) ≡ stop bad_key (length (bits_of_bytes key)) → take_key n k m key ≡ refused bad_key 0
    early e =
        within ∙ ap (λ (y : form.Result). outcome (length (bits_of_bytes key)) (closed y)) e
        ∙ ap (λ (x : ℕ). refused bad_key (refusal_place (eqb bad_key no_space) x)) (let z : length (bits_of_bytes key) - length (bits_of_bytes key) ≡ 0 = omega arith in z)
        ∙ ap (refused bad_key) (place_zero (eqb bad_key no_space))

    abbrev K : ℕ → Bits → form.Result
    K t r = into (choice t) (take_form (take_node node_table tallest) (type_under newest t) (state n k m r))

    pub whole_short : None ≡ remembered (answered (take_field 4 (drop 0 (bits_of_bytes key)))) (0 + 4) → (N M Z : List ℕ) → WholeIn key n k m (Err (record { why = BadKey; bit = 0 })) N M Z
    whole_short e N M Z = bad (early (ap (if_whole S (type_under newest) K) (field_cut (take_field 4 bs) (0 + 4) e))) N M Z

    module _ (e next : ℕ) (i : Some (e, next) ≡ remembered (answered (take_field 4 (drop 0 (bits_of_bytes key)))) (0 + 4)) where
      t : Told (bits_of_bytes key) 0 4 e
      t = read_told (bits_of_bytes key) 0 4 (0 + 4) e next i

      four : next ≡ 4
      four = read_next (bits_of_bytes key) 0 4 (0 + 4) e next i

      pub whole_within : next ≤ length key * 8
      whole_within = omega (arith, four, t.within (omega arith), length_bytes key)

      in_edition : take_form (take_node node_table tallest) whole_key (state n k m (bits_of_bytes key))
          ≡ allowed (state n k m (bits_of_bytes key)) K e (drop (0 + 4) (bits_of_bytes key)) (is_never (type_under newest e))
      in_edition = ap (if_whole S (type_under newest) K) t.is

      pub whole_other : (e ≡ 1 → ⊥) → (N M Z : List ℕ) → WholeIn key n k m (Err (record { why = BadKey; bit = 0 })) N M Z
      whole_other z N M Z = bad (early (in_edition ∙ ap (allowed S K e (drop (0 + 4) bs)) (other_edition e z))) N M Z

      module _ (z : e ≡ 1) (T : List ℕ) (w : T ≡ table_words count_width) (N M Z : List ℕ) (lm : length M ≡ k) (lz : length Z ≡ m) where
        abbrev p : Pos
        p = record { bit = next; nodes = n; used = 0; names = 0; chars = 0 }

        in_tree : take_form (take_node node_table tallest) whole_key (state n k m (bits_of_bytes key)) ≡ into (choice 1) (take_node node_table tallest 0 (state n k m (drop next (bits_of_bytes key))))
        in_tree =
            in_edition ∙ ap (λ (x : ℕ). allowed S K x (drop (0 + 4) bs) (is_never (type_under newest x))) z
            ∙ ap (λ (x : ℕ). into (choice 1) (take_node node_table tallest 0 (state n k m (drop x bs)))) (sym four)

        pub whole_asks : n * 4 ≤ length N → Asks (bits_of_bytes key) (length N) (length M) (length Z) T 0 p
        whole_asks l =
            record {
              inside = record { in_key = omega (arith, whole_within, length_bytes key); in_names = omega arith; in_text = omega arith; few_names = omega arith; few_chars = omega arith };
              nodes_fit = omega arith;
              in_table = omega arith;
              slim = subst Slim (sym w) words_slim;
            }

        node_eq : run_by node_table (child 0) 0 (take_node node_table tallest 0 (state n k m (drop next (bits_of_bytes key)))) ≡ node_run m (grammar_of T) tallest 0 (state_at (bits_of_bytes key) k m p)
        node_eq = node_is k m T w bs p refl refl tallest 0

        module _ (N' M' Z' : List ℕ) where
          node_at : (r : Result Pos Stop) → NodeIn (bits_of_bytes key) (length M) (length Z) (grammar_of T) tallest 0 p N M Z r N' M' Z' → NodeIn (bits_of_bytes key) k m (grammar_of T) tallest 0 p N M Z r N' M' Z'
          node_at r d = subst₂ (λ (x y : ℕ). NodeIn bs x y (grammar_of T) tallest 0 p N M Z r N' M' Z') lm lz d

          back_to : (x : ℕ) → x ≤ length (bits_of_bytes key) → length (bits_of_bytes key) - (length (bits_of_bytes key) - x) ≡ x
          back_to x l = omega arith

          pub whole_stop : (e : Stop) → NodeIn (bits_of_bytes key) (length M) (length Z) (grammar_of T) tallest 0 p N M Z (Err e) N' M' Z' → WholeIn key n k m (Err e) N' M' Z'
          whole_stop e d' =
              let d = (node_at (Err e) d').stopped in
              record {
                stopped =
                    within
                    ∙ ap (λ (y : form.Result). outcome (length bs) (closed y))
                    (in_tree ∙ ap (into (choice 1)) (was_stop node_table (child 0) (take_node node_table tallest 0 (state n k m (drop next bs))) (number_of e.why) (length bs - e.bit) (node_eq ∙ d.is)))
                    ∙ ap (λ (x : ℕ). refused (number_of e.why) (refusal_place (eqb (number_of e.why) no_space) x)) (back_to e.bit d.in_key);
                held = tt;
              }

          module _ (q : Pos) (d' : NodeIn (bits_of_bytes key) (length M) (length Z) (grammar_of T) tallest 0 p N M Z (Ok q) N' M' Z') (r : ℕ) (f : Ends (bits_of_bytes key) q.bit r) where
            g : Grown (bits_of_bytes key) k m (grammar_of T) tallest 0 p N M Z q N' M' Z'
            g = (node_at (Ok q) d').grown

            v : Was node_table (child 0) (take_node node_table tallest 0 (state n k m (drop next (bits_of_bytes key)))) (kid 0 0 g.run done) (state_at (bits_of_bytes key) k m q)
            v = was node_table (child 0) (take_node node_table tallest 0 (state n k m (drop next bs))) (kid 0 0 g.run done) (state_at bs k m q) (node_eq ∙ g.is)

            abbrev tree : Value
            tree = v.value

            in_padding : take_key n k m key ≡ outcome (length (bits_of_bytes key)) (padding (choice 1 tree) (length (drop q.bit (bits_of_bytes key)) % 8) (drop q.bit (bits_of_bytes key)))
            in_padding = within ∙ ap (λ (y : form.Result). outcome (length bs) (closed y)) (in_tree ∙ ap (into (choice 1)) v.is)

            pub whole_left : r < length key * 8 → WholeIn key n k m (Err (record { why = BadKey; bit = r })) N' M' Z'
            whole_left l =
                record {
                  stopped =
                      in_padding ∙ ap (outcome (length bs)) (f.stopped (omega (arith, length_bytes key)) (choice 1 tree))
                      ∙ ap (λ (x : ℕ). refused bad_key (refusal_place (eqb bad_key no_space) x)) (back_to r f.inside);
                  held = tt;
                }

            run_is : plant node_table type (laid tree 0) done ≡ kid 0 0 g.run done
            run_is = v.plants

            used_is : under (kid 0 0 g.run done) ≡ nodes tree
            used_is = ap under (sym run_is) ∙ under_plant node_table type (laid tree 0) done ∙ (let x : nodes (bare (laid tree 0)) + 0 ≡ nodes tree = omega (arith, ap nodes (bare_laid tree 0)) in x)

            named_is : called (kid 0 0 g.run done) ≡ length (names tree)
            named_is =
                ap called (sym run_is) ∙ called_plant node_table type (laid tree 0) done
                ∙ (let x : length (names (bare (laid tree 0))) + 0 ≡ length (names tree) = omega (arith, ap (λ (y : Value). length (names y)) (bare_laid tree 0)) in x)

            letters_are : letters_in (kid 0 0 g.run done) ≡ text_of tree
            letters_are = ap letters_in (sym run_is) ∙ letters_plant node_table type tree 0 done ∙ append-nil (text_of tree)

            nodes_first : first_nodes N' q.used ≡ nodes_of (laid tree 0)
            unfolding first_nodes
            nodes_first = g.stored.nodes_are ∙ ap (λ (x : Run). records x 0 0 0) (sym run_is)

            names_first : first_names M' q.names ≡ names_of (laid tree 0)
            unfolding first_names
            names_first = g.stored.names_are ∙ ap names_in (sym run_is)

            pub whole_done : length key * 8 ≤ r → WholeIn key n k m (Ok q) N' M' Z'
            whole_done l =
                record {
                  stopped = tt;
                  held =
                      record {
                        tree = tree;
                        is = in_padding ∙ ap (outcome (length bs)) (f.went (omega (arith, f.inside, length_bytes key)) (choice 1 tree));
                        room = omega (arith, g.total);
                        used = omega (arith, g.stored.used, used_is);
                        named = omega (arith, g.stored.named, named_is);
                        chars = omega (arith, g.stored.chars, ap length letters_are, length_text_of tree);
                        nodes_are = nodes_first;
                        names_are = names_first;
                        text_is = g.stored.text_is ∙ letters_are;
                      };
                }

-- The same of outputs that are equal.
pub whole_kept : {key : List ℕ} {n k m : ℕ} {r : Result Pos Stop} {N M X N' M' X' : List ℕ} → WholeIn key n k m r N M X → N' ≡ N → M' ≡ M → X' ≡ X → WholeIn key n k m r N' M' X'
whole_kept {key} {n} {k} {m} {r} {N} {M} {X} {N'} {M'} {X'} w a b c =
    subst (λ (x : List ℕ). WholeIn key n k m r x M' X') (sym a) (subst₂ (λ (y z : List ℕ). WholeIn key n k m r N y z) (sym b) (sym c) w)

-- ---- What the call leaves

module _ (key : List ℕ) (a b c : ℕ) (N M X : List ℕ) (la : length N ≡ a) (lb : length M ≡ b) (lc : length X ≡ c) where
  pub call_refused : (e : Stop) → WholeIn key (a / record_words) b c (Err e) N M X → (place : ℕ) → place ≡ refusal_place (eqb (number_of e.why) no_space) e.bit → (N' M' X' : List ℕ)
      → N' ≡ filled (length N) (take 0 N) → M' ≡ filled (length M) (take 0 M) → X' ≡ filled (length X) (take 0 X) → Answers (take_back key a b c) (Err (record { why = e.why; bit = place })) N' M' X'
  call_refused e w place p N' M' X' i j k =
      let z = ap (lent a b c) w.stopped in
      record {
        answer = ap (store.no (number_of e.why)) p ∙ sym (ap (λ (t : store.TakenBack). t.answer) z);
        nodes_are = i ∙ ap (λ (x : ℕ). filled x []) la ∙ sym (ap (λ (t : store.TakenBack). t.node_words) z);
        names_are = j ∙ ap (λ (x : ℕ). filled x []) lb ∙ sym (ap (λ (t : store.TakenBack). t.name_words) z);
        text_is = k ∙ ap (λ (x : ℕ). filled x []) lc ∙ sym (ap (λ (t : store.TakenBack). t.text) z);
      }

  module _ (q : Pos) (w : WholeIn key (a / record_words) b c (Ok q) N M X) where
    h : Held key (a / record_words) b c q N M X
    h = w.held

    -- The nodes used fit.
    pub used_small : q.used * 4 ≤ a
    used_small = omega (arith, h.room)

    module _ (N' M' X' : List ℕ) (i : N' ≡ filled (length N) (take (q.used * 4) N)) (j : M' ≡ filled (length M) (take q.names M))
        (k : X' ≡ filled (length X) (take q.chars X)) where
      nodes_are' : take (q.used * 4) N ≡ nodes_of (laid h.tree 0)
      unfolding first_nodes
      nodes_are' = (let z : q.used * 4 ≡ 4 * q.used = omega arith in ap (λ (x : ℕ). take x N) z) ∙ h.nodes_are

      names_are' : take q.names M ≡ names_of (laid h.tree 0)
      unfolding first_names
      names_are' = h.names_are

      pub call_taken : Answers (take_back key a b c) (Ok (q.used, q.names, q.chars)) N' M' X'
      call_taken =
          let z = ap (lent a b c) h.is in
          record {
            answer = (λ t. store.back (h.used t) (h.named t) (h.chars t)) ∙ sym (ap (λ (t : store.TakenBack). t.answer) z);
            nodes_are = i ∙ ap₂ filled la nodes_are' ∙ sym (ap (λ (t : store.TakenBack). t.node_words) z);
            names_are = j ∙ ap₂ filled lb names_are' ∙ sym (ap (λ (t : store.TakenBack). t.name_words) z);
            text_is = k ∙ ap₂ filled lc h.text_is ∙ sym (ap (λ (t : store.TakenBack). t.text) z);
          }
