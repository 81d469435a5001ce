-- A whole key: its length, its edition, its tree and its last bits.
use mathlib.Core.Path.{◌≡◌, refl, sym, ap, ap₂, ◌∙◌, subst}
use mathlib.Core.Bool.{Bool, true, false}
use mathlib.Core.List.{List}
use Rattle.std.proofs.Common.{Result as Outcome, Ok, Err, Option, Some, None, not, eqb, eqb-true}
use Rattle.std.specs.Option.{option_eq}
use Prim.Native.Nat.{ℕ, zero, suc, ◌-◌, ◌*◌, ◌%◌, ◌≤◌, ◌<◌}
use native.Mathlib.Nat.{le_refl}
use native.Mathlib.Omega.{arith}
use borrow.Author.Tests.{le-leb}
use lib.ListN.{length, drop, length-drop}
use Rattle.words.specs.Refusal.{number_of}
use Rattle.keys.specs.Bits.{Bits, take_field, bits_of_bytes}
use Rattle.keys.proofs.BitsLaws.{clash, length_bytes}
use Rattle.keys.specs.Form.{Value, choice, child, Grammar, State, state, Result, into, if_whole, take_form, take_node}
use Rattle.keys.specs.Limits.{longest_key, tallest, newest, count_width, bad_key}
use Rattle.keys.specs.Table.{type_under, whole_key}
use Rattle.keys.specs.Key.{padding, closed, refused, refusal_place, outcome, node_table, take_within}
use Rattle.fields.specs.Take.{answered}
use Rattle.fields.proofs.Chunks.{Told, number_told}
use Rattle.node_table.specs.Forms.{grammar_of, table_words}
use Rattle.node_table.proofs.FormsLaws.{words_are}
use Rattle.key_parts.specs.Padding.{Ends}
use Rattle.key_parts.proofs.Rows.{table_fine}
use Rattle.differs.specs.Content.{content_of}
use Rattle.differs.specs.Differ.{checked}
use Rattle.sound_keys.specs.Sound.{reads, fails, read_node, Stops, Goes, bad_at, said, verdict, Wholly}
use Rattle.key_parts.specs.declared.refusal.Stop.{Stop}
use Rattle.sound_keys.proofs.Lined.{lined_read}
use Rattle.sound_keys.proofs.Roomy.{Eager, eager_never, eager_word, eager_choose, eager_both, Same, same_got, same_stop, same_node}

-- A type parameter and a parameter have no tag, and begin with a field.
eager_table : (c t : ℕ) → node_table.tag_width c ≡ 0 → Eager (node_table.row c t)
eager_table zero t e = absurd (omega arith)
eager_table (suc zero) t e = absurd (omega arith)
eager_table (suc (suc zero)) t e = absurd (omega arith)
eager_table (suc (suc (suc zero))) t e = absurd (omega arith)
eager_table (suc (suc (suc (suc zero)))) zero e = eager_both eager_word
eager_table (suc (suc (suc (suc zero)))) (suc t) e = eager_never
eager_table (suc (suc (suc (suc (suc zero))))) zero e = eager_both (eager_choose (le_refl 1))
eager_table (suc (suc (suc (suc (suc zero))))) (suc t) e = eager_never
eager_table (suc (suc (suc (suc (suc (suc zero)))))) t e = absurd (omega arith)
eager_table (suc (suc (suc (suc (suc (suc (suc c))))))) t e = eager_never

-- An option that is known to be a number.
is_some : (o : Option ℕ) (n : ℕ) → false ≡ not (option_eq eqb o (Some n)) → o ≡ Some n
is_some None n e = clash (cc)
is_some (Some m) n e = ap Some (by (eqb m n) refl)
  where
    by : (b : Bool) → eqb m n ≡ b → m ≡ n
    by true i = eqb-true m n i
    by false i =
        let z = e ∙ ap not i in
        clash (cc z)

module _ (T key : List ℕ) where
  abbrev bs : Bits
  bs = bits_of_bytes key

  abbrev S : State
  S = state (length key * 8) (length key * 8) (length key) (bits_of_bytes key)

  module _ (h : length key ≤ longest_key) where
    within : checked key ≡ outcome (length (bits_of_bytes key)) (closed (take_form (take_node node_table tallest) whole_key S))
    within = ap (λ (b : Bool). take_within newest b (length key * 8) (length key * 8) (length key) key) (le-leb (length key) longest_key h)

    abbrev K : ℕ → Bits → Result
    K t r = into (choice t) (take_form (take_node node_table tallest) (type_under newest t) (state (length key * 8) (length key * 8) (length key) r))

    module _ {o : Option ℕ} (a : o ≡ answered (take_field 4 (drop 0 (bits_of_bytes key)))) (e : false ≡ not (option_eq eqb o (Some 1))) where
      t : Told (bits_of_bytes key) 0 4 1
      t = number_told (bits_of_bytes key) 0 4 1 (sym (is_some o 1 e) ∙ a)

      pub whole_four : 4 ≤ length key * 8
      whole_four = omega (arith, t.within (omega arith), length_bytes key)

      module _ (w : T ≡ table_words count_width) where
        in_tree : take_form (take_node node_table tallest) whole_key S
            ≡ into (choice 1) (take_node node_table tallest 0 (state (length key * 8) (length key * 8) (length key) (drop 4 (bits_of_bytes key))))
        in_tree = ap (if_whole S (type_under newest) K) t.is

        -- Reading by the words and taking with room enough.
        agrees : Same (bits_of_bytes key) node_table (child 0) 4 (take_node node_table tallest 0 (state (length key * 8) (length key * 8) (length key) (drop 4 (bits_of_bytes key)))) (read_node (bits_of_bytes key) (grammar_of T) tallest 0 4)
        agrees =
            subst (Same (bits_of_bytes key) node_table (child 0) 4 (take_node node_table tallest 0 (state (length key * 8) (length key * 8) (length key) (drop 4 (bits_of_bytes key)))))
            (sym (ap (λ (G : Grammar). read_node (bits_of_bytes key) G tallest 0 4) (ap grammar_of w ∙ words_are newest) ∙ lined_read (bits_of_bytes key) node_table 54 table_fine tallest 0 4))
            (same_node (bits_of_bytes key) node_table eager_table tallest 0 (state (length key * 8) (length key * 8) (length key) (drop 4 (bits_of_bytes key))) 4
            (record { bits = refl; in_key = omega (arith, whole_four, length_bytes key) })
            (record { nodes = omega (arith, length-drop 4 (bits_of_bytes key), length_bytes key, whole_four); names = omega (arith, length-drop 4 (bits_of_bytes key), length_bytes key); text = omega (arith, length-drop 4 (bits_of_bytes key), length_bytes key) }))

        back_to : (x : ℕ) → x ≤ length (bits_of_bytes key) → length (bits_of_bytes key) - (length (bits_of_bytes key) - x) ≡ x
        back_to x l = omega arith

        -- The tree is refused.
        pub whole_stop : {s : Stop} → Stops (length (bits_of_bytes key)) (read_node (bits_of_bytes key) (grammar_of T) tallest 0 4) s → Wholly T key (Err s)
        whole_stop {s} d = by agrees
          where
            by : Same (bits_of_bytes key) node_table (child 0) 4 (take_node node_table tallest 0 (state (length key * 8) (length key * 8) (length key) (drop 4 (bits_of_bytes key)))) (read_node (bits_of_bytes key) (grammar_of T) tallest 0 4)
                → Wholly T key (Err s)
            by (same_got v s' f x y k p n) = clash (cc (sym d.is ∙ y))
            by (same_stop n b x y l g) =
                let q : fails (number_of s.why) s.bit ≡ fails n b = sym d.is ∙ y in
                let q₁ : n ≡ number_of s.why = cc in
                let q₂ : b ≡ s.bit = cc in
                within ∙ ap (λ (u : Result). outcome (length bs) (closed u)) (in_tree ∙ ap (into (choice 1)) x)
                ∙ ap₂ (λ (u : Bool) (m : ℕ). refused n (refusal_place u m)) g (back_to b l) ∙ ap₂ refused q₁ q₂

        module _ {bit : ℕ} (d : Goes (length (bits_of_bytes key)) (read_node (bits_of_bytes key) (grammar_of T) tallest 0 4) bit) {f : ℕ} (u : Ends (bits_of_bytes key) bit f) where
          -- The tree was taken, and the bits from the check's on are left.
          record Tree : Type 0 where
            tree : Value
            read : read_node (bits_of_bytes key) (grammar_of T) tallest 0 4 ≡ reads (content_of node_table tree) bit
            padded : checked key ≡ outcome (length (bits_of_bytes key)) (padding (choice 1 tree) (length (drop bit (bits_of_bytes key)) % 8) (drop bit (bits_of_bytes key)))

          has_tree : Tree
          has_tree = by agrees
            where
              by : Same (bits_of_bytes key) node_table (child 0) 4 (take_node node_table tallest 0 (state (length key * 8) (length key * 8) (length key) (drop 4 (bits_of_bytes key)))) (read_node (bits_of_bytes key) (grammar_of T) tallest 0 4)
                  → Tree
              by (same_stop n b x y l g) = clash (cc (sym d.is ∙ y))
              by (same_got v s g x y k p n) =
                  let q : reads d.content bit ≡ reads (content_of node_table v) g = sym d.is ∙ y in
                  let q₁ : g ≡ bit = cc in
                  record {
                    tree = v;
                    read = y ∙ ap (reads (content_of node_table v)) q₁;
                    padded =
                        within ∙ ap (λ (m : Result). outcome (length bs) (closed m)) (in_tree ∙ ap (into (choice 1)) x)
                        ∙ ap (λ (m : Bits). outcome (length bs) (padding (choice 1 v) (length m % 8) m)) (p.bits ∙ ap (λ (m : ℕ). drop m bs) q₁);
                  }

          pub whole_left : f < length key * 8 → {s : Stop} → s ≡ bad_at f → Wholly T key (Err s)
          whole_left l i =
              subst (λ (s : Stop). Wholly T key (Err s)) (sym i)
              (has_tree.padded ∙ ap (outcome (length bs)) (u.stopped (omega (arith, length_bytes key)) (choice 1 has_tree.tree))
              ∙ ap (refused bad_key) (back_to f u.inside))

          pub whole_done : length key * 8 ≤ f → Wholly T key (Ok tt)
          whole_done l =
              record {
                tree = has_tree.tree;
                is = has_tree.padded ∙ ap (outcome (length bs)) (u.went (omega (arith, u.inside, length_bytes key)) (choice 1 has_tree.tree));
                short = h;
                long = whole_four;
                end = bit;
                read = has_tree.read;
              }

-- What is answered of a key.
pub judged : (T key : List ℕ) (r : Outcome (Unit {0}) Stop) → Wholly T key r → said r ≡ verdict (checked key)
judged T key (Ok u) w = sym (ap verdict w.is)
judged T key (Err s) w = sym (ap verdict w)
