-- References, typeof and import: what is read is their names, then their arguments, then the node.
use mathlib.Core.Path.{◌≡◌, refl, sym, ap, ◌∙◌}
use mathlib.Core.Bool.{Bool, true, false}
use mathlib.Core.List.{List, [], ◌∷◌}
use Prim.Native.Nat.{ℕ, suc, ◌+◌, ◌*◌}
use native.Mathlib.Omega.{arith}
use lib.Dec.{leb}
use lib.ListN.{length}
use Rattle.words.specs.Kind.{LParen, RParen, Str, Comma, Import, Typeof}
use Rattle.words.specs.Test.{test}
use Rattle.keys.specs.Placed as node
use Rattle.keys.specs.Form.{Form, right}
use Rattle.keys.specs.Key.{node_table}
use Rattle.keys.specs.Limits.{count_width, counts}
use Rattle.keys.specs.Table.{opt, args, when, times, spelling as spellingForm}
use Rattle.keys.specs.Placed.{Placed, tree, join, bit, spell, spellings, entries, listed_names, maybe_list, Spelling, Opt}
use Rattle.keys.specs.Store.{Run, done, name, plant, packed, ◌⊕◌}
use Rattle.keys.proofs.StoreLaws.{join_done}
use Rattle.rules.specs.Refusal.{unexpected, import_source as oddSource, import_options}
use Rattle.rules.specs.State.{Given, State, Result, Reader, read, refuse, refused, then, next, stands, first, end, spelling, make, turns}
use Rattle.rules.specs.List.{count}
use Rattle.rules.specs.Names.{dots_from, dotted}
use Rattle.rules.specs.Arguments.{arguments, named, import_from, import_type}
use Rattle.rules.specs.Primary.{query}
use Rattle.parts.specs.Arguments.{Naming, reference, typeof, import, names_of, name_count, name_choices, name_scale, named_node, import_head, dotted_head, naming_head}
use Rattle.primaries.specs.Onward.{name_at}
use Rattle.marks.specs.Node.{opt_list, list_scale}
use Rattle.marks.specs.Says.{is_there}
use Rattle.marks.specs.Laid.{skeleton, runs_opt, names_run, AllOpt, Spoken, Shape}
use Rattle.marks.proofs.RunLaws.{skeleton_join, called_names}
use Rattle.marks.proofs.ShapeLaws.{skeleton_maybe_list, packed_maybe_list}
use Rattle.marks.proofs.BuiltLaws.{laid_spoken}
use Rattle.marks.specs.declared.state.Mark.{Mark}

module _ (g : Given) (T : Reader) (b : ℕ) where
  -- The arguments of what begins with such names, and its node.
  abbrev pub behind_names : Naming → State → Result Placed
  behind_names x q = then (arguments g T q) λ ts q. make g (name_count x ∷ count ts ∷ []) (named_node b (end g q) x ts) q

  reference_step : (s : State) → named g T node.reference b s ≡ then (dotted_head g reference s) behind_names
  unfolding named
  reference_step s = by (dotted g s)
    where
      by : (l : Result (List Spelling)) → then l (λ l q. behind_names (reference l) q) ≡ then (then l (λ l q. read (reference l) q)) behind_names
      by (read l q) = refl
      by (refuse n i h) = refl

  typeof_step : (s : State) → named g T node.typeof b s ≡ then (dotted_head g typeof s) behind_names
  unfolding named
  typeof_step s = by (dotted g s)
    where
      by : (l : Result (List Spelling)) → then l (λ l q. behind_names (typeof l) q) ≡ then (then l (λ l q. read (typeof l) q)) behind_names
      by (read l q) = refl
      by (refuse n i h) = refl

  import_step : (i : Bool) (s : State) → stands g Import s ≡ true → import_type g T b i s ≡ then (import_head g i (next s)) behind_names
  unfolding import_type import_from
  import_step i s e =
      ap (λ (t : Bool). test t (λ _. whole i (next s)) (λ _. refused unexpected s)) e
      ∙ by (stands g LParen (next s)) (stands g Str p) (stands g Comma (next p)) (stands g RParen (next p))
    where
      p : State
      p = next (next s)

      whole : Bool → State → Result Placed
      whole i s =
          test (stands g LParen s) (λ _. test (stands g Str (next s)) (λ _. import_from g T b i (spelling g (next s)) (next (next s))) λ _. refused oddSource (next s)) λ _.
          refused unexpected s

      dots : (l : Result (List Spelling))
          → then l (λ l q. behind_names (import i (spelling g p) l) q) ≡ then (then l (λ l q. read (import i (spelling g p) l) q)) behind_names
      dots (read l q) = refl
      dots (refuse n j h) = refl

      by : (a b c d : Bool)
          → test a (λ _. test b (λ _. test c (λ _. refused import_options (next p)) λ _. test d (λ _. then (dots_from g (turns g) [] (next (next p))) λ l q. behind_names (import i (spelling g p) l) q) λ _. refused unexpected (next p)) λ _. refused oddSource p) (λ _. refused unexpected (next s))
          ≡ then
          (then (test a (λ _. test b (λ _. test c (λ _. refused import_options (next p)) λ _. test d (λ _. read (spelling g p) (next (next p))) λ _. refused unexpected (next p)) λ _. refused oddSource p) (λ _. refused unexpected (next s)))
          (λ x q. then (dots_from g (turns g) [] q) λ l q. read (import i x l) q)) behind_names
      by false b c d = refl
      by true false c d = refl
      by true true true d = refl
      by true true false false = refl
      by true true false true = dots (dots_from g (turns g) [] (next (next p)))

-- The whole of what begins with a name, typeof or import.
pub name_at_lem : (g : Given) (T : Reader) (s : State) → name_at g T s ≡ then (naming_head g s) (behind_names g T (first g s))
unfolding name_at query
name_at_lem g T s = by (stands g Typeof s) (stands g Import (next s)) (stands g Import s) refl refl
  where
    on : Naming → State → Result Placed
    on = behind_names g T (first g s)

    by : (a b c : Bool) → stands g Import (next s) ≡ b → stands g Import s ≡ c
        → test a (λ _. test b (λ _. import_type g T (first g s) true (next s)) λ _. named g T node.typeof (first g s) (next s)) (λ _.
        test c (λ _. import_type g T (first g s) false s) λ _. named g T node.reference (first g s) s)
        ≡ then (test a (λ _. test b (λ _. import_head g true (next (next s))) (λ _. dotted_head g typeof (next s))) λ _.
        test c (λ _. import_head g false (next s)) λ _. dotted_head g reference s) on
    by true true c e f = import_step g T (first g s) true (next s) e
    by true false c e f = typeof_step g T (first g s) (next s)
    by false b true e f = import_step g T (first g s) false s f
    by false b false e f = reference_step g T (first g s) s

-- ---- How many names there are

-- Names that were spoken are counted.
pub spoken_count : {l : List Spelling} {m q : Mark} {M M' : List ℕ} → Spoken l m q M M' → q.named ≡ m.named + length l
spoken_count {l} {m} s = (laid_spoken [] [] s).named_is ∙ ap (λ (n : ℕ). m.named + n) (called_names l)

-- ---- The node

-- The tag of such a node, and what stands behind it.
abbrev pub name_tag : Naming → ℕ
name_tag (reference l) = 1
name_tag (typeof l) = 17
name_tag (import b x l) = 18

abbrev pub name_content : Naming → Opt (List Placed) → Placed
name_content (reference l) ts = join (listed_names l) (maybe_list ts)
name_content (typeof l) ts = join (listed_names l) (maybe_list ts)
name_content (import i x l) ts = join (bit i) (join (spell x) (join (listed_names l) (maybe_list ts)))

pub named_tree : (b e : ℕ) (x : Naming) (ts : Opt (List Placed)) → named_node b e x ts ≡ tree (name_tag x) b e (name_content x ts)
named_tree b e (reference l) ts = refl
named_tree b e (typeof l) ts = refl
named_tree b e (import i x l) ts = refl

length_spellings : (l : List Spelling) → length (spellings l) ≡ length l
length_spellings [] = refl
length_spellings (s ∷ l) = ap suc (length_spellings l)

-- Names stand in a node whatever form they are of.
plant_spellings : (f : Form) (l : List Spelling) (r : Run) → plant node_table f (entries (spellings l)) r ≡ names_run l ⊕ r
plant_spellings f [] r = refl
plant_spellings f (s ∷ l) r = ap (name s.0 s.1) (plant_spellings (right f) l r)

packed_names : (l : List Spelling) (r : Run) → packed (names_run l ⊕ r) ≡ packed r
packed_names [] r = refl
packed_names (s ∷ l) r = packed_names l r

-- What the arguments put into a node.
abbrev argued : Opt (List Placed) → Run
argued ts = plant node_table (opt (args count_width)) (maybe_list ts) done

argued_same : (ts : Opt (List Placed)) → skeleton (argued ts) ≡ skeleton (runs_opt 0 ts)
argued_same ts = skeleton_maybe_list 0 ts done ∙ ap skeleton (join_done (runs_opt 0 ts))

argued_packed : (ts : Opt (List Placed)) → AllOpt 0 ts → packed (argued ts) ≡ opt_list (is_there ts) (count ts)
argued_packed ts h = packed_maybe_list 0 ts done h ∙ (let e : (n k : ℕ) → n + k * 0 ≡ n = λ n k. omega arith in e (opt_list (is_there ts) (count ts)) (list_scale (is_there ts)))

-- What a list of names and the arguments put into a node.
listed_same : (f : Form) (l : List Spelling) (ts : Opt (List Placed)) → skeleton (plant node_table f (entries (spellings l)) (argued ts)) ≡ skeleton (names_run l ⊕ runs_opt 0 ts)
listed_same f l ts =
    ap skeleton (plant_spellings f l (argued ts)) ∙ skeleton_join (names_run l) (argued ts)
    ∙ ap (λ (r : Run). skeleton (names_run l) ⊕ r) (argued_same ts) ∙ sym (skeleton_join (names_run l) (runs_opt 0 ts))

listed_packed : (f : Form) (l : List Spelling) (ts : Opt (List Placed)) → AllOpt 0 ts
    → packed (plant node_table f (entries (spellings l)) (argued ts)) ≡ opt_list (is_there ts) (count ts)
listed_packed f l ts h = ap packed (plant_spellings f l (argued ts)) ∙ packed_names l (argued ts) ∙ argued_packed ts h

-- Its names, children and choices.
pub named_shape : (x : Naming) (ts : Opt (List Placed)) → AllOpt 0 ts
    → Shape 0 (name_tag x) (name_content x ts) (names_run (names_of x) ⊕ runs_opt 0 ts) (name_choices x + name_scale x * (name_count x + counts * opt_list (is_there ts) (count ts)))
named_shape (reference l) ts h =
    record { same = listed_same _ l ts; choices_are = omega (arith, listed_packed (when (leb 1 (length (spellings l))) (times (length (spellings l)) spellingForm)) l ts h, length_spellings l); allowed_is = tt }
named_shape (typeof l) ts h =
    record { same = listed_same _ l ts; choices_are = omega (arith, listed_packed (when (leb 1 (length (spellings l))) (times (length (spellings l)) spellingForm)) l ts h, length_spellings l); allowed_is = tt }
named_shape (import i x l) ts h =
    record {
      same = ap (name x.0 x.1) (listed_same _ l ts);
      choices_are = omega (arith, listed_packed (when (leb 0 (length (spellings l))) (times (length (spellings l)) spellingForm)) l ts h, length_spellings l);
      allowed_is = tt;
    }
