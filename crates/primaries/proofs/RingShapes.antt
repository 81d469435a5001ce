-- The shapes of the nodes that the readers put themselves.
use mathlib.Core.Path.{◌≡◌, refl, sym, ap, ◌∙◌}
use mathlib.Core.Bool.{Bool, true, false}
use mathlib.Core.List.{List, [], ◌∷◌, ◌++◌}
use Prim.Native.Nat.{ℕ, suc, ◌+◌, ◌*◌}
use native.Mathlib.Omega.{arith}
use lib.ListN.{length}
use Rattle.keys.specs.Limits.{tags, counts}
use Rattle.keys.specs.Bits.{unit}
use Rattle.keys.specs.Key.{node_table}
use Rattle.keys.specs.Table.{times, type, spelling, ◌⊗◌}
use Rattle.keys.specs.Placed.{Placed, join, pick, spell, maybe, subject_of, listed, entries, pieces, Spelling, Opt, absent, present}
use Rattle.keys.specs.Store.{Run, done, name, plant, packed, ◌⊕◌}
use Rattle.keys.proofs.StoreLaws.{join_join}
use Rattle.marks.specs.Laid.{skeleton, run_in, run_opt, runs, name_run, names_run, IsNode, node, IsOpt, AllNodes, Shape, opt_bit}
use borrow.Author.Tests.{le-leb}
use Rattle.marks.specs.Says.{opt_names}
use Rattle.primaries.specs.Primary.{predicate_choices}
use Rattle.marks.proofs.ShapeLaws.{shape_list, shows}

-- A type of a conditional, a union, an intersection.
pub shape_conditional : {a b c d : Placed} → IsNode 0 a → IsNode 0 b → IsNode 0 c → IsNode 0 d
    → Shape 0 9 (join a (join b (join c d))) (((run_in 0 a ⊕ run_in 0 b) ⊕ run_in 0 c) ⊕ run_in 0 d) 9
shape_conditional (node w) (node x) (node y) (node z) = record { same = refl; choices_are = refl; allowed_is = tt }

pub shape_union : (t : Placed) (l : List Placed) → AllNodes 0 (t ∷ l) → Shape 0 5 (listed (t ∷ l)) (runs 0 (t ∷ l)) (5 + tags * length (t ∷ l))
shape_union t l h = shape_list 5 0 1 (t ∷ l) refl tt (le-leb 1 (length (t ∷ l)) (omega arith)) h

pub shape_intersection : (t : Placed) (l : List Placed) → AllNodes 0 (t ∷ l) → Shape 0 6 (listed (t ∷ l)) (runs 0 (t ∷ l)) (6 + tags * length (t ∷ l))
shape_intersection t l h = shape_list 6 0 1 (t ∷ l) refl tt (le-leb 1 (length (t ∷ l)) (omega arith)) h

-- Whether the subject of a predicate is this.
abbrev pub is_this : Opt Spelling → Bool
is_this absent = true
is_this (present s) = false

pub shape_predicate : (asserts : Bool) (s : Opt Spelling) (t : Opt Placed) → IsOpt 0 t
    → Shape 0 16 (pick (unit asserts) (join (subject_of s) (maybe t))) (names_run (opt_names s) ⊕ run_opt 0 t) (predicate_choices asserts (is_this s) + 256 * opt_bit t)
shape_predicate true absent absent i = record { same = refl; choices_are = refl; allowed_is = tt }
shape_predicate false absent absent i = record { same = refl; choices_are = refl; allowed_is = tt }
shape_predicate true (present s) absent i = record { same = refl; choices_are = refl; allowed_is = tt }
shape_predicate false (present s) absent i = record { same = refl; choices_are = refl; allowed_is = tt }
shape_predicate true absent (present t) (node {tag = k} {first = f} {end = e} {p = p} a) = record { same = refl; choices_are = refl; allowed_is = tt }
shape_predicate false absent (present t) (node {tag = k} {first = f} {end = e} {p = p} a) = record { same = refl; choices_are = refl; allowed_is = tt }
shape_predicate true (present s) (present t) (node {tag = k} {first = f} {end = e} {p = p} a) = record { same = refl; choices_are = refl; allowed_is = tt }
shape_predicate false (present s) (present t) (node {tag = k} {first = f} {end = e} {p = p} a) = record { same = refl; choices_are = refl; allowed_is = tt }

-- ---- Templates

-- The types of a template, each with the name behind it.
abbrev pub piece_runs : List (Placed × Spelling) → Run
piece_runs [] = done
piece_runs (p ∷ l) = run_in 0 p.0 ⊕ name p.1.0 p.1.1 (piece_runs l)

-- Each type is a node.
abbrev pub AllPieces : List (Placed × Spelling) → Type 0
AllPieces [] = Unit {0}
AllPieces (p ∷ l) = IsNode 0 p.0 × AllPieces l

pub pieces_join : (l : List (Placed × Spelling)) (t : Placed) (s : Spelling) → piece_runs (l ++ ((t, s) ∷ [])) ≡ (piece_runs l ⊕ run_in 0 t) ⊕ name_run s
pieces_join [] t s = refl
pieces_join (p ∷ l) t s =
    ap (λ (r : Run). run_in 0 p.0 ⊕ name p.1.0 p.1.1 r) (pieces_join l t s)
    ∙ sym (ap (λ (r : Run). r ⊕ name_run s) (join_join (run_in 0 p.0) (name p.1.0 p.1.1 (piece_runs l)) (run_in 0 t))
    ∙ join_join (run_in 0 p.0) (name p.1.0 p.1.1 (piece_runs l ⊕ run_in 0 t)) (name_run s))

pub all_pieces : (l : List (Placed × Spelling)) {t : Placed} (s : Spelling) → AllPieces l → IsNode 0 t → AllPieces (l ++ ((t, s) ∷ []))
all_pieces [] s h i = (i, tt)
all_pieces (p ∷ l) s h i = (h.0, all_pieces l s h.1 i)

plant_pieces : (l : List (Placed × Spelling)) → AllPieces l
    → (skeleton (plant node_table (times (length l) (type ⊗ spelling)) (entries (pieces l)) done) ≡ skeleton (piece_runs l))
    × (packed (plant node_table (times (length l) (type ⊗ spelling)) (entries (pieces l)) done) ≡ 0)
plant_pieces [] h = (refl, refl)
plant_pieces (p ∷ l) h = by h.0 (plant_pieces l h.1)
  where
    by : {t : Placed} → IsNode 0 t
        → (skeleton (plant node_table (times (length l) (type ⊗ spelling)) (entries (pieces l)) done) ≡ skeleton (piece_runs l))
        × (packed (plant node_table (times (length l) (type ⊗ spelling)) (entries (pieces l)) done) ≡ 0)
        → (skeleton (plant node_table (times (suc (length l)) (type ⊗ spelling)) (join (join t (spell p.1)) (entries (pieces l))) done) ≡ skeleton (run_in 0 t ⊕ name p.1.0 p.1.1 (piece_runs l)))
        × (packed (plant node_table (times (suc (length l)) (type ⊗ spelling)) (join (join t (spell p.1)) (entries (pieces l))) done) ≡ 0)
    by (node {tag = tag} {first = f} {end = e} {p = q} a) r =
        (ap (λ (x : Run). Rattle.keys.specs.Store.kid f e (Rattle.keys.specs.Store.chose 6 tag (plant node_table (node_table.row 0 tag) q done)) (name p.1.0 p.1.1 x)) r.0, r.1)

pub shape_template : (s : Spelling) (l : List (Placed × Spelling)) → AllPieces l
    → Shape 0 15 (pick (length l) (join (spell s) (entries (pieces l)))) (name_run s ⊕ piece_runs l) (15 + tags * length l)
shape_template s l h =
    let b = plant_pieces l h in
    record {
      same = ap (name s.0 s.1) b.0;
      choices_are =
          (let z : 15 + tags * length l ≡ 15 + tags * (length l + counts * 0) = omega arith in z)
          ∙ ap (λ (n : ℕ). 15 + tags * (length l + counts * n)) (sym b.1);
      allowed_is = shows (packed (plant node_table (node_table.row 0 15) (pick (length l) (join (spell s) (entries (pieces l)))) done)) (length l) (omega (arith, b.1));
    }
