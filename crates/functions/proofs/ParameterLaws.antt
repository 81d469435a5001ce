-- Parameters and type parameters: the shapes of their nodes, the bits of a `this`, and the list turn by turn.
use mathlib.Core.Path.{◌≡◌, refl, sym, ap, ◌∙◌}
use mathlib.Core.Bool.{Bool}
use mathlib.Core.List.{[], ◌∷◌}
use Prim.Native.Nat.{ℕ, ◌+◌, ◌*◌}
use native.Mathlib.Omega.{arith}
use Rattle.keys.specs.Bits.{unit}
use Rattle.keys.specs.Form.{child}
use Rattle.keys.specs.Key.{node_table}
use Rattle.keys.specs.Table.{opt}
use Rattle.keys.specs.Placed.{Placed, join, Spelling, Opt, absent, present, spell, bit, maybe}
use Rattle.keys.specs.Store.{Run, done, name, plant, ◌⊕◌}
use Rattle.keys.proofs.StoreLaws.{join_done}
use Rattle.marks.specs.Laid.{skeleton, run_opt, names_run, IsOpt, Shape, opt_bit}
use Rattle.functions.specs.Function.{type_bits}
use Rattle.marks.proofs.RunLaws.{skeleton_join}
use Rattle.marks.proofs.ShapeLaws.{skeleton_maybe, packed_maybe}

-- ---- The bits of a `this`

-- The bits of a `this` by its type.
pub type_bits_lem : (u : Opt Placed) → IsOpt 0 u → 1 + 2 * opt_bit u ≡ type_bits u
type_bits_lem absent h = refl
type_bits_lem (present u) h = refl

-- ---- The shapes

pub shape_type_parameter : (s : Spelling) (x d : Opt Placed) → IsOpt 0 x → IsOpt 0 d
    → Shape 4 0 (join (spell s) (join (maybe x) (maybe d))) ((names_run (s ∷ []) ⊕ run_opt 0 x) ⊕ run_opt 0 d) (opt_bit x + 2 * opt_bit d)
shape_type_parameter s x d h k =
    let last : Run = plant node_table (opt (child 0)) (maybe d) done in
    record {
      same =
          ap (name s.0 s.1)
          (skeleton_maybe x last ∙ skeleton_join (run_opt 0 x) last
          ∙ ap (λ (r : Run). skeleton (run_opt 0 x) ⊕ r) (skeleton_maybe d done ∙ ap skeleton (join_done (run_opt 0 d)))
          ∙ sym (skeleton_join (run_opt 0 x) (run_opt 0 d)));
      choices_are =
          (let e : opt_bit x + 2 * opt_bit d ≡ 0 + 1 * (opt_bit x + 2 * (opt_bit d + 2 * 0)) = omega arith in e)
          ∙ ap (λ (n : ℕ). 0 + 1 * n) (sym (packed_maybe x last h ∙ ap (λ (n : ℕ). opt_bit x + 2 * n) (packed_maybe d done k)));
      allowed_is = tt;
    }

pub shape_parameter : (is_rest : Bool) (s : Spelling) (question : Bool) (t : Opt Placed) → IsOpt 0 t
    → Shape 5 0 (join (bit is_rest) (join (spell s) (join (bit question) (maybe t)))) (names_run (s ∷ []) ⊕ run_opt 0 t)
    (unit is_rest + 2 * unit question + 4 * opt_bit t)
shape_parameter is_rest s question t h =
    record {
      same = ap (name s.0 s.1) (skeleton_maybe t done ∙ ap skeleton (join_done (run_opt 0 t)));
      choices_are =
          (let e : unit is_rest + 2 * unit question + 4 * opt_bit t ≡ 0 + 1 * (unit is_rest + 2 * (unit question + 2 * (opt_bit t + 2 * 0))) = omega arith in e)
          ∙ ap (λ (n : ℕ). 0 + 1 * (unit is_rest + 2 * (unit question + 2 * n))) (sym (packed_maybe t done h));
      allowed_is = tt;
    }
