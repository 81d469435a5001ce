-- A node over the name alone, or over its constraint too.
use mathlib.Core.Path.{refl, sym, subst}
use mathlib.Core.Bool.{Bool}
use mathlib.Core.List.{[], ◌∷◌}
use Rattle.keys.specs.Store.{◌⊕◌}
use Rattle.keys.specs.Placed.{present, absent, join, spell, maybe}
use Rattle.marks.specs.Laid.{name_run, run_in}
use Rattle.marks.proofs.BuiltLaws.{built_names, built_one}
use Rattle.operators.proofs.InferLaws.{shape_infer, shape_constrained}
use Rattle.marks.specs.Told.{told}
use Rattle.operators.specs.Infer.{Infers}
use Rattle.marks.proofs.LeafLaws.{makes_at}
use Rattle.operators.proofs.infer.infer_node.Goals as goal

pub returns-then-is_dropped-clause-infers : goal.returns-then-is_dropped-clause-infers
returns-then-is_dropped-clause-infers c =
    subst (λ (d : Bool). Infers c.args.words.now c.args.given c.args.b d c.args.high c.args.m c.args.q c.args.nodes.now (told c.put.result) c.put.new.nodes) (sym c.if-is_dropped.true)
    (λ text B s M O n l.
    makes_at c.args.words.now c.args.given c.args.b 10 {q = c.args.m} c.args.nodes.now (told c.put.result) c.put.new.nodes c.none.ensures refl c.put.ensures.makes text 0 B (name_run s) 10 (join (spell s) (maybe absent)) M O (built_names (s ∷ []) l) n (shape_infer s))

pub returns-clause-infers : goal.returns-clause-infers
returns-clause-infers c =
    subst (λ (d : Bool). Infers c.args.words.now c.args.given c.args.b d c.args.high c.args.m c.args.q c.args.nodes.now (told c.put_about.result) c.put_about.new.nodes) (sym c.if-is_dropped.false)
    (λ text B s u M O n i h l.
    c.put_about.ensures.makes_about text 0 B (name_run s ⊕ run_in 0 u) 10 (join (spell s) (maybe (present u))) M O (built_one (s ∷ []) i h l) n (shape_constrained s i))
