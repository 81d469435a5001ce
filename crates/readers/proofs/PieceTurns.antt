-- A template, turn by turn: begun, a type and the name behind it, refused, ended.
use mathlib.Core.Path.{◌≡◌, refl, sym, ap, ◌∙◌, subst}
use mathlib.Core.Bool.{true, false}
use mathlib.Core.List.{List, [], ◌∷◌, ◌++◌}
use Prim.Native.Nat.{ℕ, suc, ◌+◌, ◌-◌, ◌*◌, ◌≤◌, ◌<◌}
use native.Mathlib.Omega.{arith}
use lib.Dec.{eqb}
use lib.ListN.{length, length-append}
use Rattle.words.specs.Kind.{TemplateHead, TemplateMiddle, TemplateTail}
use Rattle.words.specs.Cursor.{kind_at}
use Rattle.keys.specs.Placed as node
use Rattle.keys.specs.Placed.{Placed, Spelling}
use Rattle.keys.specs.Store.{Run, name, ◌⊕◌}
use Rattle.rules.specs.Refusal.{unexpected}
use Rattle.rules.specs.State as rule
use Rattle.rules.specs.State.{State, Result, Reader, refuse, then, next, first, end, spelling, turns, make}
use Rattle.rules.specs.Template as template
use Rattle.marks.specs.State.{view, given_of, named_mark}
use Rattle.marks.specs.Laid.{name_run, names_run, Was, was, Laid, BuiltAt, Spoken}
use Rattle.marks.specs.Says.{GotChild, Says}
use Rattle.marks.specs.Node.{MakesList}
use Rattle.marks.proofs.Answers.{says_same, then_read_lem, then_refused}
use Rattle.marks.proofs.BuiltLaws.{built_names, laid_spoken}
use Rattle.marks.proofs.LeafLaws.{no_kids}
use Rattle.parts.proofs.RingLaws.{end_template, template_is, behind_piece, pieces_is}
use Rattle.primaries.proofs.RingShapes.{piece_runs, pieces_join, all_pieces, shape_template}
use Rattle.parts.proofs.Turns.{PieceTurn}
use Rattle.marks.specs.declared.state.Given.{Given}
use Rattle.marks.specs.declared.state.Mark.{Mark}
use Rattle.marks.specs.declared.state.Begin.{Begin}
use Rattle.marks.specs.declared.state.Kids.{Kids}
use Rattle.marks.specs.Told.{Answer}
use Rattle.readers.proofs.Loops.{pieces_of}
use Rattle.readers.proofs.ChildLaws.{built_named, shape_as}

-- The first name of a template stands.
pub laid_head : {ss : List Spelling} (m : Mark) {q : Mark} {N M M' O : List ℕ} → q ≡ named_mark m → Spoken ss m (named_mark m) M M'
    → Laid (was m N M O) (names_run ss) q.used q.named q.noted N M' O
laid_head {ss} m {N = N} {M = M} {M' = M'} {O = O} e s =
    subst (λ (y : Mark). Laid (was m N M O) (names_run ss) y.used y.named y.noted N M' O) (sym e) (laid_spoken N O s)

-- The pieces begin behind it.
pub pieces_start : {A : Type 0} {len : ℕ} {B : Was} {s : Spelling} {L : ℕ → List (Placed × Spelling) → State → Result A} {k : Kids} (p : Mark) {N M O : List ℕ}
    → k ≡ no_kids → Laid B (name_run s) p.used p.named p.noted N M O
    → PieceTurn len B s L (L (suc len) [] (view p O)) k.count k p N M O
pieces_start {A} {len} {B} {s} {L} p {N} {M} {O} e d =
    subst (λ (y : Kids). PieceTurn len B s L (L (suc len) [] (view p O)) y.count y p N M O) (sym e)
    (record {
      list = [];
      fuel = len;
      enough = omega arith;
      is = refl;
      each = tt;
      many_is = refl;
      built = built_names (s ∷ []) d;
    })

module _ (text W : List ℕ) (given : Given) (T : Reader) where
  -- What the reading is given.
  abbrev gave : rule.Given
  gave = given_of text W given

  -- The rule behind the first name.
  pub template_starts : (m : Mark) (q : Mark) (O : List ℕ) → q ≡ named_mark m → kind_at W m.at m.half ≡ TemplateHead
      → template.template gave T (view m O) ≡ pieces_of gave T (view m O) (turns gave) [] (view q O)
  template_starts m q O e h =
      template_is gave T (view m O) h ∙ ap (λ (y : Mark). pieces_of gave T (view m O) (turns gave) [] (view y O)) (sym e)

  module _ (s : State) {B : Was} {x : Result Placed} {k : Kids} (p : Mark) {N M O : List ℕ}
      (w : PieceTurn (length W) B (spelling gave s) (pieces_of gave T s) x k.count k p N M O) where
    -- A type is refused.
    pub pieces_refused : {n i h : ℕ} → T true (view p O) ≡ refuse n i h → x ≡ refuse n i h
    pieces_refused e =
        w.is ∙ then_refused (end_template gave T s) (pieces_is gave T w.fuel w.list (view p O) ∙ then_refused (behind_piece gave T w.fuel w.list) e)

    module _ (q : Mark) {k' : Kids} {N' M' O' : List ℕ} (got : GotChild B (name_run (spelling gave s) ⊕ piece_runs w.list) (T true (view p O)) k' q N' M' O') where
      -- What is due behind a type.
      abbrev behind : ℕ → Result Placed
      behind n = then (behind_piece gave T n w.list got.tree (view q O')) (end_template gave T s)

      -- The pieces with one more.
      abbrev more : List (Placed × Spelling)
      more = w.list ++ ((got.tree, spelling gave (view q O')) ∷ [])

      -- What follows a type.
      follows : x ≡ behind w.fuel
      follows =
          w.is ∙ ap (λ (y : Result (List (Placed × Spelling))). then y (end_template gave T s))
          (pieces_is gave T w.fuel w.list (view p O) ∙ then_read_lem (behind_piece gave T w.fuel w.list) got.is)

      -- No name of a template stands behind it.
      pub pieces_stop : eqb (kind_at W q.at q.half) TemplateMiddle ≡ false → eqb (kind_at W q.at q.half) TemplateTail ≡ false → x ≡ refuse unexpected q.at q.half
      pieces_stop a b = follows ∙ rw (a, b)

      -- A name in the middle follows, or the last one.
      middle : (n : ℕ) → kind_at W q.at q.half ≡ TemplateMiddle → behind n ≡ pieces_of gave T s n more (next (view q O'))
      middle n e = rw e

      tail : (n : ℕ) → kind_at W q.at q.half ≡ TemplateTail → behind n ≡ end_template gave T s more (next (view q O'))
      tail n e = rw e

      module _ {r : Mark} {M'' : List ℕ} (many : k'.count ≡ k.count + 1)
          (r-is : r ≡ named_mark q) (spoken : Spoken (spelling gave (view q O') ∷ []) q (named_mark q) M' M'') where
        -- One type and one name more are built.
        more_built : BuiltAt B (name_run (spelling gave s) ⊕ piece_runs more) k' r N' M'' O'
        more_built =
            subst (λ (y : Mark). BuiltAt B (name_run (spelling gave s) ⊕ piece_runs more) k' y N' M'' O') (sym r-is)
            (subst (λ (y : Run). BuiltAt B y k' (named_mark q) N' M'' O')
            (ap (name (spelling gave s).0 (spelling gave s).1) (sym (pieces_join w.list got.tree (spelling gave (view q O')))))
            (built_named (spelling gave (view q O') ∷ []) spoken got.built))

        -- They are as many as were counted.
        more_many : k'.count ≡ length more
        more_many = omega (arith, many, w.many_is, length-append w.list ((got.tree, spelling gave (view q O')) ∷ []))

        -- The template goes on.
        pub pieces_again : kind_at W q.at q.half ≡ TemplateMiddle → p.at < length W → p.at ≤ q.at
            → PieceTurn (length W) B (spelling gave s) (pieces_of gave T s) x k'.count k' r N' M'' O'
        pieces_again e i j =
            let fuel-is : w.fuel ≡ suc (w.fuel - 1) = omega (arith, w.enough) in
            let at_is : r.at ≡ q.at + 1 = ap (λ (y : Mark). y.at) r-is in
            record {
              list = more;
              fuel = w.fuel - 1;
              enough = omega (arith, w.enough);
              is =
                  follows ∙ middle w.fuel e ∙ ap (λ (n : ℕ). pieces_of gave T s n more (next (view q O'))) fuel-is
                  ∙ ap (λ (y : Mark). pieces_of gave T s (suc (w.fuel - 1)) more (view y O')) (sym r-is);
              each = all_pieces w.list (spelling gave (view q O')) w.each got.is_node;
              many_is = more_many;
              built = more_built;
            }

        -- The template ends.
        pub pieces_end : {b : Begin} {a : Answer} {N₃ : List ℕ} → kind_at W q.at q.half ≡ TemplateTail → b.first ≡ first gave s → b.name ≡ B.named
            → MakesList W given b 15 k' r N' a N₃ → Says 0 B x a N₃ M'' O'
        pieces_end {b} {a} {N₃} e f n makes =
            let put : ℕ → ℕ → Mark → Result Placed = λ c i y. make gave (c ∷ []) (node.template i (end gave (view y O')) (spelling gave s) more) (view y O') in
            says_same
            (follows ∙ tail w.fuel e ∙ ap (put (length more) (first gave s)) (sym r-is)
            ∙ ap (λ (i : ℕ). put (length more) i r) (sym f) ∙ ap (λ (c : ℕ). put c b.first r) (sym more_many))
            (makes text B (name_run (spelling gave s) ⊕ piece_runs more) _ M'' O' more_built n
            (shape_as (ap (λ (c : ℕ). 15 + 64 * c) more_many)
            (shape_template (spelling gave s) more (all_pieces w.list (spelling gave (view q O')) w.each got.is_node))))
