-- The children of a node, as any reader builds them: one tree, names, a type that may be absent.
use mathlib.Core.Path.{◌≡◌, refl, sym, ap, ◌∙◌, subst}
use mathlib.Core.Bool.{true, false}
use mathlib.Core.List.{List, [], ◌∷◌}
use Prim.Native.Nat.{ℕ, ◌+◌, max}
use native.Mathlib.Omega.{arith}
use lib.ListN.{length}
use Rattle.keys.specs.Bits.{unit}
use Rattle.keys.specs.Placed.{Placed, tree, Spelling, absent, present}
use Rattle.keys.specs.Store.{Run, first_kid, under, ◌⊕◌}
use Rattle.keys.proofs.StoreLaws.{first_kid_join, join_done}
use Rattle.rules.specs.State as rule
use Rattle.rules.specs.State.{Given, State, Result, refuse, next, stands, optional, make}
use Rattle.marks.specs.State.{view}
use Rattle.marks.specs.Laid.{heights, run_in, name_run, names_run, Was, was, was_at, Laid, Built, BuiltAt, Stands, Spoken, Shape}
use Rattle.marks.specs.Says.{Says, GotBound, SaysChild, SaysOption}
use Rattle.marks.specs.Node.{Links}
use Rattle.marks.proofs.Answers.{then_read_lem, then_refused}
use Rattle.parts.proofs.RingLaws.{optional_none, optional_some}
use Rattle.marks.proofs.RunLaws.{heights_join, heights_names, first_names_lem}
use Rattle.marks.proofs.LaidLaws.{laid_on}
use Rattle.marks.proofs.BuiltLaws.{built_names, built_one, laid_spoken}
use Rattle.marks.proofs.BoundLaws.{laid_bound}
use Rattle.marks.proofs.LeafLaws.{no_kids, one_kid}
use Rattle.marks.specs.declared.state.Mark.{Mark}
use Rattle.marks.specs.declared.state.Kids.{Kids}
use Rattle.marks.specs.Told.{Answer}
use Rattle.marks.specs.Told.{Listed}

-- The same children under another name.
pub built_as : {B : Was} {t : Run} {k l : Kids} {used named noted : ℕ} {N M O : List ℕ} → l ≡ k → Built B t k used named noted N M O → Built B t l used named noted N M O
built_as {B} {t} {k} {l} {used} {named} {noted} {N} {M} {O} e b = subst (λ (x : Kids). Built B t x used named noted N M O) (sym e) b

-- A tree that stands alone is the one child of what is being read.
pub built_child : {c high : ℕ} {B : Was} {u : Placed} {k : Kids} {m : Mark} {N M O : List ℕ} → k ≡ one_kid m.used high → Stands c B u high m N M O
    → BuiltAt B (run_in c u) k m N M O
built_child e s = built_as e (built_one [] s.is_node s.high_is s.laid)

-- Names alone were read.
pub built_spoken : {l : List Spelling} {k : Kids} {m q : Mark} {N M M' O : List ℕ} → k ≡ no_kids → Spoken l m q M M' → BuiltAt (was m N M O) (names_run l) k q N M' O
built_spoken {l} {N = N} {O = O} e s = built_as e (built_names l (laid_spoken N O s))

-- A name that is bound was read.
pub built_bound : {x : Result Spelling} {k : Kids} {m q : Mark} {N M O M' O' : List ℕ} → k ≡ no_kids → (w : GotBound x m q M O M' O')
    → BuiltAt (was m N M O) (name_run w.name) k q N M' O'
built_bound {N = N} e w = built_as e (built_names (w.name ∷ []) (laid_bound N w))

-- A type was read behind what is built, and linked.
pub child_read : {B : Was} {t : Run} {x : Result Placed} {a : Answer} {k k' : Kids} (m : Mark) {N M O N' M' O' N'' : List ℕ}
    → BuiltAt B t k m N M O → Says 0 (was m N M O) x a N' M' O' → a.why ≡ 0 → length N ≡ length N' → Links k m.used a.m.used a.high N' k' N''
    → SaysChild B t x (record { why = 0; there = true; kids = k'; m = a.m }) N'' M' O'
child_read {B} {t} m {N} {M} {O} {M' = M'} {O' = O'} b says z same links =
    let got = says.done z in
    record {
      done = λ _.
          record {
            tree = got.tree;
            is = got.is;
            is_node = got.stands.is_node;
            built = links 0 B t got.tree N M O M' O' m.named m.noted _ _ b same got.stands.is_node got.stands.high_is got.stands.laid;
          };
      refused = λ n. absurd (n refl);
    }

-- It is refused.
pub child_refused : {B : Was} {t : Run} {x : Result Placed} {l : Listed} {why : ℕ} {m : Mark} {N M O : List ℕ} → l ≡ record { why = why; there = false; kids = no_kids; m = m }
    → (why ≡ 0 → ⊥) → x ≡ refuse why m.at m.half → SaysChild B t x l N M O
child_refused {B} {t} {x} {N = N} {M = M} {O = O} e n i =
    subst (λ (y : Listed). SaysChild B t x y N M O) (sym e) (record { done = λ z. absurd (n z); refused = λ _. i })

-- An optional type is absent.
pub option_absent : (g : rule.Given) (mark : ℕ) (part : State → Result Placed) {B : Was} {t : Run} {k : Kids} (m : Mark) {N M O : List ℕ}
    → stands g mark (view m O) ≡ false → BuiltAt B t k m N M O
    → SaysOption B t (optional g mark part (view m O)) (record { why = 0; there = false; kids = k; m = m }) N M O
option_absent g mark part {B} {t} {k} m {N} {M} {O} h b =
    record {
      done = λ _.
          record {
            tree = absent;
            is = optional_none g mark part (view m O) h;
            is_opt = tt;
            there_is = refl;
            built = subst (λ (r : Run). BuiltAt B r k m N M O) (sym (join_done t)) b;
          };
      refused = λ n. absurd (n refl);
    }

-- It is there, behind its mark.
pub option_there : (g : rule.Given) (mark : ℕ) (part : State → Result Placed) {B : Was} {t : Run} {l : Listed} (m : Mark) (O : List ℕ) {N' M' O' : List ℕ}
    → stands g mark (view m O) ≡ true → (l.why ≡ 0 → l.there ≡ true) → SaysChild B t (part (next (view m O))) l N' M' O'
    → SaysOption B t (optional g mark part (view m O)) l N' M' O'
option_there g mark part m O h there says =
    record {
      done = λ z.
          let got = says.done z in
          record {
            tree = present got.tree;
            is = optional_some g mark part (view m O) h ∙ then_read_lem _ got.is;
            is_opt = got.is_node;
            there_is = ap unit (there z);
            built = got.built;
          };
      refused = λ n. optional_some g mark part (view m O) h ∙ then_refused _ (says.refused n);
    }

-- Names behind what is built are no children.
pub built_named : {B : Was} {t : Run} {k : Kids} {m q : Mark} {N M M' O : List ℕ} (ss : List Spelling) → Spoken ss m q M M' → BuiltAt B t k m N M O
    → BuiltAt B (t ⊕ names_run ss) k q N M' O
built_named {B} {t} {N = N} {O = O} ss s b =
    record {
      laid = s.on B t N O b.laid;
      first_is = b.first_is ∙ sym (first_kid_join t (names_run ss) B.used 0 ∙ ap (first_kid t B.used) (first_names_lem ss (B.used + under t) 0));
      high_is =
          b.high_is ∙ (let z : heights t ≡ max (heights t) 0 = omega arith in z) ∙ ap (max (heights t)) (sym (heights_names ss)) ∙ sym (heights_join t (names_run ss));
    }

-- The children that were built since stand behind names alone.
pub built_behind : {B : Was} (ss : List Spelling) {u : Run} {k : Kids} {used named noted used' named' noted' : ℕ} {N M O N' M' O' : List ℕ}
    → Laid B (names_run ss) used named noted N M O → Built (was_at used named noted N M O) u k used' named' noted' N' M' O'
    → Built B (names_run ss ⊕ u) k used' named' noted' N' M' O'
built_behind {B} ss {u} d b =
    record {
      laid = laid_on ss d b.laid;
      first_is =
          b.first_is ∙ ap (λ (n : ℕ). first_kid u n 0) d.used_is
          ∙ sym (first_names_lem ss B.used (first_kid u (B.used + under (names_run ss)) 0)) ∙ sym (first_kid_join (names_run ss) u B.used 0);
      high_is =
          b.high_is ∙ (let z : heights u ≡ max 0 (heights u) = omega arith in z) ∙ ap (λ (n : ℕ). max n (heights u)) (sym (heights_names ss))
          ∙ sym (heights_join (names_run ss) u);
    }

-- A shape under an equal number of choices.
pub shape_as : {c tag : ℕ} {p : Placed} {t : Run} {n k : ℕ} → k ≡ n → Shape c tag p t n → Shape c tag p t k
shape_as {c} {tag} {p} {t} e s = subst (λ (y : ℕ). Shape c tag p t y) (sym e) s

-- A node under an equal first byte.
pub make_first : (g : Given) (tag : ℕ) {b c : ℕ} (e : ℕ) (p : Placed) (s : State) → c ≡ b → make g [] (tree tag b e p) s ≡ make g [] (tree tag c e p) s
make_first g tag e p s i = ap (λ (n : ℕ). make g [] (tree tag n e p) s) (sym i)
