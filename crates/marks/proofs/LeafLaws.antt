-- Nodes with no child or one, once they are put: their numbers, and what the answer says.
use mathlib.Core.Path.{◌≡◌, sym, ap, subst}
use mathlib.Core.List.{List, [], ◌∷◌}
use Prim.Native.Nat.{ℕ, ◌-◌, ◌≤◌}
use native.Mathlib.Omega.{arith}
use Rattle.words.specs.Limits.{tallest}
use Rattle.words.specs.Cursor.{first_byte}
use Rattle.keys.specs.Placed.{Placed, tree, Spelling}
use Rattle.keys.specs.Store.{done}
use Rattle.rules.specs.State.{make, first, end, next, spelling}
use Rattle.marks.specs.State.{view, given_of, next_mark, named_mark, Spelt, Under}
use Rattle.marks.specs.Laid.{run_in, name_run, Was, was, Stands, Shape}
use Rattle.marks.specs.Says.{Says}
use Rattle.marks.specs.Node.{Makes}
use Rattle.marks.specs.Names.{Speaks}
use Rattle.marks.proofs.BuiltLaws.{built_none, built_names, built_one, laid_spoken}
use Rattle.marks.proofs.Answers.{says_same}
use Rattle.marks.specs.declared.state.Given.{Given}
use Rattle.marks.specs.declared.state.Mark.{Mark}
use Rattle.marks.specs.declared.state.Begin.{Begin}
use Rattle.marks.specs.declared.state.Kids.{Kids}
use Rattle.marks.specs.Told.{Answer}

-- ---- Numbers

abbrev pub no_kids : Kids
no_kids = record { first = 0; count = 0; high = 0 }

abbrev pub one_kid : ℕ → ℕ → Kids
one_kid used high = record { first = used - 1; count = 1; high = high }

pub under_one : (used high : ℕ) → 1 ≤ used → high ≤ tallest → Under used (one_kid used high)
under_one used high h l = record { first = omega arith; count = omega arith; some = omega arith; low = l }

-- ---- Nodes

pub makes_at : (W : List ℕ) (given : Given) (b : Begin) (choices : ℕ) {k l : Kids} {q p : Mark} (N : List ℕ) (a : Answer) (N' : List ℕ) → k ≡ l → q ≡ p
    → Makes W given b choices k q N a N' → Makes W given b choices l p N a N'
makes_at W given b choices {k} {l} {q} {p} N a N' d e w =
    subst (λ (x : Mark). Makes W given b choices l x N a N') e (subst (λ (x : Kids). Makes W given b choices x q N a N') d w)

module _ (W : List ℕ) (given : Given) (b : Begin) (choices : ℕ) (m : Mark) (N : List ℕ) (a : Answer) (N' : List ℕ) where
  -- One token that is no name.
  pub plain_says : {k : Kids} {q : Mark} {tag : ℕ} {p : Placed} → b.first ≡ first_byte W m.at m.half → b.name ≡ m.named → k ≡ no_kids → q ≡ next_mark m
      → Shape 0 tag p done choices → Makes W given b choices k q N a N' → (text M O : List ℕ)
      → Says 0 (was m N M O) (make (given_of text W given) [] (tree tag (first (given_of text W given) (view m O)) (end (given_of text W given) (next (view m O))) p) (next (view m O))) a N' M O
  plain_says {tag = tag} {p = p} f n d e s w text M O =
      says_same (ap (λ (x : ℕ). make (given_of text W given) [] (tree tag x (end (given_of text W given) (next (view m O))) p) (next (view m O))) (sym f))
      (makes_at W given b choices N a N' d e w text 0 (was m N M O) done tag p M O (built_none m.used m.named m.noted N M O) n s)

  -- One token that is a name.
  pub named_says : {k : Kids} {q : Mark} {M M' : List ℕ} → k ≡ no_kids → q ≡ named_mark m → Speaks W m M M' → Makes W given b choices k q N a N'
      → (text O : List ℕ) (tag : ℕ) (p : Placed) → Spelt text W → b.name ≡ m.named → Shape 0 tag p (name_run (spelling (given_of text W given) (view m O))) choices
      → Says 0 (was m N M O) (make (given_of text W given) [] (tree tag b.first (end (given_of text W given) (next (view m O))) p) (next (view m O))) a N' M' O
  named_says {M = M} {M' = M'} d e v w text O tag p t n s =
      let x : Spelling = spelling (given_of text W given) (view m O) in
      makes_at W given b choices N a N' d e w text 0 (was m N M O) (name_run x) tag p M' O (built_names (x ∷ []) (laid_spoken N O (v text t))) n s

  -- A tree that was read last, and a mark behind it.
  pub about_says : {k : Kids} {q : Mark} {tag high : ℕ} {t : Placed} {B : Was} (text M O : List ℕ) → k ≡ one_kid m.used high → q ≡ next_mark m
      → Stands 0 B t high m N M O → b.name ≡ B.named → Shape 0 tag t (run_in 0 t) choices → Makes W given b choices k q N a N'
      → Says 0 B (make (given_of text W given) [] (tree tag b.first (end (given_of text W given) (next (view m O))) t) (next (view m O))) a N' M O
  about_says {tag = tag} {t = t} {B = B} text M O d e s n z w =
      makes_at W given b choices N a N' d e w text 0 B (run_in 0 t) tag t M O (built_one [] s.is_node s.high_is s.laid) n z

-- A tree stands wherever the cursor goes on.
pub stands_on : {c high : ℕ} {B : Was} {t : Placed} {m : Mark} {N M O : List ℕ} → Stands c B t high m N M O → Stands c B t high (next_mark m) N M O
stands_on s = record { is_node = s.is_node; high_is = s.high_is; laid = s.laid }
