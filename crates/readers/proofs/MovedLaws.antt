-- Where only the cursor moved: what was said, laid and built is so at both marks.
use mathlib.Core.Path.{◌≡◌, ap, ◌∙◌, subst}
use mathlib.Core.List.{List}
use Prim.Native.Nat.{ℕ}
use Rattle.keys.specs.Placed.{Placed}
use Rattle.keys.specs.Store.{Run}
use Rattle.rules.specs.State.{Result}
use Rattle.marks.specs.State.{Moved}
use Rattle.marks.specs.Laid.{Was, was, was_at, BuiltAt}
use Rattle.marks.specs.Says.{Says}
use Rattle.marks.proofs.StepLaws.{built_at}
use Rattle.marks.specs.declared.state.Mark.{Mark}
use Rattle.marks.specs.declared.state.Kids.{Kids}
use Rattle.marks.specs.Told.{Answer}

-- The slices hold the same at both marks.
was_moved : {len : ℕ} {m q : Mark} → Moved len m q → (N M O : List ℕ) → was q N M O ≡ was m N M O
was_moved {len} {m} {q} h N M O =
    ap (λ (x : ℕ). was_at x q.named q.noted N M O) h.used_is
    ∙ ap (λ (x : ℕ). was_at m.used x q.noted N M O) h.named_is
    ∙ ap (λ (x : ℕ). was_at m.used m.named x N M O) h.noted_is

-- What is said since the one mark is said since the other.
pub says_moved : {len c : ℕ} {m q : Mark} (N M O : List ℕ) {x : Result Placed} {a : Answer} {N' M' O' : List ℕ} → Moved len m q
    → Says c (was q N M O) x a N' M' O' → Says c (was m N M O) x a N' M' O'
says_moved {len} {c} {m} {q} N M O {x} {a} {N'} {M'} {O'} h w = subst (λ (B : Was). Says c B x a N' M' O') (was_moved h N M O) w

-- What is built up to the one mark is built up to the other.
pub built_moved : {len : ℕ} {m q : Mark} {B : Was} {t : Run} {k : Kids} {N M O : List ℕ} → Moved len m q → BuiltAt B t k m N M O → BuiltAt B t k q N M O
built_moved {len} {m} {q} h b = built_at m q h.used_is h.named_is h.noted_is b
