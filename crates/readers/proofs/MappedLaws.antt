-- Mapped types, from one call of their readers to the next.
use mathlib.Core.Path.{◌≡◌, sym, ap, ◌∙◌, subst}
use mathlib.Core.Bool.{true}
use mathlib.Core.List.{[]}
use Prim.Native.Nat.{ℕ}
use Rattle.words.specs.Kind.{LCurly, Colon, As}
use Rattle.keys.specs.Placed as node
use Rattle.keys.specs.Placed.{Placed, Spelling, Opt}
use Rattle.keys.specs.Store.{◌⊕◌}
use Rattle.rules.specs.State.{Given, State, Result, Reader, read, then, next, kind, first, end, optional, make}
use Rattle.rules.specs.Mapped.{mapped}
use Rattle.marks.specs.Laid.{run_in, run_opt, name_run, IsNode, IsOpt, Shape, opt_bit}
use Rattle.parts.specs.Mapped.{mapped_head, mapped_middle, mapped_choices, close_curly}
use Rattle.primaries.specs.Onward.{behind_constraint}
use Rattle.parts.proofs.MappingLaws.{mapped_step, behind_step, mapped_content, mapped_shape}
use Rattle.marks.proofs.Answers.{then_read_lem}

module _ (g : Given) (T : Reader) where
  -- The head and the constraint were read; b is the first byte.
  pub mapped_read : (s : State) {b readonly : ℕ} {x : ℕ × Spelling} {q : State} {c : Placed} {p : State} → kind g s ≡ LCurly → b ≡ first g s → readonly ≡ x.0
      → mapped_head g (next s) ≡ read x q → T true q ≡ read c p → mapped g T s ≡ behind_constraint g T b readonly x.1 c p
  mapped_read s {b} {readonly} {x} {q} {c} {p} e h r i k =
      mapped_step g T s e ∙ then_read_lem (λ x q. then (T true q) λ c q. behind_constraint g T (first g s) x.0 x.1 c q) i
      ∙ then_read_lem (λ c q. behind_constraint g T (first g s) x.0 x.1 c q) k
      ∙ ap (λ (y : ℕ). behind_constraint g T y x.0 x.1 c p) (sym h) ∙ ap (λ (y : ℕ). behind_constraint g T b y x.1 c p) (sym r)

  module _ (b readonly : ℕ) (key : Spelling) (c : Placed) (s : State) where
    -- What is due behind the type.
    abbrev behind_type : Opt Placed → ℕ → Opt Placed → State → Result Placed
    behind_type n question t q = close_curly g q λ q. make g [] (node.mapped b (end g q) readonly key c n question t) q

    -- Behind the `?`.
    abbrev pub behind_asked : Opt Placed → ℕ → State → Result Placed
    behind_asked n question q = then (optional g Colon (T true) q) (behind_type n question)

    -- Behind the name type.
    abbrev pub behind_name : Opt Placed → State → Result Placed
    behind_name n q = then (mapped_middle g q) (behind_asked n)

    -- The name type was read.
    pub mapped_named : {n : Opt Placed} {q : State} → optional g As (T true) s ≡ read n q → behind_constraint g T b readonly key c s ≡ behind_name n q
    mapped_named i = behind_step g T b readonly key c s ∙ then_read_lem behind_name i

    -- The `?` was looked for too.
    pub mapped_asked : {n : Opt Placed} {q : State} {question : ℕ} {p : State} → optional g As (T true) s ≡ read n q → mapped_middle g q ≡ read question p
        → behind_constraint g T b readonly key c s ≡ behind_asked n question p
    mapped_asked {n} i k = mapped_named i ∙ then_read_lem (behind_asked n) k

    -- The type too.
    pub mapped_typed : {n : Opt Placed} {q : State} {question : ℕ} {p : State} {t : Opt Placed} {r : State} → optional g As (T true) s ≡ read n q
        → mapped_middle g q ≡ read question p → optional g Colon (T true) p ≡ read t r → behind_constraint g T b readonly key c s ≡ behind_type n question t r
    mapped_typed {n} {question = question} i k l = mapped_asked i k ∙ then_read_lem (behind_type n question) l

-- Its names, children and choices.
pub mapped_shaped : (readonly : ℕ) (key : Spelling) {c : Placed} (n : Opt Placed) (question : ℕ) (t : Opt Placed) {choices named typed : ℕ}
    → IsNode 0 c → IsOpt 0 n → IsOpt 0 t → choices ≡ mapped_choices readonly named question typed → named ≡ opt_bit n → typed ≡ opt_bit t
    → Shape 0 14 (mapped_content readonly key c n question t) (((name_run key ⊕ run_in 0 c) ⊕ run_opt 0 n) ⊕ run_opt 0 t) choices
mapped_shaped readonly key {c} n question t {choices} {named} {typed} h i j e a b =
    let is : choices ≡ mapped_choices readonly (opt_bit n) question (opt_bit t) =
    e ∙ ap (λ (x : ℕ). mapped_choices readonly x question typed) a ∙ ap (λ (x : ℕ). mapped_choices readonly (opt_bit n) question x) b in
    subst (λ (x : ℕ). Shape 0 14 (mapped_content readonly key c n question t) (((name_run key ⊕ run_in 0 c) ⊕ run_opt 0 n) ⊕ run_opt 0 t) x) (sym is)
    (mapped_shape readonly key n question t h i j)
