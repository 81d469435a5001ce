-- Mapped types (01, "Reading rules": Mapped; types.rs, parse_mapped_type).
use Rattle.std.specs.Prelude.{ℕ, true, []}
use Rattle.words.specs.Test.{test}
use Rattle.words.specs.Kind.{LCurly, RCurly, LBrack, RBrack, Question, Colon, Semicolon, Minus, Plus, As, Readonly, In}
use Rattle.keys.specs.Placed as node
use Rattle.keys.specs.Placed.{Placed}
use Rattle.rules.specs.State.{Given, State, Result, read, Reader, then, next, stands, first, end, past, expect, optional, make}
use Rattle.rules.specs.Names.{binding_word}

-- Mapped: readonly or `?` with its sign, by the node table's number: 0 for none, 1 plain, 2 with `+`, 3 with `-`
unfoldable pub modifier : Given → ℕ → State → Result ℕ
modifier g k s =
    test (stands g k s) (λ _. read 1 (next s)) λ _.
    test (stands g Plus s) (λ _. expect g k (next s) (read 2)) λ _.
    test (stands g Minus s) (λ _. expect g k (next s) (read 3)) λ _.
    read 0 s

module _ (g : Given) (T : Reader) where
  -- Mapped: its parts in order, the name type, the type and the `;` being optional
  unfoldable pub mapped : State → Result Placed
  mapped s =
      expect g LCurly s λ q.
      then (modifier g Readonly q) λ readonly q.
      expect g LBrack q λ q.
      then (binding_word g q) λ key q.
      expect g In q λ q.
      then (T true q) λ c q.
      then (optional g As (T true) q) λ n q.
      expect g RBrack q λ q.
      then (modifier g Question q) λ question q.
      then (optional g Colon (T true) q) λ t q.
      expect g RCurly (past g Semicolon q) λ q.
      make g [] (node.mapped (first g s) (end g q) readonly key c n question t) q
