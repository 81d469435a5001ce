-- Chains of prefixes about what was read.
use Rattle.std.specs.Prelude.{◌≡◌, Bool, List, [], ℕ, zero, suc, ◌+◌, ◌-◌, ◌*◌, ◌≤◌, length}
use Rattle.words.specs.Limits.{most_tokens, tallest}
use Rattle.words.specs.Cursor.{whole_kind, first_byte}
use Rattle.keys.specs.Limits.{record_words}
use Rattle.keys.specs.Placed as node
use Rattle.keys.specs.Placed.{Placed}
use Rattle.rules.specs.State as rule
use Rattle.rules.specs.State.{Result, Reader, read, then, end, make}
use Rattle.rules.specs.List.{position}
use Rattle.rules.specs.Operator as operator
use Rattle.rules.specs.Operator.{operators}
use Rattle.marks.specs.State.{view, given_of, Sound, Fine}
use Rattle.marks.specs.Laid.{Was, Stands}
use Rattle.marks.specs.Says.{Says}
use Rattle.marks.specs.declared.state.Given.{Given}
use Rattle.marks.specs.declared.state.Mark.{Mark}
use Rattle.marks.specs.Told.{Answer}

-- One prefix, at token i, about what was read.
abbrev pub operator_about : rule.Given → ℕ → Result Placed → Result Placed
operator_about g i x =
    then x λ t q. make g [] (node.operator (first_byte g.words i 0) (end g q) (position (whole_kind g.words i) operators) t) q

-- n prefixes from token i on about what was read, the last one innermost.
unfoldable pub operators_about : rule.Given → (i n : ℕ) → Result Placed → Result Placed
operators_about g i zero x = x
operators_about g i (suc n) x = operator_about g i (operators_about g (i + 1) n x)

-- From m to q prefixes stand: the rule reads them about the operand that it reads behind them.
abbrev pub PassesOperators : (W : List ℕ) (m q : Mark) → Type 0
PassesOperators W m q =
    (text O : List ℕ) (given : Given) (T : Reader) (on : Bool)
    → operator.operator (given_of text W given) T on (view m O) ≡ operators_about (given_of text W given) m.at (q.at - m.at) (operator.operand (given_of text W given) T on (view q O))

-- The nodes of the prefixes from one token to another may be put about the tree that was read last.
abbrev pub MayPutOperators : (W N : List ℕ) (given : Given) (name from to : ℕ) (a : Answer) → Type 0
MayPutOperators W N given name from to a =
    Sound W × (given.room * record_words ≤ length N) × Fine (length W) given a.m × (from ≤ to) × (to ≤ length W) × (1 ≤ a.m.used) × (a.high ≤ tallest)
    × (name ≤ most_tokens)

-- About a tree that stands since B, the nodes that the rules make of the prefixes.
abbrev pub MakesOperators : (W : List ℕ) (given : Given) (name from to : ℕ) (a : Answer) (N : List ℕ) (r : Answer) (N' : List ℕ) → Type 0
MakesOperators W given name from to a N r N' =
    (text : List ℕ) (B : Was) (t : Placed) (M O : List ℕ) → Stands 0 B t a.high a.m N M O → name ≡ B.named
    → Says 0 B (operators_about (given_of text W given) from (to - from) (read t (view a.m O))) r N' M O

-- At the same place there are no fewer nodes, or a refusal.
pub record PutAll (given : Given) (m : Mark) (a : Answer) : Type 0 where
  pub at_is : a.m.at ≡ m.at
  pub half_is : a.m.half ≡ m.half
  pub named_is : a.m.named ≡ m.named
  pub noted_is : a.m.noted ≡ m.noted
  pub more : m.used ≤ a.m.used + a.why
  pub roomy : a.m.used ≤ given.room
  pub low : a.high ≤ tallest
