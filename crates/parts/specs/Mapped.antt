-- Mapped types between their types; nodes that end with a mark due.
use Rattle.std.specs.Prelude.{◌≡◌, List, [], ℕ, ◌+◌, ◌*◌}
use Rattle.keys.specs.Limits.{tags}
use Rattle.words.specs.Kind.{RCurly, LBrack, RBrack, Question, Semicolon, In, Readonly}
use Rattle.keys.specs.Placed.{Placed, tree, Spelling}
use Rattle.keys.specs.Store.{Run}
use Rattle.rules.specs.State as rule
use Rattle.rules.specs.State.{State, Result, read, then, end, past, expect, make}
use Rattle.rules.specs.Mapped.{modifier}
use Rattle.marks.specs.State.{view, given_of, next_mark, Spelt}
use Rattle.marks.specs.Laid.{Was, BuiltAt, Shape}
use Rattle.marks.specs.Says.{Says, SaysNames, one}
use Rattle.marks.specs.Names.{one_name}
use Rattle.marks.specs.declared.state.Given.{Given}
use Rattle.marks.specs.declared.state.Mark.{Mark}
use Rattle.marks.specs.declared.state.Begin.{Begin}
use Rattle.marks.specs.declared.state.Kids.{Kids}
use Rattle.marks.specs.Told.{Head}
use Rattle.marks.specs.Told.{Answer}

-- From behind the `{` to the constraint: readonly, and the key.
abbrev pub mapped_head : rule.Given → State → Result (ℕ × Spelling)
mapped_head g s =
    then (modifier g Readonly s) λ readonly q.
    expect g LBrack q λ q.
    then (one_name 0 g q) λ key q.
    expect g In q λ q.
    read (readonly, key) q

-- It behind the `{` at m: what the rules read, from any text that is spelled so.
abbrev pub StartsMapped : (W : List ℕ) (m : Mark) (M : List ℕ) (h : Head) (M' : List ℕ) → Type 0
StartsMapped W m M h M' =
    (text O : List ℕ) (given : Given) → Spelt text W
    → SaysNames (λ x. one x.1) (λ x. h.choices ≡ x.0) (mapped_head (given_of text W given) (view (next_mark m) O)) h.why m h.m M M' O

-- From the `]` to the type: the `?`.
abbrev pub mapped_middle : rule.Given → State → Result ℕ
mapped_middle g s = expect g RBrack s λ q. modifier g Question q

-- The choices of a mapped type: readonly, the bit of its name type, `?`, the bit of its type.
abbrev pub mapped_choices : (readonly named question typed : ℕ) → ℕ
mapped_choices readonly named question typed = 14 + tags * (readonly + 4 * (named + 2 * (question + 4 * typed)))

-- A node that ends with a mark due here, which a semicolon may stand before if it is a mapped type's.
abbrev pub MakesClosed : (close : rule.Given → State → (State → Result Placed) → Result Placed) (W : List ℕ) (given : Given) (b : Begin) (choices : ℕ) (k : Kids) (m : Mark) (N : List ℕ) (a : Answer) (N' : List ℕ) → Type 0
MakesClosed close W given b choices k m N a N' =
    (text : List ℕ) (B : Was) (t : Run) (tag : ℕ) (p : Placed) (M O : List ℕ)
    → BuiltAt B t k m N M O → b.name ≡ B.named → Shape 0 tag p t choices
    → Says 0 B (close (given_of text W given) (view m O) λ q. make (given_of text W given) [] (tree tag b.first (end (given_of text W given) q) p) q) a N' M O

abbrev pub close_square : rule.Given → State → (State → Result Placed) → Result Placed
close_square g s on = expect g RBrack s on

abbrev pub close_curly : rule.Given → State → (State → Result Placed) → Result Placed
close_curly g s on = expect g RCurly (past g Semicolon s) on
