-- Function types: parameters and their `this`, the head, the choices, the node.
use Rattle.std.specs.Prelude.{◌≡◌, Bool, true, false, List, ℕ, zero, suc, ◌+◌, ◌*◌, ◌^◌, ◌≤◌, ◌<◌, length}
use Rattle.words.specs.Kind.{LParen, Question, Dot3, Abstract, New, This}
use Rattle.words.specs.Test.{◌and◌, test}
use Rattle.words.specs.Cursor.{first_byte}
use Rattle.words.specs.Limits.{most_tokens}
use Rattle.keys.specs.Limits.{record_words, tags}
use Rattle.keys.specs.Bits.{unit}
use Rattle.keys.specs.Placed.{Placed, Spelling, Opt, absent, present}
use Rattle.keys.specs.Store.{Run, done, ◌⊕◌}
use Rattle.rules.specs.Refusal.{unexpected, parameter_modifier, misplaced_this, type_parameter_modifier}
use Rattle.rules.specs.State as rule
use Rattle.rules.specs.State.{State, Result, Reader, read, refused, then, stands, past}
use Rattle.rules.specs.Names.{bound}
use Rattle.rules.specs.List.{count}
use Rattle.rules.specs.TypeParameters as types
use Rattle.rules.specs.Function as function
use Rattle.rules.specs.Function.{ThisParameter, Parameters}
use Rattle.marks.specs.State.{view, given_of, Declined, next_mark, past_mark, Sound, Spelt, Fine, Under}
use Rattle.marks.specs.Laid.{run_in, run_opt, runs, runs_opt, IsNode, IsOpt, AllNodes, AllOpt, Was, BuiltAt}
use Rattle.marks.specs.Says.{Says, SaysNames, one, is_there}
use Rattle.marks.specs.Node.{Links, opt_list, list_scale}
use Rattle.marks.specs.Names.{one_name}
use Rattle.marks.specs.List.{here}
use Rattle.marks.specs.declared.state.Given.{Given}
use Rattle.marks.specs.declared.state.Mark.{Mark}
use Rattle.marks.specs.declared.state.Kids.{Kids}
use Rattle.marks.specs.Told.{Head}
use Rattle.marks.specs.Told.{Answer}
use Rattle.functions.specs.declared.function.FunctionHead.{FunctionHead}
use Rattle.functions.specs.declared.function.This.{This as ThisCode}
use Rattle.functions.specs.Told.{Params}

-- A refusal's number where a test holds, else 0.
abbrev pub why_if : Bool → ℕ → ℕ
why_if true n = n
why_if false n = 0

-- Why no parameter begins here, 0 if one may: a modifier word, or a `this` that is not first.
abbrev pub why_none : (modifier this : Bool) → ℕ
why_none true this = parameter_modifier
why_none false this = why_if this misplaced_this

-- The bits of a `this`: 0 for none, 1 without a type, 3 with one.
abbrev pub type_bits : Opt Placed → ℕ
type_bits absent = 1
type_bits (present u) = 3

abbrev pub this_bits : Opt ThisParameter → ℕ
this_bits absent = 0
this_bits (present t) = type_bits t.type

-- The first byte of a `this`, and its end byte.
abbrev pub this_first : Opt ThisParameter → ℕ
this_first absent = 0
this_first (present t) = t.first

abbrev pub this_end : Opt ThisParameter → ℕ
this_end absent = 0
this_end (present t) = t.end

-- The code's `this` is the rules'.
pub record ThisIs (r : ThisCode) (t : Opt ThisParameter) : Type 0 where
  pub bits : r.bits ≡ this_bits t
  pub first : r.first ≡ this_first t
  pub end : r.end ≡ this_end t

-- The type of a `this` is a node if it is there.
abbrev pub IsThis : Opt ThisParameter → Type 0
IsThis absent = Unit {0}
IsThis (present t) = IsOpt 0 t.type

-- The type of a `this` as a child, which a constructor's is not.
abbrev pub this_run : Bool → Opt ThisParameter → Run
this_run true t = done
this_run false absent = done
this_run false (present t) = run_opt 0 t.type

-- Parameters were read, and stand behind the run t, the `this` too if its type is counted.
pub record GotParams (B : Was) (t : Run) (R : Opt ThisParameter → Run) (x : Result Parameters) (p : Params) (N M O : List ℕ) : Type 0 where
  pub what : Parameters
  pub is : x ≡ read what (view p.m O)
  pub this_is : ThisIs p.this what.this
  pub is_this : IsThis what.this
  pub count_is : p.count ≡ length what.list
  pub each : AllNodes 5 what.list
  pub built : BuiltAt B ((t ⊕ R what.this) ⊕ runs 5 what.list) p.kids p.m N M O

pub record SaysParams (B : Was) (t : Run) (R : Opt ThisParameter → Run) (x : Result Parameters) (p : Params) (N M O : List ℕ) : Type 0 where
  pub done : p.why ≡ 0 → GotParams B t R x p N M O
  pub refused : Declined x p.why p.m

-- Parameters p with one child more, the tree that was read from q to a.
abbrev pub LinksParams : (p : Params) (q : Mark) (a : Answer) (N : List ℕ) (r : Params) (N' : List ℕ) → Type 0
LinksParams p q a N r N' =
    (r.why ≡ 0) × (r.count ≡ p.count) × (r.this ≡ p.this) × (r.m ≡ a.m) × Links p.kids q.used a.m.used a.high N r.kids N'

-- A function type up to its type parameters.
pub record HeadIs (W : List ℕ) (m : Mark) (h : FunctionHead) : Type 0 where
  pub first_is : h.b.first ≡ first_byte W m.at m.half
  pub name_is : h.b.name ≡ m.named
  pub abstract_is : h.is_abstract ≡ here W Abstract m
  pub new_is : h.is_new ≡ here W New (past_mark W Abstract m)
  pub mark_is : h.m ≡ past_mark W New (past_mark W Abstract m)

-- A type parameter up to its constraint.
abbrev pub type_parameter_head : rule.Given → State → Result Spelling
type_parameter_head g s = test (types.varies g s) (λ _. refused type_parameter_modifier s) (λ _. bound g s)

-- A parameter up to its type: its name, and whether a `?` stands behind it.
abbrev pub parameter_head : rule.Given → State → Result (Spelling × Bool)
parameter_head g s =
    test (stands g Dot3 s and stands g This (past g Dot3 s)) (λ _. refused misplaced_this (past g Dot3 s)) λ _.
    then (one_name 0 g (past g Dot3 s)) λ x q.
    read (x, stands g Question q) (past g Question q)

-- It from a mark on, with the choices of its dots and its `?`: what the rules read, from any text that is spelled so.
abbrev pub StartsParameter : (W : List ℕ) (m : Mark) (M : List ℕ) (h : Head) (M' : List ℕ) → Type 0
StartsParameter W m M h M' =
    (text O : List ℕ) (given : Given) → Spelt text W
    → SaysNames (λ x. one x.0) (λ x. h.choices ≡ unit (here W Dot3 m) + 2 * unit x.1) (parameter_head (given_of text W given) (view m O)) h.why m h.m M M' O

-- The bracket of parameters, and a `this` behind it.
pub data Opens (W : List ℕ) (m : Mark) (h : Head) : Type 0 where
  stops : here W LParen m ≡ false → h ≡ record { why = unexpected; choices = 0; m = m } → Opens W m h
  plain : here W LParen m ≡ true → here W This (next_mark m) ≡ false → h ≡ record { why = 0; choices = 0; m = next_mark m } → Opens W m h
  this : here W LParen m ≡ true → here W This (next_mark m) ≡ true → h ≡ record { why = 0; choices = 1; m = next_mark (next_mark m) } → Opens W m h

-- What a constructor's `this` took is free again, its diagnostics stay.
abbrev pub freed_mark : Bool → Mark → Mark → Mark
freed_mark true s q = record { at = q.at; half = q.half; used = s.used; named = s.named; noted = q.noted }
freed_mark false s q = q

-- The children before a `this` to which its type is linked: a constructor's is no child.
abbrev pub before_this : (isNew : Bool) → Kids → Kids
before_this true k = record { first = 0; count = 0; high = 0 }
before_this false k = k

-- The children after it: those before it, if it is a constructor's.
abbrev pub behind_this : (isNew : Bool) → (before after : Kids) → Kids
behind_this true before after = before
behind_this false before after = after

-- How many nodes are in use then.
abbrev pub freed_used : Bool → ℕ → ℕ → ℕ
freed_used true used after = used
freed_used false used after = after

-- How many numbers the bits of a `this` can be.
abbrev pub this_scale : ℕ → ℕ
this_scale zero = 2
this_scale (suc bits) = 4

-- The choices of type parameters and what stands behind them; the same with a `this` between.
abbrev pub new_choices : (there : Bool) (many rest : ℕ) → ℕ
new_choices there many rest = opt_list there many + list_scale there * rest

abbrev pub call_choices : (there : Bool) (many bits rest : ℕ) → ℕ
call_choices there many bits rest = new_choices there many (bits + this_scale bits * rest)

-- The choices of a function type, and of a constructor type.
abbrev pub function_choices : (there : Bool) (many bits params : ℕ) → ℕ
function_choices there many bits params = 12 + tags * call_choices there many bits params

abbrev pub constructor_choices : (isAbstract there : Bool) (many params : ℕ) → ℕ
constructor_choices isAbstract there many params = 13 + tags * (unit isAbstract + 2 * new_choices there many params)

-- The node of a constructor type may be put, or a diagnostic be recorded before it.
abbrev pub MayPutConstructor : (W N : List ℕ) (given : Given) (h : FunctionHead) (p : Params) → Type 0
MayPutConstructor W N given h p =
    Sound W × (given.room * record_words ≤ length N) × Fine (length W) given p.m × Under p.m.used p.kids
    × (h.b.first < 2 ^ 32) × (h.b.name ≤ most_tokens)

-- The same of any function type, whose `this` has two bits.
abbrev pub MayPutFunction : (W N : List ℕ) (given : Given) (h : FunctionHead) (p : Params) → Type 0
MayPutFunction W N given h p =
    Sound W × (given.room * record_words ≤ length N) × Fine (length W) given p.m × Under p.m.used p.kids
    × (p.this.bits ≤ 3) × (h.b.first < 2 ^ 32) × (h.b.name ≤ most_tokens)

-- All parts of a function type that stand since B, and the node that the rules make of them.
abbrev pub MakesFunction : (W : List ℕ) (given : Given) (h : FunctionHead) (there : Bool) (many : ℕ) (p : Params) (N O : List ℕ) (a : Answer) (N' O' : List ℕ) → Type 0
MakesFunction W given h there many p N O a N' O' =
    (text : List ℕ) (T : Reader) (B : Was) (ts : Opt (List Placed)) (ps : Parameters) (u : Placed) (M : List ℕ)
    → BuiltAt B (((runs_opt 4 ts ⊕ this_run h.is_new ps.this) ⊕ runs 5 ps.list) ⊕ run_in 0 u) p.kids p.m N M O
    → h.b.name ≡ B.named → there ≡ is_there ts → many ≡ count ts → ThisIs p.this ps.this → p.count ≡ length ps.list
    → AllOpt 4 ts → IsThis ps.this → AllNodes 5 ps.list → IsNode 0 u
    → Says 0 B (function.function_node (given_of text W given) T h.b.first h.is_new h.is_abstract ts ps u (view p.m O)) a N' M O'
