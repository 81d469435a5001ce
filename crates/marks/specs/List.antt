-- What stands between the entries of a list, and what its end comes to.
use Rattle.std.specs.Prelude.{◌≡◌, Bool, true, false, List, ℕ, ◌+◌, ◌≤◌, eqb, length}
use Rattle.words.specs.Kind.{Comma, Eq, RParen}
use Rattle.words.specs.Cursor.{kind_at}
use Rattle.keys.specs.Placed.{Placed, Opt, present}
use Rattle.keys.specs.Store.{Run, ◌⊕◌}
use Rattle.rules.specs.Notes.{note}
use Rattle.rules.specs.Refusal.{unexpected, default_value, rest_not_last}
use Rattle.rules.specs.State as rule
use Rattle.rules.specs.State.{State, Result, read, next, end, report_if}
use Rattle.rules.specs.List.{no_entry}
use Rattle.marks.specs.State.{view, given_of, next_mark, Under}
use Rattle.marks.specs.Laid.{runs, AllNodes, Was, BuiltAt}
use Rattle.marks.specs.Says.{SaysList}
use Rattle.marks.specs.Notes.{taken_at, refused_at}
use Rattle.marks.specs.declared.state.Given.{Given}
use Rattle.marks.specs.declared.state.Mark.{Mark}
use Rattle.marks.specs.declared.state.Kids.{Kids}
use Rattle.marks.specs.Told.{Answer}
use Rattle.marks.specs.Told.{Listed}

-- Kind k stands at a mark.
abbrev pub here : List ℕ → ℕ → Mark → Bool
here W k m = eqb (kind_at W m.at m.half) k

-- After an entry: the closing mark, or a comma that is passed, or neither.
pub data Follows (W : List ℕ) (close : ℕ) (m : Mark) (a : Answer) : Type 0 where
  closes : here W close m ≡ true → a ≡ taken_at m → Follows W close m a
  goes : here W close m ≡ false → here W Comma m ≡ true → a ≡ taken_at (next_mark m) → Follows W close m a
  stops : here W close m ≡ false → here W Comma m ≡ false → a ≡ refused_at unexpected m → Follows W close m a

-- After a parameter: no default; the `)`; a comma that is passed, but not after a rest; or none of these.
pub data Separates (W : List ℕ) (is_rest : Bool) (m : Mark) (a : Answer) : Type 0 where
  default : here W Eq m ≡ true → a ≡ refused_at default_value m → Separates W is_rest m a
  closes : here W Eq m ≡ false → here W RParen m ≡ true → a ≡ taken_at m → Separates W is_rest m a
  behind_rest : here W Eq m ≡ false → here W RParen m ≡ false → is_rest ≡ true → here W Comma m ≡ true → a ≡ refused_at rest_not_last m → Separates W is_rest m a
  goes : here W Eq m ≡ false → here W RParen m ≡ false → is_rest ≡ false → here W Comma m ≡ true → a ≡ taken_at (next_mark m) → Separates W is_rest m a
  stops : here W Eq m ≡ false → here W RParen m ≡ false → here W Comma m ≡ false → a ≡ refused_at unexpected m → Separates W is_rest m a

-- The end of a list of trees at its closing mark: a diagnostic if nothing is in it.
abbrev pub ended : rule.Given → (number first : ℕ) → List Placed → State → Result (Opt (List Placed))
ended g number first l s = report_if (no_entry l) g (note number first (end g (next s))) (next s) λ q. read (present l) q

-- The list that stands behind a run is ended.
abbrev pub Ends : (W : List ℕ) (given : Given) (number first : ℕ) (k : Kids) (m : Mark) (O : List ℕ) (r : Listed) (O' : List ℕ) → Type 0
Ends W given number first k m O r O' =
    (text : List ℕ) (c : ℕ) (B : Was) (t : Run) (l : List Placed) (N M : List ℕ)
    → BuiltAt B (t ⊕ runs c l) k m N M O → k.count ≡ length l → AllNodes c l
    → SaysList c B t (ended (given_of text W given) number first l (view m O)) r N M O'

-- Where reading stands then: past the closing mark, with no more nodes and names.
pub record EndsAt (given : Given) (m : Mark) (r : Listed) : Type 0 where
  pub at_is : r.m.at ≡ m.at + 1
  pub half_is : r.m.half ≡ 0
  pub used_is : r.m.used ≡ m.used
  pub named_is : r.m.named ≡ m.named
  pub more : m.noted ≤ r.m.noted
  pub recorded : r.m.noted ≤ given.records
  pub under : Under r.m.used r.kids
