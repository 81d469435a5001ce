-- What is owed for a trial that was put back, and how members pay it: by keys alone (02, W4).
use mathlib.Core.Path.{◌≡◌}
use mathlib.Core.Bool.{true, false}
use mathlib.Core.List.{List}
use Prim.Native.Nat.{ℕ, ◌+◌, ◌≤◌}
use Rattle.words.specs.Kind.{Question, Extends}
use Rattle.keys.specs.Placed.{Placed}
use Rattle.rules.specs.State.{Given, State, read, stands, on_line}
use Rattle.rules.specs.Object.{members_from}
use Rattle.rules.specs.Reading.{read_type}

-- At s stands an `extends`; from behind it a type was read with conditionals off, n type rules deep, up to a `?`.
pub record Tried (g : Given) (n : ℕ) (s : State) : Type 0 where
  pub here : stands g Extends s ≡ true
  pub whole : s.half ≡ 0
  pub from : State
  pub behind : from.at ≡ s.at + 1
  pub fresh : from.half ≡ 0
  pub tree : Placed
  pub to : State
  pub reads : read_type g n false from ≡ read tree to
  pub asked : stands g Question to ≡ true

-- The members from s on come to a member that begins at w, behind that `extends` and two tokens before v at most, with no type rule entered before.
pub record Comes (g : Given) (n m : ℕ) (l : List Placed) (s v : State) : Type 0 where
  pub turns : ℕ
  pub fewer : turns ≤ m
  pub list : List Placed
  pub w : State
  pub same : members_from g (read_type g n) m l s ≡ members_from g (read_type g n) turns list w
  pub tally : w.tally ≡ s.tally
  pub behind : s.at + 1 ≤ w.at
  pub near : v.at ≤ w.at + 2

-- Keys only: where a type was tried behind an `extends` that begins a line, members that read from that `extends` on, as a key, come to the end of what was tried by keys alone.
abbrev pub KeysOnly : Given → Type 0
KeysOnly g =
    (n k : ℕ) (s : State) (t : Tried g n s) → on_line g s ≡ false → (m : ℕ) (l l' : List Placed) (q : State) → members_from g (read_type g k) m l s ≡ read l' q
    → Comes g k m l s t.to
