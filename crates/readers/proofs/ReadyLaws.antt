-- What a reader asks is handed on, at other marks and over other slices.
use mathlib.Core.List.{List}
use Prim.Native.Nat.{ℕ}
use lib.ListN.{length}
use Rattle.marks.specs.State.{Room, Fine}
use Rattle.marks.specs.declared.state.Given.{Given}
use Rattle.marks.specs.declared.state.Mark.{Mark}
use Rattle.readers.specs.Ring.{Ready}

-- The tokens and their text stay as they are.
pub ready : {text words N N' : List ℕ} {given given' : Given} {m q : Mark} → Ready text words N given m
    → Room (length N') given' → Fine (length words) given' q → Ready text words N' given' q
ready r a b = record { sound = r.sound; spelt = r.spelt; room = a; fine = b }
