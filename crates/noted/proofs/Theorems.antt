-- What the structs say of a reading.
use mathlib.Core.Path.{◌≡◌, ap, ◌∙◌}
use mathlib.Core.List.{List, ◌++◌, map}
use Prim.Native.Nat.{ℕ, ◌-◌, ◌≤◌, min}
use native.Mathlib.Omega.{arith}
use lib.ListN.{length, replicate}
use Rattle.words.specs.Limits.{most_notes}
use Rattle.keys.specs.Placed.{Placed}
use Rattle.keys.specs.Store.{filled}
use Rattle.rules.specs.Notes as rules
use Rattle.rules.specs.Notes.{note_words}
use Rattle.rules.specs.State.{State}
use Rattle.rules.specs.Read.{Called}
use Rattle.rules.specs.Call.{Call, left, Granted}
use Rattle.rules.proofs.CallLaws.{facts}
use Rattle.rules.proofs.Theorems.{notes_few, call_leaves}
use Rattle.noted.specs.declared.Note.{Note}
use Rattle.noted.specs.Structs.{struct_of, no_struct, structs_from, structs_of}
use Rattle.noted.proofs.StructLaws.{structs_read}

-- Of the records of diagnostics, at most 32, and then zeros, the structs are those diagnostics in their order, and then zeros.
pub structs_are : (n : ℕ) (l : List rules.Note) → length l ≤ most_notes
    → structs_of (filled n (note_words l)) (length l) ≡ map struct_of l ++ replicate (most_notes - length l) no_struct
structs_are n l few =
    let rest = replicate (most_notes - length l) no_struct in
    ap (λ (k : ℕ). structs_from (filled n (note_words l)) 0 k ++ rest) (let z : min (length l) most_notes ≡ length l = omega (arith, few) in z)
    ∙ ap (λ (z : List Note). z ++ rest) (structs_read l (replicate (n - length (note_words l)) 0))

-- So are those of the words that a granted call leaves: all its diagnostics.
pub call_structs : {c : Call} {t : Placed} {s : State} → Granted c t s
    → structs_of (left c).note_words (length s.notes) ≡ map struct_of s.notes ++ replicate (most_notes - length s.notes) no_struct
call_structs {c} {t} {s} x =
    ap (λ (z : Called). structs_of z.note_words (length s.notes)) (call_leaves x)
    ∙ structs_are c.lent.notes s.notes (notes_few _ c.start x.bytes (facts x).passed x.rules)

-- A struct says all of its diagnostic.
pub struct_tells : (m n : rules.Note) → struct_of m ≡ struct_of n → m ≡ n
struct_tells m n e = λ k. record { number = (e k).number; first = (e k).first; end = (e k).end; other_first = (e k).other_first; other_end = (e k).other_end }
