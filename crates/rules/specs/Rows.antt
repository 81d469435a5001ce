-- The twelve readings to be shown, thirteen texts, one table under one statement (01, "Twelve readings to be shown").
use Rattle.std.specs.Prelude.{ℕ, ◌+◌, true, false, List, [], ◌∷◌, ◌≡◌, refl, length}
use Prim.Native.String.{String}
use Rattle.words.specs.Spelling.{bytes}
use Rattle.keys.specs.Placed.{Placed, Spelling, absent, present, reference, keyword, union, intersection, array, conditional, infer, function, constructor, tuple, optional, rest, named, type_parameter}
use Rattle.rules.specs.Notes.{note, note_both}
use Rattle.rules.specs.Read.{Lent, lend, Outcome, granted, denied, outcome}
use Rattle.rules.specs.Rules.{rules}

-- a row: the text, its token words, and all that reading it comes to
pub record Row : Type 0 where
  pub text : List ℕ
  pub words : List ℕ
  pub gives : Outcome

-- a row, its text written out
abbrev pub row : String → List ℕ → Outcome → Row
row text words gives = record { text = bytes text; words = words; gives = gives }

-- room enough
abbrev pub roomy : Lent
roomy = lend 400 100 96 1000

-- reading it from the first token on, preserve_parens off
unfoldable pub read_row : Row → Outcome
read_row r = outcome r.text r.words 0 false roomy

-- a row reads as it says
abbrev pub Holds : Row → Type 0
Holds r = read_row r ≡ r.gives

-- all rows of a table do
abbrev pub Every : (Row → Type 0) → List Row → Type 0
Every P [] = Unit {0}
Every P (r ∷ l) = P r × Every P l

-- a spelling from byte b on
abbrev pub at : ℕ → String → Spelling
at b x = (b, bytes x)

-- a reference of one name, from byte b on
abbrev pub ref : ℕ → String → Placed
ref b x = reference b (b + length (bytes x)) (at b x ∷ []) absent

-- the table; token words are in base 16: kind, newline before and length, start
abbrev pub rows : List Row
rows =
    row "A"
    (0x01_000001_00000000 ∷ 0x00_000000_00000001 ∷ [])
    (granted
    (ref 0 "A")
    [] 1 0 (0x10 ∷ 0x40 ∷ 0x04 ∷ 0x00 ∷ 0x05 ∷ 0x04 ∷ []) 1)
    ∷ row "string[]"
    (0x46_000006_00000000 ∷ 0x12_000001_00000006 ∷ 0x13_000001_00000007 ∷ 0x00_000000_00000008 ∷ [])
    (granted
    (array 0 8 (keyword 0 6 7))
    [] 3 0 (0x11 ∷ 0xC2 ∷ 0x70 ∷ []) 1)
    ∷ row "| A"
    (0x1B_000001_00000000 ∷ 0x01_000001_00000002 ∷ 0x00_000000_00000003 ∷ [])
    (granted
    (union 0 3 (ref 2 "A" ∷ []))
    [] 2 0 (0x11 ∷ 0x40 ∷ 0x04 ∷ 0x10 ∷ 0x01 ∷ 0x00 ∷ 0x01 ∷ 0x41 ∷ 0x00 ∷ []) 1)
    ∷ row "A | B & C"
    (0x01_000001_00000000 ∷ 0x1B_000001_00000002 ∷ 0x01_000001_00000004 ∷ 0x1C_000001_00000006 ∷ 0x01_000001_00000008 ∷ 0x00_000000_00000009 ∷ [])
    (granted
    (union 0 9 (ref 0 "A" ∷ intersection 4 9 (ref 4 "B" ∷ ref 8 "C" ∷ []) ∷ []))
    [] 5 0 (0x11 ∷ 0x40 ∷ 0x08 ∷ 0x10 ∷ 0x01 ∷ 0x00 ∷ 0x01 ∷ 0x41 ∷ 0x0C ∷ 0x00 ∷ 0x40 ∷ 0x80 ∷ 0x08 ∷ 0x00 ∷ 0x0A ∷ 0x10 ∷ 0x10 ∷ 0x01 ∷ 0x00 ∷ 0x01 ∷ 0x43 ∷ 0x00 ∷ []) 1)
    ∷ row "() => A extends B ? C : D"
    (0x14_000001_00000000 ∷ 0x15_000001_00000001 ∷ 0x23_000002_00000003 ∷ 0x01_000001_00000006 ∷ 0x60_000007_00000008 ∷ 0x01_000001_00000010 ∷ 0x1D_000001_00000012 ∷ 0x01_000001_00000014 ∷ 0x1E_000001_00000016 ∷ 0x01_000001_00000018 ∷ 0x00_000000_00000019 ∷ [])
    (granted
    (function 0 25 absent absent [] (conditional 6 25 (ref 6 "A") (ref 16 "B") (ref 20 "C") (ref 24 "D")))
    [] 10 0 (0x13 ∷ 0x00 ∷ 0x00 ∷ 0x24 ∷ 0x10 ∷ 0x01 ∷ 0x00 ∷ 0x01 ∷ 0x41 ∷ 0x02 ∷ 0x00 ∷ 0x20 ∷ 0x00 ∷ 0x28 ∷ 0x40 ∷ 0x40 ∷ 0x04 ∷ 0x00 ∷ 0x05 ∷ 0x0C ∷ 0x08 ∷ 0x00 ∷ 0x80 ∷ 0x00 ∷ 0xA2 ∷ 0x00 ∷ []) 5)
    ∷ row "T extends infer U extends number ? X : Y"
    (0x01_000001_00000000 ∷ 0x60_000007_00000002 ∷ 0x4D_000005_0000000A ∷ 0x01_000001_00000010 ∷ 0x60_000007_00000012 ∷ 0x44_000006_0000001A ∷ 0x1D_000001_00000021 ∷ 0x01_000001_00000023 ∷ 0x1E_000001_00000025 ∷ 0x01_000001_00000027 ∷ 0x00_000000_00000028 ∷ [])
    (granted
    (conditional 0 40 (ref 0 "T") (infer 10 32 (at 16 "U") (present (keyword 26 32 5))) (ref 35 "X") (ref 39 "Y"))
    [] 10 0 (0x12 ∷ 0x41 ∷ 0x00 ∷ 0x10 ∷ 0x00 ∷ 0x15 ∷ 0x41 ∷ 0x40 ∷ 0x00 ∷ 0x2A ∷ 0xB0 ∷ 0x94 ∷ 0x10 ∷ 0x01 ∷ 0x00 ∷ 0x01 ∷ 0x58 ∷ 0x02 ∷ 0x00 ∷ 0x20 ∷ 0x00 ∷ 0x2B ∷ 0x20 ∷ []) 5)
    ∷ row "(infer U extends number ? X : Y)"
    (0x14_000001_00000000 ∷ 0x4D_000005_00000001 ∷ 0x01_000001_00000007 ∷ 0x60_000007_00000009 ∷ 0x44_000006_00000011 ∷ 0x1D_000001_00000018 ∷ 0x01_000001_0000001A ∷ 0x1E_000001_0000001C ∷ 0x01_000001_0000001E ∷ 0x15_000001_0000001F ∷ 0x00_000000_00000020 ∷ [])
    (granted
    (conditional 1 31 (infer 1 8 (at 7 "U") absent) (keyword 17 23 5) (ref 26 "X") (ref 30 "Y"))
    [] 10 0 (0x12 ∷ 0x4A ∷ 0x00 ∷ 0x01 ∷ 0x55 ∷ 0x04 ∷ 0xA0 ∷ 0x80 ∷ 0x08 ∷ 0x00 ∷ 0x0A ∷ 0xC0 ∷ 0x10 ∷ 0x01 ∷ 0x00 ∷ 0x01 ∷ 0x59 ∷ 0x00 ∷ []) 6)
    ∷ row "[A?, ...B[]]"
    (0x12_000001_00000000 ∷ 0x01_000001_00000001 ∷ 0x1D_000001_00000002 ∷ 0x1F_000001_00000003 ∷ 0x22_000003_00000005 ∷ 0x01_000001_00000008 ∷ 0x12_000001_00000009 ∷ 0x13_000001_0000000A ∷ 0x13_000001_0000000B ∷ 0x00_000000_0000000C ∷ [])
    (granted
    (tuple 0 12 (optional 1 3 (ref 1 "A") ∷ rest 5 11 (array 8 11 (ref 8 "B")) ∷ []))
    [] 9 0 (0x14 ∷ 0xC0 ∷ 0x09 ∷ 0x40 ∷ 0x40 ∷ 0x04 ∷ 0x00 ∷ 0x05 ∷ 0x04 ∷ 0xA8 ∷ 0xE0 ∷ 0x80 ∷ 0x08 ∷ 0x00 ∷ 0x0A ∷ 0x10 ∷ []) 3)
    ∷ row "[a?: A, B]"
    (0x12_000001_00000000 ∷ 0x01_000001_00000001 ∷ 0x1D_000001_00000002 ∷ 0x1E_000001_00000003 ∷ 0x01_000001_00000005 ∷ 0x1F_000001_00000006 ∷ 0x01_000001_00000008 ∷ 0x13_000001_00000009 ∷ 0x00_000000_0000000A ∷ [])
    (granted
    (tuple 0 10 (named 1 6 (at 1 "a") true (ref 5 "A") ∷ ref 8 "B" ∷ []))
    (note_both 4 8 9 1 6 ∷ []) 8 0 (0x14 ∷ 0xC0 ∷ 0x09 ∷ 0x60 ∷ 0x00 ∷ 0x16 ∷ 0x18 ∷ 0x20 ∷ 0x02 ∷ 0x00 ∷ 0x02 ∷ 0x82 ∷ 0x04 ∷ 0x00 ∷ 0x40 ∷ 0x00 ∷ 0x50 ∷ 0x80 ∷ []) 3)
    ∷ row "A<<T>() => T>"
    (0x01_000001_00000000 ∷ 0x18_000002_00000001 ∷ 0x01_000001_00000003 ∷ 0x17_000001_00000004 ∷ 0x14_000001_00000005 ∷ 0x15_000001_00000006 ∷ 0x23_000002_00000008 ∷ 0x01_000001_0000000B ∷ 0x17_000001_0000000C ∷ 0x00_000000_0000000D ∷ [])
    (granted
    (reference 0 13 (at 0 "A" ∷ []) (present (function 2 12 (present (type_parameter 3 4 (at 3 "T") absent absent ∷ [])) absent [] (ref 11 "T") ∷ [])))
    [] 9 0 (0x10 ∷ 0x40 ∷ 0x04 ∷ 0x00 ∷ 0x05 ∷ 0x06 ∷ 0x00 ∷ 0x26 ∷ 0x40 ∷ 0x04 ∷ 0x00 ∷ 0x05 ∷ 0x50 ∷ 0x00 ∷ 0x00 ∷ 0x20 ∷ 0x02 ∷ 0x00 ∷ 0x02 ∷ 0xA8 ∷ []) 3)
    ∷ row "A\n[B]"
    (0x01_000001_00000000 ∷ 0x12_800001_00000002 ∷ 0x01_000001_00000003 ∷ 0x13_000001_00000004 ∷ 0x00_000000_00000005 ∷ [])
    (granted
    (ref 0 "A")
    [] 1 0 (0x10 ∷ 0x40 ∷ 0x04 ∷ 0x00 ∷ 0x05 ∷ 0x04 ∷ []) 1)
    ∷ row "T extends U ? : V"
    (0x01_000001_00000000 ∷ 0x60_000007_00000002 ∷ 0x01_000001_0000000A ∷ 0x1D_000001_0000000C ∷ 0x1E_000001_0000000E ∷ 0x01_000001_00000010 ∷ 0x00_000000_00000011 ∷ [])
    (denied 3 4 0 14)
    ∷ row "new (this: A) => B"
    (0x64_000003_00000000 ∷ 0x14_000001_00000004 ∷ 0x66_000004_00000005 ∷ 0x1E_000001_00000009 ∷ 0x01_000001_0000000B ∷ 0x15_000001_0000000C ∷ 0x23_000002_0000000E ∷ 0x01_000001_00000011 ∷ 0x00_000000_00000012 ∷ [])
    (granted
    (constructor 0 18 false absent [] (ref 17 "B"))
    (note 3 5 12 ∷ []) 8 0 (0x13 ∷ 0x40 ∷ 0x00 ∷ 0x04 ∷ 0x00 ∷ 0x40 ∷ 0x00 ∷ 0x50 ∷ 0x80 ∷ []) 3)
    ∷ []

-- every row reads as 01 says
pub twelve_rows : Every Holds rows
unfolding rules read_row
twelve_rows = (refl, (refl, (refl, (refl, (refl, (refl, (refl, (refl, (refl, (refl, (refl, (refl, (refl, tt)))))))))))))
