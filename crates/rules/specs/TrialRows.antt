-- Readings with trials, in a table of their own (02, W4).
use Rattle.std.specs.Prelude.{List, [], ◌∷◌, refl}
use Rattle.keys.specs.Placed.{absent, present, conditional, infer, tuple}
use Rattle.rules.specs.Read.{granted, denied}
use Rattle.rules.specs.Rules.{rules}
use Rattle.rules.specs.Rows.{Row, row, read_row, Holds, Every, at, ref}

-- a dropped trial in another, each counted as often as it was read; five trials one after the other; five in one another
abbrev pub trial_rows : List Row
trial_rows =
    row "(infer A extends (infer A extends A ? X : Y) ? X : Y)"
    (0x14_000001_00000000 ∷ 0x4D_000005_00000001 ∷ 0x01_000001_00000007 ∷ 0x60_000007_00000009 ∷ 0x14_000001_00000011 ∷ 0x4D_000005_00000012 ∷ 0x01_000001_00000018 ∷ 0x60_000007_0000001A ∷ 0x01_000001_00000022 ∷ 0x1D_000001_00000024 ∷ 0x01_000001_00000026 ∷ 0x1E_000001_00000028 ∷ 0x01_000001_0000002A ∷ 0x15_000001_0000002B ∷ 0x1D_000001_0000002D ∷ 0x01_000001_0000002F ∷ 0x1E_000001_00000031 ∷ 0x01_000001_00000033 ∷ 0x15_000001_00000034 ∷ 0x00_000000_00000035 ∷ [])
    (granted
    (conditional 1 52 (infer 1 8 (at 7 "A") absent) (conditional 18 43 (infer 18 25 (at 24 "A") absent) (ref 34 "A") (ref 38 "X") (ref 42 "Y")) (ref 47 "X") (ref 51 "Y"))
    [] 19 0 (0x12 ∷ 0x4A ∷ 0x00 ∷ 0x01 ∷ 0x41 ∷ 0x12 ∷ 0x50 ∷ 0x00 ∷ 0x0A ∷ 0x08 ∷ 0x10 ∷ 0x01 ∷ 0x00 ∷ 0x01 ∷ 0x41 ∷ 0x02 ∷ 0x00 ∷ 0x20 ∷ 0x00 ∷ 0x2B ∷ 0x00 ∷ 0x40 ∷ 0x04 ∷ 0x00 ∷ 0x05 ∷ 0x64 ∷ 0x08 ∷ 0x00 ∷ 0x80 ∷ 0x00 ∷ 0xAC ∷ 0x01 ∷ 0x00 ∷ 0x10 ∷ 0x00 ∷ 0x15 ∷ 0x90 ∷ []) 16)
    ∷ row "[infer A extends B, infer A extends B, infer A extends B, infer A extends B, infer A extends B]"
    (0x12_000001_00000000 ∷ 0x4D_000005_00000001 ∷ 0x01_000001_00000007 ∷ 0x60_000007_00000009 ∷ 0x01_000001_00000011 ∷ 0x1F_000001_00000012 ∷ 0x4D_000005_00000014 ∷ 0x01_000001_0000001A ∷ 0x60_000007_0000001C ∷ 0x01_000001_00000024 ∷ 0x1F_000001_00000025 ∷ 0x4D_000005_00000027 ∷ 0x01_000001_0000002D ∷ 0x60_000007_0000002F ∷ 0x01_000001_00000037 ∷ 0x1F_000001_00000038 ∷ 0x4D_000005_0000003A ∷ 0x01_000001_00000040 ∷ 0x60_000007_00000042 ∷ 0x01_000001_0000004A ∷ 0x1F_000001_0000004B ∷ 0x4D_000005_0000004D ∷ 0x01_000001_00000053 ∷ 0x60_000007_00000055 ∷ 0x01_000001_0000005D ∷ 0x13_000001_0000005E ∷ 0x00_000000_0000005F ∷ [])
    (granted
    (tuple 0 95 (infer 1 18 (at 7 "A") (present (ref 17 "B")) ∷ infer 20 37 (at 26 "A") (present (ref 36 "B")) ∷ infer 39 56 (at 45 "A") (present (ref 55 "B")) ∷ infer 58 75 (at 64 "A") (present (ref 74 "B")) ∷ infer 77 94 (at 83 "A") (present (ref 93 "B")) ∷ []))
    [] 26 0 (0x14 ∷ 0xC0 ∷ 0x14 ∷ 0xA0 ∷ 0x00 ∷ 0x14 ∷ 0x18 ∷ 0x20 ∷ 0x02 ∷ 0x00 ∷ 0x02 ∷ 0x84 ∷ 0x28 ∷ 0x00 ∷ 0x05 ∷ 0x06 ∷ 0x08 ∷ 0x00 ∷ 0x80 ∷ 0x00 ∷ 0xA1 ∷ 0x0A ∷ 0x00 ∷ 0x01 ∷ 0x41 ∷ 0x82 ∷ 0x00 ∷ 0x20 ∷ 0x00 ∷ 0x28 ∷ 0x42 ∷ 0x80 ∷ 0x00 ∷ 0x50 ∷ 0x60 ∷ 0x80 ∷ 0x08 ∷ 0x00 ∷ 0x0A ∷ 0x10 ∷ 0xA0 ∷ 0x00 ∷ 0x14 ∷ 0x18 ∷ 0x20 ∷ 0x02 ∷ 0x00 ∷ 0x02 ∷ 0x84 ∷ []) 11)
    ∷ row "(infer A extends (infer A extends (infer A extends (infer A extends (infer A extends A)))))"
    (0x14_000001_00000000 ∷ 0x4D_000005_00000001 ∷ 0x01_000001_00000007 ∷ 0x60_000007_00000009 ∷ 0x14_000001_00000011 ∷ 0x4D_000005_00000012 ∷ 0x01_000001_00000018 ∷ 0x60_000007_0000001A ∷ 0x14_000001_00000022 ∷ 0x4D_000005_00000023 ∷ 0x01_000001_00000029 ∷ 0x60_000007_0000002B ∷ 0x14_000001_00000033 ∷ 0x4D_000005_00000034 ∷ 0x01_000001_0000003A ∷ 0x60_000007_0000003C ∷ 0x14_000001_00000044 ∷ 0x4D_000005_00000045 ∷ 0x01_000001_0000004B ∷ 0x60_000007_0000004D ∷ 0x01_000001_00000055 ∷ 0x15_000001_00000056 ∷ 0x15_000001_00000057 ∷ 0x15_000001_00000058 ∷ 0x15_000001_00000059 ∷ 0x15_000001_0000005A ∷ 0x00_000000_0000005B ∷ [])
    (denied 28 19 0 77)
    ∷ []

-- every row reads as it says
pub trial_rows_lem : Every Holds trial_rows
unfolding rules read_row
trial_rows_lem = (refl, (refl, (refl, tt)))
