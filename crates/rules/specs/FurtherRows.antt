-- Further readings, in a table of their own, and the whole call on two texts.
use Rattle.std.specs.Prelude.{true, false, List, [], ◌∷◌, ◌≡◌, refl}
use Rattle.words.specs.Spelling.{bytes}
use Rattle.keys.specs.Placed.{absent, present, reference, conditional, infer, function, constructor, type_parameter, tuple, optional, rest, named}
use Rattle.rules.specs.Notes.{note, note_both}
use Rattle.rules.specs.Read.{lend, granted, denied, reads, refuses, read}
use Rattle.rules.specs.Rules.{rules}
use Rattle.rules.specs.Rows.{Row, row, read_row, Holds, Every, at, ref}

-- a trial's diagnostics are put back; those of a dropped `this` stay; 5, 6 and 7 in their order; a half that nothing takes; a reserved name is told before its constraint, and stays when a trial is put back; a required element and the latest optional one
abbrev pub further_rows : List Row
further_rows =
    row "(infer U extends A<> ? X : Y)"
    (0x14_000001_00000000 ∷ 0x4D_000005_00000001 ∷ 0x01_000001_00000007 ∷ 0x60_000007_00000009 ∷ 0x01_000001_00000011 ∷ 0x16_000001_00000012 ∷ 0x17_000001_00000013 ∷ 0x1D_000001_00000015 ∷ 0x01_000001_00000017 ∷ 0x1E_000001_00000019 ∷ 0x01_000001_0000001B ∷ 0x15_000001_0000001C ∷ 0x00_000000_0000001D ∷ [])
    (granted
    (conditional 1 28 (infer 1 8 (at 7 "U") absent) (reference 17 20 (at 17 "A" ∷ []) (present [])) (ref 23 "X") (ref 27 "Y"))
    (note 2 18 20 ∷ []) 12 0 (0x12 ∷ 0x4A ∷ 0x00 ∷ 0x01 ∷ 0x55 ∷ 0x02 ∷ 0x00 ∷ 0x20 ∷ 0x00 ∷ 0x28 ∷ 0x30 ∷ 0x00 ∷ 0x04 ∷ 0x00 ∷ 0x40 ∷ 0x00 ∷ 0x56 ∷ 0x00 ∷ 0x80 ∷ 0x08 ∷ 0x00 ∷ 0x0A ∷ 0xC8 ∷ []) 6)
    ∷ row "new (this: A<>) => B<>"
    (0x64_000003_00000000 ∷ 0x14_000001_00000004 ∷ 0x66_000004_00000005 ∷ 0x1E_000001_00000009 ∷ 0x01_000001_0000000B ∷ 0x16_000001_0000000C ∷ 0x17_000001_0000000D ∷ 0x15_000001_0000000E ∷ 0x23_000002_00000010 ∷ 0x01_000001_00000013 ∷ 0x16_000001_00000014 ∷ 0x17_000001_00000015 ∷ 0x00_000000_00000016 ∷ [])
    (granted
    (constructor 0 22 false absent [] (reference 19 22 (at 19 "B" ∷ []) (present [])))
    (note 2 12 14 ∷ note 2 20 22 ∷ note 3 5 14 ∷ []) 12 0 (0x13 ∷ 0x40 ∷ 0x00 ∷ 0x04 ∷ 0x00 ∷ 0x40 ∷ 0x00 ∷ 0x50 ∷ 0xA0 ∷ 0x00 ∷ []) 3)
    ∷ row "[...a?: ...B?]"
    (0x12_000001_00000000 ∷ 0x22_000003_00000001 ∷ 0x01_000001_00000004 ∷ 0x1D_000001_00000005 ∷ 0x1E_000001_00000006 ∷ 0x22_000003_00000008 ∷ 0x01_000001_0000000B ∷ 0x1D_000001_0000000C ∷ 0x13_000001_0000000D ∷ 0x00_000000_0000000E ∷ [])
    (granted
    (tuple 0 14 (rest 1 13 (named 4 13 (at 4 "a") true (optional 11 13 (ref 11 "B"))) ∷ []))
    (note 5 8 13 ∷ note 6 8 13 ∷ note 7 1 13 ∷ []) 9 0 (0x14 ∷ 0xC0 ∷ 0x05 ∷ 0x55 ∷ 0x80 ∷ 0x00 ∷ 0x58 ∷ 0x6A ∷ 0x02 ∷ 0x00 ∷ 0x20 ∷ 0x00 ∷ 0x28 ∷ 0x40 ∷ []) 2)
    ∷ row "A<=B>"
    (0x01_000001_00000000 ∷ 0x19_000002_00000001 ∷ 0x01_000001_00000003 ∷ 0x17_000001_00000004 ∷ 0x00_000000_00000005 ∷ [])
    (denied 3 1 1 2)
    ∷ row "(infer string extends A<> ? X : Y)"
    (0x14_000001_00000000 ∷ 0x4D_000005_00000001 ∷ 0x46_000006_00000007 ∷ 0x60_000007_0000000E ∷ 0x01_000001_00000016 ∷ 0x16_000001_00000017 ∷ 0x17_000001_00000018 ∷ 0x1D_000001_0000001A ∷ 0x01_000001_0000001C ∷ 0x1E_000001_0000001E ∷ 0x01_000001_00000020 ∷ 0x15_000001_00000021 ∷ 0x00_000000_00000022 ∷ [])
    (granted
    (conditional 1 33 (infer 1 13 (at 7 "string") absent) (reference 22 25 (at 22 "A" ∷ []) (present [])) (ref 28 "X") (ref 32 "Y"))
    (note 13 7 13 ∷ note 2 23 25 ∷ []) 12 0 (0x12 ∷ 0x4A ∷ 0x00 ∷ 0x06 ∷ 0x73 ∷ 0x74 ∷ 0x72 ∷ 0x69 ∷ 0x6E ∷ 0x67 ∷ 0x02 ∷ 0x00 ∷ 0x20 ∷ 0x00 ∷ 0x28 ∷ 0x30 ∷ 0x00 ∷ 0x04 ∷ 0x00 ∷ 0x40 ∷ 0x00 ∷ 0x56 ∷ 0x00 ∷ 0x80 ∷ 0x08 ∷ 0x00 ∷ 0x0A ∷ 0xC8 ∷ []) 6)
    ∷ row "<any extends B<>>() => C"
    (0x16_000001_00000000 ∷ 0x40_000003_00000001 ∷ 0x60_000007_00000005 ∷ 0x01_000001_0000000D ∷ 0x16_000001_0000000E ∷ 0x17_000001_0000000F ∷ 0x17_000001_00000010 ∷ 0x14_000001_00000011 ∷ 0x15_000001_00000012 ∷ 0x23_000002_00000014 ∷ 0x01_000001_00000017 ∷ 0x00_000000_00000018 ∷ [])
    (granted
    (function 0 24 (present (type_parameter 1 16 (at 1 "any") (present (reference 13 16 (at 13 "B" ∷ []) (present []))) absent ∷ [])) absent [] (ref 23 "C"))
    (note 13 1 4 ∷ note 2 14 16 ∷ []) 11 0 (0x13 ∷ 0x20 ∷ 0x02 ∷ 0x00 ∷ 0x06 ∷ 0xC2 ∷ 0xDC ∷ 0xF3 ∷ 0x04 ∷ 0x00 ∷ 0x40 ∷ 0x00 ∷ 0x50 ∷ 0xA0 ∷ 0x00 ∷ 0x00 ∷ 0x00 ∷ 0x20 ∷ 0x02 ∷ 0x00 ∷ 0x02 ∷ 0x86 ∷ []) 3)
    ∷ row "[A?, B?, C]"
    (0x12_000001_00000000 ∷ 0x01_000001_00000001 ∷ 0x1D_000001_00000002 ∷ 0x1F_000001_00000003 ∷ 0x01_000001_00000005 ∷ 0x1D_000001_00000006 ∷ 0x1F_000001_00000007 ∷ 0x01_000001_00000009 ∷ 0x13_000001_0000000A ∷ 0x00_000000_0000000B ∷ [])
    (granted
    (tuple 0 11 (optional 1 3 (ref 1 "A") ∷ optional 5 7 (ref 5 "B") ∷ ref 9 "C" ∷ []))
    (note_both 4 9 10 5 7 ∷ []) 9 0 (0x14 ∷ 0xC0 ∷ 0x0D ∷ 0x40 ∷ 0x40 ∷ 0x04 ∷ 0x00 ∷ 0x05 ∷ 0x04 ∷ 0xA0 ∷ 0x20 ∷ 0x02 ∷ 0x00 ∷ 0x02 ∷ 0x84 ∷ 0x04 ∷ 0x00 ∷ 0x40 ∷ 0x00 ∷ 0x50 ∷ 0xC0 ∷ []) 4)
    ∷ []

-- every row reads as it says
pub further_rows_lem : Every Holds further_rows
unfolding rules read_row
further_rows_lem = (refl, (refl, (refl, (refl, (refl, (refl, (refl, tt)))))))

-- `A` into five node words, two for names, three for notes and eight bytes of key: a node, a name, a key, then zeros
pub granted_call : read (bytes "A") (0x01_000001_00000000 ∷ 0x00_000000_00000001 ∷ []) 0 false (lend 5 2 3 8)
    ≡ record {
      answer = reads 1 1 0 1 0 6 1;
      node_words = 0x41 ∷ 0x00000001_00000000 ∷ 0 ∷ 0 ∷ 0 ∷ [];
      name_words = 0x00000000_00000001 ∷ 0 ∷ [];
      note_words = 0 ∷ 0 ∷ 0 ∷ [];
      key = 0x10 ∷ 0x40 ∷ 0x04 ∷ 0x00 ∷ 0x05 ∷ 0x04 ∷ 0 ∷ 0 ∷ [];
    }
unfolding rules read
granted_call = refl

-- the same where the key has five bytes: 11, and all zeros
pub refused_call : read (bytes "A") (0x01_000001_00000000 ∷ 0x00_000000_00000001 ∷ []) 0 false (lend 5 2 3 5)
    ≡ record {
      answer = refuses 11 0 0 0;
      node_words = 0 ∷ 0 ∷ 0 ∷ 0 ∷ 0 ∷ [];
      name_words = 0 ∷ 0 ∷ [];
      note_words = 0 ∷ 0 ∷ 0 ∷ [];
      key = 0 ∷ 0 ∷ 0 ∷ 0 ∷ 0 ∷ [];
    }
unfolding rules read
refused_call = refl
