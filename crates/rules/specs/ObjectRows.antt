-- Readings of object types, in a table of their own (02, W1).
use Rattle.std.specs.Prelude.{ℕ, true, false, List, [], ◌∷◌, refl}
use Rattle.keys.specs.Placed.{Spelling, PropertyKey, absent, present, call_signature, construct_signature, index_signature, keyword, literal, method, object, parameter, predicate, property, reference, type_parameter}
use Rattle.rules.specs.Notes.{note}
use Rattle.rules.specs.Read.{granted, denied}
use Rattle.rules.specs.Rules.{rules}
use Rattle.rules.specs.Rows.{Row, row, read_row, Holds, Every, at, ref}

-- a key of a sort, and its spelling
abbrev pub key : ℕ → Spelling → PropertyKey
key k x = record { which = k; spelling = x }

-- each sort of member, its diagnostics and spans, where members end, and what is refused; a line break is a bit of the word behind it
abbrev pub object_rows : List Row
object_rows =
    row "{}"
    (0x10_000001_00000000 ∷ 0x11_000001_00000001 ∷ 0x00_000000_00000002 ∷ [])
    (granted
    (object 0 2 [])
    [] 2 0 (0x16 ∷ 0x40 ∷ 0x00 ∷ []) 1)
    ∷ row "{ a: A }"
    (0x10_000001_00000000 ∷ 0x01_000001_00000002 ∷ 0x1E_000001_00000003 ∷ 0x01_000001_00000005 ∷ 0x11_000001_00000007 ∷ 0x00_000000_00000008 ∷ [])
    (granted
    (object 0 8 ((property 2 6 false (key 0 (at 2 "a")) false (present (ref 5 "A"))) ∷ []))
    [] 5 0 (0x16 ∷ 0x40 ∷ 0x04 ∷ 0x00 ∷ 0x00 ∷ 0x16 ∷ 0x14 ∷ 0x10 ∷ 0x01 ∷ 0x00 ∷ 0x01 ∷ 0x41 ∷ 0x00 ∷ []) 2)
    ∷ row "{ readonly 'a'?: A, 1 }"
    (0x10_000001_00000000 ∷ 0x51_000008_00000002 ∷ 0x04_000003_0000000B ∷ 0x1D_000001_0000000E ∷ 0x1E_000001_0000000F ∷ 0x01_000001_00000011 ∷ 0x1F_000001_00000012 ∷ 0x02_000001_00000014 ∷ 0x11_000001_00000016 ∷ 0x00_000000_00000017 ∷ [])
    (granted
    (object 0 23 ((property 2 19 true (key 1 (at 11 "'a'")) true (present (ref 17 "A"))) ∷ (property 20 21 false (key 2 (at 20 "1")) false absent) ∷ []))
    [] 9 0 (0x16 ∷ 0x40 ∷ 0x08 ∷ 0x50 ∷ 0x00 ∷ 0x32 ∷ 0x76 ∷ 0x12 ∷ 0x7C ∷ 0x10 ∷ 0x01 ∷ 0x00 ∷ 0x01 ∷ 0x41 ∷ 0x04 ∷ 0x00 ∷ 0x02 ∷ 0x62 ∷ 0x00 ∷ []) 2)
    ∷ row "{ readonly a(): B }"
    (0x10_000001_00000000 ∷ 0x51_000008_00000002 ∷ 0x01_000001_0000000B ∷ 0x14_000001_0000000C ∷ 0x15_000001_0000000D ∷ 0x1E_000001_0000000E ∷ 0x01_000001_00000010 ∷ 0x11_000001_00000012 ∷ 0x00_000000_00000013 ∷ [])
    (granted
    (object 0 19 ((method 2 17 (key 0 (at 11 "a")) false absent absent [] (present (ref 16 "B"))) ∷ []))
    [] 8 0 (0x16 ∷ 0x40 ∷ 0x04 ∷ 0x80 ∷ 0x00 ∷ 0x2C ∷ 0x20 ∷ 0x00 ∷ 0x20 ∷ 0x80 ∷ 0x08 ∷ 0x00 ∷ 0x0A ∷ 0x10 ∷ []) 2)
    ∷ row "{ m<T extends A>(this: B, x?: C): x is D }"
    (0x10_000001_00000000 ∷ 0x01_000001_00000002 ∷ 0x16_000001_00000003 ∷ 0x01_000001_00000004 ∷ 0x60_000007_00000006 ∷ 0x01_000001_0000000E ∷ 0x17_000001_0000000F ∷ 0x14_000001_00000010 ∷ 0x66_000004_00000011 ∷ 0x1E_000001_00000015 ∷ 0x01_000001_00000017 ∷ 0x1F_000001_00000018 ∷ 0x01_000001_0000001A ∷ 0x1D_000001_0000001B ∷ 0x1E_000001_0000001C ∷ 0x01_000001_0000001E ∷ 0x15_000001_0000001F ∷ 0x1E_000001_00000020 ∷ 0x01_000001_00000022 ∷ 0x4E_000002_00000024 ∷ 0x01_000001_00000027 ∷ 0x11_000001_00000029 ∷ 0x00_000000_0000002A ∷ [])
    (granted
    (object 0 42 ((method 2 40 (key 0 (at 2 "m")) false (present ((type_parameter 4 15 (at 4 "T") (present (ref 14 "A")) absent) ∷ [])) (present (present (ref 23 "B"))) ((parameter 26 31 false (at 26 "x") true (present (ref 30 "C"))) ∷ []) (present (predicate 34 40 false (present (at 34 "x")) (present (ref 39 "D"))))) ∷ []))
    [] 22 0 (0x16 ∷ 0x40 ∷ 0x04 ∷ 0x80 ∷ 0x00 ∷ 0x2D ∷ 0xA8 ∷ 0x00 ∷ 0x80 ∷ 0x00 ∷ 0xAA ∷ 0x41 ∷ 0x00 ∷ 0x10 ∷ 0x00 ∷ 0x14 ∷ 0x13 ∷ 0x04 ∷ 0x00 ∷ 0x40 ∷ 0x00 ∷ 0x50 ∷ 0x80 ∷ 0x02 ∷ 0x00 ∷ 0x01 ∷ 0x78 ∷ 0xC1 ∷ 0x00 ∷ 0x10 ∷ 0x00 ∷ 0x14 ∷ 0x35 ∷ 0x00 ∷ 0x00 ∷ 0x05 ∷ 0xE2 ∷ 0x08 ∷ 0x00 ∷ 0x80 ∷ 0x00 ∷ 0xA2 ∷ 0x00 ∷ []) 5)
    ∷ row "{ <T>(x: T): T, (this) }"
    (0x10_000001_00000000 ∷ 0x16_000001_00000002 ∷ 0x01_000001_00000003 ∷ 0x17_000001_00000004 ∷ 0x14_000001_00000005 ∷ 0x01_000001_00000006 ∷ 0x1E_000001_00000007 ∷ 0x01_000001_00000009 ∷ 0x15_000001_0000000A ∷ 0x1E_000001_0000000B ∷ 0x01_000001_0000000D ∷ 0x1F_000001_0000000E ∷ 0x14_000001_00000010 ∷ 0x66_000004_00000011 ∷ 0x15_000001_00000015 ∷ 0x11_000001_00000017 ∷ 0x00_000000_00000018 ∷ [])
    (granted
    (object 0 24 ((call_signature 2 15 (present ((type_parameter 3 4 (at 3 "T") absent absent) ∷ [])) absent ((parameter 6 10 false (at 6 "x") false (present (ref 9 "T"))) ∷ []) (present (ref 13 "T"))) ∷ (call_signature 16 22 absent (present absent) [] absent) ∷ []))
    [] 16 0 (0x16 ∷ 0x40 ∷ 0x09 ∷ 0x40 ∷ 0x04 ∷ 0x00 ∷ 0x05 ∷ 0x50 ∷ 0x00 ∷ 0x08 ∷ 0x00 ∷ 0x05 ∷ 0xE1 ∷ 0x04 ∷ 0x00 ∷ 0x40 ∷ 0x00 ∷ 0x55 ∷ 0x10 ∷ 0x40 ∷ 0x04 ∷ 0x00 ∷ 0x05 ∷ 0x50 ∷ 0x90 ∷ 0x00 ∷ 0x00 ∷ []) 3)
    ∷ row "{ new (this: A<>): B<> }"
    (0x10_000001_00000000 ∷ 0x64_000003_00000002 ∷ 0x14_000001_00000006 ∷ 0x66_000004_00000007 ∷ 0x1E_000001_0000000B ∷ 0x01_000001_0000000D ∷ 0x16_000001_0000000E ∷ 0x17_000001_0000000F ∷ 0x15_000001_00000010 ∷ 0x1E_000001_00000011 ∷ 0x01_000001_00000013 ∷ 0x16_000001_00000014 ∷ 0x17_000001_00000015 ∷ 0x11_000001_00000017 ∷ 0x00_000000_00000018 ∷ [])
    (granted
    (object 0 24 ((construct_signature 2 22 absent [] (present (reference 19 22 ((at 19 "B") ∷ []) (present [])))) ∷ []))
    (note 2 14 16 ∷ note 3 7 16 ∷ note 2 20 22 ∷ []) 14 0 (0x16 ∷ 0x40 ∷ 0x05 ∷ 0x80 ∷ 0x02 ∷ 0x08 ∷ 0x00 ∷ 0x80 ∷ 0x00 ∷ 0xA1 ∷ 0x40 ∷ 0x00 ∷ []) 3)
    ∷ row "{ readonly [a: A, b: 'x',]: C }"
    (0x10_000001_00000000 ∷ 0x51_000008_00000002 ∷ 0x12_000001_0000000B ∷ 0x01_000001_0000000C ∷ 0x1E_000001_0000000D ∷ 0x01_000001_0000000F ∷ 0x1F_000001_00000010 ∷ 0x01_000001_00000012 ∷ 0x1E_000001_00000013 ∷ 0x04_000003_00000015 ∷ 0x1F_000001_00000018 ∷ 0x13_000001_00000019 ∷ 0x1E_000001_0000001A ∷ 0x01_000001_0000001C ∷ 0x11_000001_0000001E ∷ 0x00_000000_0000001F ∷ [])
    (granted
    (object 0 31 ((index_signature 2 29 true (present ((at 12 "a"), (ref 15 "A"))) (ref 28 "C")) ∷ []))
    (note 9 24 25 ∷ note 12 2 26 ∷ []) 15 0 (0x16 ∷ 0x40 ∷ 0x06 ∷ 0x60 ∷ 0x00 ∷ 0x2C ∷ 0x20 ∷ 0x80 ∷ 0x08 ∷ 0x00 ∷ 0x0A ∷ 0x08 ∷ 0x10 ∷ 0x01 ∷ 0x00 ∷ 0x01 ∷ 0x43 ∷ 0x00 ∷ []) 4)
    ∷ row "{ readonly [a?: boolean,]: C }"
    (0x10_000001_00000000 ∷ 0x51_000008_00000002 ∷ 0x12_000001_0000000B ∷ 0x01_000001_0000000C ∷ 0x1D_000001_0000000D ∷ 0x1E_000001_0000000E ∷ 0x42_000007_00000010 ∷ 0x1F_000001_00000017 ∷ 0x13_000001_00000018 ∷ 0x1E_000001_00000019 ∷ 0x01_000001_0000001B ∷ 0x11_000001_0000001D ∷ 0x00_000000_0000001E ∷ [])
    (granted
    (object 0 30 ((index_signature 2 28 true (present ((at 12 "a"), (keyword 16 23 2))) (ref 27 "C")) ∷ []))
    (note 8 13 14 ∷ note 9 23 24 ∷ note 11 12 23 ∷ []) 12 0 (0x16 ∷ 0x40 ∷ 0x06 ∷ 0x60 ∷ 0x00 ∷ 0x2C ∷ 0x21 ∷ 0x10 ∷ 0x20 ∷ 0x02 ∷ 0x00 ∷ 0x02 ∷ 0x86 ∷ []) 3)
    ∷ row "{ [a: 'x']: A }"
    (0x10_000001_00000000 ∷ 0x12_000001_00000002 ∷ 0x01_000001_00000003 ∷ 0x1E_000001_00000004 ∷ 0x04_000003_00000006 ∷ 0x13_000001_00000009 ∷ 0x1E_000001_0000000A ∷ 0x01_000001_0000000C ∷ 0x11_000001_0000000E ∷ 0x00_000000_0000000F ∷ [])
    (granted
    (object 0 15 ((index_signature 2 13 false (present ((at 3 "a"), (literal 6 9 0 (present (at 6 "'x'"))))) (ref 12 "A")) ∷ []))
    (note 10 6 9 ∷ []) 9 0 (0x16 ∷ 0x40 ∷ 0x06 ∷ 0x20 ∷ 0x00 ∷ 0x2C ∷ 0x21 ∷ 0x80 ∷ 0x00 ∷ 0x32 ∷ 0x77 ∷ 0x82 ∷ 0x70 ∷ 0x40 ∷ 0x04 ∷ 0x00 ∷ 0x05 ∷ 0x04 ∷ []) 3)
    ∷ row "{ []: A }"
    (0x10_000001_00000000 ∷ 0x12_000001_00000002 ∷ 0x13_000001_00000003 ∷ 0x1E_000001_00000004 ∷ 0x01_000001_00000006 ∷ 0x11_000001_00000008 ∷ 0x00_000000_00000009 ∷ [])
    (granted
    (object 0 9 ((index_signature 2 7 false absent (ref 6 "A")) ∷ []))
    (note 12 2 4 ∷ []) 6 0 (0x16 ∷ 0x40 ∷ 0x06 ∷ 0x00 ∷ 0x80 ∷ 0x08 ∷ 0x00 ∷ 0x0A ∷ 0x08 ∷ []) 2)
    ∷ row "{ a ; b , c }"
    (0x10_000001_00000000 ∷ 0x01_000001_00000002 ∷ 0x20_800001_00000004 ∷ 0x01_000001_00000006 ∷ 0x1F_800001_00000008 ∷ 0x01_000001_0000000A ∷ 0x11_000001_0000000C ∷ 0x00_000000_0000000D ∷ [])
    (granted
    (object 0 13 ((property 2 5 false (key 0 (at 2 "a")) false absent) ∷ (property 6 9 false (key 0 (at 6 "b")) false absent) ∷ (property 10 11 false (key 0 (at 10 "c")) false absent) ∷ []))
    [] 7 0 (0x16 ∷ 0x40 ∷ 0x0C ∷ 0x00 ∷ 0x00 ∷ 0x16 ∷ 0x10 ∷ 0x00 ∷ 0x00 ∷ 0x16 ∷ 0x20 ∷ 0x00 ∷ 0x00 ∷ 0x16 ∷ 0x30 ∷ []) 1)
    ∷ row "{ readonly a: A }"
    (0x10_000001_00000000 ∷ 0x51_000008_00000002 ∷ 0x01_800001_0000000B ∷ 0x1E_000001_0000000C ∷ 0x01_000001_0000000E ∷ 0x11_000001_00000010 ∷ 0x00_000000_00000011 ∷ [])
    (granted
    (object 0 17 ((property 2 10 false (key 0 (at 2 "readonly")) false absent) ∷ (property 11 15 false (key 0 (at 11 "a")) false (present (ref 14 "A"))) ∷ []))
    [] 6 0 (0x16 ∷ 0x40 ∷ 0x08 ∷ 0x00 ∷ 0x00 ∷ 0x87 ∷ 0x26 ∷ 0x56 ∷ 0x16 ∷ 0x46 ∷ 0xF6 ∷ 0xE6 ∷ 0xC7 ∷ 0x90 ∷ 0x00 ∷ 0x00 ∷ 0x16 ∷ 0x14 ∷ 0x10 ∷ 0x01 ∷ 0x00 ∷ 0x01 ∷ 0x41 ∷ 0x00 ∷ []) 2)
    ∷ row "{ a (b): C }"
    (0x10_000001_00000000 ∷ 0x01_000001_00000002 ∷ 0x14_800001_00000004 ∷ 0x01_000001_00000005 ∷ 0x15_000001_00000006 ∷ 0x1E_000001_00000007 ∷ 0x01_000001_00000009 ∷ 0x11_000001_0000000B ∷ 0x00_000000_0000000C ∷ [])
    (granted
    (object 0 12 ((method 2 10 (key 0 (at 2 "a")) false absent absent ((parameter 5 6 false (at 5 "b") false absent) ∷ []) (present (ref 9 "C"))) ∷ []))
    [] 8 0 (0x16 ∷ 0x40 ∷ 0x04 ∷ 0x80 ∷ 0x00 ∷ 0x2C ∷ 0x20 ∷ 0x00 ∷ 0x40 ∷ 0x00 ∷ 0x2C ∷ 0x44 ∷ 0x10 ∷ 0x01 ∷ 0x00 ∷ 0x01 ∷ 0x43 ∷ 0x00 ∷ []) 2)
    ∷ row "{ get: A; set?; new: B }"
    (0x10_000001_00000000 ∷ 0x01_000003_00000002 ∷ 0x1E_000001_00000005 ∷ 0x01_000001_00000007 ∷ 0x20_000001_00000008 ∷ 0x01_000003_0000000A ∷ 0x1D_000001_0000000D ∷ 0x20_000001_0000000E ∷ 0x64_000003_00000010 ∷ 0x1E_000001_00000013 ∷ 0x01_000001_00000015 ∷ 0x11_000001_00000017 ∷ 0x00_000000_00000018 ∷ [])
    (granted
    (object 0 24 ((property 2 9 false (key 0 (at 2 "get")) false (present (ref 7 "A"))) ∷ (property 10 15 false (key 0 (at 10 "set")) true absent) ∷ (property 16 22 false (key 0 (at 16 "new")) false (present (ref 21 "B"))) ∷ []))
    [] 12 0 (0x16 ∷ 0x40 ∷ 0x0C ∷ 0x00 ∷ 0x00 ∷ 0x36 ∷ 0x76 ∷ 0x57 ∷ 0x44 ∷ 0x10 ∷ 0x01 ∷ 0x00 ∷ 0x01 ∷ 0x41 ∷ 0x00 ∷ 0x00 ∷ 0x06 ∷ 0xE6 ∷ 0xCA ∷ 0xE9 ∷ 0x00 ∷ 0x00 ∷ 0x06 ∷ 0xDC ∷ 0xCA ∷ 0xEE ∷ 0x82 ∷ 0x00 ∷ 0x20 ∷ 0x00 ∷ 0x28 ∷ 0x40 ∷ []) 3)
    ∷ row "{ get a(): A }"
    (0x10_000001_00000000 ∷ 0x01_000003_00000002 ∷ 0x01_000001_00000006 ∷ 0x14_000001_00000007 ∷ 0x15_000001_00000008 ∷ 0x1E_000001_00000009 ∷ 0x01_000001_0000000B ∷ 0x11_000001_0000000D ∷ 0x00_000000_0000000E ∷ [])
    (denied 31 1 0 2)
    ∷ row "{ readonly static a: A }"
    (0x10_000001_00000000 ∷ 0x51_000008_00000002 ∷ 0x53_000006_0000000B ∷ 0x01_000001_00000012 ∷ 0x1E_000001_00000013 ∷ 0x01_000001_00000015 ∷ 0x11_000001_00000017 ∷ 0x00_000000_00000018 ∷ [])
    (denied 31 2 0 11)
    ∷ row "{ [a]: A }"
    (0x10_000001_00000000 ∷ 0x12_000001_00000002 ∷ 0x01_000001_00000003 ∷ 0x13_000001_00000004 ∷ 0x1E_000001_00000005 ∷ 0x01_000001_00000007 ∷ 0x11_000001_00000009 ∷ 0x00_000000_0000000A ∷ [])
    (denied 31 1 0 2)
    ∷ row "{ a b: A }"
    (0x10_000001_00000000 ∷ 0x01_000001_00000002 ∷ 0x01_000001_00000004 ∷ 0x1E_000001_00000005 ∷ 0x01_000001_00000007 ∷ 0x11_000001_00000009 ∷ 0x00_000000_0000000A ∷ [])
    (denied 3 2 0 4)
    ∷ row "{ [a: string] }"
    (0x10_000001_00000000 ∷ 0x12_000001_00000002 ∷ 0x01_000001_00000003 ∷ 0x1E_000001_00000004 ∷ 0x46_000006_00000006 ∷ 0x13_000001_0000000C ∷ 0x11_000001_0000000E ∷ 0x00_000000_0000000F ∷ [])
    (denied 3 6 0 14)
    ∷ row "{ readonly readonly a: A }"
    (0x10_000001_00000000 ∷ 0x51_000008_00000002 ∷ 0x51_000008_0000000B ∷ 0x01_000001_00000014 ∷ 0x1E_000001_00000015 ∷ 0x01_000001_00000017 ∷ 0x11_000001_00000019 ∷ 0x00_000000_0000001A ∷ [])
    (denied 3 3 0 20)
    ∷ []

-- every row reads as it says
pub object_rows_lem : Every Holds object_rows
unfolding rules read_row
object_rows_lem = (refl, (refl, (refl, (refl, (refl, (refl, (refl, (refl, (refl, (refl, (refl, (refl, (refl, (refl, (refl, (refl, (refl, (refl, (refl, (refl, (refl, tt)))))))))))))))))))))
