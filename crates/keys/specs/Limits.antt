-- The numbers of the key, each once and under the name of what it limits or measures (01, The two calls; The key; Refusal numbers).
use Rattle.std.specs.Prelude.{◌≡◌, refl, ℕ, suc, ◌^◌}
use Rattle.words.specs.Limits as most

-- A key has at most so many bytes.
abbrev pub longest_key : ℕ
longest_key = most.most_key

-- A tree is at most so high.
abbrev pub tallest : ℕ
tallest = most.tallest

-- ---- The editions of the key

-- The editions that are known.
pub data Edition : Type 0 where
  edition1 : Edition

-- The number that the keys of an edition begin with.
abbrev pub numbered : Edition → ℕ
numbered edition1 = 1

-- The width of a list's count, by edition.
abbrev pub count_wide : Edition → ℕ
count_wide edition1 = 12

-- The edition of the keys we write.
abbrev pub newest : Edition
newest = edition1

-- Its number.
abbrev pub edition : ℕ
edition = numbered newest

-- The width of a list's count in the keys we write.
abbrev pub count_width : ℕ
count_width = count_wide newest

-- How many counts there are.
abbrev pub counts : ℕ
counts = 4096

-- A count holds every length that a list may have, and no more.
pub count_holds : 2 ^ count_width ≡ suc most.longest
count_holds = refl

pub counts_are : 2 ^ count_width ≡ counts
counts_are = refl

-- ---- The widths of other fields, in every edition

-- The width of a spelling's length.
abbrev pub length_width : ℕ
length_width = 16

-- The width of a tag, and how many tags there are.
abbrev pub tag_wide : ℕ
tag_wide = 6

abbrev pub tags : ℕ
tags = 64

pub tags_are : 2 ^ tag_wide ≡ tags
tags_are = refl

-- The width of a member's sort, which stands in the place of a tag.
abbrev pub sort_wide : ℕ
sort_wide = 3

-- The widest field that is put or taken.
abbrev pub widest : ℕ
widest = 24

-- The width of the edition.
abbrev pub edition_width : ℕ
edition_width = 4

-- ---- The store

-- The words of a node's record in the store.
abbrev pub record_words : ℕ
record_words = 4

-- The words of a visit.
abbrev pub visit_wide : ℕ
visit_wide = 3

-- A word holds two numbers, each below this.
abbrev pub half_word : ℕ
half_word = 2 ^ 32

-- A node's own choices have at most so many bits together.
abbrev pub choices_wide : ℕ
choices_wide = 60

-- ---- The refusals that taking back meets, by their names (Refusal numbers)

-- 6: a node with 256 above it.
abbrev pub too_tall : ℕ
too_tall = 6

-- 8: no node left.
abbrev pub no_room : ℕ
no_room = 8

-- 10: a key that is too long, or the first field the node table disallows.
abbrev pub bad_key : ℕ
bad_key = 10

-- 11: spellings that don't fit.
abbrev pub no_space : ℕ
no_space = 11
