-- The limits of document 01, each once, under the name of what it limits.
use Rattle.std.specs.Prelude.{ℕ}

-- bytes of a text
abbrev pub most_text : ℕ
most_text = 65535

-- tokens of a list, the Eof among them
abbrev pub most_tokens : ℕ
most_tokens = 16384

-- type rules open at once
abbrev pub most_open : ℕ
most_open = 64

-- the height of a tree
abbrev pub tallest : ℕ
tallest = 256

-- the entries of a list
abbrev pub longest : ℕ
longest = 4095

-- diagnostics of a reading
abbrev pub most_notes : ℕ
most_notes = 32

-- bytes of a key
abbrev pub most_key : ℕ
most_key = 262144

-- trials open at once (02, W4)
abbrev pub most_trials : ℕ
most_trials = 4

-- how far the type rules that were entered are counted
abbrev pub most_entered : ℕ
most_entered = 4294967295
