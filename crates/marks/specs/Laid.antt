-- What the lent slices hold of what was read: nodes, names and diagnostics beyond what stood there.
use Rattle.std.specs.Prelude.{◌≡◌, Bool, not, List, [], ◌∷◌, ◌++◌, ℕ, zero, suc, ◌+◌, ◌%◌, ◌^◌, ◌≤◌, ◌<◌, max, T, eqb, ltb, length, take}
use Rattle.keys.specs.Limits.{tags}
use Rattle.words.specs.Test.{◌and◌, ◌or◌, between, among}
use Rattle.keys.specs.Bits.{unit}
use Rattle.keys.specs.Form.{child}
use Rattle.keys.specs.Key.{node_table}
use Rattle.keys.specs.Table.{named_row}
use Rattle.keys.specs.Placed.{Placed, tree, second, is_set, chosen, Spelling, Opt, absent, present}
use Rattle.keys.specs.Store.{Run, done, chose, name, kid, plant, under, called, packed, first_kid, records, names_in, ◌⊕◌}
use Rattle.keys.specs.Words.{first_nodes, first_names}
use Rattle.rules.specs.Notes.{Note}
use Rattle.marks.specs.State.{notes_of}
use Rattle.marks.specs.declared.state.Mark.{Mark}
use Rattle.marks.specs.declared.state.Kids.{Kids}

-- ---- Runs as a reading makes them: names and children in the order in which they are read

-- The greatest height among the children of a run.
abbrev pub heights : Run → ℕ
heights done = 0
heights (chose w k r) = heights r
heights (name x s r) = heights r
heights (kid first end a r) = max (suc (heights a)) (heights r)

-- A run without its choices, which are known last.
abbrev pub skeleton : Run → Run
skeleton done = done
skeleton (chose w k r) = skeleton r
skeleton (name x s r) = name x s (skeleton r)
skeleton (kid first end a r) = kid first end a (skeleton r)

-- A tree of a class as a run.
abbrev pub run_in : ℕ → Placed → Run
run_in c t = plant node_table (child c) t done

-- An optional tree.
abbrev pub run_opt : ℕ → Opt Placed → Run
run_opt c absent = done
run_opt c (present t) = run_in c t

-- The same as a choice.
abbrev pub opt_bit : Opt Placed → ℕ
opt_bit absent = 0
opt_bit (present t) = 1

-- Trees one after the other.
abbrev pub runs : ℕ → List Placed → Run
runs c [] = done
runs c (t ∷ l) = run_in c t ⊕ runs c l

-- An optional list of trees.
abbrev pub runs_opt : ℕ → Opt (List Placed) → Run
runs_opt c absent = done
runs_opt c (present l) = runs c l

-- A name.
abbrev pub name_run : Spelling → Run
name_run s = name s.0 s.1 done

-- Names one after the other.
abbrev pub names_run : List Spelling → Run
names_run [] = done
names_run (s ∷ l) = name s.0 s.1 (names_run l)

-- Of a member, that the lowest choice behind its tag is its `?` bit.
abbrev pub shows_asked : Placed → Bool
shows_asked p = eqb (packed (plant node_table named_row p done) % 2) (unit (is_set (second p)))

-- Of a keyword or a template, that the choices behind its tag are its first choice alone.
abbrev pub shows_chosen : ℕ → Placed → Bool
shows_chosen tag p = eqb (packed (plant node_table (node_table.row 0 tag) p done)) (chosen p)

-- Whether a tag, of six bits, may stand in a class over what it holds: 20 to 22 are no types, 22 is a member, 2 and 15 show what they chose.
abbrev pub allowed : ℕ → ℕ → Placed → Bool
allowed zero tag p = (ltb tag tags and not (between 20 22 tag)) and (not (among (2 ∷ 15 ∷ []) tag) or shows_chosen tag p)
allowed (suc c) tag p = ltb tag tags and (not (eqb tag 22) or shows_asked p)

-- A tree that is a node of a class, with a first byte of 32 bits.
pub data IsNode (c : ℕ) : Placed → Type 0 where
  node : {tag first end : ℕ} {p : Placed} → T (allowed c tag p) × (first < 2 ^ 32) → IsNode c (tree tag first end p)

-- An optional tree that is a node of a class if it is there.
abbrev pub IsOpt : ℕ → Opt Placed → Type 0
IsOpt c absent = Unit {0}
IsOpt c (present t) = IsNode c t

-- Every tree of a list is a node of a class.
abbrev pub AllNodes : ℕ → List Placed → Type 0
AllNodes c [] = Unit {0}
AllNodes c (t ∷ l) = IsNode c t × AllNodes c l

-- The same of a list that may be absent.
abbrev pub AllOpt : ℕ → Opt (List Placed) → Type 0
AllOpt c absent = Unit {0}
AllOpt c (present l) = AllNodes c l

-- ---- The slices

-- What stood in them when something began.
pub record Was : Type 0 where
  pub used : ℕ
  pub nodes : List ℕ
  pub named : ℕ
  pub names : List ℕ
  pub room : ℕ
  pub noted : ℕ
  pub notes : List Note

-- What stands in them now, by how much of each is used.
abbrev pub was_at : (used named noted : ℕ) (N M O : List ℕ) → Was
was_at u m n N M O = record { used = u; nodes = first_nodes N u; named = m; names = first_names M m; room = length M; noted = n; notes = notes_of O n }

-- The same at a mark.
abbrev pub was : Mark → (N M O : List ℕ) → Was
was m N M O = was_at m.used m.named m.noted N M O

-- Beyond what stood there they hold a run, the names as far as they fit; the diagnostics that stood there stand.
pub record Laid (B : Was) (t : Run) (used named noted : ℕ) (N M O : List ℕ) : Type 0 where
  pub used_is : used ≡ B.used + under t
  pub named_is : named ≡ B.named + called t
  pub nodes_are : first_nodes N used ≡ B.nodes ++ records t B.used B.named 0
  pub room_is : length M ≡ B.room
  pub names_are : first_names M named ≡ take B.room (B.names ++ names_in t)
  pub noted_is : B.noted ≤ noted
  pub notes_are : notes_of O B.noted ≡ B.notes

-- The same of the children and names of a node that is being read.
pub record Built (B : Was) (t : Run) (k : Kids) (used named noted : ℕ) (N M O : List ℕ) : Type 0 where
  pub laid : Laid B t used named noted N M O
  pub first_is : k.first ≡ first_kid t B.used 0
  pub high_is : k.high ≡ heights t

-- The same at a mark.
abbrev pub BuiltAt : Was → Run → Kids → Mark → (N M O : List ℕ) → Type 0
BuiltAt B t k m N M O = Built B t k m.used m.named m.noted N M O

-- The same of a tree that was read.
pub record Stands (c : ℕ) (B : Was) (t : Placed) (high : ℕ) (m : Mark) (N M O : List ℕ) : Type 0 where
  pub is_node : IsNode c t
  pub high_is : high ≡ heights (run_in c t)
  pub laid : Laid B (run_in c t) m.used m.named m.noted N M O

-- Names alone were written, from m to q.
pub record Spoken (ss : List Spelling) (m q : Mark) (M M' : List ℕ) : Type 0 where
  pub used_is : q.used ≡ m.used
  pub noted_is : q.noted ≡ m.noted
  pub on : (B : Was) (t : Run) (N O : List ℕ) → Laid B t m.used m.named m.noted N M O → Laid B (t ⊕ names_run ss) q.used q.named q.noted N M' O

-- What a tag and the value behind it put into a node: the names and children of t, and these choices.
pub record Shape (c tag : ℕ) (p : Placed) (t : Run) (choices : ℕ) : Type 0 where
  pub same : skeleton (plant node_table (node_table.row c tag) p done) ≡ skeleton t
  pub choices_are : choices ≡ packed (chose (node_table.tag_width c) tag (plant node_table (node_table.row c tag) p done))
  pub allowed_is : T (allowed c tag p)
