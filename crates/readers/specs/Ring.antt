-- What the readers of the ring ask and answer, each over what it is lent.
use Rattle.std.specs.Prelude.{◌≡◌, Bool, true, List, [], ℕ, ◌+◌, ◌*◌, ◌^◌, ◌≤◌, ◌<◌, length}
use Rattle.std.specs.Borrow.{Bor, MutBor}
use denote.Triple.Both.{Both}
use Rattle.words.specs.Limits.{most_tokens, tallest}
use Rattle.keys.specs.Placed.{Placed, Spelling, Opt}
use Rattle.keys.specs.Store.{Run, done, ◌⊕◌}
use Rattle.rules.specs.State as rule
use Rattle.rules.specs.State.{State, Result, Reader, read, turns}
use Rattle.rules.specs.Function as function
use Rattle.rules.specs.Function.{ThisParameter, Parameters, parameters_of}
use Rattle.rules.specs.Object as object
use Rattle.rules.specs.Object.{Signature}
use Rattle.rules.specs.Reading.{read_type}
use Rattle.marks.specs.State.{view, given_of, Declined, Sound, Spelt, Room, Fine, Under, place_of}
use Rattle.marks.specs.Laid.{runs, names_run, AllNodes, Was, was, Laid, BuiltAt, Stands}
use Rattle.marks.specs.Says.{Says, SaysList, SaysChild, SaysOption}
use Rattle.functions.specs.Function.{ThisIs, this_run, SaysParams}
use Rattle.members.specs.Object.{signature_names, signature_head, index_head}
use Rattle.marks.specs.declared.state.Given.{Given}
use Rattle.marks.specs.declared.state.Mark.{Mark}
use Rattle.marks.specs.declared.state.Begin.{Begin}
use Rattle.marks.specs.declared.state.Kids.{Kids}
use Rattle.marks.specs.Told.{Answer}
use Rattle.marks.specs.Told.{Listed}
use Rattle.functions.specs.declared.function.This.{This}
use Rattle.functions.specs.Told.{Params}

-- A slice at a function's two moments.
abbrev pub Lent : Type 0
Lent = Both (Bor (List ℕ)) (Bor (List ℕ))

-- One that is lent to be filled.
abbrev pub Filled : Type 0
Filled = Both (MutBor (List ℕ)) (MutBor (List ℕ))

-- ---- Words of the contracts

-- The reader of types one type rule deeper.
abbrev pub below : Given → rule.Given → Reader
below given g = read_type g given.left

-- Reading went on at least to a place, counted in halves of tokens, with so many nodes in use.
pub record Past (place used : ℕ) (q : Mark) : Type 0 where
  pub onward : place ≤ q.at * 2 + q.half
  pub more : used ≤ q.used

-- The other parameters behind a `this` were read, and stand behind the run t.
pub record GotRest (B : Was) (t : Run) (th : Opt ThisParameter) (x : Result Parameters) (p : Params) (N M O : List ℕ) : Type 0 where
  pub list : List Placed
  pub is : x ≡ read (parameters_of th list) (view p.m O)
  pub this_is : ThisIs p.this th
  pub count_is : p.count ≡ length list
  pub each : AllNodes 5 list
  pub built : BuiltAt B (t ⊕ runs 5 list) p.kids p.m N M O

-- They were read, or refused.
pub record SaysRest (B : Was) (t : Run) (th : Opt ThisParameter) (x : Result Parameters) (p : Params) (N M O : List ℕ) : Type 0 where
  pub done : p.why ≡ 0 → GotRest B t th x p N M O
  pub refused : Declined x p.why p.m

-- ---- What is asked

-- A sound list that the text spells, room as told, and a mark within what there is.
pub record Ready (text words nodes : List ℕ) (given : Given) (m : Mark) : Type 0 where
  pub sound : Sound words
  pub spelt : Spelt text words
  pub room : Room (length nodes) given
  pub fine : Fine (length words) given m

-- A node begins within the text, and its names within the tokens.
pub record Begun (b : Begin) : Type 0 where
  pub first : b.first < 2 ^ 32
  pub name : b.name ≤ most_tokens

-- ---- What is answered

-- A rule at a mark.
abbrev pub Rule : Type 0 → Type 0
Rule A = rule.Given → State → Result A

-- What the rule comes to there.
abbrev pub at : {A : Type 0} → Rule A → (text words : Lent) → Given → Mark → (notes : Filled) → Result A
at r text words given m notes = r (given_of text.entry.now words.entry.now given) (view m notes.entry.now)

-- What stood in the slices at a mark.
abbrev pub was_in : Mark → (nodes names notes : Filled) → Was
was_in m nodes names notes = was m nodes.entry.now names.entry.now notes.entry.now

-- What a rule reads at m, a tree of class c, stands in the slices since B; or it is refused.
abbrev pub SaysSince : (c : ℕ) → Was → Rule Placed → (text words : Lent) → Given → Mark → (nodes names notes : Filled) → Answer → Type 0
SaysSince c B r text words given m nodes names notes a =
    Says c B (at r text words given m notes) a nodes.exit.now names.exit.now notes.exit.now

-- The same of a rule that begins at m.
abbrev pub Reads : (c : ℕ) → Rule Placed → (text words : Lent) → Given → Mark → (nodes names notes : Filled) → Answer → Type 0
Reads c r text words given m nodes names notes a = SaysSince c (was_in m nodes names notes) r text words given m nodes names notes a

-- The same of an optional list.
abbrev pub ReadsList : (c : ℕ) → Rule (Opt (List Placed)) → (text words : Lent) → Given → Mark → (nodes names notes : Filled) → Listed → Type 0
ReadsList c r text words given m nodes names notes l =
    SaysList c (was_in m nodes names notes) done (at r text words given m notes) l nodes.exit.now names.exit.now notes.exit.now

-- A tree stood in the slices since B, or children of a node.
abbrev pub StoodIn : Was → Placed → ℕ → Mark → (nodes names notes : Filled) → Type 0
StoodIn B u high m nodes names notes = Stands 0 B u high m nodes.entry.now names.entry.now notes.entry.now

abbrev pub BuiltIn : Was → Run → Kids → Mark → (nodes names notes : Filled) → Type 0
BuiltIn B t k m nodes names notes = BuiltAt B t k m nodes.entry.now names.entry.now notes.entry.now

-- The answer stays within what there is.
abbrev pub Within : (words : Lent) → Given → Answer → Type 0
Within words given a = Fine (length words.entry.now) given a.m × (a.high ≤ tallest)

abbrev pub WithinList : (words : Lent) → Given → Listed → Type 0
WithinList words given l = Fine (length words.entry.now) given l.m × Under l.m.used l.kids

abbrev pub WithinParams : (words : Lent) → Given → Params → Type 0
WithinParams words given p = Fine (length words.entry.now) given p.m × Under p.m.used p.kids × (p.this.bits ≤ 3)

-- A reading goes on by half a token and a node at least.
abbrev pub Onward : Mark → Answer → Type 0
Onward m a = a.why ≡ 0 → Past (place_of m + 1) (m.used + 1) a.m

-- ---- A type that is one child more

-- Behind any children that stand.
abbrev pub Child : Rule Placed → (text words : Lent) → Given → Kids → Mark → (nodes names notes : Filled) → Listed → Type 0
Child r text words given k m nodes names notes l =
    (B : Was) (t : Run) → BuiltIn B t k m nodes names notes
    → SaysChild B t (at r text words given m notes) l nodes.exit.now names.exit.now notes.exit.now

-- It goes on as a type does, and is one child.
abbrev pub OnwardChild : Kids → Mark → Listed → Type 0
OnwardChild k m l = l.why ≡ 0 → Past (place_of m + 1) (m.used + 1) l.m × (l.kids.count ≡ k.count + 1) × (l.there ≡ true)

-- The same of a type that may be absent.
abbrev pub Option : Rule (Opt Placed) → (text words : Lent) → Given → Kids → Mark → (nodes names notes : Filled) → Listed → Type 0
Option r text words given k m nodes names notes l =
    (B : Was) (t : Run) → BuiltIn B t k m nodes names notes
    → SaysOption B t (at r text words given m notes) l nodes.exit.now names.exit.now notes.exit.now

-- ---- What goes on behind a tree or behind children

-- Behind a tree u that was read since B, with a node that begins with it: what the rule makes of it.
abbrev pub Behind : (Placed → Rule Placed) → (text words : Lent) → Given → Begin → ℕ → Mark → (nodes names notes : Filled) → Answer → Type 0
Behind r text words given b high m nodes names notes a =
    (B : Was) (u : Placed) → StoodIn B u high m nodes names notes → b.name ≡ B.named → SaysSince 0 B (r u) text words given m nodes names notes a

-- Parameters in their brackets behind children; the type of a constructor's `this` is none of them.
abbrev pub ReadsParams : (text words : Lent) → Given → (isNew : Bool) → Kids → Mark → (nodes names notes : Filled) → Params → Type 0
ReadsParams text words given isNew k m nodes names notes p =
    (B : Was) (t : Run) → BuiltIn B t k m nodes names notes
    → SaysParams B t (this_run isNew) (at (λ g. function.parameters g (below given g) isNew) text words given m notes) p
    nodes.exit.now names.exit.now notes.exit.now

-- The others behind a `this`.
abbrev pub ReadsOthers : (text words : Lent) → Given → This → Kids → Mark → (nodes names notes : Filled) → Params → Type 0
ReadsOthers text words given this k m nodes names notes p =
    (B : Was) (t : Run) (th : Opt ThisParameter) → BuiltIn B t k m nodes names notes → ThisIs this th
    → SaysRest B t th (at (λ g. function.parameters_from g (below given g) th (turns g) []) text words given m notes) p
    nodes.exit.now names.exit.now notes.exit.now

-- ---- Behind the head of a member that begins at b

-- Names alone stood in the slices since B.
abbrev pub SpokenIn : Was → List Spelling → Mark → (nodes names notes : Filled) → Type 0
SpokenIn B ss m nodes names notes = Laid B (names_run ss) m.used m.named m.noted nodes.entry.now names.entry.now notes.entry.now

-- The signature that the head's choices say, behind its names.
abbrev pub ReadsSignature : (text words : Lent) → Given → Begin → (head : ℕ) → Mark → (nodes names notes : Filled) → Answer → Type 0
ReadsSignature text words given b head m nodes names notes a =
    (B : Was) (x : Signature) → SpokenIn B (signature_names x) m nodes names notes → b.name ≡ B.named → head ≡ signature_head x
    → SaysSince 6 B (λ g. object.signature g (below given g) b.first x) text words given m nodes names notes a

-- The index signature, readonly or not by the head's choices, from its `[` on.
abbrev pub ReadsIndex : (text words : Lent) → Given → Begin → (head : ℕ) → Mark → (nodes names notes : Filled) → Answer → Type 0
ReadsIndex text words given b head m nodes names notes a =
    (B : Was) (readonly : Bool) → SpokenIn B [] m nodes names notes → b.name ≡ B.named → head ≡ index_head readonly
    → SaysSince 6 B (λ g. object.index g (below given g) b.first readonly) text words given m nodes names notes a
