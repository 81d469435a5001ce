-- Tuple elements before and after their type.
use Rattle.std.specs.Prelude.{◌≡◌, Bool, true, false, List, [], ◌∷◌, ℕ, ◌+◌, ◌-◌, ◌*◌, ◌/◌, ◌%◌, ◌^◌, ◌≤◌, ◌<◌, eqb, length, get_or}
use Rattle.words.specs.Limits.{most_tokens, tallest}
use Rattle.words.specs.Kind.{Question, Colon, Dot3}
use Rattle.words.specs.Class as class
use Rattle.words.specs.Test.{◌and◌, ◌or◌, test}
use Rattle.words.specs.Cursor.{whole_kind, kind_at, first_byte}
use Rattle.keys.specs.Bits.{unit}
use Rattle.keys.specs.Limits.{record_words, tags}
use Rattle.keys.specs.Placed as node
use Rattle.keys.specs.Placed.{Placed, tree, Spelling, Opt, absent, present}
use Rattle.keys.specs.Store.{◌⊕◌}
use Rattle.rules.specs.Notes.{note, rest_after_label, asked_after_label, optional_and_rest}
use Rattle.rules.specs.State as rule
use Rattle.rules.specs.State.{State, Result, Reader, read, then, next, stands, first, end, spelling, past, make, report_if}
use Rattle.rules.specs.Tuple as tuple
use Rattle.marks.specs.State.{view, given_of, next_mark, past_mark, named_mark, Sound, Spelt, Fine, Under}
use Rattle.marks.specs.Laid.{heights, run_in, names_run, IsNode, Was, Laid, Stands, Spoken}
use Rattle.marks.specs.Says.{Says}
use Rattle.marks.specs.List.{here}
use Rattle.marks.specs.declared.state.Given.{Given}
use Rattle.marks.specs.declared.state.Mark.{Mark}
use Rattle.marks.specs.declared.state.Begin.{Begin}
use Rattle.marks.specs.declared.state.Kids.{Kids}
use Rattle.marks.specs.Told.{Answer}
use Rattle.tuples.specs.declared.tuple.Label.{Label}
use Rattle.tuples.specs.Told.{Latest}
use Rattle.tuples.specs.Told.{Seen}

-- Behind the label of a member: past its `?` and its colon.
abbrev pub type_mark : List ℕ → Mark → Mark
type_mark W p = next_mark (past_mark W Question (next_mark p))

-- An element up to its type, with a label or without.
pub record LabelIs (W : List ℕ) (m : Mark) (l : Label) : Type 0 where
  pub first_is : l.b.first ≡ first_byte W m.at m.half
  pub name_is : l.b.name ≡ m.named
  pub rest_is : l.rest ≡ here W Dot3 m
  pub label_first : l.labelled ≡ true → l.first ≡ first_byte W (past_mark W Dot3 m).at (past_mark W Dot3 m).half
  pub label_asked : l.labelled ≡ true → l.asked ≡ here W Question (next_mark (past_mark W Dot3 m))
  pub type_first : l.labelled ≡ true → l.typed ≡ first_byte W (type_mark W (past_mark W Dot3 m)).at (type_mark W (past_mark W Dot3 m)).half
  pub type_dots : l.labelled ≡ true → l.dots ≡ here W Dot3 (type_mark W (past_mark W Dot3 m))

-- Its numbers are small.
pub record LabelSmall (l : Label) : Type 0 where
  pub first : l.b.first < 2 ^ 32
  pub label : l.first < 2 ^ 32
  pub typed : l.typed < 2 ^ 32

-- Whether a label stands at a mark, with its colon, or question mark and colon.
abbrev pub labelled_at : List ℕ → Mark → Bool
labelled_at W m =
    class.name (kind_at W m.at m.half) and (eqb (whole_kind W (m.at + 1)) Colon or (eqb (whole_kind W (m.at + 1)) Question and eqb (whole_kind W (m.at + 2)) Colon))

-- Behind a label that was spelled, its `?` and its colon.
abbrev pub colon_mark : List ℕ → Mark → Mark
colon_mark W m = next_mark (past_mark W Question (named_mark m))

-- The label at a mark, in an element that begins at b, with dots or not.
abbrev pub label_at : List ℕ → Begin → Bool → Mark → Label
label_at W b rest m =
    record {
      b = b;
      rest = rest;
      labelled = true;
      first = first_byte W m.at m.half;
      asked = here W Question (named_mark m);
      typed = first_byte W (colon_mark W m).at (colon_mark W m).half;
      dots = here W Dot3 (colon_mark W m);
      m = past_mark W Dot3 (colon_mark W m);
    }

-- Where its type begins.
abbrev pub element_start : rule.Given → State → State
element_start g s =
    test (tuple.labelled g (past g Dot3 s)) (λ _. past g Dot3 (next (past g Question (next (past g Dot3 s))))) (λ _. past g Dot3 s)

-- The name of its label, if there is one.
abbrev pub label_names : rule.Given → State → List Spelling
label_names g s = test (tuple.labelled g (past g Dot3 s)) (λ _. spelling g (past g Dot3 s) ∷ []) (λ _. [])

-- An element from a mark on, as the rules say it of any text that is spelled so: where its type begins, whether it has a label, and the label's name.
abbrev pub StartsElement : (W : List ℕ) (m : Mark) (M : List ℕ) (l : Label) (M' : List ℕ) → Type 0
StartsElement W m M l M' =
    (text O : List ℕ) (given : Given) → Spelt text W
    → (view l.m O ≡ element_start (given_of text W given) (view m O))
    × (l.labelled ≡ tuple.labelled (given_of text W given) (past (given_of text W given) Dot3 (view m O)))
    × Spoken (label_names (given_of text W given) (view m O)) m l.m M M'

-- What it comes to once its type t was read.
abbrev pub element_after : rule.Given → Reader → State → Placed → State → Result Placed
element_after g T s t q =
    test (tuple.labelled g (past g Dot3 s)) (λ _.
    then (tuple.member_node g T (past g Dot3 s) (next (past g Question (next (past g Dot3 s)))) (stands g Question (next (past g Dot3 s))) t q) λ e q.
    test (stands g Dot3 s) (λ _. tuple.rest_of g T s e q) λ _.
    read e q) λ _.
    test (stands g Dot3 s) (λ _. make g [] (node.rest (first g s) (end g q) t) q) λ _.
    read (node.as_element t) q

-- ---- The same by what is known of the label, whose name is x

-- The member whose type t was read.
abbrev pub member_after : rule.Given → Label → Spelling → Placed → State → Result Placed
member_after g l x t q =
    then (make g [] (node.named l.first (end g q) x l.asked (node.as_element t)) q) λ e q.
    report_if l.dots g (note rest_after_label l.typed (end g q)) q λ q.
    report_if (node.is_asked t) g (note asked_after_label l.typed (end g q)) q λ q.
    read e q

-- The member e, or a rest about it.
abbrev pub rest_after : rule.Given → Label → Placed → State → Result Placed
rest_after g l e q =
    test l.rest (λ _. report_if l.asked g (note optional_and_rest l.b.first (end g q)) q λ q. make g [] (node.rest l.b.first (end g q) e) q) λ _.
    read e q

-- The choices of a member.
abbrev pub member_choices : Bool → ℕ
member_choices asked = 22 + tags * unit asked

-- ---- What is asked before a node is put

-- A member may be put about its type, which was read last, or a rest about it.
abbrev pub MayPutMember : (W N : List ℕ) (given : Given) (l : Label) (high : ℕ) (m : Mark) → Type 0
MayPutMember W N given l high m =
    Sound W × (given.room * record_words ≤ length N) × Fine (length W) given m × (1 ≤ m.used) × (high ≤ tallest) × LabelSmall l × (l.b.name ≤ most_tokens)

-- The same of any element whose type was read.
abbrev pub MayPutElement : (W N : List ℕ) (given : Given) (l : Label) (a : Answer) → Type 0
MayPutElement W N given l a =
    Sound W × (given.room * record_words ≤ length N) × Fine (length W) given a.m × (1 ≤ a.m.used) × (a.high ≤ tallest)
    × (a.why ≡ 0) × LabelSmall l × (l.b.name ≤ most_tokens)

-- A tuple may be put over its elements, at the mark that closes it.
abbrev pub MayPutTuple : (W N : List ℕ) (given : Given) (b : Begin) (k : Kids) (m : Mark) → Type 0
MayPutTuple W N given b k m =
    Sound W × (given.room * record_words ≤ length N) × Fine (length W) given m × (m.at < length W) × Under m.used k
    × (b.first < 2 ^ 32) × (b.name ≤ most_tokens)

-- ---- What members make

-- A `?` node that was read last became an optional one; r says whether it was one.
abbrev pub Converts : (used : ℕ) (N : List ℕ) (r : Bool) (N' : List ℕ) → Type 0
Converts used N r N' =
    (B : Was) (ss : List Spelling) (t : Placed) (named noted : ℕ) (M O : List ℕ) → IsNode 0 t → Laid B (names_run ss ⊕ run_in 0 t) used named noted N M O
    → (r ≡ node.is_asked t) × Laid B (names_run ss ⊕ run_in 1 (node.as_element t)) used named noted N' M O

-- Over its name and its type, which stand since B, the member or the rest about it.
abbrev pub MakesMember : (W : List ℕ) (given : Given) (l : Label) (a : Answer) (N O : List ℕ) (r : Answer) (N' O' : List ℕ) → Type 0
MakesMember W given l a N O r N' O' =
    (text : List ℕ) (B : Was) (x : Spelling) (t : Placed) (M : List ℕ)
    → B.named ≡ l.b.name → IsNode 0 t → a.high ≡ heights (run_in 0 t)
    → Laid B (names_run (x ∷ []) ⊕ run_in 0 t) a.m.used a.m.named a.m.noted N M O
    → Says 1 B (then (member_after (given_of text W given) l x t (view a.m O)) (rest_after (given_of text W given) l)) r N' M O'

-- Over a member that stands since B, itself or the rest about it.
abbrev pub MakesRest : (W : List ℕ) (given : Given) (l : Label) (high : ℕ) (m : Mark) (N O : List ℕ) (r : Answer) (N' O' : List ℕ) → Type 0
MakesRest W given l high m N O r N' O' =
    (text : List ℕ) (B : Was) (first end : ℕ) (p : Placed) (M : List ℕ)
    → B.named ≡ l.b.name → Stands 1 B (tree 22 first end p) high m N M O
    → Says 1 B (rest_after (given_of text W given) l (tree 22 first end p) (view m O)) r N' M O'

-- ---- What elements make

-- Over its label's name and its type, which stand since B, the element that the rules make; m is where it began, O the diagnostics' words then.
abbrev pub MakesElement : (W : List ℕ) (given : Given) (l : Label) (a : Answer) (N O : List ℕ) (r : Answer) (N' O' : List ℕ) → Type 0
MakesElement W given l a N O r N' O' =
    (text : List ℕ) (T : Reader) (B : Was) (m : Mark) (s : State) (t : Placed) (M : List ℕ)
    → LabelIs W m l → s.at ≡ m.at → s.half ≡ m.half → l.labelled ≡ tuple.labelled (given_of text W given) (past (given_of text W given) Dot3 s) → B.named ≡ m.named
    → IsNode 0 t → a.high ≡ heights (run_in 0 t)
    → Laid B (names_run (label_names (given_of text W given) s) ⊕ run_in 0 t) a.m.used a.m.named a.m.noted N M O
    → Says 1 B (element_after (given_of text W given) T s t (view a.m O)) r N' M O'

-- Whether a record's first word says that an element is optional, with or without a label.
abbrev pub optional_word : ℕ → Bool
optional_word w = eqb (w % tags) 20 or (eqb (w % tags) 22 and eqb (w / tags % 2) 1)

-- The first word of the node that was read last.
abbrev pub last_word : List ℕ → ℕ → ℕ
last_word N used = get_or N (used * 4 - 4) 0

-- The code remembers the latest optional element, or that there is none.
abbrev pub LatestIs : Latest → Opt Placed → Type 0
LatestIs l absent = l.there ≡ false
LatestIs l (present o) = (l.there ≡ true) × (l.place.first ≡ node.first_of o) × (l.place.end ≡ node.end_of o)

-- Diagnostic 4 for an element, where o is the latest optional one before it, and the latest one now.
pub record Checks (given : Given) (latest : Latest) (m : Mark) (N O : List ℕ) (r : Seen) (O' : List ℕ) : Type 0 where
  pub done : r.why ≡ 0 → (text W : List ℕ) (B : Was) (o : Opt Placed) (e : Placed) (high : ℕ) (M : List ℕ) → LatestIs latest o → Stands 1 B e high m N M O
      → (tuple.report_required (given_of text W given) o e (view m O) ≡ read e (view r.m O'))
      × LatestIs r.latest (tuple.latest_from o (e ∷ [])) × Stands 1 B e high r.m N M O'
  pub refused : (r.why ≡ 0 → ⊥) → (text W : List ℕ) (B : Was) (o : Opt Placed) (e : Placed) (high : ℕ) (M : List ℕ) → LatestIs latest o → Stands 1 B e high m N M O
      → tuple.report_required (given_of text W given) o e (view m O) ≡ rule.refuse r.why r.m.at r.m.half

-- Nothing but the number of diagnostics has changed, and it keeps its limit.
pub record SeenAt (given : Given) (m : Mark) (r : Seen) : Type 0 where
  pub at_is : r.m.at ≡ m.at
  pub half_is : r.m.half ≡ m.half
  pub used_is : r.m.used ≡ m.used
  pub named_is : r.m.named ≡ m.named
  pub more : m.noted ≤ r.m.noted
  pub recorded : r.m.noted ≤ given.records
