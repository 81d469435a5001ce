-- Members of object types before, between and after their types.
use Rattle.std.specs.Prelude.{◌≡◌, Bool, not, List, [], ◌∷◌, ℕ, ◌+◌, ◌-◌, ◌*◌, ◌≤◌, ◌<◌, eqb, length}
use Rattle.words.specs.Test.{◌and◌, ◌or◌, test, among}
use Rattle.words.specs.Kind.{RBrack, Question, Colon, Comma}
use Rattle.words.specs.Cursor.{kind_at, first_byte, end_byte}
use Rattle.keys.specs.Bits.{unit}
use Rattle.keys.specs.Limits.{record_words, tags, counts}
use Rattle.keys.specs.Holds.{tag_in, after_tag}
use Rattle.keys.specs.Placed.{Placed, tree, Spelling, PropertyKey, Opt, absent, present}
use Rattle.keys.specs.Store.{Run, done, ◌⊕◌}
use Rattle.rules.specs.Notes.{note, asked_index, comma_after_index}
use Rattle.rules.specs.State as rule
use Rattle.rules.specs.State.{State, Result, Reader, read, refuse, then, next, stands, first, end, past, expect, make, report_if}
use Rattle.rules.specs.List.{count}
use Rattle.rules.specs.Function.{ThisParameter, Parameters, report_this}
use Rattle.rules.specs.Object as object
use Rattle.rules.specs.Object.{Signature, of_method, of_call, of_construct, IndexParameters, no_index, one_index, several_index, is_construct, signature_node, this_noted, member_end, report_index}
use Rattle.marks.specs.State.{view, given_of, Sound, Spelt, Fine}
use Rattle.marks.specs.Laid.{run_in, run_opt, opt_bit, runs, runs_opt, name_run, names_run, IsNode, IsOpt, AllNodes, AllOpt, Was, Laid, BuiltAt, Spoken, Shape}
use Rattle.marks.specs.Says.{Says, is_there}
use Rattle.marks.specs.Names.{one_name, MayName}
use Rattle.functions.specs.Function.{ThisIs, IsThis, this_run, new_choices, call_choices}
use Rattle.marks.specs.declared.state.Given.{Given}
use Rattle.marks.specs.declared.state.Mark.{Mark}
use Rattle.marks.specs.declared.state.Begin.{Begin}
use Rattle.marks.specs.declared.state.Kids.{Kids}
use Rattle.marks.specs.Told.{Answer}
use Rattle.functions.specs.declared.function.This.{This as ThisCode}
use Rattle.functions.specs.Told.{Params}
use Rattle.members.specs.Told.{MemberHead}
use Rattle.members.specs.declared.object.IndexParams.{IndexParams}

-- ---- Heads

-- What a member begins as: a property with readonly, its key and its `?`; a signature; an index signature with readonly.
pub data MemberStart : Type 0 where
  a_property : Bool → PropertyKey → Bool → MemberStart
  a_signature : Signature → MemberStart
  an_index : Bool → MemberStart

-- What the rules read from there on, in a member from byte b on.
abbrev pub member_as : rule.Given → Reader → ℕ → MemberStart → State → Result Placed
member_as g T b (a_property readonly k question) s = object.property g T b readonly k question s
member_as g T b (a_signature x) s = object.signature g T b x s
member_as g T b (an_index readonly) s = object.index g T b readonly s

-- The choices of a key, by its sort, and of the `?` behind it.
abbrev pub key_choices : ℕ → Bool → ℕ
key_choices sort question = sort + 4 * unit question

-- The names and the choices of a signature up to its type parameters; the sort stands lowest.
abbrev pub signature_names : Signature → List Spelling
signature_names (of_method k question) = k.spelling ∷ []
signature_names of_call = []
signature_names of_construct = []

abbrev pub signature_head : Signature → ℕ
signature_head (of_method k question) = 1 + 8 * key_choices k.which question
signature_head of_call = 2
signature_head of_construct = 3

-- The choices of an index signature up to its parameters.
abbrev pub index_head : Bool → ℕ
index_head readonly = 4 + 8 * unit readonly

-- The sort of a member, its names and its choices up to its first type.
abbrev pub start_sort : MemberStart → ℕ
start_sort (a_property readonly k question) = 0
start_sort (a_signature (of_method k question)) = 1
start_sort (a_signature of_call) = 2
start_sort (a_signature of_construct) = 3
start_sort (an_index readonly) = 4

abbrev pub start_names : MemberStart → List Spelling
start_names (a_property readonly k question) = k.spelling ∷ []
start_names (a_signature x) = signature_names x
start_names (an_index readonly) = []

abbrev pub start_choices : MemberStart → ℕ
start_choices (a_property readonly k question) = 8 * (unit readonly + 2 * key_choices k.which question)
start_choices (a_signature x) = signature_head x
start_choices (an_index readonly) = index_head readonly

-- Names may be read from a mark on, in the text that spells the tokens.
abbrev pub MayHead : (text W : List ℕ) (m : Mark) → Type 0
MayHead text W m = MayName W m × Spelt text W

-- The numbers of a head: a token stands at its mark unless it is a property's, which is past its key; its choices are few.
pub record HeadHas (len : ℕ) (m : Mark) (h : MemberHead) : Type 0 where
  pub some : h.sort ≤ 4 * (len - h.m.at)
  pub past : m.at < h.m.at + h.why + h.sort
  pub few : h.choices ≤ 127

-- From m to the head's mark names were read, and nothing else was written; x, a rule's reading at m in a member from byte b on, is what that begins as.
pub record GotMember (x : Reader → Result Placed) (g : rule.Given) (b : ℕ) (m : Mark) (h : MemberHead) (M M' O : List ℕ) : Type 0 where
  pub what : MemberStart
  pub is : (T : Reader) → x T ≡ member_as g T b what (view h.m O)
  pub sort_is : h.sort ≡ start_sort what
  pub choices_are : h.choices ≡ start_choices what
  pub spoken : Spoken (start_names what) m h.m M M'

-- It was found, or refused.
pub record FindsMember (x : Reader → Result Placed) (g : rule.Given) (b : ℕ) (m : Mark) (h : MemberHead) (M M' O : List ℕ) : Type 0 where
  pub done : h.why ≡ 0 → GotMember x g b m h M M' O
  pub refused : (h.why ≡ 0 → ⊥) → (T : Reader) → x T ≡ refuse h.why h.m.at h.m.half

-- A rule that begins at m, in a member from any byte on.
abbrev pub SaysMember : (rule : rule.Given → Reader → ℕ → State → Result Placed) (text W : List ℕ) (m : Mark) (M : List ℕ) (h : MemberHead) (M' : List ℕ) → Type 0
SaysMember rule text W m M h M' =
    (O : List ℕ) (given : Given) (b : ℕ) → FindsMember (λ T. rule (given_of text W given) T b (view m O)) (given_of text W given) b m h M M' O

-- One whose key stands at m, behind a readonly if there is one, from any text that is spelled so.
abbrev pub StartsKey : (readonly : Bool) (W : List ℕ) (m : Mark) (M : List ℕ) (h : MemberHead) (M' : List ℕ) → Type 0
StartsKey readonly W m M h M' = (text : List ℕ) → Spelt text W → SaysMember (λ g T b. object.with_key g T b readonly) text W m M h M'

-- A whole member that begins at m.
abbrev pub StartsMember : (text W : List ℕ) (m : Mark) (M : List ℕ) (h : MemberHead) (M' : List ℕ) → Type 0
StartsMember text W m M h M' =
    (O : List ℕ) (given : Given) → FindsMember (λ T. object.member (given_of text W given) T (view m O)) (given_of text W given) (first_byte W m.at m.half) m h M M' O

-- ---- Steps between types

-- From m on only the cursor and the diagnostics moved: the step of a rule goes on where the answer says, or is refused.
pub record SaysStep {A : Type 0} (step : (State → Result A) → Result A) (m : Mark) (O : List ℕ) (a : Answer) (O' : List ℕ) : Type 0 where
  pub done : a.why ≡ 0 → (on : State → Result A) → step on ≡ on (view a.m O')
  pub kept : a.why ≡ 0 → (B : Was) (t : Run) (N M : List ℕ) → Laid B t m.used m.named m.noted N M O → Laid B t a.m.used a.m.named a.m.noted N M O'
  pub refused : (a.why ≡ 0 → ⊥) → (on : State → Result A) → step on ≡ refuse a.why a.m.at a.m.half

-- A member's end where reading stands.
abbrev pub ends_member : rule.Given → State → (State → Result Placed) → Result Placed
ends_member g s on = member_end g s on

-- A member without lists that ends here, over children that stand since B: the node that the rules make of any shape that fits them.
abbrev pub MakesMember : (W : List ℕ) (given : Given) (b : Begin) (choices : ℕ) (k : Kids) (m : Mark) (N : List ℕ) (a : Answer) (N' : List ℕ) → Type 0
MakesMember W given b choices k m N a N' =
    (text : List ℕ) (B : Was) (t : Run) (sort : ℕ) (p : Placed) (M O : List ℕ)
    → BuiltAt B t k m N M O → b.name ≡ B.named → Shape 6 sort p t choices
    → Says 6 B (member_end (given_of text W given) (view m O) λ q. make (given_of text W given) [] (tree sort b.first (end (given_of text W given) q) p) q) a N' M O

-- The choices of a property, by those of its head and by whether it has a type.
abbrev pub property_choices : (head : ℕ) (typed : Bool) → ℕ
property_choices head typed = head + 128 * unit typed

-- ---- Signatures

-- Diagnostic 3 for the `this` of a construct signature.
abbrev pub NotesThis : (given : Given) (isNew : Bool) (this : ThisCode) (m : Mark) (O : List ℕ) (a : Answer) (O' : List ℕ) → Type 0
NotesThis given isNew this m O a O' =
    (text W : List ℕ) (x : Signature) (t : Opt ThisParameter) → isNew ≡ is_construct x → ThisIs this t
    → SaysStep {A = Placed} (report_this (given_of text W given) (this_noted x t) (view m O)) m O a O'

-- What stands behind the `this` of a signature, or behind its type parameters if it is a construct signature's: parameters, and the bit of its type.
abbrev pub after_this : (params : ℕ) (typed : Bool) → ℕ
after_this params typed = params + counts * unit typed

-- The choices of a signature, by those of its head.
abbrev pub signature_choices : (head : ℕ) (there : Bool) (many bits params : ℕ) (typed : Bool) → ℕ
signature_choices head there many bits params typed =
    test (eqb head 3) (λ _. head + 8 * new_choices there many (after_this params typed)) λ _.
    test (eqb head 2) (λ _. head + 8 * call_choices there many bits (after_this params typed)) λ _.
    head + tags * call_choices there many bits (after_this params typed)

-- All parts of a signature that stand since B, and the node that the rules make of them at the member's end.
abbrev pub MakesSignature : (W : List ℕ) → Given → Begin → (head : ℕ) → (there : Bool) → (many : ℕ) → Params → (typed : Bool) → Mark → (N : List ℕ) → Answer → (N' : List ℕ) → Type 0
MakesSignature W given b head there many p typed m N a N' =
    (text : List ℕ) (B : Was) (x : Signature) (ts : Opt (List Placed)) (ps : Parameters) (r : Opt Placed) (M O : List ℕ)
    → BuiltAt B ((((names_run (signature_names x) ⊕ runs_opt 4 ts) ⊕ this_run (is_construct x) ps.this) ⊕ runs 5 ps.list) ⊕ run_opt 0 r) p.kids m N M O
    → b.name ≡ B.named → head ≡ signature_head x → there ≡ is_there ts → many ≡ count ts → ThisIs p.this ps.this → p.count ≡ length ps.list
    → unit typed ≡ opt_bit r → AllOpt 4 ts → IsThis ps.this → AllNodes 5 ps.list → IsOpt 0 r
    → Says 6 B (member_end (given_of text W given) (view m O) λ q.
    make (given_of text W given) (count ts ∷ length ps.list ∷ []) (signature_node b.first (end (given_of text W given) q) x ts ps r) q) a N' M O

-- ---- Index signatures

-- An index parameter up to its type.
abbrev pub index_start : rule.Given → State → Result Spelling
index_start g s =
    then (one_name 0 g s) λ x q.
    report_if (stands g Question q) g (note asked_index (first g q) (end g (next q))) q λ q.
    expect g Colon (past g Question q) (read x)

-- After an index parameter: at the `]`, or past a comma; diagnostic 9 if that stands before the `]`.
abbrev pub index_next : rule.Given → State → (State → Result IndexParameters) → Result IndexParameters
index_next g s on =
    test (stands g RBrack s) (λ _. on s) λ _.
    expect g Comma s λ q.
    report_if (stands g RBrack q) g (note comma_after_index (first g s) (end g q)) q on

-- Parameters with one more, whose type was read last; only the first is kept.
abbrev pub with_type : List ℕ → IndexParams → Answer → IndexParams
with_type W ps a =
    test (eqb ps.count 0) (λ _.
    record { count = 1; kids = record { first = a.m.used - 1; count = 1; high = a.high }; end = end_byte W a.m.at a.m.half }) λ _.
    record { count = 2; kids = ps.kids; end = ps.end }

-- The code's parameters, the first of which begins at byte `from`, are the rules'.
pub data IndexIs (from : ℕ) (r : IndexParams) : IndexParameters → Type 0 where
  none : r.count ≡ 0 → IndexIs from r no_index
  one : {p : object.IndexParameter} → r.count ≡ 1 → from ≡ p.first → r.end ≡ p.end → IsNode 0 p.type → IndexIs from r (one_index p)
  several : {p : object.IndexParameter} → r.count ≡ 2 → IsNode 0 p.type → IndexIs from r (several_index p)

-- What is kept of them, as a run.
abbrev pub kept_run : Opt (Spelling × Placed) → Run
kept_run absent = done
kept_run (present p) = name_run p.0 ⊕ run_in 0 p.1

-- Diagnostic 10, 11 or 12 for parameters that stand since B.
abbrev pub NotesIndex : (given : Given) (b end from : ℕ) (r : IndexParams) (m : Mark) (N O : List ℕ) (a : Answer) (O' : List ℕ) → Type 0
NotesIndex given b end from r m N O a O' =
    (text W : List ℕ) (B : Was) (ps : IndexParameters) (M : List ℕ)
    → BuiltAt B (kept_run (object.kept ps)) r.kids m N M O → IndexIs from r ps → end ≡ end_byte W m.at m.half
    → SaysStep {A = Placed} (report_index (given_of text W given) b ps (view m O)) m O a O'

-- Index parameters that end at m may be looked at: a sound list, room as told, and a mark within what there is, at their `]`.
abbrev pub MayEndIndex : (W N : List ℕ) (given : Given) (m : Mark) → Type 0
MayEndIndex W N given m =
    Sound W × (given.room * record_words ≤ length N) × Fine (length W) given m × (kind_at W m.at m.half ≡ RBrack)

-- From the `]` to the type of an index signature.
abbrev pub index_end : rule.Given → ℕ → IndexParameters → State → (State → Result Placed) → Result Placed
index_end g b ps s on =
    expect g RBrack s λ q.
    report_index g b ps q λ q.
    expect g Colon q on

-- It for parameters that stand since B.
abbrev pub EndsIndex : (W : List ℕ) (given : Given) (b from : ℕ) (r : IndexParams) (m : Mark) (N O : List ℕ) (a : Answer) (O' : List ℕ) → Type 0
EndsIndex W given b from r m N O a O' =
    (text : List ℕ) (B : Was) (ps : IndexParameters) (M : List ℕ) → BuiltAt B (kept_run (object.kept ps)) r.kids m N M O → IndexIs from r ps
    → SaysStep (index_end (given_of text W given) b ps (view m O)) m O a O'

-- The choices of an index signature, by those of its head and by whether a parameter is kept.
abbrev pub index_choices : (head : ℕ) (there : Bool) → ℕ
index_choices head there = head + 16 * unit there

-- Whether a node's own choices are a literal's: a 3, or a 15 with no types.
abbrev pub literal_word : ℕ → Bool
literal_word w = eqb (tag_in w) 3 or (eqb (tag_in w) 15 and eqb (after_tag w) 0)

-- Whether they are a keyword's other than any, number, string, symbol and this.
abbrev pub no_index_word : ℕ → Bool
no_index_word w = eqb (tag_in w) 2 and not (among (0 ∷ 5 ∷ 7 ∷ 8 ∷ 9 ∷ []) (after_tag w))
