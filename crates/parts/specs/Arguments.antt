-- References, typeof and import before their arguments.
use Rattle.std.specs.Prelude.{◌≡◌, Bool, true, false, List, [], ◌∷◌, ℕ, ◌+◌, ◌*◌, ◌^◌, ◌≤◌, ◌<◌, length}
use Rattle.words.specs.Kind.{LParen, RParen, Str, Comma, Import, Typeof}
use Rattle.words.specs.Test.{test}
use Rattle.words.specs.Limits.{most_tokens}
use Rattle.keys.specs.Limits.{record_words, tags}
use Rattle.keys.specs.Bits.{unit}
use Rattle.keys.specs.Placed as node
use Rattle.keys.specs.Placed.{Placed, Spelling, Opt}
use Rattle.keys.specs.Store.{◌⊕◌}
use Rattle.rules.specs.Refusal as refusal
use Rattle.rules.specs.State as rule
use Rattle.rules.specs.State.{State, Result, read, refused, then, next, stands, end, spelling, expect, make, turns}
use Rattle.rules.specs.List.{count}
use Rattle.rules.specs.Names as names
use Rattle.marks.specs.State.{view, given_of, Sound, Spelt, Fine, Under}
use Rattle.marks.specs.Laid.{runs_opt, names_run, Was, BuiltAt, AllOpt}
use Rattle.marks.specs.Says.{Says, SaysNames, is_there}
use Rattle.marks.specs.declared.state.Given.{Given}
use Rattle.marks.specs.declared.state.Mark.{Mark}
use Rattle.marks.specs.declared.state.Begin.{Begin}
use Rattle.marks.specs.Told.{Answer}
use Rattle.marks.specs.Told.{Listed}
use Rattle.parts.specs.Told.{Named}

-- What a reference, typeof or import has before its arguments: which it is, and its names.
pub data Naming : Type 0 where
  reference : List Spelling → Naming
  typeof : List Spelling → Naming
  import : (isTypeof : Bool) → Spelling → List Spelling → Naming

abbrev pub names_of : Naming → List Spelling
names_of (reference l) = l
names_of (typeof l) = l
names_of (import b x l) = x ∷ l

-- How many names stand in its list.
abbrev pub name_count : Naming → ℕ
name_count (reference l) = length l
name_count (typeof l) = length l
name_count (import b x l) = length l

-- Its choices before those of its lists, and how many numbers these can be.
abbrev pub name_choices : Naming → ℕ
name_choices (reference l) = 1
name_choices (typeof l) = 17
name_choices (import b x l) = 18 + tags * unit b

abbrev pub name_scale : Naming → ℕ
name_scale (reference l) = tags
name_scale (typeof l) = tags
name_scale (import b x l) = 128

-- The node of it and its arguments.
abbrev pub named_node : (first end : ℕ) → Naming → Opt (List Placed) → Placed
named_node b e (reference l) ts = node.reference b e l ts
named_node b e (typeof l) ts = node.typeof b e l ts
named_node b e (import i x l) ts = node.import_type b e i x l ts

-- An import after its word up to its dots: its source, which has to be a string; options would begin with a comma.
abbrev pub import_source : rule.Given → State → Result Spelling
import_source g s =
    expect g LParen s λ q.
    test (stands g Str q) (λ _.
    test (stands g Comma (next q)) (λ _. refused refusal.import_options (next q)) λ _.
    expect g RParen (next q) λ p.
    read (spelling g q) p) λ _.
    refused refusal.import_source q

-- An import after its word.
abbrev pub import_head : rule.Given → Bool → State → Result Naming
import_head g isTypeof s =
    then (import_source g s) λ x p.
    then (names.dots_from g (turns g) [] p) λ l p.
    read (import isTypeof x l) p

-- Names with dots between, as a reference's or a typeof's.
abbrev pub dotted_head : rule.Given → (List Spelling → Naming) → State → Result Naming
dotted_head g make s = then (names.dotted g s) λ l q. read (make l) q

-- Behind typeof: an import or a name.
abbrev pub query_head : rule.Given → State → Result Naming
query_head g s = test (stands g Import s) (λ _. import_head g true (next s)) λ _. dotted_head g typeof s

-- By the word that begins it.
abbrev pub naming_head : rule.Given → State → Result Naming
naming_head g s =
    test (stands g Typeof s) (λ _. query_head g (next s)) λ _.
    test (stands g Import s) (λ _. import_head g false (next s)) λ _.
    dotted_head g reference s

-- The code's numbers are those.
pub record NamingIs (n : Named) (x : Naming) : Type 0 where
  pub choices : n.choices ≡ name_choices x
  pub scale : n.scale ≡ name_scale x
  pub count : n.count ≡ name_count x

-- A maker of references or of typeof: its choices are those.
pub record Dotted (choices : ℕ) (make : List Spelling → Naming) : Type 0 where
  pub names_are : (l : List Spelling) → names_of (make l) ≡ l
  pub choices_are : (l : List Spelling) → name_choices (make l) ≡ choices
  pub scale_is : (l : List Spelling) → name_scale (make l) ≡ tags
  pub count_is : (l : List Spelling) → name_count (make l) ≡ length l

-- Names with dots from a mark on, by any such maker: what the rules read, from any text that is spelled so.
abbrev pub StartsDotted : (W : List ℕ) (choices : ℕ) (m : Mark) (M : List ℕ) (n : Named) (M' : List ℕ) → Type 0
StartsDotted W choices m M n M' =
    (text O : List ℕ) (given : Given) (make : List Spelling → Naming) → Dotted choices make → Spelt text W
    → SaysNames names_of (NamingIs n) (dotted_head (given_of text W given) make (view m O)) n.why m n.m M M' O

-- The same of an import after its word, by whether a typeof stood before it.
abbrev pub StartsImport : (W : List ℕ) (choices : ℕ) (m : Mark) (M : List ℕ) (n : Named) (M' : List ℕ) → Type 0
StartsImport W choices m M n M' =
    (text O : List ℕ) (given : Given) (isTypeof : Bool) → choices ≡ 18 + tags * unit isTypeof → Spelt text W
    → SaysNames names_of (NamingIs n) (import_head (given_of text W given) isTypeof (view m O)) n.why m n.m M M' O

-- They are small.
pub record NamedSmall (len : ℕ) (n : Named) : Type 0 where
  pub choices : n.choices ≤ 128
  pub scale : n.scale ≤ 128
  pub count : n.count ≤ len

-- Past a `<` or the half of one.
pub record OpenedAt (len : ℕ) (m q : Mark) : Type 0 where
  pub onward : m.at * 2 + m.half < q.at * 2 + q.half
  pub ahead : m.at ≤ q.at
  pub inside : q.at * 2 + q.half ≤ len * 2
  pub half : q.half ≤ 1
  pub used_is : q.used ≡ m.used
  pub named_is : q.named ≡ m.named
  pub noted_is : q.noted ≡ m.noted

-- The node may be put over its arguments.
abbrev pub MayPutNamed : (W N : List ℕ) (given : Given) (b : Begin) (n : Named) (l : Listed) → Type 0
MayPutNamed W N given b n l =
    Sound W × (given.room * record_words ≤ length N) × Fine (length W) given l.m × Under l.m.used l.kids × (b.first < 2 ^ 32) × (b.name ≤ most_tokens)
    × NamedSmall (length W) n

-- Its names and arguments stand since B, and the node that the rules make of them.
abbrev pub MakesNamed : (W : List ℕ) (given : Given) (b : Begin) (n : Named) (l : Listed) (N : List ℕ) (a : Answer) (N' : List ℕ) → Type 0
MakesNamed W given b n l N a N' =
    (text : List ℕ) (B : Was) (x : Naming) (ts : Opt (List Placed)) (M O : List ℕ)
    → BuiltAt B (names_run (names_of x) ⊕ runs_opt 0 ts) l.kids l.m N M O → b.name ≡ B.named → NamingIs n x
    → l.there ≡ is_there ts → l.kids.count ≡ count ts → AllOpt 0 ts
    → Says 0 B (make (given_of text W given) (name_count x ∷ count ts ∷ []) (named_node b.first (end (given_of text W given) (view l.m O)) x ts) (view l.m O)) a N' M O
