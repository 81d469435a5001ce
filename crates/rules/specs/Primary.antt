-- What a type is made of at its smallest (01, "Reading rules": Primary).
use Rattle.std.specs.Prelude.{ℕ, ◌+◌, Bool, true, false, not, List, [], ◌∷◌, eqb}
use Rattle.words.specs.Test.{◌and◌, ◌or◌, between, among, test}
use Rattle.words.specs.Kind.{NumberLiteral, BigIntLiteral, Str, NoSubstitutionTemplate, TemplateHead, LCurly, LBrack, LParen, RParen, Question, Dot, Bang, Minus, Star, Any, BigInt, Boolean, Never, Number, Object, String, Symbol, Undefined, Unknown, Asserts, Is, False, Import, Null, This, True, Typeof, Void}
use Rattle.words.specs.Class as class
use Rattle.words.specs.Ahead.{mapped_start}
use Rattle.keys.specs.Placed as node
use Rattle.keys.specs.Placed.{Placed, absent, present}
use Rattle.rules.specs.Refusal.{unexpected, prefix_mark}
use Rattle.rules.specs.State.{Given, State, Result, read, Reader, refused, then, next, kind, kind_after, stands, on_line, next_on_line, first, end, spelling, expect, optional, make}
use Rattle.rules.specs.List.{position}
use Rattle.rules.specs.Function.{subject}
use Rattle.rules.specs.Arguments.{named, import_type}
use Rattle.rules.specs.Template.{template}
use Rattle.rules.specs.Mapped.{mapped}
use Rattle.rules.specs.Object.{object}
use Rattle.rules.specs.Tuple.{tuple}

-- keywords, in the order of their numbers in the node table
abbrev pub keywords : List ℕ
keywords = Any ∷ BigInt ∷ Boolean ∷ Never ∷ Null ∷ Number ∷ Object ∷ String ∷ Symbol ∷ This ∷ Undefined ∷ Unknown ∷ Void ∷ []

-- literals, alike
abbrev pub literals : List ℕ
literals = Str ∷ NumberLiteral ∷ BigIntLiteral ∷ True ∷ False ∷ []

-- the number of -number or -bigint in the node table
abbrev pub negated : ℕ → ℕ
negated k = 5 + position k (NumberLiteral ∷ BigIntLiteral ∷ [])

-- a keyword stands here: null, void, or a type's word with no dot behind it
abbrev pub is_keyword : Given → State → Bool
is_keyword g s = (between Any Unknown (kind g s) and not (eqb (kind_after g 1 s) Dot)) or among (Null ∷ Void ∷ []) (kind g s)

-- a negative literal stands here
abbrev pub is_negative : Given → State → Bool
is_negative g s = stands g Minus s and among (NumberLiteral ∷ BigIntLiteral ∷ []) (kind_after g 1 s)

-- asserts stands here with its subject on the same line
abbrev pub is_assertion : Given → State → Bool
is_assertion g s = stands g Asserts s and class.name (kind_after g 1 s) and next_on_line g s

module _ (g : Given) where
  -- Primary: a keyword
  unfoldable pub keyword : State → Result Placed
  keyword s = make g [] (node.keyword (first g s) (end g (next s)) (position (kind g s) keywords)) (next s)

  -- Primary: a literal; only strings and numbers keep their spelling
  unfoldable pub literal : State → Result Placed
  literal s =
      let x = test (among (True ∷ False ∷ []) (kind g s)) (λ _. absent) (λ _. present (spelling g s)) in
      make g [] (node.literal (first g s) (end g (next s)) (position (kind g s) literals) x) (next s)

  -- Primary: a negative literal, whose spelling leaves out the sign
  unfoldable pub negative : State → Result Placed
  negative s =
      let q = next s in
      make g [] (node.literal (first g s) (end g (next q)) (negated (kind g q)) (present (spelling g q))) (next q)

module _ (g : Given) (T : Reader) where
  -- Primary: this, or what it is said to be on the same line
  unfoldable pub this : State → Result Placed
  this s =
      test (not (on_line g (next s) and stands g Is (next s))) (λ _. keyword g s) λ _.
      then (T true (next (next s))) λ t q.
      make g [] (node.predicate (first g s) (end g q) false absent (present t)) q

  -- Primary: an assertion about a name or this, with or without a type
  unfoldable pub assertion : State → Result Placed
  assertion s =
      let p = next s in
      then (optional g Is (T true) (next p)) λ t q.
      make g [] (node.predicate (first g s) (end g q) true (subject g p) t) q

  -- Primary: typeof a name or an import
  unfoldable pub query : State → Result Placed
  query s =
      test (stands g Import (next s)) (λ _. import_type g T (first g s) true (next s)) λ _.
      named g T node.typeof (first g s) (next s)

  -- Primary: a `{` opens a mapped type by the look-ahead of types.rs, else an object type
  unfoldable pub curly : State → Result Placed
  curly s = test (mapped_start g.words s.at) (λ _. mapped g T s) λ _. object g T s

  -- Primary: brackets, which are a node of their own if asked for
  unfoldable pub brackets : State → Result Placed
  brackets s =
      then (T true (next s)) λ t q.
      expect g RParen q λ q.
      test g.parens (λ _. make g [] (node.parens (first g s) (end g q) t) q) λ _.
      read t q

  -- Primary: a reference; the three prefix marks are known but refused
  unfoldable pub reference : State → Result Placed
  reference s =
      test (class.binding_word (kind g s)) (λ _. named g T node.reference (first g s) s) λ _.
      test (among (Question ∷ Bang ∷ Star ∷ []) (kind g s)) (λ _. refused prefix_mark s) λ _.
      refused unexpected s

  -- Primary: what a mark or a template opens; if none does, a reference
  unfoldable pub enclosed : State → Result Placed
  enclosed s =
      test (stands g LCurly s) (λ _. curly s) λ _.
      test (stands g LBrack s) (λ _. tuple g T s) λ _.
      test (stands g LParen s) (λ _. brackets s) λ _.
      test (among (NoSubstitutionTemplate ∷ TemplateHead ∷ []) (kind g s)) (λ _. template g T s) λ _.
      reference s

  -- Primary: what asserts, typeof or import begins; if none does, what is enclosed
  unfoldable pub worded : State → Result Placed
  worded s =
      test (is_assertion g s) (λ _. assertion s) λ _.
      test (stands g Typeof s) (λ _. query s) λ _.
      test (stands g Import s) (λ _. import_type g T (first g s) false s) λ _.
      enclosed s

  -- Primary: keywords, this and literals; if none stands here, the others
  unfoldable pub primary : State → Result Placed
  primary s =
      test (is_keyword g s) (λ _. keyword g s) λ _.
      test (stands g This s) (λ _. this s) λ _.
      test (among literals (kind g s)) (λ _. literal g s) λ _.
      test (is_negative g s) (λ _. negative g s) λ _.
      worded s
