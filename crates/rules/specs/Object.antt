-- Object types and their members (02, W1; types.rs, parse_type_literal, parse_property_or_method_signature, parse_signature_member, parse_index_signature_declaration).
use Rattle.std.specs.Prelude.{ℕ, zero, suc, Bool, true, false, not, List, [], ◌∷◌, ◌++◌, eqb, length}
use Rattle.words.specs.Test.{◌and◌, ◌or◌, among, test}
use Rattle.words.specs.Kind.{NumberLiteral, Str, LCurly, RCurly, LBrack, RBrack, LParen, LAngle, Question, Colon, Comma, Semicolon, New}
use Rattle.words.specs.Ahead.{property_key, readonly_start, modifier_start, accessor_start, index_start}
use Rattle.keys.specs.Placed as node
use Rattle.keys.specs.Placed.{Placed, Spelling, PropertyKey, Opt, absent, present, first_of, end_of, is_literal, is_no_index}
use Rattle.rules.specs.Refusal.{unexpected, member_form}
use Rattle.rules.specs.Notes.{note, asked_index, comma_after_index, literal_index, keyword_index, not_one_index}
use Rattle.rules.specs.State.{Given, State, Result, read, Reader, refused, then, next, kind, kind_after, stands, on_line, first, end, spelling, turns, past, expect, optional, make, report, report_if}
use Rattle.rules.specs.Names.{binding_word}
use Rattle.rules.specs.List.{count}
use Rattle.rules.specs.TypeParameters.{type_parameters}
use Rattle.rules.specs.Function.{ThisParameter, Parameters, this_type, freed, report_this, parameters, return_type}

-- ---- What members are made of

-- a signature: a method's with its key and whether a `?` stood behind it, a call signature, a construct signature
pub data Signature : Type 0 where
  of_method : PropertyKey → Bool → Signature
  of_call : Signature
  of_construct : Signature

-- is it a construct signature?
abbrev pub is_construct : Signature → Bool
is_construct (of_method k question) = false
is_construct of_call = false
is_construct of_construct = true

-- the node of a signature, which has no `this` if it is a construct signature's
abbrev pub signature_node : (b e : ℕ) → Signature → Opt (List Placed) → Parameters → Opt Placed → Placed
signature_node b e (of_method k question) ts ps r = node.method b e k question ts (this_type ps.this) ps.list r
signature_node b e of_call ts ps r = node.call_signature b e ts (this_type ps.this) ps.list r
signature_node b e of_construct ts ps r = node.construct_signature b e ts ps.list r

-- a parameter of an index signature, which is no node: its first and end byte, its name, its type
pub record IndexParameter : Type 0 where
  pub first : ℕ
  pub end : ℕ
  pub name : Spelling
  pub type : Placed

-- the parameters of an index signature: none, one alone, or several, of which the first is kept
pub data IndexParameters : Type 0 where
  no_index : IndexParameters
  one_index : IndexParameter → IndexParameters
  several_index : IndexParameter → IndexParameters

-- one parameter more
abbrev pub with_one : IndexParameters → IndexParameter → IndexParameters
with_one no_index p = one_index p
with_one (one_index p) r = several_index p
with_one (several_index p) r = several_index p

-- is one there, so that any other is a later one?
abbrev pub has_one : IndexParameters → Bool
has_one no_index = false
has_one (one_index p) = true
has_one (several_index p) = true

-- what is kept of them, as the node table has it
abbrev pub kept : IndexParameters → Opt (Spelling × Placed)
kept no_index = absent
kept (one_index p) = present (p.name, p.type)
kept (several_index p) = present (p.name, p.type)

-- the sort of a key by its kind: 0 a name, 1 a string, 2 a number
abbrev pub key_sort : ℕ → ℕ
key_sort k = test (eqb k Str) (λ _. 1) (λ _. test (eqb k NumberLiteral) (λ _. 2) (λ _. 0))

-- the key at the cursor
abbrev pub key_here : Given → State → PropertyKey
key_here g s = record { which = key_sort (kind g s); spelling = spelling g s }

-- a signature's parameters or type parameters begin with this kind
abbrev pub signs : ℕ → Bool
signs k = among (LParen ∷ LAngle ∷ []) k

-- `new` stands here with a signature behind it, on any line
abbrev pub constructs : Given → State → Bool
constructs g s = stands g New s and signs (kind_after g 1 s)

-- readonly stands here as a modifier
abbrev pub is_readonly : Given → State → Bool
is_readonly g s = readonly_start g.words s.at s.half

-- what may not stand here: another modifier word, or get or set as one
abbrev pub unsupported_here : Given → State → Bool
unsupported_here g s = modifier_start g.words s.at s.half or accessor_start g.text g.words s.at s.half

-- ---- Ends and diagnostics

-- Member's end: a `,` or `;` is taken, also behind a line break; `}` or a line break does without
abbrev pub member_end : {A : Type 0} → Given → State → (State → Result A) → Result A
member_end g s on =
    test (among (Comma ∷ Semicolon ∷ []) (kind g s)) (λ _. on (next s)) λ _.
    test (stands g RCurly s or not (on_line g s)) (λ _. on s) λ _.
    refused unexpected s

-- the `this` that diagnostic 3 is about: a construct signature's
abbrev pub this_noted : Signature → Opt ThisParameter → Opt ThisParameter
this_noted x t = test (is_construct x) (λ _. t) (λ _. absent)

-- diagnostic 12 where there is not one parameter, 10 or 11 where its type is a literal or a keyword that is no index
abbrev pub report_index : {A : Type 0} → Given → ℕ → IndexParameters → State → (State → Result A) → Result A
report_index g b no_index s on = report g (note not_one_index b (end g s)) s on
report_index g b (several_index p) s on = report g (note not_one_index b (end g s)) s on
report_index g b (one_index p) s on =
    test (is_literal p.type) (λ _. report g (note literal_index (first_of p.type) (end_of p.type)) s on) λ _.
    report_if (is_no_index p.type) g (note keyword_index p.first p.end) s on

module _ (g : Given) (T : Reader) where
  -- ---- Signatures

  -- Signature: its parts in order, from byte b on; diagnostic 3 stands before the return type
  unfoldable pub signature : ℕ → Signature → State → Result Placed
  signature b x s =
      then (type_parameters g T true s) λ ts q.
      then (parameters g T (is_construct x) q) λ ps q.
      report_this g (this_noted x ps.this) q λ q.
      then (optional g Colon (return_type g T) q) λ r q.
      member_end g q λ q.
      make g (count ts ∷ length ps.list ∷ []) (signature_node b (end g q) x ts ps r) q

  -- Index parameter: the type of one that begins at byte b with the name x, behind the `?` if there is one
  unfoldable pub index_type : ℕ → Spelling → State → Result IndexParameter
  index_type b x s =
      expect g Colon (past g Question s) λ q.
      then (T true q) λ t q.
      read (record { first = b; end = end g q; name = x; type = t }) q

  -- Index parameter: a name and its type; diagnostic 8 for a `?` between them
  unfoldable pub index_parameter : State → Result IndexParameter
  index_parameter s =
      then (binding_word g s) λ x q.
      report_if (stands g Question q) g (note asked_index (first g q) (end g (next q))) q λ q.
      index_type (first g s) x q

  -- Index signature: the parameters up to the `]`, where ps stand before; what a later one took is free again, and diagnostic 9 is for a comma before the `]`
  unfoldable pub index_from : ℕ → IndexParameters → State → Result IndexParameters
  index_from zero ps s = refused unexpected s
  index_from (suc n) ps s =
      test (stands g RBrack s) (λ _. read ps s) λ _.
      then (index_parameter s) λ p q.
      let q = freed (has_one ps) s q in
      test (stands g RBrack q) (λ _. read (with_one ps p) q) λ _.
      expect g Comma q λ r.
      report_if (stands g RBrack r) g (note comma_after_index (first g q) (end g r)) r λ r.
      index_from n (with_one ps p) r

  -- Index signature: a member that begins at byte b, from its `[` on
  unfoldable pub index : ℕ → Bool → State → Result Placed
  index b readonly s =
      then (index_from (turns g) no_index (next s)) λ ps q.
      expect g RBrack q λ q.
      report_index g b ps q λ q.
      expect g Colon q λ q.
      then (T true q) λ t q.
      member_end g q λ q.
      make g [] (node.index_signature b (end g q) readonly (kept ps) t) q

  -- ---- Members, from byte b on

  -- Property: behind its key and `?`, an optional type
  unfoldable pub property : ℕ → Bool → PropertyKey → Bool → State → Result Placed
  property b readonly k question s =
      then (optional g Colon (T true) s) λ t q.
      member_end g q λ q.
      make g [] (node.property b (end g q) readonly k question t) q

  -- Member: a key, and behind it and its `?` a method, or a property; a readonly before a method leaves nothing
  unfoldable pub with_key : ℕ → Bool → State → Result Placed
  with_key b readonly s =
      let q = past g Question (next s) in
      let question = stands g Question (next s) in
      test (not (property_key (kind g s))) (λ _. refused unexpected s) λ _.
      test (signs (kind g q)) (λ _. signature b (of_method (key_here g s) question) q) λ _.
      property b readonly (key_here g s) question q

  -- Member: behind a readonly if there is one; computed names, accessors and other modifiers are refused
  unfoldable pub behind_readonly : ℕ → Bool → State → Result Placed
  behind_readonly b readonly s =
      test (unsupported_here g s) (λ _. refused member_form s) λ _.
      test (not (stands g LBrack s)) (λ _. with_key b readonly s) λ _.
      test (index_start g.words s.at) (λ _. index b readonly s) λ _.
      refused member_form s

  -- Member: by what it begins with
  unfoldable pub member : State → Result Placed
  member s =
      test (signs (kind g s)) (λ _. signature (first g s) of_call s) λ _.
      test (constructs g s) (λ _. signature (first g s) of_construct (next s)) λ _.
      test (is_readonly g s) (λ _. behind_readonly (first g s) true (next s)) λ _.
      behind_readonly (first g s) false s

  -- ---- Object types

  -- Object: the members from here to the `}`, where l stand before
  unfoldable pub members_from : ℕ → List Placed → State → Result (List Placed)
  members_from zero l s = refused unexpected s
  members_from (suc n) l s =
      test (stands g RCurly s) (λ _. read l (next s)) λ _.
      then (member s) λ t q.
      members_from n (l ++ (t ∷ [])) q

  -- Object: all its members in their brackets
  unfoldable pub object : State → Result Placed
  object s =
      expect g LCurly s λ q.
      then (members_from (turns g) [] q) λ l q.
      make g (length l ∷ []) (node.object (first g s) (end g q) l) q
