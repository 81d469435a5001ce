-- What the rules still read from a point on, under names that the functions' contracts cite; each is a part of its rule's text.
use Rattle.std.specs.Prelude as std
use Rattle.std.specs.Prelude.{Ok, Err, Bool, true, false, List, [], ◌∷◌, ◌≡◌, ℕ, ◌+◌, ◌<◌, length}
use Rattle.words.specs.Test.{test}
use Rattle.words.specs.Cursor.{kind_at}
use Rattle.words.specs.Kind.{LCurly, LBrack, RBrack, RCurly, Question, Colon, Semicolon, Arrow, Minus, NoSubstitutionTemplate, TemplateHead, Typeof, Import, Is, As}
use Rattle.keys.specs.Placed as node
use Rattle.keys.specs.Placed.{Placed, Spelling, Opt}
use Rattle.rules.specs.State.{Given, State, Result, Reader, refused, then, next, kind, stands, first, end, spelling, past, expect, optional, make}
use Rattle.rules.specs.Function.{subject, parameters, return_type, function_node}
use Rattle.rules.specs.Mapped.{modifier, mapped}
use Rattle.rules.specs.Arguments.{named, import_type}
use Rattle.rules.specs.Object.{object}
use Rattle.rules.specs.Tuple.{tuple}
use Rattle.rules.specs.Template.{template}
use Rattle.rules.specs.Primary as primary
use Rattle.marks.specs.State.{AnyGiven, view, given_of, next_mark, Spelt}
use Rattle.marks.specs.Laid.{was}
use Rattle.marks.specs.Says.{Says}
use Rattle.marks.specs.List.{here}
use Rattle.primaries.specs.Primary.{is_literal}
use Rattle.marks.specs.declared.state.Mark.{Mark}
use Rattle.marks.specs.Told.{Answer}
use Rattle.primaries.specs.declared.primary.Start.{Start}
use Rattle.primaries.specs.declared.primary.Start.TheVariants.{Keyword, Literal, This, Asserts, Name, Mapped, Object, Tuple, Parens, Template}
use Rattle.words.specs.Refusal.{number_of}
use Rattle.words.specs.declared.refusal.Refusal.{Refusal}

-- what asserts stands before
abbrev pub subject_at : Bool → State → State
subject_at true s = next s
subject_at false s = s

module _ (g : Given) (T : Reader) where
  -- Type: behind the `:` of a conditional
  unfoldable pub behind_colon : ℕ → Placed → Placed → Placed → State → Result Placed
  behind_colon b t x y s = then (T true s) λ z q. make g [] (node.conditional b (end g q) t x y z) q

  -- Type: behind the `?` of a conditional
  unfoldable pub behind_question : ℕ → Placed → Placed → State → Result Placed
  behind_question b t x s =
      then (T true s) λ y q.
      expect g Colon q λ q.
      behind_colon b t x y q

  -- Function: behind its type parameters
  unfoldable pub signature : ℕ → Bool → Bool → Opt (List Placed) → State → Result Placed
  signature b isNew isAbstract ts s =
      then (parameters g T isNew s) λ ps q.
      expect g Arrow q λ q.
      then (return_type g T q) λ r q.
      function_node g T b isNew isAbstract ts ps r q

  -- a predicate about a name or this, with or without asserts before it; its type follows `is`
  unfoldable pub predicate : Bool → State → Result Placed
  predicate asserts s =
      then (optional g Is (T true) (next (subject_at asserts s))) λ t q.
      make g [] (node.predicate (first g s) (end g q) asserts (subject g (subject_at asserts s)) t) q

  -- Mapped: behind its constraint
  unfoldable pub behind_constraint : ℕ → ℕ → Spelling → Placed → State → Result Placed
  behind_constraint b readonly key c s =
      then (optional g As (T true) s) λ n q.
      expect g RBrack q λ q.
      then (modifier g Question q) λ question q.
      then (optional g Colon (T true) q) λ t q.
      expect g RCurly (past g Semicolon q) λ q.
      make g [] (node.mapped b (end g q) readonly key c n question t) q

  -- Primary: a reference, typeof or import
  unfoldable pub name_at : State → Result Placed
  name_at s =
      test (stands g Typeof s) (λ _. primary.query g T s) λ _.
      test (stands g Import s) (λ _. import_type g T (first g s) false s) λ _.
      named g T node.reference (first g s) s

-- Primary: a literal, a negative one, or a template with no type in it
unfoldable pub literal_at : Given → State → Result Placed
literal_at g s =
    test (stands g NoSubstitutionTemplate s) (λ _. make g (0 ∷ []) (node.template (first g s) (end g (next s)) (spelling g s) []) (next s)) λ _.
    test (stands g Minus s) (λ _. primary.negative g s) λ _.
    primary.literal g s

-- A literal at m is what the rules make of it, from any text that is spelled so.
abbrev pub SaysLiteral : (W : List ℕ) (given : AnyGiven) (m : Mark) (N M : List ℕ) (a : Answer) (N' M' : List ℕ) → Type 0
SaysLiteral W given m N M a N' M' =
    (text O : List ℕ) → Spelt text W → is_literal (given_of text W given) (view m O) ≡ true
    → Says 0 (was m N M O) (literal_at (given_of text W given) (view m O)) a N' M' O

-- What a primary type begins as is what x, a rule's reading there, comes to.
abbrev pub StartAs : Result Placed → std.Result Start Refusal → Given → Reader → State → Type 0
StartAs x (Ok Keyword) g T s = x ≡ primary.keyword g s
StartAs x (Ok Literal) g T s = (x ≡ literal_at g s) × (is_literal g s ≡ true)
StartAs x (Ok This) g T s = x ≡ predicate g T false s
StartAs x (Ok Asserts) g T s = x ≡ predicate g T true s
StartAs x (Ok Name) g T s = x ≡ name_at g T s
StartAs x (Ok Mapped) g T s = (x ≡ mapped g T s) × (kind g s ≡ LCurly)
StartAs x (Ok Object) g T s = (x ≡ object g T s) × (kind g s ≡ LCurly)
StartAs x (Ok Tuple) g T s = (x ≡ tuple g T s) × (kind g s ≡ LBrack)
StartAs x (Ok Parens) g T s = x ≡ primary.brackets g T s
StartAs x (Ok Template) g T s = (x ≡ template g T s) × (kind g s ≡ TemplateHead)
StartAs x (Err why) g T s = x ≡ refused (number_of why) s

-- The same of the whole rule.
abbrev pub StartIs : std.Result Start Refusal → Given → Reader → State → Type 0
StartIs r g T s = StartAs (primary.primary g T s) r g T s

-- The same of a rule that begins at a mark.
abbrev pub StartsAs : (rule : Given → Reader → State → Result Placed) (W : List ℕ) (m : Mark) (r : std.Result Start Refusal) → Type 0
StartsAs rule W m r = (text O : List ℕ) (given : AnyGiven) (T : Reader) → StartAs (rule (given_of text W given) T (view m O)) r (given_of text W given) T (view m O)

-- What a primary type begins as, by how many tokens stand there for sure.
abbrev pub StartHas : std.Result Start Refusal → List ℕ → Mark → Type 0
StartHas (Ok Keyword) W m = m.at < length W
StartHas (Ok Literal) W m = (m.at < length W) × (here W Minus m ≡ true → m.at + 1 < length W)
StartHas (Ok This) W m = m.at < length W
StartHas (Ok Asserts) W m = m.at + 1 < length W
StartHas (Ok Name) W m = m.at < length W
StartHas (Ok Mapped) W m = m.at < length W
StartHas (Ok Object) W m = m.at < length W
StartHas (Ok Tuple) W m = m.at < length W
StartHas (Ok Parens) W m = m.at < length W
StartHas (Ok Template) W m = m.at < length W
StartHas (Err why) W m = 0 < number_of why

-- The mark of a predicate's subject.
abbrev pub subject_mark : Bool → Mark → Mark
subject_mark true m = next_mark m
subject_mark false m = m

-- What a reference begins as, wherever a kind stands.
abbrev pub ReferenceIs : ℕ → std.Result Start Refusal → Type 0
ReferenceIs k r = (g : Given) (T : Reader) (s : State) → kind g s ≡ k → StartAs (primary.reference g T s) r g T s

abbrev pub ReferenceHas : ℕ → std.Result Start Refusal → Type 0
ReferenceHas k r = (W : List ℕ) (m : Mark) → kind_at W m.at m.half ≡ k → StartHas r W m
