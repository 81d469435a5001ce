-- What an exported call promises: the eight words that tell its answer, and all that is lent, are the definition's.
use Rattle.std.specs.Prelude.{◌≡◌, List, ℕ, length}
use Rattle.std.proofs.Common.{sym, ◌∙◌}
use Rattle.keys.specs.Store.{TakenBack, take_back}
use Rattle.rules.specs.Read.{Called, read}
use Rattle.answers.specs.Reading.{Slice, Filled, lent_of}
use Rattle.differs.specs.Differ.{Differed, differ}
use Rattle.told.specs.Options.{preserve_parens}
use Rattle.told.specs.Answer.{told, told_back, told_difference}

-- ---- Reading

-- The answer's words and the final content of all that is lent are those of a call.
pub record TellsIn (c : Called) (A N M O K : List ℕ) : Type 0 where
  pub answer_is : A ≡ told c.answer
  pub nodes_are : N ≡ c.node_words
  pub names_are : M ≡ c.name_words
  pub notes_are : O ≡ c.note_words
  pub key_is : K ≡ c.key

-- The promise, whatever the call is given and lent.
abbrev pub Tells : (text tokens : Slice) (start options : ℕ) (nodes names notes key answer : Filled) → Type 0
Tells text tokens start options nodes names notes key answer =
    let c = read text.entry.now tokens.entry.now start (preserve_parens options) (lent_of nodes names notes key) in
    TellsIn c answer.exit.now nodes.exit.now names.exit.now notes.exit.now key.exit.now

-- Nothing is left open: any two results that fit it coincide.
pub one_told : {c : Called} {A N M O K A' N' M' O' K' : List ℕ} → TellsIn c A N M O K → TellsIn c A' N' M' O' K'
    → (A ≡ A') × (N ≡ N') × (M ≡ M') × (O ≡ O') × (K ≡ K')
one_told x y =
    (x.answer_is ∙ sym y.answer_is, x.nodes_are ∙ sym y.nodes_are, x.names_are ∙ sym y.names_are, x.notes_are ∙ sym y.notes_are, x.key_is ∙ sym y.key_is)

-- ---- Taking back

-- The answer's words and the final content of all that is lent are those of a key taken back.
pub record TellsBackIn (d : TakenBack) (A N M X : List ℕ) : Type 0 where
  pub answer_is : A ≡ told_back d.answer
  pub nodes_are : N ≡ d.node_words
  pub names_are : M ≡ d.name_words
  pub text_is : X ≡ d.text

-- The promise, whatever the call is given and lent.
abbrev pub TellsBack : (key : Slice) (nodes names text answer : Filled) → Type 0
TellsBack key nodes names text answer =
    let d = take_back key.entry.now (length nodes.entry.now) (length names.entry.now) (length text.entry.now) in
    TellsBackIn d answer.exit.now nodes.exit.now names.exit.now text.exit.now

-- Nothing is left open: any two results that fit it coincide.
pub one_told_back : {d : TakenBack} {A N M X A' N' M' X' : List ℕ} → TellsBackIn d A N M X → TellsBackIn d A' N' M' X' → (A ≡ A') × (N ≡ N') × (M ≡ M') × (X ≡ X')
one_told_back x y =
    (x.answer_is ∙ sym y.answer_is, x.nodes_are ∙ sym y.nodes_are, x.names_are ∙ sym y.names_are, x.text_is ∙ sym y.text_is)

-- ---- What differs

-- The answer's words and the final content of the list are those of two keys compared.
pub record TellsDifferenceIn (d : Differed) (A L : List ℕ) : Type 0 where
  pub answer_is : A ≡ told_difference d.answer
  pub list_is : L ≡ d.list

-- The promise, whatever the call is given and lent.
abbrev pub TellsDifference : (left right : Slice) (list answer : Filled) → Type 0
TellsDifference left right list answer =
    let d = differ (length list.entry.now) left.entry.now right.entry.now in
    TellsDifferenceIn d answer.exit.now list.exit.now

-- Nothing is left open: any two results that fit it coincide.
pub one_told_difference : {d : Differed} {A L A' L' : List ℕ} → TellsDifferenceIn d A L → TellsDifferenceIn d A' L' → (A ≡ A') × (L ≡ L')
one_told_difference x y = (x.answer_is ∙ sym y.answer_is, x.list_is ∙ sym y.list_is)
