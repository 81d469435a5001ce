-- The statement of the call that takes a key back leaves nothing open.
use mathlib.Core.Path.{◌≡◌, refl, sym, ap, ◌∙◌}
use mathlib.Core.List.{List, [], ◌∷◌}
use lib.ListN.{get_or}
use Prim.Native.Nat.{ℕ}
use Rattle.keys.specs.Store as store
use Rattle.keys.proofs.BitsLaws.{clash}
use Rattle.std.specs.Prelude.{Ok, Err}
use Rattle.words.specs.Refusal.{number_of}
use Rattle.words.specs.declared.refusal.Refusal.{Refusal}
use Rattle.words.specs.declared.refusal.Refusal.TheVariants.{BadList, BadToken, Unexpected, TooDeep, TooTall, TooLong, NoRoom, ManyNotes, BadKey, NoSpace, PrefixMark, ParameterModifier, DefaultValue, MisplacedThis, RestNotLast, TypeParameterModifier, ImportSource, ImportOptions, ManyTrials, ManyDifferences, MemberForm}
use Rattle.key_in.specs.Back.{Answer, told, Answers}

-- The refusals by their numbers.
abbrev numbered : List Refusal
numbered =
    BadList ∷ BadList ∷ BadToken ∷ Unexpected ∷ BadList ∷ TooDeep ∷ TooTall ∷ TooLong ∷ NoRoom ∷ ManyNotes ∷ BadKey ∷ NoSpace ∷ BadList ∷ BadList ∷ BadList ∷ BadList ∷
    BadList ∷ BadList ∷ BadList ∷ BadList ∷ PrefixMark ∷ ParameterModifier ∷ DefaultValue ∷ MisplacedThis ∷ RestNotLast ∷ TypeParameterModifier ∷ ImportSource ∷ ImportOptions ∷ ManyTrials ∷ ManyDifferences ∷ BadList ∷ MemberForm ∷ []

kept : (x : Refusal) → get_or numbered (number_of x) BadList ≡ x
kept BadList = refl
kept BadToken = refl
kept Unexpected = refl
kept TooDeep = refl
kept TooTall = refl
kept TooLong = refl
kept NoRoom = refl
kept ManyNotes = refl
kept BadKey = refl
kept NoSpace = refl
kept PrefixMark = refl
kept ParameterModifier = refl
kept DefaultValue = refl
kept MisplacedThis = refl
kept RestNotLast = refl
kept TypeParameterModifier = refl
kept ImportSource = refl
kept ImportOptions = refl
kept ManyTrials = refl
kept ManyDifferences = refl
kept MemberForm = refl

-- A number is of one refusal.
pub number_one : (x y : Refusal) → number_of x ≡ number_of y → x ≡ y
number_one x y e = sym (kept x) ∙ ap (λ (n : ℕ). get_or numbered n BadList) e ∙ kept y

told_one : (a b : Answer) → told a ≡ told b → a ≡ b
told_one (Ok (n, k, m)) (Ok (n', k', m')) e =
    let p : n ≡ n' = cc in
    let q : k ≡ k' = cc in
    let r : m ≡ m' = cc in
    λ i. Ok (p i, q i, r i)
told_one (Ok (n, k, m)) (Err x) e = clash (cc)
told_one (Err x) (Ok (n, k, m)) e = clash (cc)
told_one (Err x) (Err y) e =
    let q : number_of x.why ≡ number_of y.why = cc in
    let r : x.bit ≡ y.bit = cc in
    λ i. Err (record { why = number_one x.why y.why q i; bit = r i })

-- Any two answers with their outputs that meet it coincide.
pub one_answer : {d : store.TakenBack} {a b : Answer} {N M X N' M' X' : List ℕ} → Answers d a N M X → Answers d b N' M' X' → (a ≡ b) × (N ≡ N') × (M ≡ M') × (X ≡ X')
one_answer {a = a} {b = b} x y =
    (told_one a b (x.answer ∙ sym y.answer), x.nodes_are ∙ sym y.nodes_are, x.names_are ∙ sym y.names_are, x.text_is ∙ sym y.text_is)
