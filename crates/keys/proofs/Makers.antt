-- Every maker's tree is one of the node table: a lemma for each entry, and what a type may stand for.
use mathlib.Core.Path.{◌≡◌, refl, sym, ap, subst}
use mathlib.Core.Bool.{Bool, true, false}
use mathlib.Core.List.{List, [], ◌∷◌, ◌++◌}
use Prim.Native.Nat.{ℕ, zero, suc, ◌^◌, ◌<◌}
use native.Mathlib.Omega.{arith}
use borrow.Author.Tests.{le-leb, lt-ltb, eqb-true}
use lib.Dec.{T, eqb, ltb, ltb→lt}
use lib.ListN.{length, length-append}
use Rattle.keys.specs.Form.{Value, Form, never, one, child, Fits, fits_one, fits_word, fits_choose, fits_both, fits_child}
use Rattle.keys.specs.Limits.{count_width}
use Rattle.keys.specs.Table.{◌⊗◌, when, one_of, times, flag, below, opt, spelling, type, element, under_rest, under_name, type_param, param, literals, subject, named_row, property_key, member, signature_row, list, rows, rows_of}
use Rattle.keys.specs.Placed.{Placed, void, said, pick, join, tree, bare, Spelling, Opt, absent, present, spell, bit, number, entries, listed, spellings, listed_names, maybe, maybe_list, maybe_this, subject_of, pieces, reference, keyword, literal, parens, union, intersection, array, indexed, conditional, infer, operator, function, constructor, mapped, template, predicate, typeof, import_type, tuple, optional, rest, named, non_null, asked, type_parameter, parameter, PropertyKey, spell_key, maybe_named, signature, object, property, method, call_signature, construct_signature, index_signature, optional_if, as_element}
use Rattle.keys.specs.Key.{node_table}
use Rattle.keys.proofs.Fitting.{Is, IsSpelling, Each, IfAny, Few, IsList, IsNames, IsPiece, IsPropertyKey, IsNamed}
use Rattle.keys.proofs.BitsLaws.{clash}
use Rattle.keys.proofs.FormLaws.{some}

-- ---- What makers keep apart

-- A list that is absent is not one that is there, be it empty.
pub absent_list : (ps : List Placed) → bare (maybe_list absent) ≡ bare (maybe_list (present ps)) → ⊥
absent_list ps e = clash (cc)

-- ---- Parts

abbrev Has : Form → Placed → Type 0
Has f p = Fits node_table f (bare p)

bit_0 : 0 < 2 ^ 1
bit_0 = omega arith

bit_1 : 1 < 2 ^ 1
bit_1 = omega arith

tag : (t : ℕ) → T (ltb t 26) → t < 2 ^ 6
tag t h = omega (arith, ltb→lt t 26 h)

sort : (t : ℕ) → T (ltb t 5) → t < 2 ^ 3
sort t h = omega (arith, ltb→lt t 5 h)

no_tag : 0 < 2 ^ 0
no_tag = omega arith

is : {f : Form} {p : Placed} → Has f p → Is f p
is h = record { fits = h }

spell_fits : {s : Spelling} → IsSpelling s → Has spelling (spell s)
spell_fits h = fits_word h.some h.few h.bytes

bit_fits : (b : Bool) → Has flag (bit b)
bit_fits true = fits_choose bit_1 fits_one
bit_fits false = fits_choose bit_0 fits_one

when_fits : {b : Bool} (f : Form) {v : Value} → b ≡ true → Fits node_table f v → Fits node_table (when b f) v
when_fits f {v} e h = subst (λ (x : Bool). Fits node_table (when x f) v) (sym e) h

number_fits : (w n k : ℕ) → k < 2 ^ w → k < n → Has (below w n) (number k)
number_fits w n k h l = fits_choose h (when_fits one (lt-ltb k n l) fits_one)

entries_fit : (f : Form) (ps : List Placed) → Each (Is f) ps → Has (times (length ps) f) (entries ps)
entries_fit f [] h = fits_one
entries_fit f (p ∷ ps) h = fits_both h.0.fits (entries_fit f ps h.1)

list_fits : {least : ℕ} {f : Form} {ps : List Placed} → IsList least f ps → Has (list count_width least f) (listed ps)
list_fits {least} {f} {ps} h = fits_choose h.few (when_fits (times (length ps) f) (le-leb least (length ps) h.enough) (entries_fit f ps h.each))

length_spellings : (ss : List Spelling) → length (spellings ss) ≡ length ss
length_spellings [] = refl
length_spellings (s ∷ ss) = ap suc (length_spellings ss)

spellings_are : (ss : List Spelling) → Each IsSpelling ss → Each (Is spelling) (spellings ss)
spellings_are [] h = tt
spellings_are (s ∷ ss) h = (record { fits = spell_fits h.0 }, spellings_are ss h.1)

names_fit : {least : ℕ} {ss : List Spelling} → IsNames least ss → Has (list count_width least spelling) (listed_names ss)
names_fit {least} {ss} h =
    list_fits {ps = spellings ss}
    (record {
      enough = omega (arith, h.enough, length_spellings ss);
      few = omega (arith, h.few, length_spellings ss);
      each = spellings_are ss h.each;
    })

maybe_fits : (f : Form) (p : Opt Placed) → IfAny (Is f) p → Has (opt f) (maybe p)
maybe_fits f absent h = fits_choose bit_0 fits_one
maybe_fits f (present p) h = fits_choose bit_1 h.fits

maybe_list_fits : (f : Form) (ps : Opt (List Placed)) → IfAny (IsList 0 f) ps → Has (opt (list count_width 0 f)) (maybe_list ps)
maybe_list_fits f absent h = fits_choose bit_0 fits_one
maybe_list_fits f (present ps) h = fits_choose bit_1 (list_fits h)

maybe_this_fits : (p : Opt (Opt Placed)) → IfAny (IfAny (Is type)) p → Has (opt (opt type)) (maybe_this p)
maybe_this_fits absent h = fits_choose bit_0 fits_one
maybe_this_fits (present p) h = fits_choose bit_1 (maybe_fits type p h)

subject_fits : (s : Opt Spelling) → IfAny IsSpelling s → Has subject (subject_of s)
subject_fits absent h = fits_choose bit_1 fits_one
subject_fits (present s) h = fits_choose bit_0 (spell_fits h)

pieces_fit : (ps : List (Placed × Spelling)) → Each IsPiece ps → Has (times (length ps) (type ⊗ spelling)) (entries (pieces ps))
pieces_fit [] h = fits_one
pieces_fit (p ∷ ps) h = fits_both (fits_both h.0.type_is.fits (spell_fits h.0.spelling_is)) (pieces_fit ps h.1)

key_by_lem : (k : ℕ) {s : Spelling} → k < 3 → IsSpelling s → Has property_key (pick k (spell s))
key_by_lem zero h a = fits_choose {w = 2} {k = 0} (omega arith) (spell_fits a)
key_by_lem (suc zero) h a = fits_choose {w = 2} {k = 1} (omega arith) (spell_fits a)
key_by_lem (suc (suc zero)) h a = fits_choose {w = 2} {k = 2} (omega arith) (spell_fits a)
key_by_lem (suc (suc (suc k))) h a = absurd (omega arith)

key_fits : {k : PropertyKey} → IsPropertyKey k → Has property_key (spell_key k)
key_fits {k} h = key_by_lem k.which h.known h.spelling_is

maybe_named_fits : (p : Opt (Spelling × Placed)) → IfAny IsNamed p → Has (opt (spelling ⊗ type)) (maybe_named p)
maybe_named_fits absent h = fits_choose bit_0 fits_one
maybe_named_fits (present p) h = fits_choose bit_1 (fits_both (spell_fits h.name_is) h.type_is.fits)

signature_fits : (params : Opt (List Placed)) (this : Opt (Opt Placed)) {ps : List Placed} (r : Opt Placed)
    → IfAny (IsList 0 type_param) params → IfAny (IfAny (Is type)) this → IsList 0 param ps → IfAny (Is type) r → Has (signature_row count_width) (signature params this ps r)
signature_fits params this r a b c d =
    fits_both (maybe_list_fits type_param params a) (fits_both (maybe_this_fits this b) (fits_both (list_fits c) (maybe_fits type r d)))

-- ---- One lemma for each entry of the node table
module _ (first end : ℕ) where
  pub reference_is : {ss : List Spelling} (args : Opt (List Placed)) → IsNames 1 ss → IfAny (IsList 0 type) args → Is type (reference first end ss args)
  reference_is args h a = is (fits_child (tag 1 tt) (fits_both (names_fit h) (maybe_list_fits type args a)))

  pub keyword_is : (k : ℕ) → k < 13 → Is type (keyword first end k)
  keyword_is k h = is (fits_child (tag 2 tt) (number_fits 4 13 k (omega arith) h))

  -- A literal of a kind that has a spelling.
  pub literal_is : (k : ℕ) {s : Spelling} → k < 7 → one_of literals k ≡ spelling → IsSpelling s → Is type (literal first end k (present s))
  literal_is k {s} h e a =
      is (fits_child (tag 3 tt) (fits_choose {w = 3} (omega arith) (subst (λ (f : Form). Has f (spell s)) (sym e) (spell_fits a))))

  -- A literal of a kind that has none: true, false.
  pub truth_is : (k : ℕ) → k < 7 → one_of literals k ≡ one → Is type (literal first end k absent)
  truth_is k h e = is (fits_child (tag 3 tt) (fits_choose {w = 3} (omega arith) (subst (λ (f : Form). Has f void) (sym e) fits_one)))

  pub parens_is : {t : Placed} → Is type t → Is type (parens first end t)
  parens_is h = is (fits_child (tag 4 tt) h.fits)

  pub union_is : {ts : List Placed} → IsList 1 type ts → Is type (union first end ts)
  union_is h = is (fits_child (tag 5 tt) (list_fits h))

  pub intersection_is : {ts : List Placed} → IsList 1 type ts → Is type (intersection first end ts)
  intersection_is h = is (fits_child (tag 6 tt) (list_fits h))

  pub array_is : {t : Placed} → Is type t → Is type (array first end t)
  array_is h = is (fits_child (tag 7 tt) h.fits)

  pub indexed_is : {t x : Placed} → Is type t → Is type x → Is type (indexed first end t x)
  indexed_is h i = is (fits_child (tag 8 tt) (fits_both h.fits i.fits))

  pub conditional_is : {a b c d : Placed} → Is type a → Is type b → Is type c → Is type d → Is type (conditional first end a b c d)
  conditional_is a b c d = is (fits_child (tag 9 tt) (fits_both a.fits (fits_both b.fits (fits_both c.fits d.fits))))

  pub infer_is : {s : Spelling} (t : Opt Placed) → IsSpelling s → IfAny (Is type) t → Is type (infer first end s t)
  infer_is t a h = is (fits_child (tag 10 tt) (fits_both (spell_fits a) (maybe_fits type t h)))

  pub operator_is : (k : ℕ) {t : Placed} → k < 3 → Is type t → Is type (operator first end k t)
  operator_is k a h = is (fits_child (tag 11 tt) (fits_both (number_fits 2 3 k (omega arith) a) h.fits))

  pub function_is : (params : Opt (List Placed)) (this : Opt (Opt Placed)) {ps : List Placed} {r : Placed}
      → IfAny (IsList 0 type_param) params → IfAny (IfAny (Is type)) this → IsList 0 param ps → Is type r → Is type (function first end params this ps r)
  function_is params this a b c d =
      is (fits_child (tag 12 tt) (fits_both (maybe_list_fits type_param params a) (fits_both (maybe_this_fits this b) (fits_both (list_fits c) d.fits))))

  pub constructor_is : (abstract : Bool) (params : Opt (List Placed)) {ps : List Placed} {r : Placed}
      → IfAny (IsList 0 type_param) params → IsList 0 param ps → Is type r → Is type (constructor first end abstract params ps r)
  constructor_is abstract params a c d =
      is (fits_child (tag 13 tt) (fits_both (bit_fits abstract) (fits_both (maybe_list_fits type_param params a) (fits_both (list_fits c) d.fits))))

  pub mapped_is : (readonly : ℕ) {key : Spelling} {c : Placed} (n : Opt Placed) (question : ℕ) (t : Opt Placed)
      → readonly < 4 → IsSpelling key → Is type c → IfAny (Is type) n → question < 4 → IfAny (Is type) t
      → Is type (mapped first end readonly key c n question t)
  mapped_is readonly n question t a b c d e f =
      is (fits_child (tag 14 tt)
      (fits_both (number_fits 2 4 readonly (omega arith) a)
      (fits_both (spell_fits b) (fits_both c.fits (fits_both (maybe_fits type n d) (fits_both (number_fits 2 4 question (omega arith) e) (maybe_fits type t f)))))))

  pub template_is : {s : Spelling} (ps : List (Placed × Spelling)) → IsSpelling s → Few ps → Each IsPiece ps → Is type (template first end s ps)
  template_is ps a b c = is (fits_child (tag 15 tt) (fits_choose b (fits_both (spell_fits a) (pieces_fit ps c))))

  -- A predicate with its type.
  pub predicate_is : (asserts : Bool) (s : Opt Spelling) {t : Placed} → IfAny IsSpelling s → Is type t → Is type (predicate first end asserts s (present t))
  predicate_is true s a h = is (fits_child (tag 16 tt) (fits_choose bit_1 (fits_both (subject_fits s a) (fits_choose bit_1 h.fits))))
  predicate_is false s a h = is (fits_child (tag 16 tt) (fits_choose bit_0 (fits_both (subject_fits s a) (fits_choose bit_1 h.fits))))

  -- A bare asserts, which needs no type.
  pub asserts_is : (s : Opt Spelling) → IfAny IsSpelling s → Is type (predicate first end true s absent)
  asserts_is s a = is (fits_child (tag 16 tt) (fits_choose bit_1 (fits_both (subject_fits s a) (fits_choose bit_0 fits_one))))

  pub typeof_is : {ss : List Spelling} (args : Opt (List Placed)) → IsNames 1 ss → IfAny (IsList 0 type) args → Is type (typeof first end ss args)
  typeof_is args h a = is (fits_child (tag 17 tt) (fits_both (names_fit h) (maybe_list_fits type args a)))

  pub import_is : (isTypeof : Bool) {source : Spelling} {ss : List Spelling} (args : Opt (List Placed))
      → IsSpelling source → IsNames 0 ss → IfAny (IsList 0 type) args → Is type (import_type first end isTypeof source ss args)
  import_is isTypeof args b h a =
      is (fits_child (tag 18 tt) (fits_both (bit_fits isTypeof) (fits_both (spell_fits b) (fits_both (names_fit h) (maybe_list_fits type args a)))))

  pub tuple_is : {ts : List Placed} → IsList 0 element ts → Is type (tuple first end ts)
  tuple_is h = is (fits_child (tag 19 tt) (list_fits h))

  pub optional_is : {t : Placed} → Is type t → Is element (optional first end t)
  optional_is h = is (fits_child (tag 20 tt) h.fits)

  pub rest_is : {t : Placed} → Is under_rest t → Is element (rest first end t)
  rest_is h = is (fits_child (tag 21 tt) h.fits)

  pub named_is : {s : Spelling} (question : Bool) {t : Placed} → IsSpelling s → Is under_name t → Is element (named first end s question t)
  named_is question a h = is (fits_child (tag 22 tt) (fits_both (spell_fits a) (fits_both (bit_fits question) h.fits)))

  -- A named element may stand under a rest, an optional and a rest under a name.
  pub named_under_rest : {s : Spelling} (question : Bool) {t : Placed} → IsSpelling s → Is under_name t → Is under_rest (named first end s question t)
  named_under_rest question a h = is (fits_child (tag 22 tt) (fits_both (spell_fits a) (fits_both (bit_fits question) h.fits)))

  pub optional_under_name : {t : Placed} → Is type t → Is under_name (optional first end t)
  optional_under_name h = is (fits_child (tag 20 tt) h.fits)

  pub rest_under_name : {t : Placed} → Is under_rest t → Is under_name (rest first end t)
  rest_under_name h = is (fits_child (tag 21 tt) h.fits)

  pub non_null_is : {t : Placed} → Is type t → Is type (non_null first end t)
  non_null_is h = is (fits_child (tag 23 tt) h.fits)

  pub asked_is : {t : Placed} → Is type t → Is type (asked first end t)
  asked_is h = is (fits_child (tag 24 tt) h.fits)

  pub object_is : {ms : List Placed} → IsList 0 member ms → Is type (object first end ms)
  object_is h = is (fits_child (tag 25 tt) (list_fits h))

  pub property_is : (readonly : Bool) {k : PropertyKey} (question : Bool) (t : Opt Placed) → IsPropertyKey k → IfAny (Is type) t
      → Is member (property first end readonly k question t)
  property_is readonly question t a h =
      is (fits_child (sort 0 tt) (fits_both (bit_fits readonly) (fits_both (key_fits a) (fits_both (bit_fits question) (maybe_fits type t h)))))

  pub method_is : {k : PropertyKey} (question : Bool) (params : Opt (List Placed)) (this : Opt (Opt Placed)) {ps : List Placed} (r : Opt Placed)
      → IsPropertyKey k → IfAny (IsList 0 type_param) params → IfAny (IfAny (Is type)) this → IsList 0 param ps → IfAny (Is type) r
      → Is member (method first end k question params this ps r)
  method_is question params this r k a b c d =
      is (fits_child (sort 1 tt) (fits_both (key_fits k) (fits_both (bit_fits question) (signature_fits params this r a b c d))))

  pub call_signature_is : (params : Opt (List Placed)) (this : Opt (Opt Placed)) {ps : List Placed} (r : Opt Placed)
      → IfAny (IsList 0 type_param) params → IfAny (IfAny (Is type)) this → IsList 0 param ps → IfAny (Is type) r
      → Is member (call_signature first end params this ps r)
  call_signature_is params this r a b c d = is (fits_child (sort 2 tt) (signature_fits params this r a b c d))

  pub construct_signature_is : (params : Opt (List Placed)) {ps : List Placed} (r : Opt Placed)
      → IfAny (IsList 0 type_param) params → IsList 0 param ps → IfAny (Is type) r → Is member (construct_signature first end params ps r)
  construct_signature_is params r a c d =
      is (fits_child (sort 3 tt) (fits_both (maybe_list_fits type_param params a) (fits_both (list_fits c) (maybe_fits type r d))))

  pub index_signature_is : (readonly : Bool) (p : Opt (Spelling × Placed)) {t : Placed} → IfAny IsNamed p → Is type t
      → Is member (index_signature first end readonly p t)
  index_signature_is readonly p a h = is (fits_child (sort 4 tt) (fits_both (bit_fits readonly) (fits_both (maybe_named_fits p a) h.fits)))

  pub type_parameter_is : {s : Spelling} (x d : Opt Placed) → IsSpelling s → IfAny (Is type) x → IfAny (Is type) d
      → Is type_param (type_parameter first end s x d)
  type_parameter_is x d a b c = is (fits_child no_tag (fits_both (spell_fits a) (fits_both (maybe_fits type x b) (maybe_fits type d c))))

  pub parameter_is : (is_rest : Bool) {s : Spelling} (question : Bool) (t : Opt Placed) → IsSpelling s → IfAny (Is type) t
      → Is param (parameter first end is_rest s question t)
  parameter_is is_rest question t a h =
      is (fits_child no_tag (fits_both (bit_fits is_rest) (fits_both (spell_fits a) (fits_both (bit_fits question) (maybe_fits type t h)))))

-- ---- What a type may stand for

-- The same rows, but that some have none on the left.
data Fewer : List Form → List Form → Type 0 where
  none : Fewer [] []
  same : {f : Form} {fs gs : List Form} → Fewer fs gs → Fewer (f ∷ fs) (f ∷ gs)
  more : {g : Form} {fs gs : List Form} → Fewer fs gs → Fewer (never ∷ fs) (g ∷ gs)

fewer_fits : {fs gs : List Form} → Fewer fs gs → (t : ℕ) {v : Value} → Fits node_table (one_of fs t) v → Fits node_table (one_of gs t) v
fewer_fits none t h = h
fewer_fits (same d) zero h = h
fewer_fits (same d) (suc t) h = fewer_fits d t h
fewer_fits (more d) zero h = clash (cc (some node_table h))
fewer_fits (more d) (suc t) h = fewer_fits d t h

rows_fewer : (a b c : Form) → Fewer (rows count_width never never never) (rows count_width a b c)
rows_fewer a b c =
    same (same (same (same (same (same (same (same (same (same (same (same (same (same (same (same (same (same (same (same
    (more (more (more (same (same (same none)))))))))))))))))))))))))

-- A class with a tag whose rows are those of a type, or more.
widen : (c : ℕ) → node_table.tag_width c ≡ 6 → Fewer (rows_of count_width 0) (rows_of count_width c) → {v : Value} → Fits node_table type v → Fits node_table (child c) v
widen c e d (fits_child {t = t} a b) = fits_child (subst (λ (w : ℕ). t < 2 ^ w) (sym e) a) (fewer_fits d t b)

module _ {p : Placed} (h : Is type p) where
  -- A type is a tuple element.
  pub type_is_element : Is element p
  type_is_element = is (widen 1 refl (rows_fewer type under_rest named_row) h.fits)

  -- A type may stand under a rest.
  pub type_under_rest : Is under_rest p
  type_under_rest = is (widen 2 refl (rows_fewer never never named_row) h.fits)

  -- A type may stand under a name.
  pub type_under_name : Is under_name p
  type_under_name = is (widen 3 refl (rows_fewer type under_rest never) h.fits)

-- A type that comes out as a `?` node is an optional element, and any other is the element that it was.
pub as_element_is : (p : Placed) → Is type p → Is element (as_element p)
as_element_is void h = type_is_element h
as_element_is (said x s) h = type_is_element h
as_element_is (pick k q) h = type_is_element h
as_element_is (join a b) h = type_is_element h
as_element_is (tree t first end q) h = by (eqb t 24) refl h
  where
    asked_row : {v : Value} → t ≡ 24 → Fits node_table type v → v ≡ bare (tree t first end q) → Fits node_table type (bare q)
    asked_row e (fits_child {t = j} {v = u} a b) i =
        let jt : j ≡ 24 = cc in
        let vu : u ≡ bare q = cc in
        rw (← vu) (rw jt at b)

    by : (x : Bool) → eqb t 24 ≡ x → Is type (tree t first end q) → Is element (optional_if x (tree t first end q))
    by false e i = type_is_element i
    by true e i = is (fits_child (tag 20 tt) (asked_row (eqb-true t 24 e) i.fits refl))

-- ---- Lists that grow at their end

pub each_more : {A : Type 0} (P : A → Type 0) (xs : List A) (x : A) → Each P xs → P x → Each P (xs ++ (x ∷ []))
each_more P [] x h i = (i, tt)
each_more P (y ∷ ys) x h i = (h.0, each_more P ys x h.1 i)

pub list_more : {least : ℕ} {f : Form} {ps : List Placed} {p : Placed} → IsList least f ps → Is f p → Few (ps ++ (p ∷ [])) → IsList least f (ps ++ (p ∷ []))
list_more {least} {f} {ps} {p} h i few =
    record { enough = omega (arith, h.enough, length-append ps (p ∷ [])); few = few; each = each_more (Is f) ps p h.each i }
