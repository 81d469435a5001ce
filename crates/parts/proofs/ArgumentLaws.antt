-- Where arguments open; the source of an import, and the numbers of names, by what the tests answer.
use mathlib.Core.Path.{◌≡◌, refl, sym, ap, ap₂, ◌∙◌, subst}
use mathlib.Core.Bool.{Bool, true, false}
use mathlib.Core.List.{List, [], ◌∷◌}
use Prim.Native.Nat.{ℕ, ◌+◌, ◌-◌, ◌*◌, ◌≤◌, ◌<◌}
use native.Mathlib.Omega.{arith}
use borrow.Author.Tests.{lt-ltb, le-ltb}
use lib.ListN.{length}
use Rattle.keys.specs.Limits.{tags, counts}
use Rattle.words.specs.Limits.{longest}
use Rattle.words.specs.Test.{test}
use Rattle.words.specs.Kind.{LParen, RParen, Str, Comma, LAngle, ShiftLeft, LtEq, ShiftLeftEq, Import, Typeof}
use Rattle.keys.specs.Bits.{unit}
use Rattle.keys.specs.Placed.{Placed, Spelling, Opt}
use Rattle.keys.specs.Store.{◌⊕◌}
use Rattle.rules.specs.Refusal.{too_long}
use Rattle.rules.specs.State as rule
use Rattle.rules.specs.State.{State, Result, read, refuse, refused, then, next, halved, stands, end, spelling, make, turns}
use Rattle.rules.specs.List.{count}
use Rattle.rules.specs.Names.{dots_from, dotted}
use Rattle.marks.specs.State.{view, given_of, next_mark, named_mark, Spelt, Inside, Along}
use Rattle.marks.specs.Laid.{names_run, runs_opt, AllOpt, Was, BuiltAt, Spoken, Shape}
use Rattle.marks.specs.Says.{GotNames, SaysNames, Any, one, Says, is_there}
use Rattle.marks.specs.Node.{Makes, opt_list}
use Rattle.marks.specs.Names.{Speaks, GotDots}
use Rattle.parts.specs.Arguments.{Naming, reference, typeof, import, names_of, name_count, name_choices, name_scale, named_node, import_source, import_head, dotted_head, query_head, naming_head, NamingIs, Dotted}
use Rattle.marks.proofs.Answers.{then_read_lem, says_same}
use Rattle.marks.proofs.BuiltLaws.{spoken_from, spoken_to, spoken_then}
use Rattle.marks.proofs.MarkLaws.{moved_next, inside_next, along_named, along_then, along_moved}
use Rattle.marks.proofs.StepLaws.{names_read}
use Rattle.parts.proofs.NamingLaws.{name_tag, name_content, named_tree, named_shape, spoken_count}
use Rattle.marks.specs.declared.state.Given.{Given}
use Rattle.marks.specs.declared.state.Mark.{Mark}
use Rattle.marks.specs.declared.state.Begin.{Begin}
use Rattle.marks.specs.Told.{Listed}
use Rattle.marks.specs.Told.{Answer}
use Rattle.parts.specs.Told.{Named}

-- ---- Where a list of arguments opens

-- The tokens that begin with `<`.
abbrev pub openers : List ℕ
openers = LAngle ∷ ShiftLeft ∷ LtEq ∷ ShiftLeftEq ∷ []

-- ---- The source of an import

module _ (g : rule.Given) (s : State) where
  module _ (a : stands g LParen s ≡ true) where
    module _ (b : stands g Str (next s) ≡ true) where
      pub source_read : stands g Comma (next (next s)) ≡ false → stands g RParen (next (next s)) ≡ true → import_source g s ≡ read (spelling g (next s)) (next (next (next s)))
      source_read c d = rw (a, b, c, d)

-- It is one name.
pub source_spoken : (text W : List ℕ) (given : Given) (m : Mark) (O : List ℕ) {p : Mark} {M M' : List ℕ} → p ≡ next_mark m → Speaks W p M M' → Spelt text W
    → Spoken (one (spelling (given_of text W given) (next (view m O)))) m (next_mark (named_mark (next_mark m))) M M'
source_spoken text W given m O {p} {M} {M'} e f h =
    spoken_to (next_mark (named_mark (next_mark m))) refl refl refl (spoken_from m refl refl refl (subst (λ (q : Mark). Speaks W q M M') e f text h))

-- ---- Names

counted : (a b n : ℕ) → a ≡ b + n → a - b ≡ n
counted a b n e = omega arith

-- Names with dots between were read: a reference's or a typeof's.
pub reference_read : (g : rule.Given) (s : State) (choices : ℕ) (make : List Spelling → Naming) (m q : Mark) {M M' O : List ℕ} → Dotted choices make
    → GotNames (λ k. k) Any (dotted g s) m q M M' O
    → SaysNames names_of (NamingIs (record { why = 0; choices = choices; scale = tags; count = q.named - m.named; m = q })) (dotted_head g make s) 0 m q M M' O
reference_read g s choices make m q {M} {M'} d v =
    names_read
    (record {
      what = make v.what;
      is = then_read_lem (λ l p. read (make l) p) v.is;
      such =
          record {
            choices = sym (d.choices_are v.what);
            scale = sym (d.scale_is v.what);
            count = counted q.named m.named (length v.what) (spoken_count v.spoken) ∙ sym (d.count_is v.what);
          };
      spoken = subst (λ (l : List Spelling). Spoken l m q M M') (sym (d.names_are v.what)) v.spoken;
    })

-- An import's source was read, and its names.
pub import_read : (g : rule.Given) (s : State) (isTypeof : Bool) (choices : ℕ) (m p q : Mark) {M M' M'' O : List ℕ} → choices ≡ 18 + tags * unit isTypeof
    → GotNames one Any (import_source g s) m p M M' O → GotDots [] (dots_from g (turns g) [] (view p O)) p q M' M'' O
    → SaysNames names_of (NamingIs (record { why = 0; choices = choices; scale = 128; count = q.named - p.named; m = q })) (import_head g isTypeof s) 0 m q M M'' O
import_read g s isTypeof choices m p q e v w =
    names_read
    (record {
      what = import isTypeof v.what w.more;
      is =
          then_read_lem (λ x r. then (dots_from g (turns g) [] r) λ l r. read (import isTypeof x l) r) v.is
          ∙ then_read_lem (λ l r. read (import isTypeof v.what l) r) w.is;
      such = record { choices = e; scale = refl; count = counted q.named p.named (length w.more) (spoken_count w.spoken) };
      spoken = spoken_then v.spoken w.spoken;
    })

-- ---- Which it is, by the word that begins it

module _ (g : rule.Given) (s : State) where
  pub query_import : stands g Import s ≡ true → query_head g s ≡ import_head g true (next s)
  query_import e = ap (λ (b : Bool). test b (λ _. import_head g true (next s)) (λ _. dotted_head g typeof s)) e

  naming_by : Bool → Bool → Result Naming
  naming_by a b = test a (λ _. query_head g (next s)) (λ _. test b (λ _. import_head g false (next s)) (λ _. dotted_head g reference s))

  pub naming_typeof : stands g Typeof s ≡ true → naming_head g s ≡ query_head g (next s)
  unfolding naming_by
  naming_typeof e = ap (λ (a : Bool). naming_by a (stands g Import s)) e

  pub naming_import : stands g Typeof s ≡ false → stands g Import s ≡ true → naming_head g s ≡ import_head g false (next s)
  unfolding naming_by
  naming_import e h = ap₂ naming_by e h

-- Past a token and a name.
pub along_source : {len : ℕ} (m : Mark) → Inside len m → m.at + 1 < len → Along len m (named_mark (next_mark m))
along_source m h l = along_then (along_moved (moved_next h (omega arith))) (along_named (inside_next m (omega arith)) l)

-- ---- The node

-- A list that is too long.
pub lists_long : (g : rule.Given) (a b : ℕ) (t : Placed) (s : State) → longest < a → make g (a ∷ b ∷ []) t s ≡ refused too_long s
unfolding make
lists_long g a b t s h = rw (lt-ltb longest a h)

pub lists_longer : (g : rule.Given) (a b : ℕ) (t : Placed) (s : State) → a ≤ longest → longest < b → make g (a ∷ b ∷ []) t s ≡ refused too_long s
unfolding make
lists_longer g a b t s h i = rw (le-ltb longest a h, lt-ltb longest b i)

-- Two lists that are not.
pub lists_short : (g : rule.Given) (a b : ℕ) (t : Placed) (s : State) → a ≤ longest → b ≤ longest → make g (a ∷ b ∷ []) t s ≡ make g [] t s
unfolding make
lists_short g a b t s h i = rw (le-ltb longest a h, le-ltb longest b i)

-- The node of names and arguments that stand is what the rules make.
pub named_made : (W : List ℕ) (given : Given) (b : Begin) (n : Named) (l : Listed) (opt : ℕ) (N : List ℕ) (a : Answer) (N' : List ℕ)
    → Makes W given b (n.choices + n.scale * (n.count + counts * opt)) l.kids l.m N a N'
    → opt ≡ opt_list l.there l.kids.count → n.count ≤ longest → l.kids.count ≤ longest
    → (text : List ℕ) (B : Was) (x : Naming) (ts : Opt (List Placed)) (M O : List ℕ)
    → BuiltAt B (names_run (names_of x) ⊕ runs_opt 0 ts) l.kids l.m N M O → b.name ≡ B.named → NamingIs n x
    → l.there ≡ is_there ts → l.kids.count ≡ count ts → AllOpt 0 ts
    → Says 0 B (make (given_of text W given) (name_count x ∷ count ts ∷ []) (named_node b.first (end (given_of text W given) (view l.m O)) x ts) (view l.m O)) a N' M O
named_made W given b n l opt N a N' f o h i text B x ts M O built m is there many nodes =
    says_same
    (lists_short g (name_count x) (count ts) (named_node b.first (end g s) x ts) s (omega (arith, is.count)) (omega arith)
    ∙ ap (λ (t : Placed). make g [] t s) (named_tree b.first (end g s) x ts))
    (f text 0 B (names_run (names_of x) ⊕ runs_opt 0 ts) (name_tag x) (name_content x ts) M O built m
    (subst (λ (c : ℕ). Shape 0 (name_tag x) (name_content x ts) (names_run (names_of x) ⊕ runs_opt 0 ts) c) (sym choices) (named_shape x ts nodes)))
  where
    g : rule.Given
    g = given_of text W given

    s : State
    s = view l.m O

    choices : n.choices + n.scale * (n.count + counts * opt) ≡ name_choices x + name_scale x * (name_count x + counts * opt_list (is_there ts) (count ts))
    choices =
        ap₂ (λ (c d : ℕ). c + d * (n.count + counts * opt)) is.choices is.scale
        ∙ ap₂ (λ (c d : ℕ). name_choices x + name_scale x * (c + counts * d)) is.count (o ∙ ap₂ opt_list there many)
