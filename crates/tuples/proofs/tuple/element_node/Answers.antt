-- A member, a rest, or the type itself.
use mathlib.Core.Path.{refl, sym, ◌∙◌, subst}
use mathlib.Core.List.{List, []}
use Rattle.keys.specs.Placed.{Spelling}
use Rattle.keys.specs.Store.{◌⊕◌}
use Rattle.marks.specs.State.{view}
use Rattle.marks.specs.Laid.{run_in, names_run, Laid}
use Rattle.marks.proofs.Answers.{says_same}
use Rattle.marks.specs.Told.{told}
use Rattle.tuples.proofs.LabelLaws.{after_label, after_rest, after_type, names_label, names_none}
use Rattle.tuples.proofs.MemberLaws.{says_type, says_rest}
use Rattle.tuples.proofs.tuple.element_node.Goals as goal

pub returns-then-l-clause-makes_element : goal.returns-then-l-clause-makes_element
returns-then-l-clause-makes_element c =
    (λ text T B m s t M is sa sh same bn i h d.
    says_same (after_label text c.args.words.now c.args.given T m c.args.l s is (record { at_is = sa; half_is = sh }) same c.if-l.true t (view c.args.a.m c.args.notes.now))
    (c.member.ensures.makes_member text B _ t M (bn ∙ sym is.name_is) i h
    (subst (λ (l : List Spelling). Laid B (names_run l ⊕ run_in 0 t) c.args.a.m.used c.args.a.m.named c.args.a.m.noted c.args.nodes.now M c.args.notes.now) (names_label text c.args.words.now c.args.given T m c.args.l s is (record { at_is = sa; half_is = sh }) same c.if-l.true) d)))

pub returns-then-l-2-clause-makes_element : goal.returns-then-l-2-clause-makes_element
returns-then-l-2-clause-makes_element c =
    (λ text T B m s t M is sa sh same bn i h d.
    says_same (after_rest text c.args.words.now c.args.given T m c.args.l s is (record { at_is = sa; half_is = sh }) same c.if-l.false c.if-l-2.true t (view c.args.a.m c.args.notes.now))
    (says_rest c.args.words.now c.args.given c.args.l.b c.args.a.high c.args.a.m c.args.nodes.now (told c.put_about.result) _ text B t M c.args.notes.now c.put_about.ensures.makes_about i h
    (subst (λ (l : List Spelling). Laid B (names_run l ⊕ run_in 0 t) c.args.a.m.used c.args.a.m.named c.args.a.m.noted c.args.nodes.now M c.args.notes.now) (names_none text c.args.words.now c.args.given T m c.args.l s is (record { at_is = sa; half_is = sh }) same c.if-l.false) d)
    (is.name_is ∙ sym bn)))

pub returns-clause-makes_element : goal.returns-clause-makes_element
returns-clause-makes_element c =
    (λ text T B m s t M is sa sh same bn i h d.
    says_same (after_type text c.args.words.now c.args.given T m c.args.l s is (record { at_is = sa; half_is = sh }) same c.if-l.false c.if-l-2.false t (view c.args.a.m c.args.notes.now))
    (says_type i h
    (c.convert_type_to_tuple_element.ensures B [] t c.args.a.m.named c.args.a.m.noted M c.args.notes.now i
    (subst (λ (l : List Spelling). Laid B (names_run l ⊕ run_in 0 t) c.args.a.m.used c.args.a.m.named c.args.a.m.noted c.args.nodes.now M c.args.notes.now) (names_none text c.args.words.now c.args.given T m c.args.l s is (record { at_is = sa; half_is = sh }) same c.if-l.false) d)).1
    refl))
