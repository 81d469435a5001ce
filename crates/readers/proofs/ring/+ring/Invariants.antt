use Rattle.keys.specs.Placed as node
use Rattle.rules.specs.Union as unions
use Rattle.rules.specs.Operator as operators
use Prim.Native.Nat.{◌+◌, ◌-◌, ◌*◌, ◌≤◌}
use lib.ListN.{length}
use mathlib.Core.Path.{◌≡◌}
use Rattle.keys.specs.Placed.{Opt, Placed}
use Rattle.keys.specs.Store.{done, Run}
use Rattle.marks.specs.State.{view, given_of, Under, place_of}
use Rattle.marks.specs.Laid.{Was, Laid, was, BuiltAt, Stands, name_run}
use Rattle.readers.specs.Ring.{below}
use Rattle.tuples.specs.Told.{told_latest}
use Rattle.readers.proofs.Kept.{Kept}
use Rattle.readers.proofs.Loops.{IndexTurn, PartsTurn, MembersTurn, ParametersTurn, SuffixTurn, ArgumentsTurn, PiecesTurn, TypesTurn, TupleTurn}
use Rattle.words.specs.Kind.{Amp, LCurly, TemplateHead, LBrack, Pipe}
use Rattle.words.specs.Cursor.{kind_at}
use Rattle.rules.specs.Function.{ThisParameter}
use Rattle.words.specs.Limits.{tallest}
use Rattle.rules.specs.State.{spelling}
use Rattle.readers.proofs.ring.+ring.Given as goal

abbrev pub decreases-child : goal.decreases-child
decreases-child l = (length l.words.now * 2 - (l.m.at * 2 + l.m.half)) * 13 + 12

abbrev pub decreases-elem : goal.decreases-elem
decreases-elem l = (length l.words.now * 2 - (l.m.at * 2 + l.m.half)) * 13 + 12

abbrev pub decreases-extends : goal.decreases-extends
decreases-extends l = (length l.words.now * 2 - (l.m.at * 2 + l.m.half)) * 13 + 3

abbrev pub decreases-function : goal.decreases-function
decreases-function l = (length l.words.now * 2 - (l.m.at * 2 + l.m.half)) * 13 + 10

abbrev pub decreases-index : goal.decreases-index
decreases-index l = (length l.words.now * 2 - (l.m.at * 2 + l.m.half)) * 13 + 9

abbrev pub decreases-infer : goal.decreases-infer
decreases-infer l = (length l.words.now * 2 - (l.m.at * 2 + l.m.half)) * 13 + 6

abbrev pub decreases-inter : goal.decreases-inter
decreases-inter l = (length l.words.now * 2 - (l.m.at * 2 + l.m.half)) * 13 + 8

abbrev pub decreases-mapped : goal.decreases-mapped
decreases-mapped l = (length l.words.now * 2 - (l.m.at * 2 + l.m.half)) * 13 + 4

abbrev pub decreases-memb : goal.decreases-memb
decreases-memb l = (length l.words.now * 2 - (l.m.at * 2 + l.m.half)) * 13 + 10

abbrev pub decreases-named : goal.decreases-named
decreases-named l = (length l.words.now * 2 - (l.m.at * 2 + l.m.half)) * 13 + 4

abbrev pub decreases-object : goal.decreases-object
decreases-object l = (length l.words.now * 2 - (l.m.at * 2 + l.m.half)) * 13 + 4

abbrev pub decreases-operator : goal.decreases-operator
decreases-operator l = (length l.words.now * 2 - (l.m.at * 2 + l.m.half)) * 13 + 7

abbrev pub decreases-opt : goal.decreases-opt
decreases-opt l = (length l.words.now * 2 - (l.m.at * 2 + l.m.half)) * 13 + 3

abbrev pub decreases-param : goal.decreases-param
decreases-param l = (length l.words.now * 2 - (l.m.at * 2 + l.m.half)) * 13 + 6

abbrev pub decreases-params : goal.decreases-params
decreases-params l = (length l.words.now * 2 - (l.m.at * 2 + l.m.half)) * 13 + 8

abbrev pub decreases-parens : goal.decreases-parens
decreases-parens l = (length l.words.now * 2 - (l.m.at * 2 + l.m.half)) * 13 + 4

abbrev pub decreases-plist : goal.decreases-plist
decreases-plist l = (length l.words.now * 2 - (l.m.at * 2 + l.m.half)) * 13 + 7

abbrev pub decreases-postfix : goal.decreases-postfix
decreases-postfix l = (length l.words.now * 2 - (l.m.at * 2 + l.m.half)) * 13 + 6

abbrev pub decreases-pred : goal.decreases-pred
decreases-pred l = (length l.words.now * 2 - (l.m.at * 2 + l.m.half)) * 13 + 4

abbrev pub decreases-primary : goal.decreases-primary
decreases-primary l = (length l.words.now * 2 - (l.m.at * 2 + l.m.half)) * 13 + 5

abbrev pub decreases-ret : goal.decreases-ret
decreases-ret l = (length l.words.now * 2 - (l.m.at * 2 + l.m.half)) * 13 + 12

abbrev pub decreases-sign : goal.decreases-sign
decreases-sign l = (length l.words.now * 2 - (l.m.at * 2 + l.m.half)) * 13 + 9

abbrev pub decreases-suffix : goal.decreases-suffix
decreases-suffix l = (length l.words.now * 2 - (l.m.at * 2 + l.m.half)) * 13 + 5

abbrev pub decreases-targs : goal.decreases-targs
decreases-targs l = (length l.words.now * 2 - (l.m.at * 2 + l.m.half)) * 13 + 3

abbrev pub decreases-template : goal.decreases-template
decreases-template l = (length l.words.now * 2 - (l.m.at * 2 + l.m.half)) * 13 + 4

abbrev pub decreases-tparam : goal.decreases-tparam
decreases-tparam l = (length l.words.now * 2 - (l.m.at * 2 + l.m.half)) * 13 + 7

abbrev pub decreases-tparams : goal.decreases-tparams
decreases-tparams l = (length l.words.now * 2 - (l.m.at * 2 + l.m.half)) * 13 + 8

abbrev pub decreases-tuple : goal.decreases-tuple
decreases-tuple l = (length l.words.now * 2 - (l.m.at * 2 + l.m.half)) * 13 + 4

abbrev pub decreases-ty : goal.decreases-ty
decreases-ty l = (length l.words.now * 2 - (l.m.at * 2 + l.m.half)) * 13 + 11

abbrev pub decreases-union : goal.decreases-union
decreases-union l = (length l.words.now * 2 - (l.m.at * 2 + l.m.half)) * 13 + 9

abbrev pub invariant-index-loop-names : goal.invariant-index-loop-names
invariant-index-loop-names l =
    Kept (length l.words) l.given l.initial.nodes l.initial.names l.initial.p l.nodes l.names l.p × Under l.p.used l.ps.kids
    × ((B : Was) → Laid B done l.initial.p.used l.initial.p.named l.initial.p.noted l.initial.nodes l.initial.names l.initial.notes
    → IndexTurn (given_of l.text l.words l.given) (below l.given (given_of l.text l.words l.given)) (view l.initial.p l.initial.notes) B l.first l.ps l.p l.nodes l.names l.notes)

abbrev pub decreases-index-loop-names : goal.decreases-index-loop-names
decreases-index-loop-names l =
    length l.words * 2 - place_of l.p

abbrev pub invariant-inter-loop-a : goal.invariant-inter-loop-a
invariant-inter-loop-a l =
    Kept (length l.words) l.given l.initial.nodes l.initial.names l.initial.p l.nodes l.names l.p × (Under l.p.used l.k)
    × (PartsTurn (given_of l.text l.words l.given) (below l.given (given_of l.text l.words l.given)) Amp node.intersection (operators.operator (given_of l.text l.words l.given) (below l.given (given_of l.text l.words l.given)) l.on) (view l.m l.initial.notes)
    (unions.intersection (given_of l.text l.words l.given) (below l.given (given_of l.text l.words l.given)) l.on (view l.m l.initial.notes)) (was l.m l.initial.nodes l.initial.names l.initial.notes) l.k l.p l.nodes l.names l.notes)

abbrev pub decreases-inter-loop-a : goal.decreases-inter-loop-a
decreases-inter-loop-a l =
    length l.words * 2 - place_of l.p

abbrev pub invariant-object-loop-nodes : goal.invariant-object-loop-nodes
invariant-object-loop-nodes l =
    Kept (length l.words) l.given l.initial.nodes l.initial.names l.initial.p l.nodes l.names l.p × (Under l.p.used l.k)
    × (kind_at l.words l.m.at l.m.half ≡ LCurly → MembersTurn (given_of l.text l.words l.given) (below l.given (given_of l.text l.words l.given)) (view l.m l.initial.notes)
    (was l.m l.initial.nodes l.initial.names l.initial.notes) l.k l.p l.nodes l.names l.notes)

abbrev pub decreases-object-loop-nodes : goal.decreases-object-loop-nodes
decreases-object-loop-nodes l =
    length l.words * 2 - place_of l.p

abbrev pub invariant-plist-loop-given : goal.invariant-plist-loop-given
invariant-plist-loop-given l =
    Kept (length l.words) l.given l.initial.nodes l.initial.names l.initial.p l.nodes l.names l.p × ((l.count ≤ l.p.used) × Under l.p.used l.k)
    × ((B : Was) (t : Run) (th : Opt ThisParameter) → BuiltAt B t l.initial.k l.initial.p l.initial.nodes l.initial.names l.initial.notes
    → ParametersTurn (given_of l.text l.words l.given) (below l.given (given_of l.text l.words l.given)) th (view l.initial.p l.initial.notes) B t l.count l.k l.p l.nodes l.names l.notes)

abbrev pub decreases-plist-loop-given : goal.decreases-plist-loop-given
decreases-plist-loop-given l =
    length l.words * 2 - place_of l.p

abbrev pub invariant-postfix-loop-given : goal.invariant-postfix-loop-given
invariant-postfix-loop-given l =
    Kept (length l.words) l.given l.initial.nodes l.initial.names l.initial.p l.nodes l.names l.p × ((1 ≤ l.p.used) × (l.high ≤ tallest))
    × ((B : Was) (u : Placed) → Stands 0 B u l.initial.high l.initial.p l.initial.nodes l.initial.names l.initial.notes → l.b.name ≡ B.named
    → SuffixTurn (given_of l.text l.words l.given) (below l.given (given_of l.text l.words l.given)) l.b.first u (view l.initial.p l.initial.notes) B l.high l.p l.nodes l.names l.notes)

abbrev pub decreases-postfix-loop-given : goal.decreases-postfix-loop-given
decreases-postfix-loop-given l =
    length l.words * 2 - place_of l.p

abbrev pub invariant-targs-loop-nodes : goal.invariant-targs-loop-nodes
invariant-targs-loop-nodes l =
    Kept (length l.words) l.given l.initial.nodes l.initial.names l.initial.p l.nodes l.names l.p × (Under l.p.used l.k)
    × (ArgumentsTurn (given_of l.text l.words l.given) (below l.given (given_of l.text l.words l.given)) (view l.m l.initial.notes)
    (was l.m l.initial.nodes l.initial.names l.initial.notes) l.k l.p l.nodes l.names l.notes)

abbrev pub decreases-targs-loop-nodes : goal.decreases-targs-loop-nodes
decreases-targs-loop-nodes l =
    length l.words * 2 - place_of l.p

abbrev pub invariant-template-loop-a : goal.invariant-template-loop-a
invariant-template-loop-a l =
    Kept (length l.words) l.given l.initial.nodes l.initial.names l.initial.p l.nodes l.names l.p × (Under l.p.used l.k)
    × (kind_at l.words l.m.at l.m.half ≡ TemplateHead → (B : Was)
    → Laid B (name_run (spelling (given_of l.text l.words l.given) (view l.m l.initial.notes))) l.initial.p.used l.initial.p.named l.initial.p.noted l.initial.nodes l.initial.names l.initial.notes
    → PiecesTurn (given_of l.text l.words l.given) (below l.given (given_of l.text l.words l.given)) (view l.m l.initial.notes) (view l.initial.p l.initial.notes) B l.k l.p l.nodes l.names l.notes)

abbrev pub decreases-template-loop-a : goal.decreases-template-loop-a
decreases-template-loop-a l =
    length l.words * 2 - place_of l.p

abbrev pub invariant-tparams-loop-nodes : goal.invariant-tparams-loop-nodes
invariant-tparams-loop-nodes l =
    Kept (length l.words) l.given l.initial.nodes l.initial.names l.initial.p l.nodes l.names l.p × (Under l.p.used l.k)
    × (TypesTurn (given_of l.text l.words l.given) (below l.given (given_of l.text l.words l.given)) l.on (view l.m l.initial.notes)
    (was l.m l.initial.nodes l.initial.names l.initial.notes) l.k l.p l.nodes l.names l.notes)

abbrev pub decreases-tparams-loop-nodes : goal.decreases-tparams-loop-nodes
decreases-tparams-loop-nodes l =
    length l.words * 2 - place_of l.p

abbrev pub invariant-tuple-loop-latest : goal.invariant-tuple-loop-latest
invariant-tuple-loop-latest l =
    Kept (length l.words) l.given l.initial.nodes l.initial.names l.initial.p l.nodes l.names l.p × (Under l.p.used l.k)
    × (kind_at l.words l.m.at l.m.half ≡ LBrack → TupleTurn (given_of l.text l.words l.given) (below l.given (given_of l.text l.words l.given)) (view l.m l.initial.notes)
    (was l.m l.initial.nodes l.initial.names l.initial.notes) (told_latest l.latest) l.k l.p l.nodes l.names l.notes)

abbrev pub decreases-tuple-loop-latest : goal.decreases-tuple-loop-latest
decreases-tuple-loop-latest l =
    length l.words * 2 - place_of l.p

abbrev pub invariant-union-loop-a : goal.invariant-union-loop-a
invariant-union-loop-a l =
    Kept (length l.words) l.given l.initial.nodes l.initial.names l.initial.p l.nodes l.names l.p × (Under l.p.used l.k)
    × (PartsTurn (given_of l.text l.words l.given) (below l.given (given_of l.text l.words l.given)) Pipe node.union (unions.intersection (given_of l.text l.words l.given) (below l.given (given_of l.text l.words l.given)) l.on) (view l.m l.initial.notes)
    (unions.union (given_of l.text l.words l.given) (below l.given (given_of l.text l.words l.given)) l.on (view l.m l.initial.notes)) (was l.m l.initial.nodes l.initial.names l.initial.notes) l.k l.p l.nodes l.names l.notes)

abbrev pub decreases-union-loop-a : goal.decreases-union-loop-a
decreases-union-loop-a l =
    length l.words * 2 - place_of l.p
