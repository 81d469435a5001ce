-- Where each loop of the ring stands at its head: the rule's loop still gives what the rule was to give.
use mathlib.Core.Path.{◌≡◌}
use mathlib.Core.Bool.{Bool, true, not}
use mathlib.Core.List.{List, [], ◌∷◌, ◌++◌}
use Prim.Native.Nat.{ℕ, suc, ◌+◌, ◌≤◌}
use lib.ListN.{length}
use Rattle.words.specs.Test.{◌and◌, ◌or◌, test}
use Rattle.words.specs.Kind.{RAngle, RBrack}
use Rattle.keys.specs.Placed as node
use Rattle.keys.specs.Placed.{Placed, Spelling, Opt}
use Rattle.keys.specs.Store.{Run, done}
use Rattle.rules.specs.State.{Given, State, Result, Reader, read, then, stands, first, end, spelling, turns, make}
use Rattle.rules.specs.TypeParameters as types
use Rattle.rules.specs.Function.{ThisParameter, parameters_from}
use Rattle.rules.specs.List.{no_entry}
use Rattle.rules.specs.Union.{parts_from}
use Rattle.rules.specs.Postfix.{postfix_from}
use Rattle.rules.specs.Arguments as arguments
use Rattle.rules.specs.Object as object
use Rattle.rules.specs.Object.{IndexParameters, no_index}
use Rattle.rules.specs.Tuple as tuple
use Rattle.rules.specs.Template as template
use Rattle.marks.specs.State.{view}
use Rattle.marks.specs.Laid.{Was, BuiltAt}
use Rattle.tuples.specs.Tuple.{LatestIs}
use Rattle.parts.proofs.RingLaws.{end_types, end_arguments, end_template}
use Rattle.parts.proofs.Turns.{ListTurn, TreeTurn, PieceTurn, looped}
use Rattle.members.specs.Object.{IndexIs, kept_run}
use Rattle.marks.specs.declared.state.Mark.{Mark}
use Rattle.marks.specs.declared.state.Kids.{Kids}
use Rattle.tuples.specs.Told.{Latest}
use Rattle.members.specs.declared.object.IndexParams.{IndexParams}

module _ (g : Given) (T : Reader) where
  -- A list in angle brackets that began at s.
  abbrev pub TypesTurn : Bool → State → Was → Kids → Mark → (N M O : List ℕ) → Type 0
  TypesTurn on s B k p N M O = ListTurn 4 (length g.words) B done (looped g RAngle (λ l. types.type_parameter g T on) (end_types g T (first g s))) (types.type_parameters g T on s) k.count k p N M O

  -- Arguments that began at s.
  abbrev pub ArgumentsTurn : State → Was → Kids → Mark → (N M O : List ℕ) → Type 0
  ArgumentsTurn s B k p N M O = ListTurn 0 (length g.words) B done (looped g RAngle (λ l. T true) (end_arguments g T (first g s))) (arguments.arguments g T s) k.count k p N M O

  -- The parameters behind a run t, from s on.
  abbrev pub ParametersTurn : Opt ThisParameter → State → Was → Run → ℕ → Kids → Mark → (N M O : List ℕ) → Type 0
  ParametersTurn th s B t count k p N M O = ListTurn 5 (length g.words) B t (parameters_from g T th) (parameters_from g T th (turns g) [] s) count k p N M O

  -- The parts of a union or an intersection that began at s.
  module _ (mark : ℕ) (node : ℕ → ℕ → List Placed → Placed) (part : State → Result Placed) (s : State) where
    abbrev pub end_parts : List Placed → State → Result Placed
    end_parts l q = make g (length l ∷ []) (node (first g s) (end g q) l) q

    -- What is due with the parts so far.
    abbrev pub parts_of : ℕ → List Placed → State → Result Placed
    parts_of n l q = then (parts_from g mark part n l q) end_parts

    -- What is due behind a part, where l stand before it: it alone, if no mark stood before it or follows.
    abbrev pub behind_one : ℕ → List Placed → Placed → State → Result Placed
    behind_one n l t q = test (no_entry l and not (stands g mark s or stands g mark q)) (λ _. read t q) (λ _. parts_of n (l ++ (t ∷ [])) q)

    -- One part more, from q on.
    abbrev pub part_due : ℕ → List Placed → State → Result Placed
    part_due n l q = then (part q) (behind_one n l)

    -- The loop over the parts.
    abbrev pub PartsTurn : Result Placed → Was → Kids → Mark → (N M O : List ℕ) → Type 0
    PartsTurn x B k p N M O = ListTurn 0 (length g.words) B done part_due x k.count k p N M O

  -- The marks behind a tree t that begins at byte b and was read up to q.
  abbrev pub SuffixTurn : ℕ → Placed → State → Was → ℕ → Mark → (N M O : List ℕ) → Type 0
  SuffixTurn b t q B high p N M O = TreeTurn (length g.words) B (postfix_from g T b) (postfix_from g T b (turns g) t q) high p N M O

  -- The elements of a tuple that began at s; the latest optional one among them.
  abbrev pub end_tuple : State → List Placed → State → Result Placed
  end_tuple s l q = make g (length l ∷ []) (node.tuple (first g s) (end g q) l) q

  -- The loop over its elements.
  pub record TupleTurn (s : State) (B : Was) (latest : Latest) (k : Kids) (p : Mark) (N M O : List ℕ) : Type 0 where
    pub turn : ListTurn 1 (length g.words) B done (looped g RBrack (tuple.checked_element g T) (end_tuple s)) (tuple.tuple g T s) k.count k p N M O
    pub latest_is : LatestIs latest (tuple.latest_optional turn.list)

  -- The members of an object type that began at s, from q on.
  abbrev pub end_object : State → List Placed → State → Result Placed
  end_object s l q = make g (length l ∷ []) (node.object (first g s) (end g q) l) q

  -- What is due with the members so far.
  abbrev pub members_of : State → ℕ → List Placed → State → Result Placed
  members_of s n l q = then (object.members_from g T n l q) (end_object s)

  -- The loop over its members.
  abbrev pub MembersTurn : State → Was → Kids → Mark → (N M O : List ℕ) → Type 0
  MembersTurn s B k p N M O = ListTurn 6 (length g.words) B done (members_of s) (object.object g T s) k.count k p N M O

  -- The loop over the parameters of an index signature, from s on; the first of them begins at byte `from`.
  pub record IndexTurn (s : State) (B : Was) (from : ℕ) (r : IndexParams) (p : Mark) (N M O : List ℕ) : Type 0 where
    pub params : IndexParameters
    pub fuel : ℕ
    pub enough : length g.words ≤ fuel + p.at
    pub is : object.index_from g T (turns g) no_index s ≡ object.index_from g T (suc fuel) params (view p O)
    pub params_are : IndexIs from r params
    pub from_is : r.count ≡ 0 → from ≡ first g (view p O)
    pub built : BuiltAt B (kept_run (object.kept params)) r.kids p N M O

  -- The pieces of a template that began at s, from q on.
  abbrev pub pieces_of : State → ℕ → List (Placed × Spelling) → State → Result Placed
  pieces_of s n l q = then (template.pieces_from g T n l q) (end_template g T s)

  -- The loop over its pieces.
  abbrev pub PiecesTurn : State → State → Was → Kids → Mark → (N M O : List ℕ) → Type 0
  PiecesTurn s q B k p N M O = PieceTurn (length g.words) B (spelling g s) (pieces_of s) (pieces_of s (turns g) [] q) k.count k p N M O
