-- What rules read beside trees, as values: parameters with their `this`, trials, and the parameters of an index signature.
use mathlib.Core.Path.{◌≡◌, refl, ap₂}
use Rattle.keys.specs.Form.{pair}
use Rattle.keys.specs.Placed as node
use Rattle.keys.specs.Placed.{Placed, void, pick, join, bare, Opt, listed, maybe, maybe_this, maybe_named}
use Rattle.keys.proofs.BitsLaws.{clash}
use Rattle.rules.specs.Function.{ThisParameter, Parameters, parameters_of, this_type}
use Rattle.rules.specs.Infer.{Trial, constraint_of}
use Rattle.rules.specs.Object.{IndexParameter, IndexParameters, no_index, one_index, several_index, with_one, has_one, kept}
use Rattle.rules.proofs.LikeValues.{Pair}

-- ---- Parameters

-- The `this` of a parameter list; its bytes are no part of the value.
abbrev pub shape_of_this : Opt ThisParameter → Placed
shape_of_this o = maybe_this (this_type o)

abbrev pub shape_of_parameters : Parameters → Placed
shape_of_parameters ps = join (shape_of_this ps.this) (listed ps.list)

-- A `this` and the others.
abbrev pub with_this : Pair shape_of_this → Pair listed → Pair shape_of_parameters
with_this o l = record { one = parameters_of o.one l.one; other = parameters_of o.other l.other; same = ap₂ pair o.same l.same }

-- ---- Trials: what is kept of a constraint

abbrev pub shape_of_trial : Trial → Placed
shape_of_trial t = maybe (constraint_of t)

-- ---- Index signatures

abbrev pub shape_of_parameter : IndexParameter → Placed
shape_of_parameter p = join (node.spell p.name) p.type

abbrev pub shape_of_index : IndexParameters → Placed
shape_of_index no_index = pick 0 void
shape_of_index (one_index p) = pick 1 (shape_of_parameter p)
shape_of_index (several_index p) = pick 2 (shape_of_parameter p)

-- Two that are alike, by their sort.
pub data Indexes : IndexParameters → IndexParameters → Type 0 where
  none_index : Indexes no_index no_index
  one_index_lem : (p q : IndexParameter) → bare (shape_of_parameter p) ≡ bare (shape_of_parameter q) → Indexes (one_index p) (one_index q)
  several_index_lem : (p q : IndexParameter) → bare (shape_of_parameter p) ≡ bare (shape_of_parameter q) → Indexes (several_index p) (several_index q)

pub indexes : (v : Pair shape_of_index) → Indexes v.one v.other
indexes v = by v.one v.other v.same
  where
    by : (a b : IndexParameters) → bare (shape_of_index a) ≡ bare (shape_of_index b) → Indexes a b
    by no_index no_index e = none_index
    by no_index (one_index q) e = clash (cc)
    by no_index (several_index q) e = clash (cc)
    by (one_index p) no_index e = clash (cc)
    by (one_index p) (one_index q) e = one_index_lem p q (cc)
    by (one_index p) (several_index q) e = clash (cc)
    by (several_index p) no_index e = clash (cc)
    by (several_index p) (one_index q) e = clash (cc)
    by (several_index p) (several_index q) e = several_index_lem p q (cc)

pub same_has : (v : Pair shape_of_index) → has_one v.one ≡ has_one v.other
same_has v = by (indexes v)
  where
    by : {a b : IndexParameters} → Indexes a b → has_one a ≡ has_one b
    by none_index = refl
    by (one_index_lem p q e) = refl
    by (several_index_lem p q e) = refl

pub same_kept : (v : Pair shape_of_index) → bare (maybe_named (kept v.one)) ≡ bare (maybe_named (kept v.other))
same_kept v = by (indexes v)
  where
    by : {a b : IndexParameters} → Indexes a b → bare (maybe_named (kept a)) ≡ bare (maybe_named (kept b))
    by none_index = refl
    by (one_index_lem p q e) = cc
    by (several_index_lem p q e) = cc

pub same_with : (v : Pair shape_of_index) (p : Pair shape_of_parameter) → bare (shape_of_index (with_one v.one p.one)) ≡ bare (shape_of_index (with_one v.other p.other))
same_with v p = by (indexes v)
  where
    by : {a b : IndexParameters} → Indexes a b → bare (shape_of_index (with_one a p.one)) ≡ bare (shape_of_index (with_one b p.other))
    by none_index = cc p.same
    by (one_index_lem x y e) = cc
    by (several_index_lem x y e) = cc

-- One parameter more.
abbrev pub index_more : Pair shape_of_index → Pair shape_of_parameter → Pair shape_of_index
index_more v p = record { one = with_one v.one p.one; other = with_one v.other p.other; same = same_with v p }
