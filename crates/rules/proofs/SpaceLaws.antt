-- Two calls on like lists: what is granted or refused to both.
use mathlib.Core.Path.{◌≡◌, refl, sym, ap, ◌∙◌}
use mathlib.Core.Bool.{Bool, true, false}
use Prim.Native.Nat.{◌/◌}
use lib.Seq.{take-append_seam}
use Rattle.words.specs.Test.{test}
use Rattle.words.specs.Check.{sound, check}
use Rattle.keys.specs.Limits.{record_words, no_space}
use Rattle.keys.specs.Form.{Bytes}
use Rattle.keys.specs.Placed.{Placed, bare}
use Rattle.keys.specs.Key.{key_of}
use Rattle.keys.proofs.BitsLaws.{clash}
use Rattle.rules.specs.Notes.{note_width}
use Rattle.rules.specs.State.{State, Result, read as got}
use Rattle.rules.specs.Read.{Lent, granted, denied, fits, keyed, Called, written}
use Rattle.rules.specs.Call.{Call, left, ruled, grants, key_left}
use Rattle.rules.specs.Like.{given_to, Respaced, SameReading, both_granted, both_refused}
use Rattle.rules.proofs.Gives.{itself}
use Rattle.rules.proofs.LikeValues.{Pair, same_names, numbers_length}
use Rattle.rules.proofs.Beside.{Abreast, Beside, both, stopped, left_out, right_out, Twins}
use Rattle.rules.proofs.LikeLaws.{exactly, reading_like}
use Rattle.rules.proofs.CallLaws.{left_by}

-- The rules read alike for both.
ruled_like : {c d : Call} → Respaced c d → Beside exactly itself (ruled c) (ruled d)
ruled_like {c} {d} r =
    let w : Twins exactly (given_to c) (given_to d) =
    record { like = r.like; room = λ _. ap (λ (l : Lent). l.nodes / record_words) r.lent; records = λ _. ap (λ (l : Lent). l.notes / note_width) r.lent } in
    rw r.start (reading_like w d.start)

-- What a call leaves where a tree was read: by a test, its key and names fit what is lent, or 11.
abbrev leaves : Call → Placed → State → Bool → Called
leaves c t s b = written c.lent (test b (λ _. granted t s.notes s.at s.half (key_of (bare t)) s.tally.entered) λ _. denied no_space 0 0 0)

left_read : (c : Call) → check c.text c.words c.start ≡ sound → (t : Placed) (s : State) → ruled c ≡ got t s → {b : Bool} → fits c.lent t (key_of (bare t)) ≡ b → left c ≡ leaves c t s b
left_read c p t s e i = left_by c p ∙ ap (λ r. written c.lent (keyed (given_to c) c.lent r)) e ∙ ap (leaves c t s) i

module _ (c d : Call) (bytes : Bytes c.text) (bytes' : Bytes d.text) (r : Respaced c d) where
  read_alike : (v : Pair itself) (x : Abreast exactly) → ruled c ≡ got v.one x.one → ruled d ≡ got v.other x.other → SameReading c d
  read_alike v x e f = by (fits c.lent v.one (key_of (bare v.one))) refl
    where
      fit : fits c.lent v.one (key_of (bare v.one)) ≡ fits d.lent v.other (key_of (bare v.other))
      fit = rw (v.same, same_names v, r.lent) refl

      by : (b : Bool) → fits c.lent v.one (key_of (bare v.one)) ≡ b → SameReading c d
      by true i =
          let l = left_read c r.passed v.one x.one e i in
          let m = left_read d r.also_passed v.other x.other f (sym fit ∙ i) in
          let n = x.near.notes refl in
          let k = x.near.entered.one ∙ sym x.near.entered.other in
          both_granted
          (record { bytes = bytes; grant = ap (λ y. grants y.answer) l; rules = e })
          (record { bytes = bytes'; grant = ap (λ y. grants y.answer) m; rules = f })
          (record {
            tree = v.same;
            answer = ap (λ y. y.answer) l ∙ cc (v.same, same_names v, numbers_length x.one.notes x.other.notes n, k) ∙ sym (ap (λ y. y.answer) m);
            key = ap key_left l ∙ take-append_seam (key_of (bare v.one)) _ ∙ ap key_of v.same ∙ sym (ap key_left m ∙ take-append_seam (key_of (bare v.other)) _);
            notes = n;
          })
      by false i =
          both_refused (ap (λ y. y.answer) (left_read c r.passed v.one x.one e i)) (ap (λ y. y.answer) (left_read d r.also_passed v.other x.other f (sym fit ∙ i)))

  pub calls_alike : SameReading c d
  calls_alike = by (ruled_like r) refl refl
    where
      by : {p q : Result Placed} → Beside exactly itself p q → ruled c ≡ p → ruled d ≡ q → SameReading c d
      by (both v x) e f = read_alike v x e f
      by (stopped {n} {i} {h}) e f =
          both_refused
          (ap (λ y. y.answer) (left_by c r.passed) ∙ ap (λ z. (written c.lent (keyed (given_to c) c.lent z)).answer) e)
          (ap (λ y. y.answer) (left_by d r.also_passed) ∙ ap (λ z. (written d.lent (keyed (given_to d) d.lent z)).answer) f)
      by (left_out i) e f = clash (cc)
      by (right_out i) e f = clash (cc)
