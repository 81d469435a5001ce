-- Laws of the call that reads: what its outcome tells of the rules, and how long what it leaves is.
use mathlib.Core.Path.{◌≡◌, refl, sym, ap, ◌∙◌, subst}
use mathlib.Core.Bool.{Bool, true, false}
use mathlib.Core.List.{List, [], ◌∷◌}
use Prim.Native.Nat.{ℕ, suc, ◌+◌, ◌*◌, ◌≤◌, ◌<◌}
use native.Mathlib.Nat.{sub-zero}
use native.Mathlib.Omega.{arith}
use borrow.Author.Tests.{leb-true}
use lib.Dec.{T, leb}
use lib.ListN.{length, replicate, length-replicate}
use Rattle.words.specs.Test.{test}
use Rattle.words.specs.Check.{Verdict, sound, refused, none, good_word, judged, words_from, good_list, check}
use Rattle.keys.specs.Limits.{no_space}
use Rattle.keys.specs.Table.{type}
use Rattle.words.specs.Word.{end}
use Rattle.keys.specs.Form.{nodes, Bytes}
use Rattle.keys.specs.Placed.{Placed, bare}
use Rattle.keys.specs.Key.{node_table, key_of}
use Rattle.keys.specs.Store.{nodes_of, names_of, run_of, done, filled}
use Rattle.keys.proofs.StoreLaws.{length_records, under_plant, length_filled}
use Rattle.keys.proofs.BitsLaws.{clash}
use Rattle.rules.specs.Notes.{Note, note_width, note_words}
use Rattle.rules.specs.State.{Given, State, Result, read as got, refuse}
use Rattle.rules.specs.Read.{refuses, Lent, given, granted, denied, fits, keyed, checked, outcome, Called, written, read}
use Rattle.rules.specs.Refusal.{is_rule}
use Rattle.rules.specs.Call.{Call, left, ruled, grants, Granted, Kept, AllZero, IsCursor, IsRefusal, is_bad_list, is_bad_token, is_rules, is_no_space}
use Rattle.rules.proofs.TokenLaws.{both_true}
use Rattle.rules.proofs.Gives.{Gives, gives, stops, Got, Good, itself}
use Rattle.rules.proofs.RuleLaws.{reading_gives}

-- What was read is such.
pub gave : {g : Given} {A : Type 0} {P : A → State → Type 0} {r : Result A} {a : A} {s : State} → Gives g P r → r ≡ got a s → P a s
gave {P = P} {a = a} {s = s} (gives {a = b} {q = q} h) e =
    let x : b ≡ a = cc in
    let y : q ≡ s = cc in
    rw (← x, ← y) h
gave (stops k i) e = clash (cc)

-- A refusal has a number of the rules', where reading may stand.
stopped : {g : Given} {A : Type 0} {P : A → State → Type 0} {r : Result A} {n i h : ℕ} → Gives g P r → r ≡ refuse n i h
    → T (is_rule n) × IsCursor g.text g.words i h
stopped (gives h) e = clash (cc)
stopped {n = n} {i = i} {h = h} (stops {n = m} {i = j} {h = k} x l) e =
    let a : m ≡ n = cc in
    let b : j ≡ i = cc in
    let c : k ≡ h = cc in
    (rw (← a) x, rw (← b, ← c) l)

-- ---- A granted call

-- What granting tells: the list is sound, the outcome is the rules' tree, and its key and spellings fit.
pub record Outcomes (c : Call) (t : Placed) (s : State) : Type 0 where
  pub passed : check c.text c.words c.start ≡ sound
  pub is : outcome c.text c.words c.start c.parens c.lent ≡ granted t s.notes s.at s.half (key_of (bare t)) s.tally.entered
  pub fit : fits c.lent t (key_of (bare t)) ≡ true

-- What is not granted is nothing else.
ungranted : {A : Type 0} → false ≡ true → A
ungranted e = clash (cc)

outcome_of : (c : Call) (t : Placed) (s : State) → grants (left c).answer ≡ true → ruled c ≡ got t s → Outcomes c t s
unfolding read
outcome_of c t s e f = by (check c.text c.words c.start) refl e
  where
    by_fit : (b : Bool) → fits c.lent t (key_of (bare t)) ≡ b
        → grants (written c.lent (test b (λ _. granted t s.notes s.at s.half (key_of (bare t)) s.tally.entered) λ _. denied no_space 0 0 0)).answer ≡ true
        → fits c.lent t (key_of (bare t)) ≡ true
    by_fit true i j = i
    by_fit false i j = ungranted j

    by : (v : Verdict) → check c.text c.words c.start ≡ v
        → grants (written c.lent (checked (given c.text c.words c.parens c.lent) c.start c.lent v)).answer ≡ true → Outcomes c t s
    by sound i j = record { passed = i; is = rw (i, f) (rw fit refl); fit = fit }
      where
        fit : fits c.lent t (key_of (bare t)) ≡ true
        fit = by_fit (fits c.lent t (key_of (bare t))) refl (rw f at j)
    by (refused n p) i j = ungranted j

-- What a call on a list that passed the check leaves, by what the rules come to.
pub left_by : (c : Call) → check c.text c.words c.start ≡ sound → left c ≡ written c.lent (keyed (given c.text c.words c.parens c.lent) c.lent (ruled c))
unfolding read
left_by c e = ap (λ (v : Verdict). written c.lent (checked (given c.text c.words c.parens c.lent) c.start c.lent v)) e

-- Where a call grants, the rules read.
pub ruled_by : (c : Call) → grants (left c).answer ≡ true → (t : Placed) × (s : State) × (ruled c ≡ got t s)
unfolding read
ruled_by c e = by (check c.text c.words c.start) (ruled c) refl e
  where
    by : (v : Verdict) (r : Result Placed) → ruled c ≡ r
        → grants (written c.lent (checked (given c.text c.words c.parens c.lent) c.start c.lent v)).answer ≡ true
        → (t : Placed) × (s : State) × (ruled c ≡ got t s)
    by sound (got t s) i j = (t, s, i)
    by sound (refuse n p h) i j = ungranted (rw i at j)
    by (refused n p) r i j = ungranted j

-- The key and the spellings fit what is lent.
pub record Fit (l : Lent) (t : Placed) (key : List ℕ) : Type 0 where
  pub for_key : length key ≤ l.key
  pub for_names : length (names_of t) ≤ l.names

fit_parts : (l : Lent) (t : Placed) (key : List ℕ) → fits l t key ≡ true → Fit l t key
fit_parts l t key e =
    let a = both_true (leb (length key) l.key) _ e in
    record { for_key = leb-true (length key) l.key a.0; for_names = leb-true (length (names_of t)) l.names a.1 }

-- What a granted call has in hand.
pub record Facts (c : Call) (t : Placed) (s : State) : Type 0 where
  pub passed : check c.text c.words c.start ≡ sound
  pub good : Got (given c.text c.words c.parens c.lent) (Good type) itself 1 0 0 0 t s
  pub fit : Fit c.lent t (key_of (bare t))
  pub leaves : left c ≡ written c.lent (granted t s.notes s.at s.half (key_of (bare t)) s.tally.entered)

pub facts : {c : Call} {t : Placed} {s : State} → Granted c t s → Facts c t s
unfolding read
facts {c} {t} {s} x =
    let o = outcome_of c t s x.grant x.rules in
    record {
      passed = o.passed;
      good = gave (reading_gives _ (record { bytes = x.bytes; start = c.start; sound = o.passed })) x.rules;
      fit = fit_parts c.lent t (key_of (bare t)) o.fit;
      leaves = ap (written c.lent) o.is;
    }

-- ---- Lengths

length_nodes : (t : Placed) → length (nodes_of t) ≡ 4 * nodes (bare t)
length_nodes t = omega (arith, length_records (run_of t) 0 0 0, under_plant node_table type t done)

length_notes : (ns : List Note) → length (note_words ns) ≡ note_width * length ns
length_notes [] = refl
length_notes (n ∷ ns) = omega (arith, length_notes ns)

pub kept_granted : {c : Call} {t : Placed} {s : State} → Facts c t s → Kept c.lent (left c)
kept_granted {c} {t} {s} f =
    let l = c.lent in
    subst (Kept l) (sym f.leaves)
    (record {
      nodes_kept = length_filled l.nodes (nodes_of t) (omega (arith, length_nodes t));
      names_kept = length_filled l.names (names_of t) f.fit.for_names;
      notes_kept = length_filled l.notes (note_words s.notes) (omega (arith, length_notes s.notes));
      key_kept = length_filled l.key (key_of (bare t)) f.fit.for_key;
    })

pub kept_refused : {l : Lent} {r : Called} → AllZero l r → Kept l r
kept_refused {l} z =
    record {
      nodes_kept = ap length z.nodes_zero ∙ length-replicate l.nodes 0;
      names_kept = ap length z.names_zero ∙ length-replicate l.names 0;
      notes_kept = ap length z.notes_zero ∙ length-replicate l.notes 0;
      key_kept = ap length z.key_zero ∙ length-replicate l.key 0;
    }

-- A slice that holds nothing is zeros.
pub filled_zero : (n : ℕ) → filled n [] ≡ replicate n 0
filled_zero n = ap (λ (k : ℕ). replicate k 0) (sub-zero n)

-- ---- Refusals

t_true : (b : Bool) → T b → b ≡ true
t_true true h = refl
t_true false h = absurd h

list_refused : (text : List ℕ) (before i : ℕ) (words : List ℕ) {n p : ℕ} → words_from text before i words ≡ refused n p → (n ≡ 2) × (p < i + length words)
list_refused text before i [] e = clash (cc)
list_refused text before i (w ∷ ws) {n} {p} e = by (good_word text before (none ws) w) (list_refused text (end w) (suc i) ws) e
  where
    by : (b : Bool) → (words_from text (end w) (suc i) ws ≡ refused n p → (n ≡ 2) × (p < suc i + length ws)) → judged b i (λ _. words_from text (end w) (suc i) ws) ≡ refused n p
        → (n ≡ 2) × (p < i + length (w ∷ ws))
    by true on j = let r = on j in (r.0, omega arith)
    by false on j =
        let x : n ≡ 2 = cc in
        let y : i ≡ p = cc in
        (x, omega arith)

check_refused : (text words : List ℕ) (start : ℕ) {n p : ℕ} → check text words start ≡ refused n p → IsRefusal text words n p 0 0
check_refused text words start {n} {p} e = by (good_list text words start) e
  where
    by : (b : Bool) → test b (λ _. words_from text 0 0 words) (λ _. refused 1 0) ≡ refused n p → IsRefusal text words n p 0 0
    by true j = let r = list_refused text 0 0 words j in rw r.0 (is_bad_token {p = p} (omega arith))
    by false j =
        let x : n ≡ 1 = cc in
        let y : p ≡ 0 = cc in
        rw (x, y) is_bad_list

-- A refusal has one number, token, half and byte.
same_refusal : {m q k d n p h b : ℕ} → refuses m q k d ≡ refuses n p h b → (m ≡ n) × (q ≡ p) × (k ≡ h) × (d ≡ b)
same_refusal e = (cc, cc, cc, cc)

pub call_refusal : (c : Call) → Bytes c.text → {n p h b : ℕ} → (left c).answer ≡ refuses n p h b → IsRefusal c.text c.words n p h b
unfolding read
call_refusal c bytes {n} {p} {h} {b} e = by (check c.text c.words c.start) refl (ruled c) refl e
  where
    by_fit : (fit : Bool) (t : Placed) (s : State)
        → (written c.lent (test fit (λ _. granted t s.notes s.at s.half (key_of (bare t)) s.tally.entered) λ _. denied no_space 0 0 0)).answer ≡ refuses n p h b
        → IsRefusal c.text c.words n p h b
    by_fit true t s j = clash (cc)
    by_fit false t s j = let same = same_refusal j in rw (← same.0, ← same.1, ← same.2, ← same.3) is_no_space

    by : (v : Verdict) → check c.text c.words c.start ≡ v → (r : Result Placed) → ruled c ≡ r
        → (written c.lent (checked (given c.text c.words c.parens c.lent) c.start c.lent v)).answer ≡ refuses n p h b
        → IsRefusal c.text c.words n p h b
    by (refused m q) i r f j =
        let same = same_refusal j in
        rw (← same.0, ← same.1, ← same.2, ← same.3) (check_refused c.text c.words c.start i)
    by sound i (got t s) f j = by_fit (fits c.lent t (key_of (bare t))) t s (rw f at j)
    by sound i (refuse m q k) f j =
        let same = same_refusal (rw f at j) in
        let r = stopped (reading_gives _ (record { bytes = bytes; start = c.start; sound = i })) f in
        rw (← same.0, ← same.1, ← same.2, ← same.3) (is_rules r.0 r.1)
