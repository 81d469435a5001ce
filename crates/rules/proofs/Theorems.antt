-- What is proved of readings. Call names the calls and what they leave, Places when nodes stand in order; trees are compared as bare values, positions aside.
use mathlib.Core.Path.{◌≡◌, refl, sym, ap, ◌∙◌}
use mathlib.Core.Logic.{◌↔◌}
use mathlib.Core.Bool.{Bool, true, false}
use mathlib.Core.List.{List}
use Prim.Native.Nat.{ℕ, ◌*◌, ◌/◌, ◌^◌, ◌≤◌, ◌<◌}
use native.Mathlib.Omega.{arith}
use lib.ListN.{length, take}
use lib.Seq.{take-append_seam}
use borrow.Author.Tests.{le-leb}
use Rattle.words.specs.Kind.{Extends}
use Rattle.words.specs.Limits.{tallest, most_notes, most_key, most_trials}
use Rattle.words.specs.Check.{sound, check}
use Rattle.keys.specs.Limits.{newest, record_words}
use Rattle.keys.specs.Table.{type}
use Rattle.keys.specs.Form.{height, nodes, names, Bytes, Fits}
use Rattle.keys.specs.Placed.{Placed, bare}
use Rattle.keys.specs.Key.{taken, node_table, key_of, IsTree, HasRoom}
use Rattle.keys.specs.Store.{names_of, all_pointed, lent, take_back}
use Rattle.keys.proofs.Theorems.{same_key, taken_back}
use Rattle.keys.proofs.BitsLaws.{clash}
use Rattle.keys.proofs.Fitting.{Each}
use Rattle.rules.specs.Notes.{NoteStands}
use Rattle.rules.specs.Refusal.{many_trials}
use Rattle.rules.specs.State.{Given, State, Reader, refused, stands, end, read as got}
use Rattle.rules.specs.Infer.{trial}
use Rattle.rules.specs.Reading.{reading}
use Rattle.rules.specs.Read.{given, granted, denied, Outcome, outcome, refuses, written, read}
use Rattle.rules.specs.Places.{after, InOrder}
use Rattle.rules.specs.Call.{Call, left, ruled, grants, key_size, entered_count, key_left, Granted, Kept, AllZero, IsRefusal}
use Rattle.rules.specs.Like.{Respaced, note_numbers, without_byte, SameReading, both_granted, both_refused}
use Rattle.rules.proofs.TokenLaws.{Checked, taken_inside, text_few, words_few}
use Rattle.rules.proofs.FewLaws.{nodes_most}
use Rattle.rules.proofs.ToldLaws.{names_told}
use Rattle.rules.proofs.WeightLaws.{key_most}
use Rattle.rules.proofs.Gives.{Got, Good, itself}
use Rattle.rules.proofs.RuleLaws.{reading_gives}
use Rattle.rules.proofs.CallLaws.{gave, facts, ruled_by, filled_zero, kept_granted, kept_refused, call_refusal}
use Rattle.rules.proofs.SpaceLaws.{calls_alike}
use Rattle.rules.proofs.KeysOnlyLaws.{keys_only}
use Rattle.rules.proofs.EnteredLaws.{reading_few}

-- ---- What the rules read: tree t and state s, from a text of bytes and a list that passed the check
module _ (g : Given) (start : ℕ) {t : Placed} {s : State}
    (bytes : Bytes g.text) (passed : check g.text g.words start ≡ sound) (e : reading g start ≡ got t s) where
  abbrev given_checked : Checked g
  given_checked = record { bytes = bytes; start = start; sound = passed }

  all : Got g (Good type) itself 1 0 0 0 t s
  all = gave (reading_gives g given_checked) e

  -- The tree is a type of the node table: every list has at most 4,095 entries, every spelling 1 to 65,535 bytes.
  pub tree_fits : Fits node_table type (bare t)
  tree_fits = all.is.is.fits

  -- It is at most 256 high.
  pub tree_low : height (bare t) ≤ tallest
  tree_low = all.is.low

  -- The nodes in use are its nodes: what a dropped trial or a dropped `this` took is free again.
  pub nodes_used : s.nodes ≡ nodes (bare t)
  nodes_used = omega (arith, all.has.at.used)

  -- There is room for them.
  pub nodes_roomy : s.nodes ≤ g.room
  nodes_roomy = all.has.at.roomy

  -- There are at most 32 diagnostics.
  pub notes_few : length s.notes ≤ most_notes
  notes_few = all.has.at.few

  -- Each has a record.
  pub notes_recorded : length s.notes ≤ g.records
  notes_recorded = all.has.at.recorded

  -- Each stands as it may: a 4 has the place of an optional element that ended before its own began, all others have no second place.
  pub notes_stand : Each (NoteStands (length g.text)) s.notes
  notes_stand = all.has.at.noted

  -- A node's first byte is below its end byte, a child lies inside its parent, and entries of a list come in order without overlap.
  pub tree_in_order : InOrder 0 t
  tree_in_order = all.has.spans.in_order

  -- It ends inside the text.
  pub tree_in_text : after 0 t ≤ length g.text
  tree_in_text =
      let inside : end g s ≤ length g.text = rw all.whole (taken_inside g given_checked s.at all.has.at.inside) in
      omega (arith, all.has.spans.up_to)

  -- Its nodes are numbers of 32 bits by far.
  pub nodes_few : s.nodes ≤ 16776960
  nodes_few = omega (arith, nodes_used, nodes_most t tree_low tree_in_order (omega (arith, tree_in_text, text_few g.text g.words start passed)))

  -- Its name words point at its spellings in the text, in order.
  pub names_spelled : all_pointed g.text (names_of t) ≡ names (bare t)
  names_spelled = names_told g.text t all.has.told

  -- The end cursor stands at a token.
  pub ends_inside : s.at < length g.words
  ends_inside = all.has.at.inside

  -- No half of it is used up.
  pub ends_whole : s.half ≡ 0
  ends_whole = all.whole

  -- Its key keeps the limit of keys.
  pub key_short : length (key_of (bare t)) ≤ most_key
  key_short =
      omega (arith, key_most tree_fits, all.light, ends_inside, taken_inside g given_checked s.at ends_inside, text_few g.text g.words start passed, words_few g.text g.words start passed)

-- ---- A granted call
module _ {c : Call} {t : Placed} {s : State} (x : Granted c t s) where
  -- It leaves the rules' tree, its names, the diagnostics and its key, each with zeros behind it, and answers how much of each.
  pub call_leaves : left c ≡ written c.lent (granted t s.notes s.at s.half (key_of (bare t)) s.tally.entered)
  call_leaves = (facts x).leaves

  -- Its tree is one of the node table within the limits of heights and of keys.
  pub call_tree : IsTree (bare t)
  call_tree =
      let f = facts x in
      record { fits = f.good.is.is.fits; tall = f.good.is.low; short = key_short _ c.start x.bytes f.passed x.rules }

  -- Its nodes are numbers of 32 bits.
  pub call_few : nodes (bare t) < 2 ^ 32
  call_few =
      let f = facts x in
      omega (arith, nodes_used _ c.start x.bytes f.passed x.rules, nodes_few _ c.start x.bytes f.passed x.rules)

  -- The name words that it leaves point at the tree's spellings in the text, in the key's order.
  pub call_spelled : all_pointed c.text (names_of t) ≡ names (bare t)
  call_spelled = names_spelled _ c.start x.bytes (facts x).passed x.rules

  -- Its diagnostics stand in the text as they may.
  pub call_notes : Each (NoteStands (length c.text)) s.notes
  call_notes = notes_stand _ c.start x.bytes (facts x).passed x.rules

  -- Its nodes stand in order, each inside its parent, and all end inside the text.
  pub call_in_order : InOrder 0 t × (after 0 t ≤ length c.text)
  call_in_order =
      let f = facts x in
      (tree_in_order _ c.start x.bytes f.passed x.rules, tree_in_text _ c.start x.bytes f.passed x.rules)

  -- The key that it leaves is its tree's.
  pub call_key : key_left (left c) ≡ key_of (bare t)
  call_key = ap key_left call_leaves ∙ take-append_seam (key_of (bare t)) _

  -- That key is taken back as its tree where there is room for it.
  pub call_back : (a b d : ℕ) → HasRoom (a / record_words) b d (bare t) → take_back (key_left (left c)) a b d ≡ lent a b d (taken (bare t))
  call_back a b d room = ap (λ (key : List ℕ). take_back key a b d) call_key ∙ ap (lent a b d) (taken_back newest call_tree room)

-- A granted call entered sixteen type rules for each token at most (02, W4).
pub entered_few : {c : Call} {t : Placed} {s : State} → Granted c t s → entered_count (left c).answer ≤ 16 * length c.words
entered_few {c} x =
    let f = facts x in
    let g = given c.text c.words c.parens c.lent in
    let inside = f.good.has.at.inside in
    rw f.leaves (reading_few g (keys_only g) c.start x.rules (omega arith))

-- Two granted calls, under either option, leave the same key exactly when the rules read the same tree.
pub same_keys : {c d : Call} {t u : Placed} {p q : State} → Granted c t p → Granted d u q → (key_left (left c) ≡ key_left (left d)) ↔ (bare t ≡ bare u)
same_keys x y =
    let same = same_key newest (call_tree x).fits (call_tree y).fits in
    (λ e. same.0 (sym (call_key x) ∙ e ∙ call_key y), λ e. call_key x ∙ same.1 e ∙ sym (call_key y))

-- ---- Trials (02, W4)

-- An `extends` that would open a fifth is refused there, whatever would read the type behind it: 28 comes before 5.
pub fifth_trial : (g : Given) (T : Reader) (s : State) → stands g Extends s ≡ true → most_trials ≤ s.tally.trials → trial g T true s ≡ refused many_trials s
unfolding trial
fifth_trial g T s e many = rw (e, le-leb most_trials s.tally.trials many)

-- ---- Every call

-- Where it grants a tree, the rules read one.
pub call_ruled : (c : Call) → grants (left c).answer ≡ true → (t : Placed) × (s : State) × (ruled c ≡ got t s)
call_ruled c e = ruled_by c e

-- Where it refuses, every output is zeros over its whole length.
pub call_refused : (c : Call) → grants (left c).answer ≡ false → AllZero c.lent (left c)
unfolding read
call_refused c e = by (outcome c.text c.words c.start c.parens c.lent) e
  where
    by : (o : Outcome) → grants (written c.lent o).answer ≡ false → AllZero c.lent (written c.lent o)
    by (granted t ns i h key entered) j = clash (cc)
    by (denied n p h b) j =
        let l = c.lent in
        record { nodes_zero = filled_zero l.nodes; names_zero = filled_zero l.names; notes_zero = filled_zero l.notes; key_zero = filled_zero l.key }

-- It refuses under one of the numbers: the rules' where reading stood, by token, half and byte, 2 at a word, 1 and 11 at 0.
pub refusals : (c : Call) → Bytes c.text → {n p h b : ℕ} → (left c).answer ≡ refuses n p h b → IsRefusal c.text c.words n p h b
refusals c bytes e = call_refusal c bytes e

-- Every output is left as long as it was lent.
pub lengths_kept : (c : Call) → Bytes c.text → Kept c.lent (left c)
lengths_kept c bytes = by (grants (left c).answer) refl
  where
    by : (b : Bool) → grants (left c).answer ≡ b → Kept c.lent (left c)
    by true e = kept_granted (facts (record { bytes = bytes; grant = e; rules = (ruled_by c e).2 }))
    by false e = kept_refused (call_refused c e)

-- ---- Two calls on like lists (02, W14)
module _ (c d : Call) (bytes : Bytes c.text) (bytes' : Bytes d.text) (r : Respaced c d) where
  -- Spaces don't matter: both are granted the same tree, positions aside, with the same answer and key and diagnostics of the same numbers; or both are refused alike.
  pub spaces : SameReading c d
  spaces = calls_alike c d bytes bytes' r

  -- They have the same answer but for the byte of a refusal.
  pub spaces_answer : without_byte (left c).answer ≡ without_byte (left d).answer
  spaces_answer = by spaces
    where
      by : SameReading c d → without_byte (left c).answer ≡ without_byte (left d).answer
      by (both_granted x y a) = ap without_byte a.answer
      by (both_refused e f) = ap without_byte e ∙ sym (ap without_byte f)

  -- They leave the same key.
  pub spaces_key : key_left (left c) ≡ key_left (left d)
  spaces_key = by spaces
    where
      by : SameReading c d → key_left (left c) ≡ key_left (left d)
      by (both_granted x y a) = a.key
      by (both_refused e f) = ap (λ a. take (key_size a) (left c).key) e ∙ sym (ap (λ a. take (key_size a) (left d).key) f)

  -- Trees that they are granted are the same, positions aside, and so are the numbers of their diagnostics.
  pub spaces_tree : {t u : Placed} {s q : State} → Granted c t s → Granted d u q → (bare t ≡ bare u) × (note_numbers s.notes ≡ note_numbers q.notes)
  spaces_tree {t} {u} {s} {q} x y = by spaces
    where
      by : SameReading c d → (bare t ≡ bare u) × (note_numbers s.notes ≡ note_numbers q.notes)
      by (both_granted v w a) = (cc (v.rules, x.rules, w.rules, y.rules, a.tree), cc (v.rules, x.rules, w.rules, y.rules, a.notes))
      by (both_refused e f) = let z : true ≡ false = sym x.grant ∙ ap grants e in clash (cc)
