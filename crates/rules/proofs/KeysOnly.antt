-- Members that read on where a type was tried: where they can stand, and that they come on by keys alone (02, W4).
use mathlib.Core.Path.{◌≡◌, refl, sym, ap, ◌∙◌, subst}
use mathlib.Core.Bool.{Bool, true, false, not}
use mathlib.Core.List.{List, [], ◌∷◌, ◌++◌}
use mathlib.Core.Logic.{◌⊎◌, inl, inr, ⊎_elim}
use Prim.Native.Nat.{ℕ, zero, suc, ◌+◌, ◌≤◌}
use native.Mathlib.Omega.{arith}
use borrow.Author.Tests.{eqb-true, not-true}
use lib.Dec.{eqb, leb, ltb}
use Rattle.words.specs.Limits.{tallest}
use Rattle.words.specs.Test.{◌and◌, ◌or◌, among}
use Rattle.words.specs.Kind.{RCurly, LBrack, LParen, LAngle, Question, Colon, Comma, Semicolon, New, Readonly}
use Rattle.words.specs.Cursor.{whole_kind, same_line}
use Rattle.words.specs.Ahead.{property_key}
use Rattle.keys.specs.Form.{height}
use Rattle.keys.specs.Placed as node
use Rattle.keys.specs.Placed.{Placed, bare, absent}
use Rattle.keys.proofs.Fitting.{Each}
use Rattle.keys.proofs.BitsLaws.{clash}
use Rattle.rules.specs.State.{Given, State, Result, Reader, read, then, first, end, overlong, make}
use Rattle.rules.specs.Object.{Signature, of_method, of_call, of_construct, key_here, signs, constructs, is_readonly, unsupported_here, member_end, signature, property, with_key, behind_readonly, member, members_from}
use Rattle.rules.proofs.TokenLaws.{both_true, among_each}
use Rattle.rules.proofs.Balance.{Keeps, Ends, ends, stops}

-- ---- Places

-- At a whole token, with all else as in s.
abbrev pub stand : ℕ → State → State
stand j s = record { at = j; half = 0; nodes = s.nodes; notes = s.notes; tally = s.tally }

-- A member, or the end of them, can begin with this kind.
abbrev pub begins : ℕ → Bool
begins k = property_key k or among (RCurly ∷ LParen ∷ LAngle ∷ LBrack ∷ []) k

-- What can follow a key on its line, but for a signature.
abbrev pub follows : ℕ → Bool
follows k = among (Question ∷ Colon ∷ Comma ∷ Semicolon ∷ RCurly ∷ []) k

-- A result that is none.
abbrev pub Never : {A : Type 0} → Result A → Type 0
Never r = Ends (λ _ _. ⊥) r

pub never_read : {A : Type 0} {r : Result A} {a : A} {q : State} → Never r → read a q ≡ r → ⊥
never_read {A} {r} {a} {q} h e = by (subst Never (sym e) h)
  where
    by : Never (read a q) → ⊥
    by (ends x) = x

-- A test has one answer.
pub both : {A : Type 0} {b : Bool} → b ≡ true → b ≡ false → A
both e h = let z : true ≡ false = sym e ∙ h in clash (cc)

-- ---- Kinds

-- A kind that does not pass a test is none that does.
pub not_kind : (f : ℕ → Bool) (c k : ℕ) → f c ≡ true → f k ≡ false → eqb k c ≡ false
not_kind f c k e h = by (eqb k c) refl
  where
    by : (b : Bool) → eqb k c ≡ b → b ≡ false
    by true i = let z : true ≡ false = sym e ∙ ap f (sym (eqb-true k c i)) ∙ h in clash (cc)
    by false i = refl

-- One that passes it is none that does not.
pub other_kind : (f : ℕ → Bool) (c k : ℕ) → f c ≡ false → f k ≡ true → eqb k c ≡ false
other_kind f c k e h = by (eqb k c) refl
  where
    by : (b : Bool) → eqb k c ≡ b → b ≡ false
    by true i = let z : true ≡ false = sym h ∙ ap f (eqb-true k c i) ∙ e in clash (cc)
    by false i = refl

-- All kinds of a list pass a test.
abbrev pub every : (ℕ → Bool) → List ℕ → Bool
every f [] = true
every f (x ∷ l) = f x and every f l

pub every_among : (f : ℕ → Bool) (l : List ℕ) (k : ℕ) → every f l ≡ true → among l k ≡ true → f k ≡ true
every_among f l k e h = among_each (λ (k : ℕ). f k ≡ true) l k (each l e) h
  where
    each : (l : List ℕ) → every f l ≡ true → Each (λ (k : ℕ). f k ≡ true) l
    each [] e = tt
    each (x ∷ l) e = let p = both_true (f x) (every f l) e in (p.0, each l p.1)

-- Some pass it and the others don't.
pub none_among : (f : ℕ → Bool) (l : List ℕ) (k : ℕ) → every f l ≡ true → f k ≡ false → among l k ≡ false
none_among f l k e h = by (among l k) refl
  where
    by : (b : Bool) → among l k ≡ b → b ≡ false
    by true i = let z : true ≡ false = sym (every_among f l k e i) ∙ h in clash (cc)
    by false i = refl

-- A node that is made: one more is in use.
abbrev pub more : State → State
more w = record { at = w.at; half = w.half; nodes = w.nodes + 1; notes = w.notes; tally = w.tally }

pub make_or : {A : Type 0} (g : Given) (l : List ℕ) (t : Placed) (j : ℕ) (w : State) (on : Placed → State → Result A)
    → Never (then (make g l t (stand j w)) on) ⊎ (then (make g l t (stand j w)) on ≡ on t (stand j (more w)))
unfolding make
make_or g l t j w on = by (overlong l) (ltb tallest (height (bare t))) (leb g.room w.nodes) refl refl refl
  where
    by : (x y z : Bool) → overlong l ≡ x → ltb tallest (height (bare t)) ≡ y → leb g.room w.nodes ≡ z
        → Never (then (make g l t (stand j w)) on) ⊎ (then (make g l t (stand j w)) on ≡ on t (stand j (more w)))
    by true y z a b c = inl (rw a stops)
    by false true z a b c = inl (rw (a, b) stops)
    by false false true a b c = inl (rw (a, b, c) stops)
    by false false false a b c = inr (rw (a, b, c) refl)

pub never_make : {A : Type 0} (g : Given) (l : List ℕ) (t : Placed) (j : ℕ) (w : State) (on : Placed → State → Result A) → Never (on t (stand j (more w))) → Never (then (make g l t (stand j w)) on)
never_make g l t j w on h = ⊎_elim (λ n. n) (λ e. rw e h) (make_or g l t j w on)

-- What begins no member is no key and no bracket.
pub no_begin : (k : ℕ) → begins k ≡ false → property_key k or eqb k LBrack ≡ false
no_begin k e = by (property_key k) e
  where
    by : (b : Bool) → b or among (RCurly ∷ LParen ∷ LAngle ∷ LBrack ∷ []) k ≡ false → b or eqb k LBrack ≡ false
    by true i = i
    by false i = not_kind (among (RCurly ∷ LParen ∷ LAngle ∷ LBrack ∷ [])) LBrack k refl i

-- ---- One object type's members

-- The kind and the line of a token.
abbrev pub Kind : Given → ℕ → ℕ
Kind g j = whole_kind g.words j

abbrev pub Line : Given → ℕ → Bool
Line g j = same_line g.words j 0

-- Members that read, from a state on, by a reader of types that closes the brackets that it opens.
pub record Run (g : Given) : Type 0 where
  pub reader : Reader
  pub keeps : (on : Bool) → Keeps g (reader on)
  pub turns : ℕ
  pub list : List Placed
  pub start : State
  pub all : List Placed
  pub last : State
  pub reads : read all last ≡ members_from g reader turns list start

module _ (g : Given) (run : Run g) where
  abbrev U : Reader
  U = run.reader

  abbrev m₀ : ℕ
  m₀ = run.turns

  abbrev l₀ : List Placed
  l₀ = run.list

  abbrev s₀ : State
  s₀ = run.start

  -- They come to a member that begins at j, behind a line break, with no type rule entered.
  pub record AtMember (j : ℕ) : Type 0 where
    pub turns : ℕ
    pub fewer : turns ≤ m₀
    pub list : List Placed
    pub w : State
    pub same : members_from g U m₀ l₀ s₀ ≡ members_from g U turns list (stand j w)
    pub tally : w.tally ≡ s₀.tally
    pub behind : s₀.at ≤ j
    pub fresh : Line g j ≡ false

  -- They come to a member's key or bracket at j; the member begins there or with a readonly before it.
  pub record AtKey (j : ℕ) : Type 0 where
    pub home : ℕ
    pub begun : AtMember home
    pub near : (home ≡ j) ⊎ ((Kind g home ≡ Readonly) × (home + 1 ≡ j))
    pub turns : ℕ
    pub fewer : turns ≤ m₀
    pub list : List Placed
    pub b : ℕ
    pub readonly : Bool
    pub w : State
    pub same : members_from g U m₀ l₀ s₀ ≡ then (behind_readonly g U b readonly (stand j w)) (λ t q. members_from g U turns (list ++ (t ∷ [])) q)
    pub tally : w.tally ≡ s₀.tally

  -- They come to a signature at j.
  pub record AtSignature (j : ℕ) : Type 0 where
    pub turns : ℕ
    pub list : List Placed
    pub b : ℕ
    pub sort : Signature
    pub w : State
    pub same : members_from g U m₀ l₀ s₀ ≡ then (signature g U b sort (stand j w)) (λ t q. members_from g U turns (list ++ (t ∷ [])) q)
    pub opens : signs (Kind g j) ≡ true

  -- They come to a key right before j.
  pub record BehindKey (j : ℕ) : Type 0 where
    pub before : ℕ
    pub at : j ≡ before + 1
    pub key : AtKey before
    pub named : property_key (Kind g before) ≡ true

  -- Where they can stand at j.
  pub data Place (j : ℕ) : Type 0 where
    at_member : AtMember j → Place j
    at_key : AtKey j → Place j
    behind_key : BehindKey j → Place j
    at_signature : AtSignature j → Place j

  -- What they can begin at j.
  pub data Sorted (j : ℕ) : Type 0 where
    signed : AtSignature j → Sorted j
    newly : AtSignature (j + 1) → Kind g j ≡ New → Sorted j
    marked : AtKey (j + 1) → Kind g j ≡ Readonly → Sorted j
    keyed : AtKey j → signs (Kind g j) ≡ false → Sorted j

  -- They read, so what they come to is no refusal.
  pub unread : {r : Result (List Placed)} → members_from g U m₀ l₀ s₀ ≡ r → Never r → ⊥
  unread e h = never_read h (run.reads ∙ e)

  -- ---- What cannot be

  -- Behind a readonly only a key or a bracket stands.
  pub no_key : {A : Type 0} (b : ℕ) (readonly : Bool) (j : ℕ) (w : State) (on : Placed → State → Result A) → property_key (Kind g j) or eqb (Kind g j) LBrack ≡ false
      → Never (then (behind_readonly g U b readonly (stand j w)) on)
  unfolding behind_readonly with_key
  no_key b readonly j w on e = by (unsupported_here g (stand j w)) (property_key (Kind g j)) (eqb (Kind g j) LBrack) refl refl refl e
    where
      by : (x y z : Bool) → unsupported_here g (stand j w) ≡ x → property_key (Kind g j) ≡ y → eqb (Kind g j) LBrack ≡ z → y or z ≡ false → Never (then (behind_readonly g U b readonly (stand j w)) on)
      by true y z i m n o = rw i stops
      by false true z i m n o = clash (cc)
      by false false true i m n o = clash (cc)
      by false false false i m n o = rw (i, n, m) stops

  -- ---- The next member

  -- What follows a member.
  abbrev pub On : ℕ → List Placed → Placed → State → Result (List Placed)
  On n l t q = members_from g U n (l ++ (t ∷ [])) q

  step_sign : (n : ℕ) (l : List Placed) (j : ℕ) (w : State) → eqb (Kind g j) RCurly ≡ false → signs (Kind g j) ≡ true
      → members_from g U (suc n) l (stand j w) ≡ then (signature g U (first g (stand j w)) of_call (stand j w)) (On n l)
  unfolding members_from member
  step_sign n l j w a b = rw (a, b) refl

  step_new : (n : ℕ) (l : List Placed) (j : ℕ) (w : State) → eqb (Kind g j) RCurly ≡ false → signs (Kind g j) ≡ false → constructs g (stand j w) ≡ true
      → members_from g U (suc n) l (stand j w) ≡ then (signature g U (first g (stand j w)) of_construct (stand (j + 1) w)) (On n l)
  unfolding members_from member
  step_new n l j w a b c = rw (a, b, c) refl

  step_readonly : (n : ℕ) (l : List Placed) (j : ℕ) (w : State) → eqb (Kind g j) RCurly ≡ false → signs (Kind g j) ≡ false → constructs g (stand j w) ≡ false → is_readonly g (stand j w) ≡ true
      → members_from g U (suc n) l (stand j w) ≡ then (behind_readonly g U (first g (stand j w)) true (stand (j + 1) w)) (On n l)
  unfolding members_from member
  step_readonly n l j w a b c d = rw (a, b, c, d) refl

  step_key : (n : ℕ) (l : List Placed) (j : ℕ) (w : State) → eqb (Kind g j) RCurly ≡ false → signs (Kind g j) ≡ false → constructs g (stand j w) ≡ false → is_readonly g (stand j w) ≡ false
      → members_from g U (suc n) l (stand j w) ≡ then (behind_readonly g U (first g (stand j w)) false (stand j w)) (On n l)
  unfolding members_from member
  step_key n l j w a b c d = rw (a, b, c, d) refl

  no_turns : (l : List Placed) (s : State) → Never (members_from g U zero l s)
  unfolding members_from
  no_turns l s = stops

  -- No member begins with such a kind.
  pub no_member : (n : ℕ) (l : List Placed) (j : ℕ) (w : State) → begins (Kind g j) ≡ false → Never (members_from g U n l (stand j w))
  no_member zero l j w e = no_turns l (stand j w)
  no_member (suc n) l j w e =
      let c : constructs g (stand j w) ≡ false = rw (not_kind begins New (Kind g j) refl e) refl in
      let d : is_readonly g (stand j w) ≡ false = rw (not_kind begins Readonly (Kind g j) refl e) refl in
      rw (step_key n l j w (not_kind begins RCurly (Kind g j) refl e) (none_among begins (LParen ∷ LAngle ∷ []) (Kind g j) refl e) c d)
      (no_key (first g (stand j w)) false j w (On n l) (no_begin (Kind g j) e))

  sorted_mem : (j : ℕ) → AtMember j → eqb (Kind g j) RCurly ≡ false → Sorted j
  sorted_mem j x c = go x.turns x.fewer x.same
    where
      home : (n : ℕ) → suc n ≤ m₀ → members_from g U m₀ l₀ s₀ ≡ members_from g U (suc n) x.list (stand j x.w) → AtMember j
      home n f e = record { turns = suc n; fewer = f; list = x.list; w = x.w; same = e; tally = x.tally; behind = x.behind; fresh = x.fresh }

      by : (n : ℕ) → suc n ≤ m₀ → members_from g U m₀ l₀ s₀ ≡ members_from g U (suc n) x.list (stand j x.w) → (b d f : Bool) → signs (Kind g j) ≡ b → constructs g (stand j x.w) ≡ d → is_readonly g (stand j x.w) ≡ f → Sorted j
      by n f e true y z a b d = signed (record { turns = n; list = x.list; b = _; sort = of_call; w = x.w; same = e ∙ step_sign n x.list j x.w c a; opens = a })
      by n f e false true z a b d =
          let p = both_true (eqb (Kind g j) New) _ b in
          newly (record { turns = n; list = x.list; b = _; sort = of_construct; w = x.w; same = e ∙ step_new n x.list j x.w c a b; opens = p.1 }) (eqb-true (Kind g j) New p.0)
      by n f e false false true a b d =
          let p = both_true (eqb (Kind g j) Readonly) _ d in
          let k = eqb-true (Kind g j) Readonly p.0 in
          marked (record { home = j; begun = home n f e; near = inr (k, refl); turns = n; fewer = omega arith; list = x.list; b = _; readonly = true; w = x.w; same = e ∙ step_readonly n x.list j x.w c a b d; tally = x.tally }) k
      by n f e false false false a b d =
          keyed (record { home = j; begun = home n f e; near = inl refl; turns = n; fewer = omega arith; list = x.list; b = _; readonly = false; w = x.w; same = e ∙ step_key n x.list j x.w c a b d; tally = x.tally }) a

      go : (n : ℕ) → n ≤ m₀ → members_from g U m₀ l₀ s₀ ≡ members_from g U n x.list (stand j x.w) → Sorted j
      go zero f e = absurd (unread e (no_turns x.list (stand j x.w)))
      go (suc n) f e = by n f e (signs (Kind g j)) (constructs g (stand j x.w)) (is_readonly g (stand j x.w)) refl refl refl

  -- ---- Behind a key

  -- What stands at an index neither ends a member nor goes on with it, and on a new line no member begins with it.
  pub record Dead (e : ℕ) : Type 0 where
    pub ended : among (Colon ∷ Comma ∷ Semicolon ∷ RCurly ∷ []) (Kind g e) ≡ false
    pub begun : Line g e or not (begins (Kind g e)) ≡ true

  -- No member ends there.
  pub no_end : (n : ℕ) (l : List Placed) (lengths : List ℕ) (f : State → Placed) (e : ℕ) (w : State) → Dead e → Never (then (member_end g (stand e w) (λ q. make g lengths (f q) q)) (On n l))
  no_end n l lengths f e w d =
      by (Line g e) refl (not_end Comma refl) (not_end Semicolon refl) (not_end RCurly refl) d.begun
    where
      not_end : (c : ℕ) → among (Colon ∷ Comma ∷ Semicolon ∷ RCurly ∷ []) c ≡ true → eqb (Kind g e) c ≡ false
      not_end c i = not_kind (among (Colon ∷ Comma ∷ Semicolon ∷ RCurly ∷ [])) c (Kind g e) i d.ended

      by : (b : Bool) → Line g e ≡ b → eqb (Kind g e) Comma ≡ false → eqb (Kind g e) Semicolon ≡ false → eqb (Kind g e) RCurly ≡ false → b or not (begins (Kind g e)) ≡ true
          → Never (then (member_end g (stand e w) (λ q. make g lengths (f q) q)) (On n l))
      by true i a b c o = rw (a, b, c, i) stops
      by false i a b c o = rw (a, b, c, i) (never_make g lengths (f (stand e w)) e w (On n l) (no_member n (l ++ (f (stand e w) ∷ [])) e (more w) (not-true (begins (Kind g e)) o)))

  -- A key and what is behind it.
  module _ (b : ℕ) (readonly : Bool) (i : ℕ) (w : State) (fine : unsupported_here g (stand i w) ≡ false) (named : property_key (Kind g i) ≡ true) where
    no_bracket : eqb (Kind g i) LBrack ≡ false
    no_bracket = other_kind property_key LBrack (Kind g i) refl named

    key_sign : eqb (Kind g (i + 1)) Question ≡ false → signs (Kind g (i + 1)) ≡ true → behind_readonly g U b readonly (stand i w) ≡ signature g U b (of_method (key_here g (stand i w)) false) (stand (i + 1) w)
    unfolding behind_readonly with_key
    key_sign a c = rw (fine, no_bracket, named, a, c) refl

    key_bare : eqb (Kind g (i + 1)) Question ≡ false → signs (Kind g (i + 1)) ≡ false → eqb (Kind g (i + 1)) Colon ≡ false
        → behind_readonly g U b readonly (stand i w) ≡ member_end g (stand (i + 1) w) (λ q. make g [] (node.property b (end g q) readonly (key_here g (stand i w)) false absent) q)
    unfolding behind_readonly with_key property
    key_bare a c d = rw (fine, no_bracket, named, a, c, d) refl

    key_asked : eqb (Kind g (i + 1)) Question ≡ true → signs (Kind g (i + 1 + 1)) ≡ false → eqb (Kind g (i + 1 + 1)) Colon ≡ false
        → behind_readonly g U b readonly (stand i w) ≡ member_end g (stand (i + 1 + 1) w) (λ q. make g [] (node.property b (end g q) readonly (key_here g (stand i w)) true absent) q)
    unfolding behind_readonly with_key property
    key_asked a c d = rw (fine, no_bracket, named, a, c, d) refl

  pub unsupported : {A : Type 0} (b : ℕ) (readonly : Bool) (j : ℕ) (w : State) (on : Placed → State → Result A) → unsupported_here g (stand j w) ≡ true → Never (then (behind_readonly g U b readonly (stand j w)) on)
  unfolding behind_readonly
  unsupported b readonly j w on e = rw e stops

  -- Behind a key stands a signature, or the next member begins on a new line.
  pub key_on : (i : ℕ) → AtKey i → property_key (Kind g i) ≡ true → follows (Kind g (i + 1)) ≡ false → AtSignature (i + 1) ⊎ AtMember (i + 1)
  key_on i x named f = by (unsupported_here g (stand i x.w)) (signs (Kind g (i + 1))) (Line g (i + 1)) refl refl refl
    where
      on : Placed → State → Result (List Placed)
      on = On x.turns x.list

      not_one : (c : ℕ) → follows c ≡ true → eqb (Kind g (i + 1)) c ≡ false
      not_one c e = not_kind follows c (Kind g (i + 1)) e f

      fresh : unsupported_here g (stand i x.w) ≡ false → signs (Kind g (i + 1)) ≡ false → Line g (i + 1) ≡ false → AtMember (i + 1)
      fresh u a c =
          let t = node.property x.b (end g (stand (i + 1) x.w)) x.readonly (key_here g (stand i x.w)) false absent in
          let e : then (behind_readonly g U x.b x.readonly (stand i x.w)) on ≡ then (make g [] t (stand (i + 1) x.w)) on
          = rw (key_bare x.b x.readonly i x.w u named (not_one Question refl) a (not_one Colon refl), not_one Comma refl, not_one Semicolon refl, not_one RCurly refl, c) refl in
          ⊎_elim (λ n. absurd (unread (x.same ∙ e) n))
          (λ m.
          record {
            turns = x.turns;
            fewer = x.fewer;
            list = x.list ++ (t ∷ []);
            w = more x.w;
            same = x.same ∙ e ∙ m;
            tally = x.tally;
            behind = ⊎_elim (λ k. omega (arith, x.begun.behind)) (λ k. omega (arith, x.begun.behind, k.1)) x.near;
            fresh = c;
          })
          (make_or g [] t (i + 1) x.w on)

      by : (u a c : Bool) → unsupported_here g (stand i x.w) ≡ u → signs (Kind g (i + 1)) ≡ a → Line g (i + 1) ≡ c → AtSignature (i + 1) ⊎ AtMember (i + 1)
      by true a c j k m = absurd (unread x.same (unsupported x.b x.readonly i x.w on j))
      by false true c j k m =
          let e = key_sign x.b x.readonly i x.w j named (not_one Question refl) k in
          inl (record { turns = x.turns; list = x.list; b = x.b; sort = _; w = x.w; same = x.same ∙ ap (λ (r : Result Placed). then r on) e; opens = k })
      by false false true j k m =
          let e : Never (then (behind_readonly g U x.b x.readonly (stand i x.w)) on)
          = rw (key_bare x.b x.readonly i x.w j named (not_one Question refl) k (not_one Colon refl), not_one Comma refl, not_one Semicolon refl, not_one RCurly refl, m) stops in
          absurd (unread x.same e)
      by false false false j k m = inr (fresh j k m)

  -- A `?` behind a key, and then what neither ends a member nor begins one.
  pub asked_never : (i : ℕ) → AtKey i → property_key (Kind g i) ≡ true → eqb (Kind g (i + 1)) Question ≡ true → signs (Kind g (i + 1 + 1)) ≡ false → Dead (i + 1 + 1) → ⊥
  asked_never i x named q a d = by (unsupported_here g (stand i x.w)) refl
    where
      on : Placed → State → Result (List Placed)
      on = On x.turns x.list

      by : (u : Bool) → unsupported_here g (stand i x.w) ≡ u → ⊥
      by true j = unread x.same (unsupported x.b x.readonly i x.w on j)
      by false j =
          let c : eqb (Kind g (i + 1 + 1)) Colon ≡ false = not_kind (among (Colon ∷ Comma ∷ Semicolon ∷ RCurly ∷ [])) Colon (Kind g (i + 1 + 1)) refl d.ended in
          unread x.same (rw (key_asked x.b x.readonly i x.w j named q a c) (no_end x.turns x.list [] (λ q. node.property x.b (end g q) x.readonly (key_here g (stand i x.w)) true absent) (i + 1 + 1) x.w d))

  -- ---- Where they stand, and what they begin there

  -- A key is no mark.
  pub key_mark : (l : List ℕ) (k : ℕ) → every (λ k. not (property_key k)) l ≡ true → property_key k ≡ true → among l k ≡ false
  key_mark l k e h = none_among (λ k. not (property_key k)) l k e (ap not h)

  pub sorted : (j : ℕ) → Place j → follows (Kind g j) ≡ false → Sorted j
  sorted j (at_member x) f = sorted_mem j x (not_kind follows RCurly (Kind g j) refl f)
  sorted j (at_key x) f = by (signs (Kind g j)) refl
    where
      by : (b : Bool) → signs (Kind g j) ≡ b → Sorted j
      by true i = absurd (unread x.same (no_key x.b x.readonly j x.w (On x.turns x.list) (not-true (property_key (Kind g j) or eqb (Kind g j) LBrack) (every_among (λ k. not (property_key k or eqb k LBrack)) (LParen ∷ LAngle ∷ []) (Kind g j) refl i))))
      by false i = keyed x i
  sorted j (behind_key x) f = ⊎_elim (λ y. signed (subst AtSignature (sym x.at) y)) (λ y. sorted_mem j (subst AtMember (sym x.at) y) (not_kind follows RCurly (Kind g j) refl f)) (key_on x.before x.key x.named (rw x.at at f))
  sorted j (at_signature x) f = signed x

  -- Over a token that can be a key.
  pub over : (j : ℕ) → Place j → property_key (Kind g j) ≡ true → Place (j + 1)
  over j x e = by (sorted j x (key_mark (Question ∷ Colon ∷ Comma ∷ Semicolon ∷ RCurly ∷ []) (Kind g j) refl e))
    where
      by : Sorted j → Place (j + 1)
      by (signed y) = let z : true ≡ false = sym y.opens ∙ key_mark (LParen ∷ LAngle ∷ []) (Kind g j) refl e in clash (cc)
      by (newly y k) = at_signature y
      by (marked y k) = at_key y
      by (keyed y k) = behind_key (record { before = j; at = refl; key = y; named = e })

  -- Over one that is neither readonly nor new.
  pub behind : (j : ℕ) → Place j → property_key (Kind g j) ≡ true → among (New ∷ Readonly ∷ []) (Kind g j) ≡ false → BehindKey (j + 1)
  behind j x e n = by (sorted j x (key_mark (Question ∷ Colon ∷ Comma ∷ Semicolon ∷ RCurly ∷ []) (Kind g j) refl e))
    where
      by : Sorted j → BehindKey (j + 1)
      by (signed y) = let z : true ≡ false = sym y.opens ∙ key_mark (LParen ∷ LAngle ∷ []) (Kind g j) refl e in clash (cc)
      by (newly y k) = let z : true ≡ false = ap (among (New ∷ Readonly ∷ [])) (sym k) ∙ n in clash (cc)
      by (marked y k) = let z : true ≡ false = ap (among (New ∷ Readonly ∷ [])) (sym k) ∙ n in clash (cc)
      by (keyed y k) = record { before = j; at = refl; key = y; named = e }

  -- No member goes on with what stands there or begins with it.
  pub lone_never : (j : ℕ) → Place j → not (begins (Kind g j) or follows (Kind g j)) ≡ true → ⊥
  lone_never j x e = by (begins (Kind g j)) (follows (Kind g j)) refl refl (not-true (begins (Kind g j) or follows (Kind g j)) e)
    where
      by : (b f : Bool) → begins (Kind g j) ≡ b → follows (Kind g j) ≡ f → b or f ≡ false → ⊥
      by true f i k m = clash (cc)
      by false true i k m = clash (cc)
      by false false i k m = on (sorted j x k)
        where
          on : Sorted j → ⊥
          on (signed y) = let z : true ≡ false = sym y.opens ∙ none_among begins (LParen ∷ LAngle ∷ []) (Kind g j) refl i in clash (cc)
          on (newly y n) = let z : true ≡ false = ap begins (sym n) ∙ i in clash (cc)
          on (marked y n) = let z : true ≡ false = ap begins (sym n) ∙ i in clash (cc)
          on (keyed y n) = unread y.same (no_key y.b y.readonly j y.w (On y.turns y.list) (no_begin (Kind g j) i))

  -- Behind a key no token on its line but a mark.
  pub line_never : (j : ℕ) → BehindKey j → Line g j ≡ true → follows (Kind g j) ≡ false → signs (Kind g j) ≡ false → ⊥
  line_never j x l f n = ⊎_elim (λ y. let z : true ≡ false = sym y.opens ∙ ap (λ (i : ℕ). signs (Kind g i)) (sym x.at) ∙ n in clash (cc)) (λ y. let z : true ≡ false = sym l ∙ ap (Line g) x.at ∙ y.fresh in clash (cc)) (key_on x.before x.key x.named (rw x.at at f))
