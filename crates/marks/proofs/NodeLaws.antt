-- What the rules' making of a node comes to, by its lists, its height and the room.
use mathlib.Core.Path.{◌≡◌, sym, ap, ap₂, ◌∙◌}
use mathlib.Core.List.{List, [], ◌∷◌, ◌++◌}
use Prim.Native.Nat.{ℕ, ◌+◌, ◌-◌, ◌*◌, ◌^◌, ◌≤◌, ◌<◌, max}
use native.Mathlib.Omega.{arith}
use lib.ListN.{length, set}
use borrow.Author.Tests.{lt-ltb, le-ltb, le-leb, lt-leb}
use Rattle.words.specs.Limits.{tallest, longest}
use Rattle.keys.specs.Form.{height}
use Rattle.keys.specs.Key.{node_table}
use Rattle.keys.specs.Limits.{too_tall, no_room, tags}
use Rattle.keys.specs.Placed.{Placed, tree, bare}
use Rattle.keys.specs.Store.{Run, done, plant}
use Rattle.rules.specs.Refusal.{too_long}
use Rattle.rules.specs.State.{Given, State, read, refuse, make, end}
use Rattle.marks.specs.Laid.{heights, Was, Built, Shape}
use Rattle.marks.specs.Node.{Makes, MakesList, Links}
use Rattle.marks.specs.Notes.{refused_at}
use Rattle.keys.specs.Words.{first_nodes}
use Rattle.words.specs.Cursor.{end_byte}
use Rattle.marks.proofs.RunLaws.{heights_plant, heights_skeleton}
use Rattle.marks.proofs.BuiltLaws.{built_first, built_next, stands_node}
use Rattle.marks.proofs.Answers.{says_read, says_same, says_as, says_refused}
use Rattle.marks.specs.State.{view, given_of, used_mark}
use Rattle.marks.specs.declared.state.Given as code
use Rattle.marks.specs.declared.state.Mark.{Mark}
use Rattle.marks.specs.Told.{Answer}
use Rattle.marks.specs.declared.state.Begin.{Begin}
use Rattle.marks.specs.declared.state.Kids.{Kids}

-- One node more is in use.
abbrev pub one_more : State → State
one_more s = record { at = s.at; half = s.half; nodes = s.nodes + 1; notes = s.notes; tally = s.tally }

module _ (g : Given) (t : Placed) (s : State) where
  pub make_tall : tallest < height (bare t) → make g [] t s ≡ refuse too_tall s.at s.half
  unfolding make
  make_tall h = rw (lt-ltb tallest (height (bare t)) h)

  pub make_full : height (bare t) ≤ tallest → g.room ≤ s.nodes → make g [] t s ≡ refuse no_room s.at s.half
  unfolding make
  make_full h r = rw (le-ltb tallest (height (bare t)) h, le-leb g.room s.nodes r)

  pub make_done : height (bare t) ≤ tallest → s.nodes < g.room → make g [] t s ≡ read t (one_more s)
  unfolding make
  make_done h r = rw (le-ltb tallest (height (bare t)) h, lt-leb g.room s.nodes r)

  -- A list that is too long is looked at first.
  pub make_long : (n : ℕ) → longest < n → make g (n ∷ []) t s ≡ refuse too_long s.at s.half
  unfolding make
  make_long n h = rw (lt-ltb longest n h)

  pub make_short : (n : ℕ) → n ≤ longest → make g (n ∷ []) t s ≡ make g [] t s
  unfolding make
  make_short n h = rw (le-ltb longest n h)

-- A node is one higher than its children.
pub shape_high : {c tag choices : ℕ} {p : Placed} {B : Was} {t : Run} {k : Kids} {used named noted : ℕ} {N M O : List ℕ} (first end : ℕ)
    → Built B t k used named noted N M O → Shape c tag p t choices → height (bare (tree tag first end p)) ≡ k.high + 1
shape_high {c} {tag} {choices} {p} {B} {t} {k} first end b s =
    let r : Run = plant node_table (node_table.row c tag) p done in
    let e : height (bare p) ≡ heights r = (let z : height (bare p) ≡ max (height (bare p)) 0 = omega arith in z) ∙ sym (heights_plant node_table (node_table.row c tag) p done) in
    let h : height (bare p) ≡ k.high = e ∙ sym (heights_skeleton r) ∙ ap heights s.same ∙ heights_skeleton t ∙ sym b.high_is in
    omega (arith, h)

module _ (W : List ℕ) (given : code.Given) (b : Begin) (choices : ℕ) (k : Kids) (m : Mark) (N : List ℕ) where
  -- The node that is made, of any text.
  abbrev whole : (text : List ℕ) (tag : ℕ) (p : Placed) (O : List ℕ) → Placed
  whole text tag p O = tree tag b.first (end (given_of text W given) (view m O)) p

  pub makes_tall : {a : Answer} → a ≡ refused_at too_tall m → tallest ≤ k.high → Makes W given b choices k m N a N
  makes_tall e h text c B t tag p M O d n s =
      let high = shape_high b.first (end (given_of text W given) (view m O)) d s in
      says_as e (says_refused 5 (make_tall (given_of text W given) (whole text tag p O) (view m O) (omega (arith, high))))

  pub makes_full : {a : Answer} → a ≡ refused_at no_room m → k.high < tallest → given.room ≤ m.used → Makes W given b choices k m N a N
  makes_full e h r text c B t tag p M O d n s =
      let high = shape_high b.first (end (given_of text W given) (view m O)) d s in
      says_as e (says_refused 7 (make_full (given_of text W given) (whole text tag p O) (view m O) (omega (arith, high)) r))

  pub makes_done : {last : ℕ} {N' : List ℕ} → b.first < 2 ^ 32 → k.high < tallest → m.used < given.room → last ≡ end_byte W m.at m.half
      → first_nodes N' (m.used + 1) ≡ first_nodes N m.used ++ (choices ∷ (b.first + 2 ^ 32 * last) ∷ (k.first + 2 ^ 32 * b.name) ∷ 0 ∷ [])
      → Makes W given b choices k m N (record { why = 0; high = k.high + 1; m = used_mark m }) N'
  makes_done {last} {N'} low h r l e text c B t tag p M O d n s =
      let high = shape_high b.first (end (given_of text W given) (view m O)) d s in
      let stored : first_nodes N' (m.used + 1) ≡ first_nodes N m.used ++ (choices ∷ (b.first + 2 ^ 32 * end_byte W m.at m.half) ∷ (k.first + 2 ^ 32 * B.named) ∷ 0 ∷ []) =
      e ∙ ap₂ (λ (x y : ℕ). first_nodes N m.used ++ (choices ∷ (b.first + 2 ^ 32 * x) ∷ (k.first + 2 ^ 32 * y) ∷ 0 ∷ [])) l n in
      says_read
      (record {
        tree = whole text tag p O;
        is = make_done (given_of text W given) (whole text tag p O) (view m O) (omega (arith, high)) r;
        stands = stands_node N' d s low stored;
      })

module _ (W : List ℕ) (given : code.Given) (b : Begin) (tag : ℕ) (k : Kids) (m : Mark) (N : List ℕ) where
  pub makes_long : {a : Answer} → a ≡ refused_at too_long m → longest < k.count → MakesList W given b tag k m N a N
  makes_long e h text B t p M O d n s =
      says_as e (says_refused 6 (make_long (given_of text W given) (whole W given b tag k m N text tag p O) (view m O) k.count h))

  pub makes_short : {a : Answer} {N' : List ℕ} → k.count ≤ longest → Makes W given b (tag + tags * k.count) k m N a N' → MakesList W given b tag k m N a N'
  makes_short h f text B t p M O d n s =
      says_same (make_short (given_of text W given) (whole W given b tag k m N text tag p O) (view m O) k.count h) (f text 0 B t tag p M O d n s)

-- ---- A child

module _ (k : Kids) (before used high : ℕ) (N : List ℕ) where
  pub links_first : k.high ≡ 0 → Links k before used high N (record { first = used - 1; count = k.count + 1; high = high }) N
  links_first z c B t u N₀ M₀ O₀ M O named noted named' noted' b s i h e = built_first b high (k.count + 1) i h e z

  pub links_next : {most : ℕ} {N' : List ℕ} → (k.high ≡ 0 → ⊥) → used * 4 ≤ length N → most ≡ max k.high high → N' ≡ set N (4 * (before - 1) + 3) (used - 1)
      → Links k before used high N (record { first = k.first; count = k.count + 1; high = most }) N'
  links_next {most} {N'} z r w a c B t u N₀ M₀ O₀ M O named noted named' noted' b s i h e =
      rw (w, a) (built_next b high (k.count + 1) i h e (let p : 0 < k.high = omega arith in p) (omega arith) s)
