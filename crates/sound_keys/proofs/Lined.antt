-- Reading by forms in line is reading by the forms.
use mathlib.Core.Path.{◌≡◌, refl, sym, ap, ap₂, ◌∙◌}
use mathlib.Core.Bool.{Bool, true, false}
use Prim.Native.Nat.{ℕ, zero, suc, ◌+◌}
use lib.ListN.{drop}
use Rattle.keys.specs.Bits.{Bits, Field, short, field, take_field}
use Rattle.keys.specs.Form.{Form, one, Grammar, is_never}
use Rattle.keys.specs.Lines.{in_line, lined}
use Rattle.key_parts.proofs.Lines.{Fine, never_fine, one_fine, word_fine, child_fine, choose_fine, both_fine, never_line}
use Rattle.differs.specs.Content.{Content, ends, chooses}
use Rattle.sound_keys.specs.Sound.{Scan, reads, fails, after, then_read, as_node, read_allowed, read_whole, read_form, read_node}
use Rattle.sound_keys.proofs.Checking.{join_ends, after_ends, then_after}

then_then : (x : Scan) (k m : ℕ → Scan) → then_read x (λ e. then_read (k e) m) ≡ then_read (then_read x k) m
then_then (reads c e) k m = sym (then_after c (k e) m)
then_then (fails n b) k m = refl

then_one : (x : Scan) → then_read x (λ e. reads ends e) ≡ x
then_one (reads c e) = ap (λ (y : Content). reads y e) (join_ends c)
then_one (fails n b) = refl

module _ (bs : Bits) (X : ℕ → ℕ → Scan) where
  line_read : {f : Form} {n : ℕ} → Fine f n → (g : Form) → is_never g ≡ false → (a : ℕ) → read_form bs X (in_line f g) a ≡ then_read (read_form bs X f a) (λ e. read_form bs X g e)
  line_read never_fine g z a = refl
  line_read one_fine g z a = sym (after_ends (read_form bs X g a))
  line_read word_fine g z a = refl
  line_read child_fine g z a = refl
  line_read (choose_fine {w = w} {fs = fs} m l k) g z a = by (take_field w (drop a bs)) (λ t. line_read (k t) g z (a + w))
    where
      K : ℕ → Scan
      K t = after (chooses t ends) (read_form bs X (fs t) (a + w))

      K' : ℕ → Scan
      K' t = after (chooses t ends) (read_form bs X (in_line (fs t) g) (a + w))

      choices : (t : ℕ) → read_form bs X (in_line (fs t) g) (a + w) ≡ then_read (read_form bs X (fs t) (a + w)) (λ e. read_form bs X g e)
          → (b : Bool) → read_allowed a K' t b ≡ then_read (read_allowed a K t b) (λ e. read_form bs X g e)
      choices t i true = refl
      choices t i false = ap (after (chooses t ends)) i ∙ sym (then_after (chooses t ends) (read_form bs X (fs t) (a + w)) (λ e. read_form bs X g e))

      by : (y : Field) → ((t : ℕ) → read_form bs X (in_line (fs t) g) (a + w) ≡ then_read (read_form bs X (fs t) (a + w)) (λ e. read_form bs X g e))
          → read_whole a (λ t. in_line (fs t) g) K' y ≡ then_read (read_whole a fs K y) (λ e. read_form bs X g e)
      by short i = refl
      by (field t r) i = ap (read_allowed a K' t) (never_line (k t) g z) ∙ choices t (i t) (is_never (fs t))
  line_read (both_fine {f = f} {g = h} i j l x y p q) g z a =
      line_read p (in_line h g) (never_line q g z ∙ y) a ∙ ap (then_read (read_form bs X f a)) (λ o e. line_read q g z e o)
      ∙ then_then (read_form bs X f a) (λ e. read_form bs X h e) (λ e. read_form bs X g e)

module _ (bs : Bits) (G : Grammar) (n : ℕ) (fine : (c t : ℕ) → Fine (G.row c t) n) where
  lined_choice : (c a : ℕ) (K K' : ℕ → Scan) → ((t : ℕ) → K t ≡ K' t) → (y : Field) → read_whole a ((lined G).row c) K y ≡ read_whole a (G.row c) K' y
  lined_choice c a K K' i short = refl
  lined_choice c a K K' i (field t r) = ap₂ (λ (k : ℕ → Scan) (b : Bool). read_allowed a k t b) (λ j u. i u j) (never_line (fine c t) one refl)

  -- A node in line is read as the node.
  pub lined_read : (h c a : ℕ) → read_node bs (lined G) h c a ≡ read_node bs G h c a
  lined_read zero c a = lined_choice c a _ _ (λ t. refl) (take_field (G.tag_width c) (drop a bs))
  lined_read (suc h) c a =
      ap (as_node a)
      (lined_choice c a _ _ (λ t. ap (after (chooses t ends)) (under (λ c₁ a₁. lined_read h c₁ a₁) t)) (take_field (G.tag_width c) (drop a bs)))
    where
      under : ((c₁ a₁ : ℕ) → read_node bs (lined G) h c₁ a₁ ≡ read_node bs G h c₁ a₁) → (t : ℕ)
          → read_form bs (read_node bs (lined G) h) (in_line (G.row c t) one) (a + G.tag_width c) ≡ read_form bs (read_node bs G h) (G.row c t) (a + G.tag_width c)
      under ih t =
          line_read bs (read_node bs (lined G) h) (fine c t) one refl (a + G.tag_width c)
          ∙ then_one (read_form bs (read_node bs (lined G) h) (G.row c t) (a + G.tag_width c))
          ∙ ap (λ (Y : ℕ → ℕ → Scan). read_form bs Y (G.row c t) (a + G.tag_width c)) (λ i c₁ a₁. ih c₁ a₁ i)
