-- Tests that the definitions are made of. A test's second half is computed only where its first half asks for it.
use Rattle.std.specs.Prelude.{ℕ, zero, suc, Bool, true, false, List, [], ◌∷◌, leb, eqb}

infixr 30 ◌and◌
infixr 25 ◌or◌
abbrev pub ◌and◌ : Bool → Bool → Bool
true and b = b
false and b = false

abbrev pub ◌or◌ : Bool → Bool → Bool
true or b = true
false or b = b

-- one of two values, of which only the one that is chosen is computed
abbrev pub test : {A : Type 0} → Bool → (Unit {0} → A) → (Unit {0} → A) → A
test true a b = a tt
test false a b = b tt

-- k lies from a to b
abbrev pub between : ℕ → ℕ → ℕ → Bool
between a b k = leb a k and leb k b

-- k is among the numbers of a list
abbrev pub among : List ℕ → ℕ → Bool
among [] k = false
among (x ∷ l) k = eqb k x or among l k

-- two byte strings are the same
abbrev pub same : List ℕ → List ℕ → Bool
same [] [] = true
same [] (y ∷ t) = false
same (x ∷ s) [] = false
same (x ∷ s) (y ∷ t) = eqb x y and same s t

-- some number below n passes
abbrev pub some_below : ℕ → (ℕ → Bool) → Bool
some_below zero f = false
some_below (suc n) f = f n or some_below n f
