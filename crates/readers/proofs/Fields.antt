-- What equal structs of the code have in common, number by number.
use mathlib.Core.Path.{◌≡◌, ap}
use Rattle.marks.specs.declared.state.Mark.{Mark}
use Rattle.marks.specs.declared.state.Kids.{Kids}
use Rattle.marks.specs.Told.{Answer}
use Rattle.marks.specs.Told.{Listed}
use Rattle.functions.specs.Told.{Params}

-- Marks.
pub record SameMark (m q : Mark) : Type 0 where
  pub at : m.at ≡ q.at
  pub half : m.half ≡ q.half
  pub used : m.used ≡ q.used
  pub named : m.named ≡ q.named
  pub noted : m.noted ≡ q.noted

-- Children.
pub record SameKids (k l : Kids) : Type 0 where
  pub first : k.first ≡ l.first
  pub count : k.count ≡ l.count
  pub high : k.high ≡ l.high

-- Answers.
pub record SameAnswer (a b : Answer) : Type 0 where
  pub why : a.why ≡ b.why
  pub high : a.high ≡ b.high
  pub mark : SameMark a.m b.m

-- Lists.
pub record SameListed (a b : Listed) : Type 0 where
  pub why : a.why ≡ b.why
  pub kids : SameKids a.kids b.kids
  pub mark : SameMark a.m b.m

-- Parameters.
pub record SameParams (a b : Params) : Type 0 where
  pub why : a.why ≡ b.why
  pub count : a.count ≡ b.count
  pub bits : a.this.bits ≡ b.this.bits
  pub kids : SameKids a.kids b.kids
  pub mark : SameMark a.m b.m

-- Equal structs have them all in common.
pub same_mark : {m q : Mark} → m ≡ q → SameMark m q
same_mark e =
    record {
      at = ap (λ (x : Mark). x.at) e;
      half = ap (λ (x : Mark). x.half) e;
      used = ap (λ (x : Mark). x.used) e;
      named = ap (λ (x : Mark). x.named) e;
      noted = ap (λ (x : Mark). x.noted) e;
    }

pub same_kids : {k l : Kids} → k ≡ l → SameKids k l
same_kids e = record { first = ap (λ (x : Kids). x.first) e; count = ap (λ (x : Kids). x.count) e; high = ap (λ (x : Kids). x.high) e }
