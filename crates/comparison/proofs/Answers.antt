-- Answers by tests.
use mathlib.Core.Path.{◌≡◌, sym, ◌∙◌}
use mathlib.Core.Bool.{Bool, true, false, ◌&&◌, ◌||◌, cond}
use Rattle.rules.specs.Comparison.{Answer, ◌also◌}

pub both_tests : {a b p q : Bool} → a ≡ p → b ≡ q → (a && b) ≡ (p && q)
both_tests e f = rw (e, f)

pub either_test : {a b p q : Bool} → a ≡ p → b ≡ q → (a || b) ≡ (p || q)
either_test e f = rw (e, f)

pub both-answers : {a b p q : Answer} → a ≡ p → b ≡ q → (a also b) ≡ (p also q)
both-answers e f = rw (e, f)

module _ {A : Type 0} {b p : Bool} (e : b ≡ p) where
  pub chosen : {x y : A} (z : A) → b ≡ true → x ≡ y → x ≡ cond p y z
  chosen z t h = rw (sym e ∙ t) h

  pub left_over : {x z : A} (y : A) → b ≡ false → x ≡ z → x ≡ cond p y z
  left_over y t h = rw (sym e ∙ t) h
