-- `element::tag::past_equals` meets its contract.
use native.Mathlib.Omega.{arith}
use Rattle.element.proofs.Quotes.{equals, valued, value_here}
use Rattle.element.proofs.tag.past_equals.Goals as goal
use Rattle.element.proofs.tag.past_equals.Goals.{then-i-s+else-value-s, else-i-s}

pub returns-then-value-s : goal.returns-then-value-s
returns-then-value-s c = value_here c.skip_space-i.ensures c.skip_space-value.ensures c.if-value-s.true

pub returns : goal.returns
returns c = record {
  low = omega arith;
  high = omega arith;
  past = λ n a left q. elim c.if-i-s.branch [
    | then-i-s+else-value-s w ↦ absurd (omega (arith, w.if-value-s.false, (valued c.skip_space-i.ensures w.skip_space-value.ensures n q).0))
    | else-i-s w ↦ absurd (omega (arith, w.if-i-s.false, (equals c.skip_space-i.ensures n q).0))
  ];
}
