-- `element::value::end` meets its contract.
use mathlib.Core.Path.{refl}
use native.Mathlib.Omega.{arith}
use Rattle.element.proofs.Quotes.{ends_at, past_end, value-past}
use Rattle.element.proofs.value.end.Goals as goal

pub returns-then-i-s : goal.returns-then-i-s
returns-then-i-s c = record { on_1 = λ h. omega (arith, c.quote-i.ensures.low); on_2 = omega arith; tells = ends_at _ _ c.quote-i.ensures (omega arith) refl }

pub returns-else-i-s : goal.returns-else-i-s
returns-else-i-s c = record { on_1 = λ h. h; on_2 = omega arith; tells = ends_at _ _ c.quote-i.ensures (omega arith) (past_end _ _ c.if-i-s.false) }

pub returns-else-at-s : goal.returns-else-at-s
returns-else-at-s c = record { on_1 = λ h. h; on_2 = omega arith; tells = λ v e l q. absurd (omega (arith, c.if-at-s.false, (value-past c.args.s.now c.args.at q).0)) }
