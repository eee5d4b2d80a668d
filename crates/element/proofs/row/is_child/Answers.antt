use Rattle.element.proofs.Rows.{too_short, two_bytes}
use Rattle.rules.proofs.Tests.{clash}
use native.Mathlib.Omega.{arith}
use Rattle.element.proofs.row.is_child.Goals as goal

pub returns-then-s-at-lt2 : goal.returns-then-s-at-lt2
returns-then-s-at-lt2 c = (too_short c.args.s.now c.args.at c.if-s-at-lt2.true, λ e. clash (cc))

pub returns : goal.returns
returns c =
    (two_bytes c.args.s.now c.args.at c.if-s-at-lt2.false, λ e. omega (arith, c.if-s-at-lt2.false))
