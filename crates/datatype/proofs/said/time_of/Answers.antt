-- `datatype::said::time_of` meets its contract.
use mathlib.Core.Path.{sym, ◌∙◌, ap}
use mathlib.Core.Bool.{not}
use borrow.Author.Tests.{ne_eqb}
use native.Mathlib.Omega.{arith}
use Rattle.element.proofs.Asked.{absent, present}
use Rattle.datatype.proofs.said.time_of.Goals as goal

pub time_at-time-requires : goal.time_at-time-requires
time_at-time-requires c = c.requires.placed 0

pub returns-then-flavor-eq0 : goal.returns-then-flavor-eq0
returns-then-flavor-eq0 c = λ l t.
    let (fault, said) = c.time_at-time.ensures _ (t.placed 0 (omega arith)) in
    (fault, rw (absent (t.placed 1 (omega arith)) c.if-flavor-eq0.true) said)

pub flavor_said-requires : goal.flavor_said-requires
flavor_said-requires c = omega (arith, c.requires.placed 1)

pub returns : goal.returns
returns c = λ l t.
    let (fault, said) = c.time_at-time.ensures _ (t.placed 0 (omega arith)) in
    let p = t.placed 1 (omega arith) in
    (fault, rw (sym (present p) ∙ ap not (ne_eqb _ 0 c.if-flavor-eq0.false)) (c.flavor_said.ensures _ p))
