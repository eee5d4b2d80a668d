-- `printing::term::put_bound` meets its contract.
use mathlib.Core.Path.{ap}
use native.Mathlib.Omega.{arith}
use lib.ListN.{length}
use Rattle.printing.specs.Terms.{side_of}
use Rattle.printing.proofs.Terms.{valued}
use Rattle.printing.proofs.term.put_bound.Goals as goal

pub put_infinite-requires : goal.put_infinite-requires
put_infinite-requires c = rw c.in-Unbounded.is at c.requires.fact_2

pub returns-in-Unbounded : goal.returns-in-Unbounded
returns-in-Unbounded c = rw c.in-Unbounded.is c.put_infinite.ensures

pub put_value-requires : goal.put_value-requires
put_value-requires c =
    let v = valued (side_of c.args.side) c.args.b c.in-Open.t c.in-Open.is c.requires.fact_1 in
    record { fact_1 = v.small; fact_2 = omega (arith, c.requires.fact_2, ap length v.text) }

pub returns-in-Open : goal.returns-in-Open
returns-in-Open c = rw (valued (side_of c.args.side) c.args.b c.in-Open.t c.in-Open.is c.requires.fact_1).text c.put_value.ensures
