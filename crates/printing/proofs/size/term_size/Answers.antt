-- `printing::size::term_size` meets its contract.
use native.Mathlib.Omega.{arith}
use Rattle.rules.proofs.Pieces.{term_length, low-length, high-length}
use Rattle.printing.specs.Terms.{stretch_meant}
use Rattle.printing.proofs.Terms.{bounds_writable}
use Rattle.printing.proofs.size.term_size.Goals as goal

pub low_size-requires : goal.low_size-requires
low_size-requires c = (bounds_writable (stretch_meant c.args.s) c.requires).0

pub high_size-requires : goal.high_size-requires
high_size-requires c = (bounds_writable (stretch_meant c.args.s) c.requires).1

pub returns : goal.returns
returns c =
    let s = stretch_meant c.args.s in
    let w = bounds_writable s c.requires in
    omega (arith, c.low_size.ensures.0, c.high_size.ensures.0, term_length s c.requires, low-length s.low w.0, high-length s.high w.1)
