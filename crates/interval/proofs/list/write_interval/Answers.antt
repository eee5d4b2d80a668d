-- `interval::list::write_interval` meets its contract.
use Rattle.std.proofs.Common.{◌∙◌, arith}
use Rattle.interval.specs.Writing.{bound_bytes}
use Rattle.writer.proofs.Placing.{placed-both}
use Rattle.interval.proofs.Writing.{bound_length}
use Rattle.interval.proofs.list.write_interval.Goals as goal

pub returns : goal.returns
returns c =
    let v = c.args.v in
    c.write_bound-2.ensures
    ∙ rw c.write_bound.ensures (placed-both c.args.at 16 (bound_bytes v.low) (bound_bytes v.high) c.args.out.now (bound_length v.low c.requires.fact_1) (omega arith))
