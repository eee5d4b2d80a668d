-- `writer::put_pair` meets its contract.
use native.Mathlib.Omega.{arith}
use mathlib.Core.Path.{refl}
use lib.ListN.{length-set}
use Rattle.rules.proofs.Digits.{digits_of-length}
use Rattle.writer.proofs.Placing.{pair_put}
use Rattle.writer.proofs.put_pair.Goals as goal

pub bounds-out-at-2 : goal.bounds-out-at-2
bounds-out-at-2 c = rw length-set (omega arith)

pub returns : goal.returns
returns c = record {
  value = refl;
  put = record {
    room = omega (arith, digits_of-length 2 c.args.n);
    next_is = omega (arith, digits_of-length 2 c.args.n);
    bytes_are = pair_put c.args.at c.args.n c.args.out.now c.requires.fact_1 c.requires.fact_2;
  };
}
