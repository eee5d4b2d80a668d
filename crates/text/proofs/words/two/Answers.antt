-- `text::words::two` meets its contract.
use Rattle.text.proofs.Lanes.{word_two}
use native.Mathlib.Omega.{arith}
use mathlib.Core.Path.{sym}
use Prim.Native.Nat.{◌+◌}
use Rattle.text.proofs.words.two.Goals as goal

pub overflow_cast-result : goal.overflow_cast-result
overflow_cast-result c = omega (arith, c.shared_slice_known-1.given c.args.at)

pub overflow_cast-result-2 : goal.overflow_cast-result-2
overflow_cast-result-2 c = omega (arith, c.shared_slice_known-1.given (c.args.at + 1))

pub overflow_mul-result : goal.overflow_mul-result
overflow_mul-result c = omega (arith, c.shared_slice_known-1.given (c.args.at + 1))

pub overflow_add-result-2 : goal.overflow_add-result-2
overflow_add-result-2 c = omega (arith, c.shared_slice_known-1.given c.args.at, c.shared_slice_known-1.given (c.args.at + 1))

pub returns : goal.returns
returns c = (sym (word_two c.args.s.now c.args.at c.requires), omega (arith, c.shared_slice_known-1.given c.args.at, c.shared_slice_known-1.given (c.args.at + 1)))
