-- `rigcactus::typed_fault` meets its contract.
use Rattle.rigcactus.proofs.Held.{allowed_or_typeless}
use Rattle.rigcactus.proofs.TypedFaults.{fault_allowed, fault-other}
use Rattle.rigcactus.proofs.typed_fault.Goals as goal

pub returns-then-allowed : goal.returns-then-allowed
returns-then-allowed c = λ shift input may h told. fault_allowed may shift input (allowed_or_typeless c.args.checked h may told) h.fault c.if-allowed.true

pub returns : goal.returns
returns c = λ shift input may h told. fault-other may shift input (allowed_or_typeless c.args.checked h may told) h.fault c.if-allowed.false c.first.ensures
