-- `comparison::times::compare_flagged` meets its contract.
use Rattle.datatype.specs.Bounds.{endpoint_meant}
use Rattle.comparison.proofs.Answers.{both_tests}
use Rattle.comparison.proofs.Flags.{flags_where}
use Rattle.comparison.proofs.times.compare_flagged.Goals as goal

pub returns : goal.returns
returns c =
    rw (c.also.ensures, c.compare_endpoints.ensures, c.answer_if.ensures)
    (flags_where c.args.flags (endpoint_meant c.args.a) (endpoint_meant c.args.b)
    (both_tests c.is_valued.ensures c.is_valued-2.ensures))
