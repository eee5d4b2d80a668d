-- `judge::carried::others_fault` meets its contract.
use Rattle.datatype.specs.Tables.{standing_meant}
use Rattle.judge.proofs.Strange.{strange_counts}
use Rattle.judge.proofs.carried.others_fault.Goals as goal

pub returns : goal.returns
returns c = λ l o w. rw (c.refused_if.ensures, c.is_top.ensures, o, w, strange_counts (standing_meant c.args.standing) l)
