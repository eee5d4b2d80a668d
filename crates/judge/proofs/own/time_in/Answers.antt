use Rattle.judge.proofs.Times.{no_time}
use Rattle.judge.proofs.own.time_in.Goals as goal

pub returns-in-Ts : goal.returns-in-Ts
returns-in-Ts c = λ l t. let (a, b) = c.time_of.ensures l t in (λ e. a, rw c.in-Ts.is b)

pub returns : goal.returns
returns c = λ l t. no_time c.args.shift.minutes l c.args.kind c.in_default.not-Ts
