-- `comparison::compare_kind` meets its contract.
use Rattle.rules.specs.Comparison.{comparer_of}
use Rattle.comparison.proofs.compare_kind.Goals as goal

pub returns-in-Ts : goal.returns-in-Ts
unfolding comparer_of
returns-in-Ts c = λ v w after rest g h. rw (c.in-Ts.is, c.compare_times.ensures v w g.tells h.tells)

pub returns-in-IvlTs : goal.returns-in-IvlTs
unfolding comparer_of
returns-in-IvlTs c = λ v w after rest g h. rw (c.in-IvlTs.is, c.compare_intervals.ensures v w after rest g h)

pub returns-in-QsuTs : goal.returns-in-QsuTs
unfolding comparer_of
returns-in-QsuTs c = λ v w after rest g h. rw c.in-QsuTs.is

pub returns-in-QsiTs : goal.returns-in-QsiTs
unfolding comparer_of
returns-in-QsiTs c = λ v w after rest g h. rw c.in-QsiTs.is

pub returns-in-QsdTs : goal.returns-in-QsdTs
unfolding comparer_of
returns-in-QsdTs c = λ v w after rest g h. rw c.in-QsdTs.is

pub returns-in-Mo : goal.returns-in-Mo
unfolding comparer_of
returns-in-Mo c = λ v w after rest g h. rw (c.in-Mo.is, c.compare_money.ensures c.args.shift.minutes v w g.tells h.tells)

pub returns-in-Ii : goal.returns-in-Ii
unfolding comparer_of
returns-in-Ii c = λ v w after rest g h. rw (c.in-Ii.is, c.compare_identifiers.ensures c.args.shift.minutes v w g.tells h.tells)

pub returns-in-Cd : goal.returns-in-Cd
unfolding comparer_of
returns-in-Cd c = λ v w after rest g h. rw (c.in-Cd.is, c.compare_codes.ensures c.args.shift.minutes v w g.tells h.tells)

pub returns-in-En : goal.returns-in-En
unfolding comparer_of
returns-in-En c = λ v w after rest g h. rw (c.in-En.is, c.compare_names.ensures c.args.shift.minutes v w after rest g h)

pub returns-in-DisplayName : goal.returns-in-DisplayName
unfolding comparer_of
returns-in-DisplayName c = λ v w after rest g h. rw c.in-DisplayName.is

pub returns-in-Part : goal.returns-in-Part
unfolding comparer_of
returns-in-Part c = λ v w after rest g h. rw c.in-Part.is
