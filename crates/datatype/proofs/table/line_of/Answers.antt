-- `datatype::table::line_of` meets its contract: each kind's line, by the rules' line.
use Rattle.rules.specs.Types.{line_of}
use borrow.Author.Rules.{rules}
use Rattle.datatype.proofs.table.line_of.Goals as goal

pub returns-in-Ts : goal.returns-in-Ts
unfolding line_of
returns-in-Ts c = search rules

pub returns-in-IvlTs : goal.returns-in-IvlTs
unfolding line_of
returns-in-IvlTs c = search rules

pub returns-in-QsuTs : goal.returns-in-QsuTs
unfolding line_of
returns-in-QsuTs c = search rules

pub returns-in-QsiTs : goal.returns-in-QsiTs
unfolding line_of
returns-in-QsiTs c = search rules

pub returns-in-QsdTs : goal.returns-in-QsdTs
unfolding line_of
returns-in-QsdTs c = search rules

pub returns-in-Mo : goal.returns-in-Mo
unfolding line_of
returns-in-Mo c = search rules

pub returns-in-Ii : goal.returns-in-Ii
unfolding line_of
returns-in-Ii c = search rules

pub returns-in-Cd : goal.returns-in-Cd
unfolding line_of
returns-in-Cd c = search rules

pub returns-in-En : goal.returns-in-En
unfolding line_of
returns-in-En c = search rules

pub returns-in-DisplayName : goal.returns-in-DisplayName
unfolding line_of
returns-in-DisplayName c = search rules

pub returns-in-Part : goal.returns-in-Part
unfolding line_of
returns-in-Part c = search rules
