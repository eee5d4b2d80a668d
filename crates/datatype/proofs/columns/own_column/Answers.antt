-- `datatype::columns::own_column` meets its contract.
use Rattle.rules.specs.Types.{line_of}
use Rattle.datatype.proofs.columns.own_column.Goals as goal

pub returns-in-Ts : goal.returns-in-Ts
unfolding line_of
returns-in-Ts c = rw (c.in-Ts.is, c.takes.ensures)

pub returns-in-IvlTs : goal.returns-in-IvlTs
unfolding line_of
returns-in-IvlTs c = rw (c.in-IvlTs.is, c.takes-in-IvlTs.ensures, c.takes-high.ensures)

pub returns-in-QsuTs : goal.returns-in-QsuTs
unfolding line_of
returns-in-QsuTs c = rw c.in-QsuTs.is

pub returns-in-QsiTs : goal.returns-in-QsiTs
unfolding line_of
returns-in-QsiTs c = rw c.in-QsiTs.is

pub returns-in-QsdTs : goal.returns-in-QsdTs
unfolding line_of
returns-in-QsdTs c = rw c.in-QsdTs.is

pub returns-in-Mo : goal.returns-in-Mo
unfolding line_of
returns-in-Mo c = rw (c.in-Mo.is, c.takes-in-Mo.ensures, c.takes-currency.ensures)

pub returns-in-Ii : goal.returns-in-Ii
unfolding line_of
returns-in-Ii c = rw (c.in-Ii.is, c.takes-in-Ii.ensures, c.takes-extension.ensures)

pub returns-in-Cd : goal.returns-in-Cd
unfolding line_of
returns-in-Cd c =
    rw (c.in-Cd.is, c.takes-in-Cd.ensures, c.takes-system.ensures, c.takes-named.ensures, c.takes-version.ensures)

pub returns-in-En : goal.returns-in-En
unfolding line_of
returns-in-En c = rw c.in-En.is

pub returns-in-DisplayName : goal.returns-in-DisplayName
unfolding line_of
returns-in-DisplayName c = rw (c.in-DisplayName.is, c.takes-in-DisplayName.ensures)

pub returns-in-Part : goal.returns-in-Part
unfolding line_of
returns-in-Part c = rw (c.in-Part.is, c.takes-in-Part.ensures, c.takes-part.ensures, c.takes-qualifier.ensures)
