-- `judge::rule::breaks` meets its contract.
use mathlib.Core.Path.{ap}
use native.Mathlib.Omega.{arith}
use Rattle.rules.specs.Types.{line_of}
use Rattle.datatype.specs.Meaning.{kind_meant}
use Rattle.judge.proofs.rule.breaks.Goals as goal

pub breaks_part-requires : goal.breaks_part-requires
breaks_part-requires c = let in-text = c.requires.placed in record { fact_1 = omega (arith, in-text 0); fact_2 = omega (arith, in-text 13) }

pub returns-in-Ts : goal.returns-in-Ts
unfolding line_of
returns-in-Ts c = λ n l k t a d. rw (c.in-Ts.is, c.exactly_one.ensures, c.has-null.ensures _ l t, c.has-value.ensures _ l t)

pub returns-in-IvlTs : goal.returns-in-IvlTs
unfolding line_of
returns-in-IvlTs c = λ n l k t a d. rw (c.in-IvlTs.is, d (ap kind_meant c.in-IvlTs.is))

pub returns-in-QsuTs : goal.returns-in-QsuTs
unfolding line_of
returns-in-QsuTs c = λ n l k t a d. rw c.in-QsuTs.is

pub returns-in-QsiTs : goal.returns-in-QsiTs
unfolding line_of
returns-in-QsiTs c = λ n l k t a d. rw c.in-QsiTs.is

pub returns-in-QsdTs : goal.returns-in-QsdTs
unfolding line_of
returns-in-QsdTs c = λ n l k t a d. rw c.in-QsdTs.is

pub returns-in-Mo : goal.returns-in-Mo
unfolding line_of
returns-in-Mo c = λ n l k t a d.
    let null = c.has-null.ensures _ l t in
    let value = c.has-value.ensures _ l t in
    rw (c.in-Mo.is, c.exactly_one-in-Mo.ensures, null, value, c.has.ensures _ l t)

pub returns-in-Ii : goal.returns-in-Ii
unfolding line_of
returns-in-Ii c = λ n l k t a d. rw (c.in-Ii.is, c.has-null.ensures _ l t, c.has-in-Ii.ensures _ l t)

pub returns-in-Cd : goal.returns-in-Cd
unfolding line_of
returns-in-Cd c = λ n l k t a d. rw c.in-Cd.is (c.breaks_code.ensures _ n l k t a)

pub returns-in-En : goal.returns-in-En
unfolding line_of
returns-in-En c = λ n l k t a d. rw c.in-En.is

pub returns-in-DisplayName : goal.returns-in-DisplayName
unfolding line_of
returns-in-DisplayName c = λ n l k t a d. rw c.in-DisplayName.is

pub returns-in-Part : goal.returns-in-Part
unfolding line_of
returns-in-Part c = λ n l k t a d.
    let null = c.has-null.ensures _ l t in
    rw c.in-Part.is (c.breaks_part.ensures n l k null (t.placed 0 (omega arith)) (t.placed 13 (omega arith)))
