-- What the code's refusals and verdicts mean, in the words of the rules.
use Rattle.std.specs.Prelude.{Result, Ok, Err}
use Rattle.std.proofs.Math.Option.{Option, none, some}
use Rattle.rules.specs.Refusal.{Refusal as Rule, OFFSET, TOO_LONG, NOT_UTF_8, MARKUP, TYPE, SHAPE, VALUE, DATE, CLOCK, ZONE, RULE, UNKNOWN_BOUND, TOO_MANY, NOT_WRITABLE, NO_ROOM, NO_ROW, TOTAL, DAMAGED, NO_DESK, DAY_FULL}
use Rattle.refusal.specs.declared.Refusal.{Refusal}
use Rattle.refusal.specs.declared.Refusal.TheVariants.{Offset, TooLong, NotUtf8, Markup, «Type» as TypeFault, Shape, Value, Date, Clock, Zone, Rule as RuleFault, UnknownBound, TooMany, NotWritable, NoRoom, NoRow, Total, Damaged, NoDesk, DayFull}

abbrev pub refusal_of : Refusal → Rule
refusal_of NoDesk = NO_DESK
refusal_of Damaged = DAMAGED
refusal_of DayFull = DAY_FULL
refusal_of Offset = OFFSET
refusal_of TooLong = TOO_LONG
refusal_of NotUtf8 = NOT_UTF_8
refusal_of Markup = MARKUP
refusal_of TypeFault = TYPE
refusal_of Shape = SHAPE
refusal_of Value = VALUE
refusal_of Date = DATE
refusal_of Clock = CLOCK
refusal_of Zone = ZONE
refusal_of RuleFault = RULE
refusal_of UnknownBound = UNKNOWN_BOUND
refusal_of TooMany = TOO_MANY
refusal_of NotWritable = NOT_WRITABLE
refusal_of NoRoom = NO_ROOM
refusal_of NoRow = NO_ROW
refusal_of Total = TOTAL

-- accepted is no fault
abbrev pub fault_of : Result (Unit {0}) Refusal → Option Rule
fault_of (Ok x) = none
fault_of (Err r) = some (refusal_of r)
