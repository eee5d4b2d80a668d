-- What the code's answers mean, in the words of the rules ("Yes, no, unknown").
use Rattle.std.specs.Prelude.{Bool, cond, Option, Some, None}
use Rattle.rules.specs.Refusal.{TYPE}
use Rattle.rules.specs.Comparison.{Answer as RulesAnswer, Yes as yes, No as no, Unknown as unknown}
use Rattle.rules.specs.Services.{Compared as RulesCompared, compared, refused_first, refused_second}
use Rattle.comparison.specs.declared.Answer.{Answer}
use Rattle.comparison.specs.declared.Answer.TheVariants.{Yes, No, Unknown}

abbrev pub answer_meant : Answer → RulesAnswer
answer_meant Yes = yes
answer_meant No = no
answer_meant Unknown = unknown

-- records that are not compared are TYPE against the second; `Services.compared_number` has the number of each
abbrev pub compared_meant : Option Answer → RulesCompared
compared_meant (Some a) = compared (answer_meant a)
compared_meant None = refused_second TYPE

-- unknown in place of an answer, where a value is null
abbrev pub unknown_if : (null : Bool) → RulesCompared → RulesCompared
unknown_if null (compared a) = compared (cond null unknown a)
unknown_if null (refused_first r) = refused_first r
unknown_if null (refused_second r) = refused_second r
