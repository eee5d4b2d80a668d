-- What the code's sides and endpoints mean, in the words of the rules ("Types, after decoding the five references").
use Rattle.rules.specs.Invariants.{Side as RulesSide, low, high, Endpoint as RulesEndpoint, valued, infinite, unknown}
use Rattle.timestamp.specs.Moments.{moment_of}
use Rattle.datatype.specs.declared.bounds.Side.{Side}
use Rattle.datatype.specs.declared.bounds.Side.TheVariants.{Low, High}
use Rattle.datatype.specs.declared.bounds.Endpoint.{Endpoint}
use Rattle.datatype.specs.declared.bounds.Endpoint.TheVariants.{Valued, Infinite, Unknown}

abbrev pub side_meant : Side → RulesSide
side_meant Low = low
side_meant High = high

abbrev pub endpoint_meant : Endpoint → RulesEndpoint
endpoint_meant (Valued m) = valued (moment_of m)
endpoint_meant Infinite = infinite
endpoint_meant Unknown = unknown
