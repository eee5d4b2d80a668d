-- What the sides of two intervals say, in the words of the rules ("Yes, no, unknown").
use Rattle.std.specs.Prelude.{Bool, true, false}
use Rattle.rules.specs.Invariants.{Endpoint, valued, infinite, unknown}

-- flags are compared where both sides are so
abbrev pub is_valued : Endpoint → Bool
is_valued (valued m) = true
is_valued infinite = false
is_valued unknown = false
