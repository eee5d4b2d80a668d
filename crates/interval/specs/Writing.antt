-- The numbers of a bound, and the bytes that list it ("The lent list").
use Rattle.std.specs.Prelude.{ℕ, ◌+◌, ◌-◌, ◌%◌, ◌^◌, List, ◌++◌}
use mathlib.Core.List.{flat_map}
use Rattle.rules.specs.Timestamp.{before_start}
use Rattle.rules.specs.Listing.{bound_numbers}
use Rattle.rules.specs.Services.{eight_bytes}
use Rattle.interval.specs.declared.Bound.{Bound}
use Rattle.interval.specs.declared.Bound.TheVariants.{Unbounded, Open, Closed}
use Rattle.interval.specs.declared.Interval.{Interval}
use Rattle.interval.specs.Meaning.{bound_of}

-- a bound's kind, and the number of its tick in two's complement
abbrev pub kind_of : Bound → ℕ
kind_of Unbounded = 0
kind_of (Open n) = 1
kind_of (Closed n) = 2

abbrev pub wrapped : ℕ → ℕ
wrapped n = (n + (2 ^ 64 - before_start)) % 2 ^ 64

abbrev pub bits_of : Bound → ℕ
bits_of Unbounded = 0
bits_of (Open n) = wrapped n
bits_of (Closed n) = wrapped n

-- the bytes that list a bound, and an interval
abbrev pub bound_bytes : Bound → List ℕ
bound_bytes b = flat_map eight_bytes (bound_numbers (bound_of b))

abbrev pub interval_bytes : Interval → List ℕ
interval_bytes v = bound_bytes v.low ++ bound_bytes v.high
