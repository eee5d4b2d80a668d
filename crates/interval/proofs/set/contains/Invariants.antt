-- `interval::set::contains` meets its contract. The loop's invariant: what is asked of the set is asked of the stretches that are left.
use Rattle.std.proofs.Common.{◌≡◌, map, drop}
use Rattle.rules.specs.Sets.{is_in}
use Rattle.interval.specs.Meaning.{interval_of, place_of}
use Rattle.interval.proofs.set.contains.Given as goal

abbrev pub invariant-loop-v : goal.invariant-loop-v
invariant-loop-v l = is_in (map interval_of l.v-items) (place_of l.fn.n l.fn.gap) ≡ is_in (map interval_of (drop l.v-index l.v-items)) (place_of l.fn.n l.fn.gap)
