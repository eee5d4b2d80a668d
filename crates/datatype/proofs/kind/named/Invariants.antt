-- `datatype::kind::named` meets its contract. The loop's invariant: an answer on the types from here on is an answer on all.
use Rattle.std.proofs.Common.{◌≡◌, List, ℕ, ◌≤◌, length, drop}
use Rattle.rules.specs.Parsers.{ok}
use Rattle.rules.specs.Markup.{value}
use Rattle.datatype.specs.Meaning.{Names, kinds_of, named_among}
use Rattle.datatype.proofs.kind.named.Given as goal

abbrev pub invariant-loop-name : goal.invariant-loop-name
invariant-loop-name l = (l.name-index ≤ length l.types)
    × ((v after : List ℕ) → value (drop l.at l.s) ≡ ok v after → Names l.types → named_among (kinds_of (drop l.name-index l.types)) v ≡ named_among (kinds_of l.types) v)
