-- `interval::list::write_list` meets its contract. The loop's invariant: the first k stretches are written.
use Rattle.std.proofs.Common.{◌≡◌, ◌*◌, length, take}
use Rattle.rules.specs.Services.{overwrite}
use Rattle.interval.proofs.Writing.{list_bytes}
use Rattle.interval.proofs.list.write_list.Given as goal

abbrev pub invariant-loop-k : goal.invariant-loop-k
invariant-loop-k l = (l.out ≡ overwrite l.initial.out (list_bytes (take l.k l.v-items))) × (length (list_bytes (take l.k l.v-items)) ≡ 32 * l.k)
