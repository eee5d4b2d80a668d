-- `interval::join::replace` meets its contract.
use Rattle.std.proofs.Common.{◌≡◌, ◌+◌, length, drop, set, ◌∙◌, arith, length-set}
use Rattle.std.proofs.lemmas.Slice.{take-put_mid, between_is}
use Rattle.interval.specs.Meaning.{used}
use Rattle.interval.proofs.Items.{length_mapped}
use Rattle.interval.proofs.Joining.{replace_start}
use Rattle.interval.proofs.join.replace.Goals as goal

pub returns : goal.returns
returns c =
    let a = c.args in
    let s = a.s in
    let g : length s.items ≡ 32 = search length_mapped in
    let e : c.copy_from_slice.new.self ≡ drop a.q (used s) = c.copy_from_slice.ensures.after ∙ between_is s.items a.q s.count in
    record {
      items_are = take-put_mid (a.p + 1) _ (set s.items a.p a.v) c.copy_from_slice.new.self _ (omega (arith, c.copy_from_slice.ensures.len, c.requires.fact_2)) (rw length-set (omega arith)) ∙ rw e (replace_start s a.p a.q a.v (omega arith) (omega arith) c.requires.fact_1 g);
      count_is = omega arith;
    }
