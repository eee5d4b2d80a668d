-- `printing::term::put_tag` meets its contract.
use native.Mathlib.Omega.{arith}
use Rattle.printing.specs.Terms.{stretch_meant, tag_text}
use Rattle.writer.proofs.Placing.{put_both}
use Rattle.printing.proofs.Terms.{tag-length}
use Rattle.printing.proofs.term.put_tag.Goals as goal

pub put-a-requires : goal.put-a-requires
put-a-requires c = omega (arith, c.requires, tag-length (stretch_meant c.args.s))

pub put_flag-b-requires : goal.put_flag-b-requires
put_flag-b-requires c = omega (arith, c.requires, tag-length (stretch_meant c.args.s), c.put-a.ensures.next_is, c.put-a.auto.out)

pub put_flag-c-requires : goal.put_flag-c-requires
put_flag-c-requires c = omega (arith, c.requires, tag-length (stretch_meant c.args.s), c.put-a.ensures.next_is, c.put-a.auto.out, c.put_flag-b.ensures.next_is, c.put_flag-b.auto.out)

pub put-requires : goal.put-requires
put-requires c = omega (arith, c.requires, tag-length (stretch_meant c.args.s), c.put-a.ensures.next_is, c.put-a.auto.out, c.put_flag-b.ensures.next_is, c.put_flag-b.auto.out, c.put_flag-c.ensures.next_is, c.put_flag-c.auto.out)

pub returns : goal.returns
unfolding tag_text
returns c = put_both (put_both (put_both c.put-a.ensures c.put_flag-b.ensures) c.put_flag-c.ensures) c.put.ensures
