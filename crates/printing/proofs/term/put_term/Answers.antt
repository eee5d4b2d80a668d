-- `printing::term::put_term` meets its contract.
use native.Mathlib.Omega.{arith}
use Rattle.rules.specs.Printing.{term_text}
use Rattle.writer.proofs.Placing.{put_both}
use Rattle.printing.specs.Terms.{stretch_meant, tag_text}
use Rattle.printing.proofs.Terms.{term_sizes, bounds_writable}
use Rattle.printing.proofs.term.put_term.Goals as goal

pub put_tag-a-requires : goal.put_tag-a-requires
put_tag-a-requires c = omega (arith, term_sizes (stretch_meant c.args.s), c.requires.fact_2)

pub put_bound-b-requires : goal.put_bound-b-requires
put_bound-b-requires c = record { fact_1 = (bounds_writable (stretch_meant c.args.s) c.requires.fact_1).0; fact_2 = omega (arith, term_sizes (stretch_meant c.args.s), c.requires.fact_2, c.put_tag-a.ensures.next_is, c.put_tag-a.auto.out) }

pub put_bound-c-requires : goal.put_bound-c-requires
put_bound-c-requires c = record { fact_1 = (bounds_writable (stretch_meant c.args.s) c.requires.fact_1).1; fact_2 = omega (arith, term_sizes (stretch_meant c.args.s), c.requires.fact_2, c.put_tag-a.ensures.next_is, c.put_tag-a.auto.out, c.put_bound-b.ensures.next_is, c.put_bound-b.auto.out) }

pub put-requires : goal.put-requires
put-requires c = omega (arith, term_sizes (stretch_meant c.args.s), c.requires.fact_2, c.put_tag-a.ensures.next_is, c.put_tag-a.auto.out, c.put_bound-b.ensures.next_is, c.put_bound-b.auto.out, c.put_bound-c.ensures.next_is, c.put_bound-c.auto.out)

pub returns : goal.returns
unfolding term_text tag_text
returns c = put_both (put_both (put_both c.put_tag-a.ensures c.put_bound-b.ensures) c.put_bound-c.ensures) c.put.ensures
