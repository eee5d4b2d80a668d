use borrow.Author.Tests.{not-true, eqb-false}
use Rattle.element.proofs.Rows.{content-past, nothing-past, content-within}
use Rattle.rules.proofs.Tests.{both_true}
use lib.Dec.{eqb}
use mathlib.Core.Bool.{not}
use Prim.Native.Nat.{◌-◌}
use native.Mathlib.Omega.{arith}
use Rattle.element.proofs.row.past_element.Goals as goal

pub overflow_sub-depth : goal.overflow_sub-depth
overflow_sub-depth c =
    let d = eqb-false c.args.depth 0 (not-true (eqb c.args.depth 0) (both_true c.args.tag.full (not (eqb c.args.depth 0)) c.if-tag-depth.true).1) in omega (arith, d)

pub past_end_tag-requires : goal.past_end_tag-requires
past_end_tag-requires c =
    record { fact_1 = (content-within (c.args.depth - 1) c.read_content-i.ensures).1; fact_2 = c.requires.name; fact_3 = c.requires.past }

pub returns-then-tag-depth : goal.returns-then-tag-depth
returns-then-tag-depth c =
    let w = content-within (c.args.depth - 1) c.read_content-i.ensures in record { within = (omega (arith, w.0, c.past_end_tag.ensures.within.0), c.past_end_tag.ensures.within.1); tells = λ v after x. let (k, y) = content-past v after c.args.tag (both_true c.args.tag.full (not (eqb c.args.depth 0)) c.if-tag-depth.true).0 c.read_content-i.ensures x in c.past_end_tag.ensures.tells k after y }

pub returns : goal.returns
returns c = record { within = (omega arith, c.requires.end); tells = λ v after x. nothing-past v after c.args.tag c.if-tag-depth.false x }
