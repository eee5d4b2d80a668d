use Rattle.std.proofs.Common.{sym, ◌∙◌, arith}
use Rattle.interval.specs.Meaning.{place_of, used}
use Rattle.interval.proofs.Items.{nowhere, ticked-at, is_in-past}
use Rattle.interval.proofs.Members.{contains_here, contains_next}
use Rattle.interval.proofs.set.contains.Goals as goal

pub is_within-requires : goal.is_within-requires
is_within-requires c =
    let t = ticked-at (used c.args.s) c.loop-v.v-index nowhere c.requires.fact_1.ticked c.loop-v-test.true in
    record { fact_1 = t.0; fact_2 = t.1 }

pub returns-then-is_within : goal.returns-then-is_within
returns-then-is_within c =
    sym (c.loop-v.invariant ∙ contains_here (used c.args.s) c.requires.fact_1.ticked c.args.n c.args.gap c.requires.fact_2 c.loop-v.v-index c.loop-v-test.true nowhere
    c.place_number-x.result c.place_number-x.ensures (sym c.is_within.ensures ∙ c.if-is_within.true))

pub loop-v-preserved : goal.loop-v-preserved
loop-v-preserved c =
    c.loop-v.invariant ∙ contains_next (used c.args.s) c.requires.fact_1.ticked c.args.n c.args.gap c.requires.fact_2 c.loop-v.v-index c.loop-v-test.true nowhere
    c.place_number-x.result c.place_number-x.ensures (sym c.is_within.ensures ∙ c.if-is_within.false)

pub returns : goal.returns
returns c = sym (c.loop-v.invariant ∙ is_in-past (used c.args.s) c.loop-v.v-index (place_of c.args.n c.args.gap) (omega arith))
