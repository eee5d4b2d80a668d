-- `comparison::texts::same_attribute` meets its contract.
use native.Mathlib.Omega.{arith}
use Rattle.rules.specs.Basics.{same}
use Rattle.element.proofs.Asked.{absent, standing}
use Rattle.comparison.proofs.Options.{lacks, left_absent, right_absent, both-present}
use Rattle.comparison.proofs.texts.same_attribute.Goals as goal

pub returns-then-p-eq0 : goal.returns-then-p-eq0
returns-then-p-eq0 c = λ l m g h.
    let n = c.args.n in
    let k = c.requires.fact_3 in
    left_absent same _ (absent (g.placed n k) c.if-p-eq0.true) (lacks (h.placed n k))

pub returns-then-q-eq0 : goal.returns-then-q-eq0
returns-then-q-eq0 c = λ l m g h.
    let n = c.args.n in
    let k = c.requires.fact_3 in
    right_absent same (standing (g.placed n k) c.if-p-eq0.false).is (absent (h.placed n k) c.if-q-eq0.true)

pub is_same-requires : goal.is_same-requires
is_same-requires c =
    record { fact_1 = omega (arith, c.requires.fact_1.placed c.args.n); fact_2 = omega (arith, c.requires.fact_2.placed c.args.n) }

pub returns : goal.returns
returns c = λ l m g h.
    let n = c.args.n in
    let k = c.requires.fact_3 in
    let p = standing (g.placed n k) c.if-p-eq0.false in
    let q = standing (h.placed n k) c.if-q-eq0.false in
    both-present same p.is q.is (c.is_same.ensures p.text q.text _ _ p.reads q.reads)
