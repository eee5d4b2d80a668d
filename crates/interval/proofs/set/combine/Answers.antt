-- `interval::set::combine` meets its contract.
use Rattle.std.proofs.Common.{◌≡◌, ◌+◌, length, sym, refl, subst, arith}
use Rattle.interval.specs.declared.Op.{Op}
use Rattle.interval.specs.Meaning.{Holds, applied}
use Rattle.interval.proofs.Items.{nowhere, length_mapped, used-ticked}
use Rattle.interval.proofs.Drawing.{inputs, drawn-holds}
use Rattle.interval.proofs.Joining.{holds-union}
use Rattle.interval.proofs.set.combine.Goals as goal

pub with_interval-requires : goal.with_interval-requires
with_interval-requires c =
    let g : length c.args.b.items ≡ 32 = search length_mapped in
    let t = used-ticked c.args.b g c.requires.fact_2.fits 0 (omega (arith, c.if-b-eq1.true)) nowhere c.requires.fact_2.ticked in
    record { fact_1 = c.requires.fact_1; fact_2 = omega (arith, c.requires.fact_3, c.if-b-eq1.true); fact_3 = t.0; fact_4 = t.1 }

pub returns-then-b-eq1 : goal.returns-then-b-eq1
returns-then-b-eq1 c =
    let g : length c.args.b.items ≡ 32 = search length_mapped in
    subst (λ (o : Op). Holds (applied o c.args.a c.args.b) (c.args.a.count + c.args.b.count) c.with_interval.result) (sym c.in-Union.is)
    (holds-union c.args.a c.args.b c.with_interval.result g c.requires.fact_2 c.if-b-eq1.true nowhere c.with_interval.ensures)

pub merge-n-requires : goal.merge-n-requires
merge-n-requires c = record { fact_1 = rw (c.edge_numbers-x.ensures, c.edge_numbers-y.ensures) (inputs c.args.a c.args.b c.requires.fact_1 c.requires.fact_2 c.requires.fact_3); fact_2 = refl }

pub from_edges-requires : goal.from_edges-requires
from_edges-requires c =
    let m = rw (c.edge_numbers-x.ensures, c.edge_numbers-y.ensures) at c.merge-n.ensures in
    record { fact_1 = c.merge-n.ensures.edged; fact_2 = omega (arith, m.short, (inputs c.args.a c.args.b c.requires.fact_1 c.requires.fact_2 c.requires.fact_3).few) }

pub returns : goal.returns
returns c =
    let m = rw (c.edge_numbers-x.ensures, c.edge_numbers-y.ensures) at c.merge-n.ensures in
    drawn-holds c.args.op c.args.a c.args.b c.from_edges.result c.merge-n.result _ c.requires.fact_1 c.requires.fact_2 c.requires.fact_3 m c.from_edges.ensures
