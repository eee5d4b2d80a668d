-- `rigcactus::rigcactus_totals_report` meets its contract.
use Rattle.std.proofs.Common.{ap, not}
use mathlib.Core.Path.{sym, ◌∙◌}
use native.Mathlib.Omega.{arith}
use Rattle.totals.proofs.Shared.{held-few}
use Rattle.rigcactus.proofs.TotalsWays.{none, some, report-nowhere, report-damaged, few, reports}
use Rattle.rigcactus.proofs.rigcactus_totals_report.Goals as goal

pub returns-then-not-is_desk : goal.returns-then-not-is_desk
returns-then-not-is_desk c =
    let h = report-nowhere c.args.desk c.args.table.now (none c.args.desk c.is_desk.ensures (ap not c.if-not-is_desk.true)) c.args.report.now in
    record { value = c.number.ensures ∙ h.answers; report_after = h.leaves }

pub is_faulty-requires : goal.is_faulty-requires
is_faulty-requires c = c.lent.ensures

pub returns-then-is_faulty : goal.returns-then-is_faulty
returns-then-is_faulty c =
    let h = report-damaged c.args.desk c.args.table.now (some c.args.desk c.is_desk.ensures (ap not c.if-not-is_desk.false)) (sym c.is_faulty.ensures ∙ c.if-is_faulty.true) c.args.report.now in
    record { value = c.number-then-is_faulty.ensures ∙ h.answers; report_after = h.leaves }

pub part-t-requires : goal.part-t-requires
part-t-requires c = record { fact_1 = c.lent.ensures; fact_2 = held-few c.args.table.now (sym c.is_faulty.ensures ∙ c.if-is_faulty.false) }

pub report-requires : goal.report-requires
report-requires c = few c.args.desk c.args.table.now (some c.args.desk c.is_desk.ensures (ap not c.if-not-is_desk.false)) (sym c.is_faulty.ensures ∙ c.if-is_faulty.false) c.part-t.result c.part-t.ensures

pub overflow_mul-result : goal.overflow_mul-result
overflow_mul-result c = omega (arith, few c.args.desk c.args.table.now (some c.args.desk c.is_desk.ensures (ap not c.if-not-is_desk.false)) (sym c.is_faulty.ensures ∙ c.if-is_faulty.false) c.part-t.result c.part-t.ensures)

pub returns : goal.returns
returns c =
    let h = reports c.args.desk c.args.table.now (some c.args.desk c.is_desk.ensures (ap not c.if-not-is_desk.false)) (sym c.is_faulty.ensures ∙ c.if-is_faulty.false) c.part-t.result c.part-t.ensures c.args.report.now in
    record { value = h.answers; report_after = c.report.ensures ∙ h.leaves }
