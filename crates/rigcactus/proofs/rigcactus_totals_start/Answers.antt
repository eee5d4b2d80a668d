-- `rigcactus::rigcactus_totals_start` meets its contract.
use Rattle.std.proofs.Common.{ap, not}
use mathlib.Core.Path.{sym, ◌∙◌}
use Rattle.rigcactus.proofs.TotalsWays.{none, some, start-nowhere, start-damaged, started}
use Rattle.rigcactus.proofs.rigcactus_totals_start.Goals as goal

pub returns-then-not-is_desk : goal.returns-then-not-is_desk
returns-then-not-is_desk c =
    let h = start-nowhere c.args.desk c.args.table.now (none c.args.desk c.is_desk.ensures (ap not c.if-not-is_desk.true)) in
    record { value = c.number.ensures ∙ h.answers; table_after = h.leaves }

pub is_faulty-requires : goal.is_faulty-requires
is_faulty-requires c = c.lent.ensures

pub returns-then-is_faulty : goal.returns-then-is_faulty
returns-then-is_faulty c =
    let h = start-damaged c.args.desk c.args.table.now (some c.args.desk c.is_desk.ensures (ap not c.if-not-is_desk.false)) (sym c.is_faulty.ensures ∙ c.if-is_faulty.true) in
    record { value = c.number-then-is_faulty.ensures ∙ h.answers; table_after = h.leaves }

pub clear-requires : goal.clear-requires
clear-requires c = record { fact_1 = c.lent.ensures; fact_2 = sym c.is_faulty.ensures ∙ c.if-is_faulty.false; fact_3 = some c.args.desk c.is_desk.ensures (ap not c.if-not-is_desk.false) }

pub returns : goal.returns
returns c =
    let h = started c.args.desk c.args.table.now (some c.args.desk c.is_desk.ensures (ap not c.if-not-is_desk.false)) (sym c.is_faulty.ensures ∙ c.if-is_faulty.false) in
    record { value = h.answers; table_after = c.clear.ensures ∙ h.leaves }
