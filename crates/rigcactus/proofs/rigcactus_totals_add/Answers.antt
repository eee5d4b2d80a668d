-- `rigcactus::rigcactus_totals_add` meets its contract.
use Rattle.std.proofs.Common.{ap, not}
use mathlib.Core.Path.{◌≡◌, sym, ◌∙◌, subst}
use mir.ValLaws.{to_z-of_z}
use mir.Syntax.{w64}
use Rattle.rules.specs.Totals.{reading}
use Rattle.totals.specs.Readings.{reading_meant}
use Rattle.totals.proofs.Shared.{held-few}
use Rattle.rigcactus.proofs.TotalsWays.{none, some, add-nowhere, add-damaged, below, usable, add-full, posted_sound, add_posted}
use Rattle.rigcactus.proofs.rigcactus_totals_add.Goals as goal

pub returns-then-not-is_desk : goal.returns-then-not-is_desk
returns-then-not-is_desk c =
    let h = add-nowhere c.args.desk c.args.table.now (none c.args.desk c.is_desk.ensures (ap not c.if-not-is_desk.true)) c.args.offset c.args.«record».now in
    record { value = c.number.ensures ∙ h.answers; table_after = h.leaves }

pub is_faulty-requires : goal.is_faulty-requires
is_faulty-requires c = c.lent.ensures

pub returns-then-is_faulty : goal.returns-then-is_faulty
returns-then-is_faulty c =
    let h = add-damaged c.args.desk c.args.table.now (some c.args.desk c.is_desk.ensures (ap not c.if-not-is_desk.false)) (sym c.is_faulty.ensures ∙ c.if-is_faulty.true) c.args.offset c.args.«record».now in
    record { value = c.number-then-is_faulty.ensures ∙ h.answers; table_after = h.leaves }

pub part-t-requires : goal.part-t-requires
part-t-requires c = record { fact_1 = c.lent.ensures; fact_2 = held-few c.args.table.now (sym c.is_faulty.ensures ∙ c.if-is_faulty.false) }

pub is_full-requires : goal.is_full-requires
is_full-requires c =
    below c.args.desk c.args.table.now (some c.args.desk c.is_desk.ensures (ap not c.if-not-is_desk.false)) (sym c.is_faulty.ensures ∙ c.if-is_faulty.false) c.part-t.result c.part-t.ensures

pub returns-then-is_full : goal.returns-then-is_full
returns-then-is_full c =
    let h = add-full c.args.desk c.args.table.now (some c.args.desk c.is_desk.ensures (ap not c.if-not-is_desk.false)) (sym c.is_faulty.ensures ∙ c.if-is_faulty.false) c.part-t.result c.part-t.ensures c.args.offset c.args.«record».now (sym c.is_full.ensures ∙ c.if-is_full.true) in
    record { value = c.number-then-is_full.ensures ∙ h.answers; table_after = h.leaves }

pub post-posted-requires : goal.post-posted-requires
post-posted-requires c =
    record { fact_1 = usable c.args.desk c.args.table.now (some c.args.desk c.is_desk.ensures (ap not c.if-not-is_desk.false)) (sym c.is_faulty.ensures ∙ c.if-is_faulty.false) c.part-t.result c.part-t.ensures (sym c.is_full.ensures ∙ c.if-is_full.false); fact_2 = c.read_money.ensures.0 }

pub share-requires : goal.share-requires
share-requires c =
    let d = some c.args.desk c.is_desk.ensures (ap not c.if-not-is_desk.false) in
    let f = sym c.is_faulty.ensures ∙ c.if-is_faulty.false in
    let u = usable c.args.desk c.args.table.now d f c.part-t.result c.part-t.ensures (sym c.is_full.ensures ∙ c.if-is_full.false) in
    let r = subst (λ z. reading_meant c.read_money.result ≡ reading z c.args.«record».now) (to_z-of_z w64 c.args.offset c.ranges.offset) c.read_money.ensures.1 in
    record { fact_1 = c.lent.ensures; fact_2 = f; fact_3 = d; fact_4 = posted_sound c.args.desk c.args.table.now d f c.part-t.result c.part-t.ensures c.args.offset c.args.«record».now u r c.post-posted.ensures }

pub returns : goal.returns
returns c =
    let d = some c.args.desk c.is_desk.ensures (ap not c.if-not-is_desk.false) in
    let f = sym c.is_faulty.ensures ∙ c.if-is_faulty.false in
    let u = usable c.args.desk c.args.table.now d f c.part-t.result c.part-t.ensures (sym c.is_full.ensures ∙ c.if-is_full.false) in
    let r = subst (λ z. reading_meant c.read_money.result ≡ reading z c.args.«record».now) (to_z-of_z w64 c.args.offset c.ranges.offset) c.read_money.ensures.1 in
    let h = add_posted c.args.desk c.args.table.now d f c.part-t.result c.part-t.ensures c.args.offset c.args.«record».now u r c.post-posted.ensures c.posted_number.ensures in
    record { value = h.answers; table_after = c.share.ensures ∙ h.leaves }
