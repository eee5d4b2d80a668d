-- `totals::post::add` meets its contract.
use Rattle.std.proofs.Common.{◌≡◌, length, sym, refl, ap, ◌∙◌, arith}
use Rattle.totals.proofs.Rows.{length_mapped}
use Rattle.totals.proofs.Posting.{refused_as, place_few, no_row, no_total, summed, added_as}
use Rattle.rules.specs.Totals.{is_in_range}
use Rattle.totals.specs.Readings.{with_row}
use Rattle.totals.proofs.post.add.Goals as goal

pub place_of-at-requires : goal.place_of-at-requires
place_of-at-requires c = c.requires.fact_1.few

pub refuse-requires : goal.refuse-requires
refuse-requires c = c.requires.fact_1

pub returns-then-at-eq-ROWS : goal.returns-then-at-eq-ROWS
returns-then-at-eq-ROWS c =
    let g : length c.args.t.rows ≡ 16 = search length_mapped in
    refused_as c.args.t c.requires.fact_1 refl (no_row c.args.t c.requires.fact_1 g c.args.money.currency c.args.money.amount c.requires.fact_2.0 c.requires.fact_2.1 (sym c.place_of-at.ensures ∙ c.if-at-eq-ROWS.true)) c.refuse.ensures.0 c.refuse.ensures.1

pub total_at-requires : goal.total_at-requires
total_at-requires c = c.requires.fact_1.few

pub refuse-requires-then-not-is_in_range : goal.refuse-requires-then-not-is_in_range
refuse-requires-then-not-is_in_range c = c.requires.fact_1

pub returns-then-not-is_in_range : goal.returns-then-not-is_in_range
returns-then-not-is_in_range c =
    let p = c.place_of-at.ensures in
    let g : length c.args.t.rows ≡ 16 = search length_mapped in
    let (k, l) = summed c.args.t c.requires.fact_1 g c.args.money.currency c.args.money.amount c.requires.fact_2.0 c.requires.fact_2.1 p c.total_at.ensures c.wrapping_add_u64-total.ensures.value in
    refused_as c.args.t c.requires.fact_1 refl
    (no_total c.args.t c.requires.fact_1 g c.args.money.currency c.args.money.amount c.requires.fact_2.0 c.requires.fact_2.1 (λ e. c.if-at-eq-ROWS.false (p ∙ e)) (sym (ap is_in_range k) ∙ sym c.is_in_range.ensures ∙ c.if-not-is_in_range.true))
    c.refuse-then-not-is_in_range.ensures.0 c.refuse-then-not-is_in_range.ensures.1

pub enter-requires : goal.enter-requires
enter-requires c =
    let g : length c.args.t.rows ≡ 16 = search length_mapped in
    record { fact_1 = c.requires.fact_1; fact_2 = omega (arith, c.if-at-eq-ROWS.false, c.place_of-at.ensures, place_few c.args.t c.requires.fact_1 g c.args.money.currency c.args.money.amount c.requires.fact_2.0 c.requires.fact_2.1, c.requires.fact_1.few) }

pub returns : goal.returns
returns c =
    let p = c.place_of-at.ensures in
    let n = c.wrapping_add_u64-total.result in
    let g : length c.args.t.rows ≡ 16 = search length_mapped in
    let (k, l) = summed c.args.t c.requires.fact_1 g c.args.money.currency c.args.money.amount c.requires.fact_2.0 c.requires.fact_2.1 p c.total_at.ensures c.wrapping_add_u64-total.ensures.value in
    added_as c.args.t c.requires.fact_1 g c.args.money.currency c.args.money.amount c.requires.fact_2.0 c.requires.fact_2.1 n l (λ e. c.if-at-eq-ROWS.false (p ∙ e)) k (sym c.is_in_range.ensures ∙ c.if-not-is_in_range.false)
    (c.enter.ensures ∙ ap (λ i. with_row c.args.t i (record { currency = c.args.money.currency; total = n })) p) refl
