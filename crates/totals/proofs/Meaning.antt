-- The numbers of a table are those of what it means, if its currencies are of the right form and its totals of 64 bits.
use Rattle.std.proofs.Common.{◌≡◌, ◌^◌, true, false, not, List, [], ◌∷◌, map, refl, ap, ltb-true}
use mathlib.Core.List.{flat_map}
use borrow.Author.Tests.{not-false}
use Rattle.rules.specs.Basics.{exists, every}
use Rattle.rules.specs.Forms.{is_currency}
use Rattle.rules.specs.TotalNumbers.{is64, currency_in, row_numbers, report_numbers}
use Rattle.rules.proofs.Tests.{neither, both_true}
use Rattle.rules.proofs.Totals.{Proper}
use Rattle.rules.proofs.TotalNumbers.{currency-written, total-written}
use Rattle.totals.specs.declared.Row.{Row}
use Rattle.totals.specs.declared.Table.{Table}
use Rattle.totals.specs.Tables.{held_rows, row_meant, table_meant, are_totals, numbers_of, report_of}

rows-meant : (rows : List Row) → exists (λ r. not (is_currency r.currency)) (map row_meant rows) ≡ false → are_totals rows ≡ true
    → flat_map numbers_of rows ≡ flat_map row_numbers (map row_meant rows)
unfolding exists every flat_map
rows-meant [] f b = refl
rows-meant (r ∷ rows) f b =
    let (x, y) = neither (not (is_currency (currency_in r.currency))) (exists (λ r. not (is_currency r.currency)) (map row_meant rows)) f in
    let (i, j) = both_true (is64 r.total) (are_totals rows) b in
    rw (currency-written r.currency (not-false _ x), total-written r.total (ltb-true r.total (2 ^ 64) i)) (ap (λ l. r.currency ∷ r.total ∷ l) (rows-meant rows y j))

module _ (t : Table) (p : Proper (table_meant t)) (bits : are_totals (held_rows t) ≡ true) where
  pub report-meant : report_of t ≡ report_numbers (table_meant t)
  report-meant = ap (λ l. t.added ∷ t.null ∷ t.refused ∷ l) (rows-meant (held_rows t) p.formed bits)
