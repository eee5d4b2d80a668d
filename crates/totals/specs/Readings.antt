-- What a record says of money and what posting it comes to, as code holds them, in the words of the rules (request A6).
use Rattle.std.specs.Prelude.{◌≡◌, ℕ, ◌+◌, ◌-◌, ◌^◌, ◌<◌, ◌≤◌, true, false, cond, ◌⊎◌, nat_lt, slice_set, Option, Some, None, Result, Ok, Err}
use Rattle.rules.specs.Refusal.{Outcome, answered, refused, ◌and_then◌}
use Rattle.rules.specs.Forms.{is_currency}
use Rattle.rules.specs.Services.{packed}
use Rattle.rules.specs.Totals.{Entry, null, money, counted, is_damaged, fitting, is_uncounted, recorded}
use Rattle.rules.specs.TotalNumbers.{currency_in, total_in, entry_number}
use Rattle.refusal.specs.declared.Refusal.{Refusal}
use Rattle.refusal.specs.Meaning.{refusal_of}
use Rattle.totals.specs.Tables.{held_rows, counts_meant, table_meant, are_totals}
use Rattle.totals.specs.declared.Row.{Row}
use Rattle.totals.specs.declared.Table.{Table}
use Rattle.totals.specs.declared.entry.Money.{Money}
use Rattle.totals.specs.declared.post.Posted.{Posted}

-- the number of an amount of 12 digits and 4 more, in two's complement
abbrev pub Small : ℕ → Type 0
Small n = (n < 10 ^ 16) ⊎ ((2 ^ 64 - 10 ^ 16 < n) × (n < 2 ^ 64))

-- an amount, or none where a record is null, and what holds of it
abbrev pub entry_meant : Option Money → Entry
entry_meant (Some m) = money (currency_in m.currency) (total_in m.amount)
entry_meant None = null

abbrev pub IsMoney : Option Money → Type 0
IsMoney (Some m) = (is_currency (currency_in m.currency) ≡ true) × Small m.amount
IsMoney None = Unit {0}

-- what was read, or a refusal, and what holds of it
abbrev pub reading_meant : Result (Option Money) Refusal → Outcome Entry
reading_meant (Ok o) = answered (entry_meant o)
reading_meant (Err r) = refused (refusal_of r)

abbrev pub Readable : Result (Option Money) Refusal → Type 0
Readable (Ok o) = IsMoney o
Readable (Err r) = is_uncounted (refusal_of r) ≡ false

-- not damaged, and of 16 rows at most
pub record Sound (t : Table) : Type 0 where
  pub few : t.held ≤ 16
  pub undamaged : is_damaged (table_meant t) ≡ false
  pub bits : are_totals (held_rows t) ≡ true

-- neither damaged nor full, and of 16 rows at most
pub record Usable (t : Table) : Type 0 where
  pub few : t.held ≤ 16
  pub undamaged : is_damaged (table_meant t) ≡ false
  pub bits : are_totals (held_rows t) ≡ true
  pub room : counted (counts_meant t) < 1_000_000

-- a record more is refused
abbrev pub with_refused : Table → Table
with_refused t = record { rows = t.rows; held = t.held; added = t.added; null = t.null; refused = t.refused + 1 }

-- a record more is added, with its row at a place, which is that of a row held or the next
abbrev pub with_row : Table → (at : ℕ) → Row → Table
with_row t at r = record {
  rows = slice_set t.rows at r;
  held = cond (nat_lt at t.held) t.held (t.held + 1);
  added = t.added + 1;
  null = t.null;
  refused = t.refused;
}

-- the answer to what was read, its number, and the table after it
pub record PostedAs (t : Table) (o : Outcome Entry) (p : Posted) : Type 0 where
  pub answer : reading_meant p.answer ≡ (o and_then fitting (table_meant t).rows)
  pub number : packed entry_number (reading_meant p.answer) ≡ packed entry_number (o and_then fitting (table_meant t).rows)
  pub table : table_meant p.table ≡ recorded (o and_then fitting (table_meant t).rows) (table_meant t)
  pub few : p.table.held ≤ 16
  pub bits : are_totals (held_rows p.table) ≡ true
