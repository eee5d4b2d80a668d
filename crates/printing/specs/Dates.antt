-- The date of a day, as the code holds it.
use Rattle.std.specs.Prelude.{ℕ, suc, ◌-◌, ◌≤◌, ◌<◌}
use Rattle.rules.specs.Calendar.{days_of_years, days_of_months}
use Rattle.rules.specs.Dates.{year_at, month_at}
use Rattle.printing.specs.declared.date.Date.{Date}

abbrev pub date_at : (days : ℕ) → Date
date_at days = record { year = (year_at days).unit; month = (month_at days).unit; day = suc (month_at days).passed }

-- a day lies in year y
pub record InYear (days y : ℕ) : Type 0 where
  pub least : 1 ≤ y
  pub most : y ≤ 9999
  pub from : days_of_years (y - 1) ≤ days
  pub until : days < days_of_years y

-- a day of year y lies in month m
pub record InMonth (y day m : ℕ) : Type 0 where
  pub least : 1 ≤ m
  pub most : m ≤ 12
  pub from : days_of_months y (m - 1) ≤ day
  pub until : day < days_of_months y m
