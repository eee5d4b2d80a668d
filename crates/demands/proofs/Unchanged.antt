-- Request A3 changes no answer.
use Rattle.demands.specs.Services.{Services, Same}
use Rattle.demands.specs.Printing.{PrintPromise}
use Rattle.demands.specs.Totals.{TotalsPromise}
use Rattle.demands.specs.Desks.{DesksPromise}
use Rattle.demands.specs.Demands.{Demand1, Demand2, Demand3, Demands}
use Rattle.demands.proofs.Years.{years_kept}
use Rattle.demands.proofs.WrongTimes.{wrong-times_kept}
use Rattle.demands.proofs.LastDay.{last_day_kept}
use Rattle.demands.proofs.Determined.{demands_agree}

-- "No answer changes.": what meets all but this request, and what meets all, do the same
pub no_answer-changes : (s t : Services) → Demand1 s → Demand2 s → Demand3 s → PrintPromise s → TotalsPromise → DesksPromise s → Demands t → Same s t
no_answer-changes s t one two three print totals desks q =
    demands_agree (record { one = one; two = two; three = three; print = print; years = years_kept s two; last_day = last_day_kept s two three; wrong_times = wrong-times_kept s two three; totals = totals; desks = desks }) q
