-- `timestamp::form::with_next` meets its contract.
use mathlib.Core.Path.{ap}
use mathlib.Core.List.{[], ◌∷◌}
use lib.ListN.{length-append}
use Rattle.timestamp.specs.declared.form.Parts.{Parts}
use Rattle.timestamp.proofs.Parting.{place_next}
use Rattle.timestamp.proofs.form.with_next.Goals as goal

pub returns : goal.returns
returns c = λ l e. rw (c.placed.ensures, c.placed-2.ensures, c.placed-3.ensures, c.placed-4.ensures, c.placed-5.ensures, ap (λ (q : Parts). q.count) e, ap (λ (q : Parts). q.month) e, ap (λ (q : Parts). q.day) e, ap (λ (q : Parts). q.hour) e, ap (λ (q : Parts). q.minute) e, ap (λ (q : Parts). q.second) e, place_next l c.args.n 0 1, place_next l c.args.n 1 1, place_next l c.args.n 2 0, place_next l c.args.n 3 0, place_next l c.args.n 4 0, length-append l (c.args.n ∷ []))
