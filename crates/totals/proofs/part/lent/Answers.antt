-- `totals::part::lent` meets its contract: so many numbers, each of 64 bits.
use Rattle.std.proofs.Common.{◌≡◌, ℕ, length, get_or, w64, Fits, rules}
use Rattle.totals.proofs.Taking.{all_64}
use Rattle.totals.proofs.part.lent.Goals as goal

pub returns : goal.returns
returns c =
    let g : length c.args.numbers ≡ 103 = search rules in
    let f : (i : ℕ) → Fits w64 (get_or c.args.numbers i 0) = λ i. search rules in
    record { long = g; bits = all_64 c.args.numbers (λ i. (f i).fits) }
