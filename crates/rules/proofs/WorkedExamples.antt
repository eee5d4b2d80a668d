-- 01-scope.md, "The desk table", as request A5 changes it, and the whole example of "Sets of times", as A4 does: one statement about the meanings.
use Prim.Native.Nat.{ℕ}
use Prim.Native.String.{String}
use mathlib.Core.Path.{◌≡◌, refl}
use mathlib.Core.List.{List, [], ◌∷◌}
use lib.IntN.{ℤ, pos, negsuc}
use Rattle.rules.specs.Basics.{bytes}
use Rattle.rules.specs.Refusal.{DATE, Outcome, answered, refused, ◌and_then◌}
use Rattle.rules.specs.Utf8.{cut_length}
use Rattle.rules.specs.Timestamp.{tick_of}
use Rattle.rules.specs.Sets.{Bound, unbounded, open_at, closed_at, ◌upto◌, Expression, interval, combine, union, difference}
use Rattle.rules.specs.Stretches.{stretches}
use Rattle.rules.specs.Listing.{list_numbers}
use Rattle.rules.specs.Services.{timing, listing}
use Rattle.rules.proofs.Opened.{opened}

-- the tick of a timestamp at offset 0
abbrev ticked : String → Outcome ℤ
ticked text = timing (pos 0) (bytes text) and_then λ m. answered (tick_of m)

-- the numbers that list a record at offset 0, with room for 32 stretches
abbrev listed : String → Outcome (List ℤ)
listed record' = listing (pos 0) 32 (bytes record') and_then λ ss. answered (list_numbers ss)

-- [n and n], (n and n)
abbrev incl : ℕ → Bound
incl n = closed_at (pos n)

abbrev excl : ℕ → Bound
excl n = open_at (pos n)

infix 60 ◌~◌
abbrev ◌~◌ : Bound → Bound → Expression
l ~ h = interval (l upto h)

infix 50 ◌∪◌ ◌less◌
abbrev ◌∪◌ : Expression → Expression → Expression
◌∪◌ = combine union

abbrev ◌less◌ : Expression → Expression → Expression
◌less◌ = combine difference

abbrev zoë : List ℕ
zoë = 0x5A ∷ 0x6F ∷ 0xC3 ∷ 0xAB ∷ []

abbrev stay : String
stay = "<stay xsi:type=\"QSD_TS\"><minuend xsi:type=\"IVL_TS\" lowClosed=\"true\" highClosed=\"false\"><low value=\"20240501\"/><high value=\"20240504\"/></minuend><subtrahend xsi:type=\"IVL_TS\" lowClosed=\"true\" highClosed=\"true\"><low value=\"2024050212\"/><high value=\"2024050212\"/></subtrahend></stay>"

pub worked-examples :
    (ticked "0001" ≡ answered (pos 0))
    × (ticked "19700101" ≡ answered (pos 621355968000000))
    × (ticked "20000101000000.0001+0000" ≡ answered (pos 630822816000001))
    × (ticked "0001010100+01" ≡ answered (negsuc 35999999))
    × (ticked "19000229" ≡ refused DATE)
    × (ticked "20000229" ≡ answered (pos 630873792000000))
    × (stretches (incl 1 ~ excl 3 ∪ incl 3 ~ incl 5) ≡ incl 1 upto incl 5 ∷ [])
    × (stretches (incl 1 ~ excl 3 ∪ excl 3 ~ incl 5) ≡ incl 1 upto excl 3 ∷ excl 3 upto incl 5 ∷ [])
    × (stretches (incl 1 ~ incl 5 less incl 3 ~ incl 3) ≡ incl 1 upto excl 3 ∷ excl 3 upto incl 5 ∷ [])
    × (stretches (excl 3 ~ excl 3) ≡ [])
    × (list_numbers (stretches (unbounded ~ unbounded less incl 3 ~ excl 4)) ≡ pos 0 ∷ pos 0 ∷ pos 1 ∷ pos 3 ∷ pos 2 ∷ pos 4 ∷ pos 0 ∷ pos 0 ∷ [])
    × (cut_length 3 zoë ≡ 2)
    × (cut_length 4 zoë ≡ 4)
    × (listed stay ≡ answered (pos 2 ∷ pos 638501184000000 ∷ pos 1 ∷ pos 638502480000000 ∷ pos 2 ∷ pos 638502516000000 ∷ pos 1 ∷ pos 638503776000000 ∷ []))
unfolding opened
worked-examples = (refl, refl, refl, refl, refl, refl, refl, refl, refl, refl, refl, refl, refl, refl)
