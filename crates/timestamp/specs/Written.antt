-- What is written in a timestamp, as code holds it, in the words of the rules.
use Rattle.std.specs.Prelude.{ℕ, ◌≤◌, ◌<◌, ◌≡◌, Bool, true, false, List, [], leb, length, get_or, drop, Option, Some, None}
use Rattle.std.proofs.Math.Option.{none, some}
use Rattle.rules.specs.Basics.{every, is_digit}
use Rattle.rules.specs.Parsers.{Parser, bad, ok, pure, guard, ◌>>◌, ◌or◌, whole}
use Rattle.rules.specs.Timestamp.{two_digits, point, hours, zone as zone_parser, timestamp, ten_thousandths}
use Rattle.rules.specs.Timestamp.{Zone as RulesZone, no_zone, plus, minus, Written as RulesWritten}
use Rattle.timestamp.specs.declared.form.Parts.{Parts}
use Rattle.timestamp.specs.declared.form.Offset.{Offset}
use Rattle.timestamp.specs.declared.form.Hours.{Hours}
use Rattle.timestamp.specs.declared.form.Zoned.{Zoned}
use Rattle.timestamp.specs.declared.form.Written.{Written}
use Rattle.timestamp.specs.declared.fourteen.Numbers.{Numbers}

-- the code's parts of a list of two-digit numbers; missing ones take their first value
abbrev pub parts_of : List ℕ → (end : ℕ) → Parts
parts_of l e = record { count = length l; month = get_or l 0 1; day = get_or l 1 1; hour = get_or l 2 0; minute = get_or l 3 0; second = get_or l 4 0; end = e }

-- the parts after the year, read
pub record PartsAt (s : List ℕ) (p : Parts) : Type 0 where
  pub list : List ℕ
  pub reads : two_digits 5 (drop 4 s) ≡ ok list (drop p.end s)
  pub parts : p ≡ parts_of list p.end
  pub few : length list ≤ 5
  pub high : p.end ≤ length s

-- an offset as the rules have it
abbrev pub sign_of : Bool → ℕ → ℕ → RulesZone
sign_of true = minus
sign_of false = plus

abbrev pub zone_of : Option Offset → RulesZone
zone_of None = no_zone
zone_of (Some o) = sign_of o.is_behind o.hours o.minutes

-- hours and minutes of two digits
abbrev pub SmallZone : Option Offset → Type 0
SmallZone None = Unit {0}
SmallZone (Some o) = (o.hours < 100) × (o.minutes < 100)

-- hours and minutes after any sign, read
abbrev pub HoursAt : List ℕ → (at : ℕ) → Option Hours → Type 0
HoursAt s at (Some h) =
    ((sign : ℕ → ℕ → RulesZone) → hours sign (drop at s) ≡ ok (sign h.hours h.minutes) (drop h.end s)) × (h.hours < 100) × (h.minutes < 100) × (h.end ≤ length s)
HoursAt s at None = (sign : ℕ → ℕ → RulesZone) → hours sign (drop at s) ≡ bad

-- what a parser of offsets reads at a position
pub record ZoneBy (P : Parser RulesZone) (s : List ℕ) (at : ℕ) (z : Zoned) : Type 0 where
  pub reads : P (drop at s) ≡ ok (zone_of z.zone) (drop z.end s)
  pub small : SmallZone z.zone
  pub high : z.end ≤ length s

-- an offset, or none
abbrev pub ZoneAt : List ℕ → (at : ℕ) → Zoned → Type 0
ZoneAt = ZoneBy (zone_parser or pure no_zone)

-- a fraction only after ss, an offset only after hh or finer, where so many parts are written
abbrev pub fraction_after : (parts : ℕ) → Parser (List ℕ)
fraction_after n = (guard (leb 5 n) >> point) or pure []

abbrev pub zone_after : (parts : ℕ) → Parser RulesZone
zone_after n = (guard (leb 3 n) >> zone_parser) or pure no_zone

-- what is written, as the rules have it
pub record Writes (w : RulesWritten) (c : Written) : Type 0 where
  pub year : c.year ≡ w.year
  pub parts : c.parts ≡ parts_of w.parts c.parts.end
  pub few : length w.parts ≤ 5
  pub fraction : c.fraction.value ≡ ten_thousandths w.fraction
  pub count : c.fraction.count ≡ length w.fraction
  pub zone : zone_of c.zone ≡ w.zone
  pub digits : c.fraction.count ≤ 4
  pub small : (c.fraction.value < 10_000) × SmallZone c.zone

-- a text of the form of a timestamp, or another
abbrev pub FormOf : List ℕ → Option Written → Type 0
FormOf s (Some c) = (w : RulesWritten) × (whole timestamp s ≡ some w) × Writes w c
FormOf s None = whole timestamp s ≡ none

-- fourteen digits, as what is written
abbrev pub fourteen_written : Numbers → Written
fourteen_written n = record {
  year = n.year;
  parts = record { count = 5; month = n.month; day = n.day; hour = n.hour; minute = n.minute; second = n.second; end = 14 };
  fraction = record { value = 0; count = 0; end = 14 };
  zone = None;
}

-- fourteen digits and nothing else, or another text
abbrev pub FourteenOf : List ℕ → Option Numbers → Type 0
FourteenOf s (Some n) = FormOf s (Some (fourteen_written n))
FourteenOf s None = length s ≡ 14 → every is_digit s ≡ false
