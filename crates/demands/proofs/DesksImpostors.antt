-- Impostors of a day's totals and of two desks: each does otherwise with a small table, and so none of them meets the demands.
use Prim.Native.Nat.{ℕ, ◌*◌, ◌^◌}
use Prim.Native.String.{String}
use mathlib.Core.Path.{◌≡◌, refl, ap}
use mathlib.Core.List.{List, ◌∷◌}
use native.Mathlib.Omega.{arith}
use lib.ListN.{get_or, replicate}
use lib.IntN.{pos}
use Rattle.rules.specs.Basics.{bytes}
use Rattle.rules.specs.TotalNumbers.{Lent}
use Rattle.rules.specs.DeskNumbers.{start_after, add_after}
use Rattle.rules.proofs.Opened.{opened}
use Rattle.demands.specs.Services.{Services}
use Rattle.demands.specs.Demands.{Demands}
use Rattle.demands.proofs.Determined.{demands_determine}

-- five euros, the same given back, five francs, a null, and no record at all
abbrev five : String
five = "<m xsi:type=\"MO\" value=\"5\" currency=\"EUR\"/>"

abbrev back : String
back = "<m xsi:type=\"MO\" value=\"-5\" currency=\"EUR\"/>"

abbrev francs : String
francs = "<m xsi:type=\"MO\" value=\"5\" currency=\"CHF\"/>"

abbrev unknown : String
unknown = "<m xsi:type=\"MO\" nullFlavor=\"NI\"/>"

abbrev mistake : String
mistake = "<m"

-- an empty table; desk 1 with five euros, with the most that there may be, and with a full day
abbrev none : List ℕ
none = replicate 103 0

abbrev fives : List ℕ
fives = 1 ∷ 1 ∷ 0 ∷ 0 ∷ 0 ∷ 0 ∷ 0 ∷ 1 ∷ 5_395_781 ∷ 50_000 ∷ replicate 93 0

abbrev most : List ℕ
most = 1 ∷ 1 ∷ 0 ∷ 0 ∷ 0 ∷ 0 ∷ 0 ∷ 1 ∷ 5_395_781 ∷ 9_000_000_000_000_000_000 ∷ replicate 93 0

abbrev full : List ℕ
full = 0 ∷ 0 ∷ 0 ∷ 1_000_000 ∷ replicate 99 0

-- desk 1 with euros, then francs, and between them desk 2 with euros
abbrev mixed : List ℕ
mixed = 3 ∷ 2 ∷ 0 ∷ 0 ∷ 1 ∷ 0 ∷ 0 ∷ 1 ∷ 5_395_781 ∷ 50_000 ∷ 2 ∷ 5_395_781 ∷ 70_000 ∷ 1 ∷ 4_606_019 ∷ 50_000 ∷ replicate 87 0

-- desk 1 with all of its 16 rows
abbrev sixteen : List ℕ
sixteen =
    16 ∷ 16 ∷ 0 ∷ 0 ∷ 0 ∷ 0 ∷ 0 ∷ 1 ∷ 4_276_545 ∷ 0 ∷ 1 ∷ 4_342_081 ∷ 0 ∷ 1 ∷ 4_407_617 ∷ 0 ∷ 1 ∷ 4_473_153 ∷ 0 ∷ 1 ∷ 4_538_689 ∷ 0 ∷ 1 ∷ 4_604_225 ∷ 0 ∷ 1 ∷ 4_669_761 ∷ 0 ∷ 1 ∷ 4_735_297 ∷ 0 ∷ 1 ∷ 4_800_833 ∷ 0 ∷ 1 ∷ 4_866_369 ∷ 0 ∷ 1 ∷ 4_931_905 ∷ 0 ∷ 1 ∷ 4_997_441 ∷ 0 ∷ 1 ∷ 5_062_977 ∷ 0 ∷ 1 ∷ 5_128_513 ∷ 0 ∷ 1 ∷ 5_194_049 ∷ 0 ∷ 1 ∷ 5_259_585 ∷ 0
    ∷ replicate 48 0

-- they are 103 numbers of 64 bits, and a report's memory is 35
lent_none : Lent 103 none
unfolding opened
lent_none = record { long = refl; bits = refl }

lent_fives : Lent 103 fives
unfolding opened
lent_fives = record { long = refl; bits = refl }

lent-most : Lent 103 most
unfolding opened
lent-most = record { long = refl; bits = refl }

lent-full : Lent 103 full
unfolding opened
lent-full = record { long = refl; bits = refl }

lent-mixed : Lent 103 mixed
unfolding opened
lent-mixed = record { long = refl; bits = refl }

lent_sixteen : Lent 103 sixteen
unfolding opened
lent_sixteen = record { long = refl; bits = refl }

lent-report : Lent 35 (replicate 35 0)
unfolding opened
lent-report = record { long = refl; bits = refl }

module _ (s : Services) (p : Demands s) where
  -- number i of a table after a record of a desk, and after a start
  abbrev left : (desk : ℕ) → (text : String) → (numbers : List ℕ) → (i : ℕ) → ℕ
  left n text numbers i = get_or (s.add_leaves n (pos 0) (bytes text) numbers) i 0

  left_is : (n : ℕ) (text : String) (numbers : List ℕ) → Lent 103 numbers → (i : ℕ) → left n text numbers i ≡ get_or (add_after n (pos 0) (bytes text) numbers) i 0
  left_is n text numbers l i = ap (λ x. get_or x i 0) ((demands_determine s p).same_add_left n (pos 0) (bytes text) numbers l)

  abbrev started : (desk : ℕ) → (numbers : List ℕ) → (i : ℕ) → ℕ
  started n numbers i = get_or (s.start_leaves n numbers) i 0

  started-is : (n : ℕ) (numbers : List ℕ) → Lent 103 numbers → (i : ℕ) → started n numbers i ≡ get_or (start_after n numbers) i 0
  started-is n numbers l i = ap (λ x. get_or x i 0) ((demands_determine s p).same_start_left n numbers l)

  -- one that adds twice
  pub adds_twice : left 1 five none 9 ≡ 100_000 → ⊥
  unfolding opened
  adds_twice h = omega (arith, h, left_is 1 five none lent_none 9)

  -- one that forgets the sign
  pub forgets_sign : left 1 back none 9 ≡ 50_000 → ⊥
  unfolding opened
  forgets_sign h = omega (arith, h, left_is 1 back none lent_none 9)

  -- one that adds to the first row whatever the currency
  pub adds-to-first-row : left 1 francs fives 9 ≡ 100_000 → ⊥
  unfolding opened
  adds-to-first-row h = omega (arith, h, left_is 1 francs fives lent_fives 9)

  -- one that finds a row by its currency alone, the other desk's too
  pub adds-to-other-desk : left 2 five fives 9 ≡ 100_000 → ⊥
  unfolding opened
  adds-to-other-desk h = omega (arith, h, left_is 2 five fives lent_fives 9)

  -- one that drops a row that comes to zero
  pub drops_zero : left 1 back fives 0 ≡ 0 → ⊥
  unfolding opened
  drops_zero h = omega (arith, h, left_is 1 back fives lent_fives 0)

  -- one that counts a null as added
  pub counts-null_as_added : left 1 unknown none 1 ≡ 1 → ⊥
  unfolding opened
  counts-null_as_added h = omega (arith, h, left_is 1 unknown none lent_none 1)

  -- one that leaves the count alone on a refusal
  pub counts_no_refusal : left 1 mistake none 3 ≡ 0 → ⊥
  unfolding opened
  counts_no_refusal h = omega (arith, h, left_is 1 mistake none lent_none 3)

  -- one that counts for the other desk
  pub counts_for_other-desk : left 2 five fives 1 ≡ 2 → ⊥
  unfolding opened
  counts_for_other-desk h = omega (arith, h, left_is 2 five fives lent_fives 1)

  -- one that stays at the limit and says that it added
  pub saturates : s.add_says 1 (pos 0) (bytes five) most ≡ 1 * 2 ^ 8 → ⊥
  unfolding opened
  saturates h = omega (arith, h, (demands_determine s p).same_add 1 (pos 0) (bytes five) most lent-most)

  -- one whose day limit is of both desks together
  pub shares_day_limit : s.add_says 2 (pos 0) (bytes five) full ≡ 25 → ⊥
  unfolding opened
  shares_day_limit h = omega (arith, h, (demands_determine s p).same_add 2 (pos 0) (bytes five) full lent-full)

  -- one whose row limit is of both desks together
  pub shares_row_limit : s.add_says 2 (pos 0) (bytes five) sixteen ≡ 16 → ⊥
  unfolding opened
  shares_row_limit h = omega (arith, h, (demands_determine s p).same_add 2 (pos 0) (bytes five) sixteen lent_sixteen)

  -- one whose start clears both desks
  pub clears_both : started 1 mixed 4 ≡ 0 → ⊥
  unfolding opened
  clears_both h = omega (arith, h, started-is 1 mixed lent-mixed 4)

  -- one whose start keeps the counts
  pub keeps_counts : started 1 mixed 1 ≡ 2 → ⊥
  unfolding opened
  keeps_counts h = omega (arith, h, started-is 1 mixed lent-mixed 1)

  -- one whose start frees no row: as many are held as before
  pub frees_no_row : started 1 mixed 0 ≡ 3 → ⊥
  unfolding opened
  frees_no_row h = omega (arith, h, started-is 1 mixed lent-mixed 0)

  -- one that starts a desk of any number
  pub starts-any-desk : s.start_says 3 none ≡ 0 → ⊥
  unfolding opened
  starts-any-desk h = omega (arith, h, (demands_determine s p).same_start 3 none lent_none)

  -- one that reports the rows of both desks
  pub reports-both : s.report_says 1 mixed ≡ 3 * 2 ^ 8 → ⊥
  unfolding opened
  reports-both h = omega (arith, h, (demands_determine s p).same_report 1 mixed lent-mixed)

  -- one that reports rows sorted, francs first
  pub sorts_rows : get_or (s.report_leaves 1 mixed (replicate 35 0)) 3 0 ≡ 4_606_019 → ⊥
  unfolding opened
  sorts_rows h = omega (arith, h, ap (λ l. get_or l 3 0) ((demands_determine s p).same_report_left 1 mixed (replicate 35 0) lent-mixed lent-report))
