-- What printing answers and leaves, by each way through it.
use Prim.Native.Nat.{ℕ, ◌*◌, ◌≤◌, ◌<◌}
use mathlib.Core.Path.{◌≡◌, refl}
use mathlib.Core.Bool.{true, false}
use mathlib.Core.List.{List}
use lib.ListN.{length}
use Rattle.rules.specs.Refusal.{NOT_WRITABLE, NO_ROOM, number}
use Rattle.rules.specs.LentLists.{listed}
use Rattle.rules.specs.Printing.{record_text, is_unwritable, print_answer, print_after}
use Rattle.rules.specs.Services.{overwrite}
use Rattle.rules.proofs.PrintingCases.{printing_unwritable, printing_no_room, printing-answered}

module _ (list lent : List ℕ) where
  abbrev text : List ℕ
  text = record_text (listed list)

  pub print_unwritable : is_unwritable list ≡ true → (number NOT_WRITABLE ≡ print_answer list lent) × (lent ≡ print_after list lent)
  print_unwritable e = rw (printing_unwritable list (length lent) e) (refl, refl)

  pub print_no_room : is_unwritable list ≡ false → length lent < length text → (number NO_ROOM ≡ print_answer list lent) × (lent ≡ print_after list lent)
  print_no_room e l = rw (printing_no_room list (length lent) e l) (refl, refl)

  pub print-answered : is_unwritable list ≡ false → length text ≤ length lent → (length text * 256 ≡ print_answer list lent) × (overwrite lent text ≡ print_after list lent)
  print-answered e l = rw (printing-answered list (length lent) e l) (refl, refl)
