-- The table of two desks as code judges it, and as it leaves it, in the words of the rules.
use Rattle.std.proofs.Common.{◌≡◌, ℕ, zero, suc, ◌+◌, ◌^◌, ◌<◌, ◌≤◌, min, Bool, true, false, cond, not, ◌||◌, eqb, ltb, List, [], ◌∷◌, ◌++◌, map, length, get_or, take, drop, set, sym, refl, ap, ◌∙◌, ap₂, arith, drop-drop, ltb-true, lt-ltb}
use mathlib.Core.List.{flat_map}
use borrow.Author.Tests.{not-false}
use lib.ListN.{length-map}
use Rattle.rules.specs.Basics.{exists, every}
use Rattle.rules.specs.Forms.{is_currency}
use Rattle.rules.specs.Services.{overwrite}
use Rattle.rules.specs.Totals.{empty_table, is_held_twice, is_damaged}
use Rattle.rules.specs.TotalNumbers.{is64, Lent, currency_in}
use Rattle.rules.specs.Desks.{Owned, Shared, owned, is_desk, with_rows, part_of, with_part, is_faulty}
use Rattle.rules.specs.DeskNumbers.{rows_in, counts_at, shared_in, count_numbers, owned_numbers as rules_numbers, shared_numbers}
use Rattle.rules.proofs.Tests.{clash, neither, both_true}
use Rattle.rules.proofs.TotalNumbers.{currency-written, total-written, every_drop}
use Rattle.rules.proofs.Totals.{undamaged}
use Rattle.rules.proofs.Desks.{Sound as RulesSound, faultless, sound_with}
use Rattle.rules.proofs.DeskNumbers.{rows-length, at-most_32, sound-formed}
use Rattle.writer.specs.Placing.{placed}
use Rattle.totals.specs.declared.Row.{Row}
use Rattle.totals.specs.declared.Table.{Table}
use Rattle.totals.specs.Tables.{held_rows, row_meant, table_meant, are_totals, Holds}
use Rattle.totals.specs.Readings.{Sound}
use Rattle.totals.specs.Shares.{owned_in, held_in, has_stray, owned_numbers}
use Rattle.totals.proofs.Owners.{bits_at, meant, rows-meant, with_meant}
use Rattle.totals.proofs.Taking.{judged}

-- over 32 rows are damage
pub held-few : (numbers : List ℕ) → is_faulty (shared_in numbers) ≡ false → get_or numbers 0 0 ≤ 32
held-few numbers h =
    let n = min 33 (get_or numbers 0 0) in
    omega (arith, at-most_32 (shared_in numbers) ((faultless (shared_in numbers)).0 h), rows-length n (drop 7 numbers))

pub faulty-many : (numbers : List ℕ) → 32 < get_or numbers 0 0 → true ≡ is_faulty (shared_in numbers)
faulty-many numbers l = go (is_faulty (shared_in numbers)) refl
  where
    go : (b : Bool) → is_faulty (shared_in numbers) ≡ b → true ≡ b
    go true e = refl
    go false e = clash (omega (arith, held-few numbers e))

-- the rows held, and what they mean
held-meant : (numbers : List ℕ) → get_or numbers 0 0 ≤ 32 → map meant (held_in numbers) ≡ (shared_in numbers).rows
held-meant numbers l = let e : get_or numbers 0 0 ≡ min 33 (get_or numbers 0 0) = omega arith in rows-meant (get_or numbers 0 0) (drop 7 numbers) ∙ ap (λ n. rows_in n (drop 7 numbers)) e

stray_meant : (rows : List (Owned Row)) → exists (λ r. not (is_desk r.desk)) rows ≡ exists (λ r. not (is_desk r.desk)) (map meant rows)
unfolding exists
stray_meant [] = refl
stray_meant (r ∷ rows) = ap (λ b. not (is_desk r.desk) || b) (stray_meant rows)

pub faulty-is : (numbers : List ℕ) → get_or numbers 0 0 ≤ 32 → (t u : Table) → Holds (part_of 1 (shared_in numbers)) t → Holds (part_of 2 (shared_in numbers)) u → {a b c : Bool}
    → a ≡ (ltb 16 t.held || is_damaged (table_meant t)) → b ≡ (ltb 16 u.held || is_damaged (table_meant u)) → c ≡ has_stray numbers → (a || b || c) ≡ is_faulty (shared_in numbers)
unfolding is_faulty
faulty-is numbers l t u h i e f g =
    let x = e ∙ judged (part_of 1 (shared_in numbers)) t h in
    let y = f ∙ judged (part_of 2 (shared_in numbers)) u i in
    let z = g ∙ stray_meant (held_in numbers) ∙ ap (exists (λ r. not (is_desk r.desk))) (held-meant numbers l) in
    rw (x, y, z) refl

-- totals of 64 bits
abbrev is_short : Owned Row → Bool
is_short r = is64 r.row.total

rows_short : (d : ℕ) (new : List Row) (rows : List (Owned Row)) → are_totals new ≡ true → every is_short rows ≡ true → every is_short (with_rows d new rows) ≡ true
unfolding every with_rows
rows_short d [] [] a b = refl
rows_short d (x ∷ new) [] a b = let (i, j) = both_true (is64 x.total) (are_totals new) a in rw i (rows_short d new [] j b)
rows_short d new (r ∷ rows) a b = let (i, j) = both_true (is_short r) (every is_short rows) b in go (eqb r.desk d) new i a (λ new a. rows_short d new rows a j)
  where
    go : (t : Bool) (new : List Row) → is_short r ≡ true → are_totals new ≡ true → ((new : List Row) → are_totals new ≡ true → every is_short (with_rows d new rows) ≡ true)
        → every is_short (cond t (map (owned d) (take 1 new) ++ with_rows d (drop 1 new) rows) (r ∷ with_rows d new rows)) ≡ true
    go true [] i a below = below [] a
    go true (x ∷ new) i a below = let (k, l) = both_true (is64 x.total) (are_totals new) a in rw k (below new l)
    go false new i a below = rw i (below new a)

held-short : (n : ℕ) (numbers : List ℕ) → every is64 numbers ≡ true → every is_short (owned_in n numbers) ≡ true
unfolding every owned_in
held-short zero numbers h = refl
held-short (suc n) numbers h = rw (lt-ltb _ (2 ^ 64) (bits_at numbers h 2)) (held-short n (drop 3 numbers) (every_drop is64 3 numbers h))

-- the numbers of rows of the right form are those of what they mean
numbers-meant : (rows : List (Owned Row)) → every is_short rows ≡ true → exists (λ r. not (is_currency r.row.currency)) (map meant rows) ≡ false
    → flat_map owned_numbers rows ≡ flat_map rules_numbers (map meant rows)
unfolding every exists flat_map
numbers-meant [] b f = refl
numbers-meant (r ∷ rows) b f =
    let (x, y) = neither (not (is_currency (currency_in r.row.currency))) _ f in
    let (i, j) = both_true (is_short r) (every is_short rows) b in
    rw (currency-written r.row.currency (not-false _ x), total-written r.row.total (ltb-true r.row.total (2 ^ 64) i))
    (ap (λ l. r.desk ∷ r.row.currency ∷ r.row.total ∷ l) (numbers-meant rows j y))

-- counts and rows held, written over those that were there
counts-put : (numbers : List ℕ) (desk from held : ℕ) (t : Table) (rows : List ℕ) → length numbers ≡ 103 → from ≡ cond (eqb desk 1) 1 4
    → set (set (set (set (placed 7 rows numbers) 0 held) from t.added) (from + 1) t.null) (from + 2) t.refused
    ≡ overwrite numbers (held ∷ cond (eqb desk 1) (t.added ∷ t.null ∷ t.refused ∷ []) (take 3 (drop 1 numbers)) ++ cond (eqb desk 1) (take 3 (drop 4 numbers)) (t.added ∷ t.null ∷ t.refused ∷ []) ++ rows)
counts-put numbers desk from held t rows l e = rw e (go (eqb desk 1) numbers l)
  where
    go : (b : Bool) (numbers : List ℕ) → length numbers ≡ 103
        → set (set (set (set (placed 7 rows numbers) 0 held) (cond b 1 4) t.added) (cond b 1 4 + 1) t.null) (cond b 1 4 + 2) t.refused
        ≡ overwrite numbers (held ∷ cond b (t.added ∷ t.null ∷ t.refused ∷ []) (take 3 (drop 1 numbers)) ++ cond b (take 3 (drop 4 numbers)) (t.added ∷ t.null ∷ t.refused ∷ []) ++ rows)
    go b [] l = clash (omega arith)
    go b (_ ∷ []) l = clash (omega arith)
    go b (_ ∷ _ ∷ []) l = clash (omega arith)
    go b (_ ∷ _ ∷ _ ∷ []) l = clash (omega arith)
    go b (_ ∷ _ ∷ _ ∷ _ ∷ []) l = clash (omega arith)
    go b (_ ∷ _ ∷ _ ∷ _ ∷ _ ∷ []) l = clash (omega arith)
    go b (_ ∷ _ ∷ _ ∷ _ ∷ _ ∷ _ ∷ []) l = clash (omega arith)
    go true (a ∷ b ∷ c ∷ d ∷ e ∷ f ∷ g ∷ numbers) l = rw (← drop-drop (length rows) 7 (a ∷ b ∷ c ∷ d ∷ e ∷ f ∷ g ∷ numbers)) refl
    go false (a ∷ b ∷ c ∷ d ∷ e ∷ f ∷ g ∷ numbers) l = rw (← drop-drop (length rows) 7 (a ∷ b ∷ c ∷ d ∷ e ∷ f ∷ g ∷ numbers)) refl

-- a desk's part put back
module _ (numbers : List ℕ) (lent : Lent 103 numbers) (sound : is_faulty (shared_in numbers) ≡ false) (desk : ℕ) (is : is_desk desk ≡ true) (t : Table) (s : Sound t) where
  abbrev after : Shared
  after = with_part desk (table_meant t) (shared_in numbers)

  after-sound : RulesSound after
  after-sound = sound_with (shared_in numbers) ((faultless (shared_in numbers)).0 sound) desk is (table_meant t) ((undamaged (table_meant t)).0 s.undamaged)

  abbrev all : List (Owned Row)
  all = with_rows desk (held_rows t) (held_in numbers)

  all-meant : map meant all ≡ after.rows
  all-meant = with_meant desk (held_rows t) (held_in numbers) ∙ ap (with_rows desk (map row_meant (held_rows t))) (held-meant numbers (held-few numbers sound))

  all-length : length all ≡ length after.rows
  all-length = sym (length-map all meant) ∙ ap length all-meant

  pub all-few : length all ≤ 32
  all-few = omega (arith, all-length, at-most_32 after after-sound)

  all-numbers : flat_map owned_numbers all ≡ flat_map rules_numbers after.rows
  all-numbers =
      let short = rows_short desk (held_rows t) (held_in numbers) s.bits (held-short (get_or numbers 0 0) (drop 7 numbers) (every_drop is64 7 numbers lent.bits)) in
      numbers-meant all short (ap (exists (λ r. not (is_currency r.row.currency))) all-meant ∙ sound-formed after after-sound) ∙ ap (flat_map rules_numbers) all-meant

  pub part_put : (from held : ℕ) → from ≡ cond (eqb desk 1) 1 4 → held ≡ length all
      → set (set (set (set (placed 7 (flat_map owned_numbers all) numbers) 0 held) from t.added) (from + 1) t.null) (from + 2) t.refused ≡ overwrite numbers (shared_numbers after)
  part_put from held e f =
      counts-put numbers desk from held t (flat_map owned_numbers all) lent.long e ∙ ap₂ (λ h l. overwrite numbers (h ∷ cond (eqb desk 1) (t.added ∷ t.null ∷ t.refused ∷ []) (take 3 (drop 1 numbers)) ++ cond (eqb desk 1) (take 3 (drop 4 numbers)) (t.added ∷ t.null ∷ t.refused ∷ []) ++ l)) (f ∙ all-length) all-numbers
      ∙ ap (overwrite numbers) (go (eqb desk 1) numbers lent.long)
    where
      go : (b : Bool) (l : List ℕ) → length l ≡ 103
          → length after.rows ∷ cond b (t.added ∷ t.null ∷ t.refused ∷ []) (take 3 (drop 1 l)) ++ cond b (take 3 (drop 4 l)) (t.added ∷ t.null ∷ t.refused ∷ []) ++ flat_map rules_numbers after.rows
          ≡ length after.rows ∷ count_numbers (cond b (table_meant t).counts (counts_at 1 l)) ++ count_numbers (cond b (counts_at 4 l) (table_meant t).counts) ++ flat_map rules_numbers after.rows
      go b [] l = clash (omega arith)
      go b (_ ∷ []) l = clash (omega arith)
      go b (_ ∷ _ ∷ []) l = clash (omega arith)
      go b (_ ∷ _ ∷ _ ∷ []) l = clash (omega arith)
      go b (_ ∷ _ ∷ _ ∷ _ ∷ []) l = clash (omega arith)
      go b (_ ∷ _ ∷ _ ∷ _ ∷ _ ∷ []) l = clash (omega arith)
      go b (_ ∷ _ ∷ _ ∷ _ ∷ _ ∷ _ ∷ []) l = clash (omega arith)
      go true (_ ∷ _ ∷ _ ∷ _ ∷ _ ∷ _ ∷ _ ∷ numbers) l = refl
      go false (_ ∷ _ ∷ _ ∷ _ ∷ _ ∷ _ ∷ _ ∷ numbers) l = refl

-- a table of nothing is not damaged
pub nothing-sound : (t : Table) → t.held ≡ 0 → t.added ≡ 0 → t.null ≡ 0 → t.refused ≡ 0 → Sound t × (table_meant t ≡ empty_table)
unfolding is_damaged is_held_twice exists every
nothing-sound t h a n r = (
  record { few = omega (arith, h); undamaged = rw (h, a, n, r) refl; bits = rw h refl },
  rw (h, a, n, r) refl,
)
