-- The pieces of a term, by its bounds.
use Prim.Native.Nat.{ℕ, suc, ◌+◌, ◌-◌, ◌^◌, ◌<◌}
use mathlib.Core.Path.{◌≡◌, refl, sym, ap}
use mathlib.Core.List.{List, ◌++◌}
use Rattle.std.proofs.Common.{◌⊎◌, inl, inr}
use mathlib.Core.Bool.{Bool, true, false, cond}
use native.Mathlib.Omega.{arith}
use borrow.Author.Tests.{ltb-true, ltb-false, le-ltb}
use lib.Dec.{ltb}
use lib.ListN.{length, length-append}
use lib.IntN.{pos, negsuc}
use Rattle.rules.specs.Basics.{bytes}
use Rattle.rules.specs.Invariants.{Side, low, high}
use Rattle.rules.specs.Sets.{Bound as PageBound, Interval}
use Rattle.rules.specs.LentLists.{signed}
use Rattle.rules.specs.Dates.{years_end, timestamp_text}
use Rattle.rules.specs.Printing.{flag_text, bound_text, term_text, is_writable_tick, is_writable_bound, is_writable_stretch}
use Rattle.rules.proofs.Tests.{clash, both_true}
use Rattle.rules.proofs.Dates.{years-end}
use Rattle.rules.proofs.Pieces.{timestamp-length}
use Rattle.printing.specs.declared.stretch.Bound.{Bound}
use Rattle.printing.specs.declared.stretch.Bound.TheVariants.{Open, Closed}
use Rattle.printing.specs.Terms.{bound_meant, opening_text, value_text, tag_text}

-- a tick that can be written is one of years 0001 to 9999
tick-written : (t : ℕ) → is_writable_tick (signed t) ≡ true → (t < years_end) × (signed t ≡ pos t)
tick-written t h = go (ltb t (2 ^ 63)) refl h
  where
    go : (b : Bool) → ltb t (2 ^ 63) ≡ b → is_writable_tick (cond b (pos t) (negsuc (2 ^ 64 - suc t))) ≡ true → (t < years_end) × (cond b (pos t) (negsuc (2 ^ 64 - suc t)) ≡ pos t)
    go true e h = (ltb-true t years_end h, refl)
    go false e h = clash (cc)

-- the text of a bound at a tick
pub record Valued (side : Side) (b : PageBound) (t : ℕ) : Type 0 where
  pub small : t < years_end
  pub text : bound_text side b ≡ value_text side t

pub valued : (side : Side) (b : Bound) (t : ℕ) → (b ≡ Open t) ⊎ (b ≡ Closed t) → is_writable_bound (bound_meant b) ≡ true → Valued side (bound_meant b) t
unfolding bound_text opening_text
valued side b t (inl e) h = let (s, p) = tick-written t (rw e at h) in record { small = s; text = rw (e, p) refl }
valued side b t (inr e) h = let (s, p) = tick-written t (rw e at h) in record { small = s; text = rw (e, p) refl }

-- the lengths of a start tag and of a term
pub tag-length : (s : Interval) → length (tag_text s) ≡ 24 + length (flag_text low s.low) + length (flag_text high s.high)
unfolding tag_text
tag-length s = sum (flag_text low s.low) (flag_text high s.high)
  where
    sum : (a b : List ℕ) → length (bytes "<term xsi:type=\"IVL_TS\"" ++ a ++ b ++ bytes ">") ≡ 24 + length a + length b
    sum a b = simp length-append (omega arith)

pub term_sizes : (s : Interval) → length (term_text s) ≡ length (tag_text s) + length (bound_text low s.low) + length (bound_text high s.high) + 7
unfolding term_text tag_text
term_sizes s = sum (bytes "<term xsi:type=\"IVL_TS\"" ++ flag_text low s.low ++ flag_text high s.high ++ bytes ">") (bound_text low s.low) (bound_text high s.high)
  where
    sum : (a b c : List ℕ) → length (a ++ b ++ c ++ bytes "</term>") ≡ length a + length b + length c + 7
    sum a b c = simp length-append

pub opening_length : (side : Side) (v : List ℕ) → length (opening_text side ++ v ++ bytes "\"/>") ≡ length (opening_text side) + length v + 3
opening_length side v = simp length-append

pub value_length : (side : Side) (t : ℕ) → length (value_text side t) ≡ length (opening_text side) + 27
value_length side t = sum (opening_text side) (timestamp_text (pos t)) (timestamp-length t)
  where
    sum : (a v : List ℕ) → length v ≡ 24 → length (a ++ v ++ bytes "\"/>") ≡ length a + 27
    sum a v e = simp length-append (omega arith)

pub bounds_writable : (s : Interval) → is_writable_stretch s ≡ true → (is_writable_bound s.low ≡ true) × (is_writable_bound s.high ≡ true)
bounds_writable s = both_true (is_writable_bound s.low) (is_writable_bound s.high)

-- a tick can be written if it is in years 0001 to 9999
pub writable_tick : (t : ℕ) → ltb t 3_155_378_976_000_000 ≡ is_writable_tick (signed t)
writable_tick t = go (ltb t (2 ^ 63)) refl
  where
    go : (b : Bool) → ltb t (2 ^ 63) ≡ b → ltb t 3_155_378_976_000_000 ≡ is_writable_tick (cond b (pos t) (negsuc (2 ^ 64 - suc t)))
    go true e = ap (ltb t) (sym years-end)
    go false e = le-ltb t 3_155_378_976_000_000 (omega (arith, ltb-false t (2 ^ 63) e))
