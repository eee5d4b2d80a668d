-- The totals of a day: what a record is answered, case by case; no table reached from an empty one is damaged; and what every day comes to.
use Prim.Native.Nat.{ℕ, suc, ◌+◌, ◌≤◌, ◌<◌}
use mathlib.Core.Path.{◌≡◌, refl, ◌∙◌, ap}
use mathlib.Core.Logic.{◌↔◌}
use mathlib.Core.Bool.{Bool, true, false, not, ◌&&◌, cond}
use mathlib.Core.List.{List, [], ◌∷◌, ◌++◌}
use native.Mathlib.Omega.{arith}
use borrow.Author.Tests.{ltb-false, le-ltb, eqb-true, eqb-false, eq-eqb, ne_eqb}
use lib.Dec.{eqb}
use lib.ListN.{length, length-append}
use lib.IntN.{ℤ}
use Rattle.rules.specs.Basics.{exists}
use Rattle.rules.specs.Refusal.{Refusal, NO_ROW, TOTAL, DAMAGED, DAY_FULL, number, rank_in, first_of, Outcome, answered, refused, ◌unless◌, ◌when◌, ◌and_then◌}
use Rattle.rules.specs.Forms.{is_currency}
use Rattle.rules.specs.Totals.{Table, totalling, counting, table, counted, is_in_range, is_held, is_held_twice, is_damaged, is_full, Entry, null, money, new_total, fitting, posting, is_uncounted, recorded, is_counted}
use Rattle.rules.specs.TotalDays.{History, beginning, ◌then◌, Call, reading_of, answer_to, IsUsable, HasNoRow, Posted, damaged, full, faulty, a_null, no_row, out_of_range, added, reached, answers, is_added, is_null_answer, is_counted_refusal, how_many, sum_added, currencies_added, rows_of, counts_of, day_of}
use Rattle.rules.proofs.Tests.{clash, neither}
use Rattle.rules.proofs.TotalRows.{exists-append, entered-new, entered-held, entered-length, entered_once, entered-within, rows_more}
use Rattle.rules.proofs.Precedence.{number_injective}
use Rattle.rules.proofs.CheckRefusals.{is_of_record}
use Rattle.rules.proofs.TotalReading.{reading-currency, reading_refusals}

-- a table that is not damaged
pub record Proper (t : Table) : Type 0 where
  pub few : length t.rows ≤ 16
  pub formed : exists (λ r. not (is_currency r.currency)) t.rows ≡ false
  pub once : is_held_twice t.rows ≡ false
  pub within : exists (λ r. not (is_in_range r.total)) t.rows ≡ false
  pub below : counted t.counts ≤ 1_000_000

pub undamaged : (t : Table) → is_damaged t ≡ false ↔ Proper t
unfolding is_damaged
undamaged t = (
  λ e.
      let (d, below) = neither _ _ e in
      let (c, within) = neither _ _ d in
      let (b, once) = neither _ _ c in
      let (few, formed) = neither _ _ b in
      record { few = ltb-false 16 (length t.rows) few; formed = formed; once = once; within = within; below = ltb-false 1_000_000 (counted t.counts) below },
  λ p. rw (le-ltb 16 (length t.rows) p.few, p.formed, p.once, p.within, le-ltb 1_000_000 (counted t.counts) p.below),
)

-- the answer to a record, case by case
module _ (k : Call) (t : Table) where
  abbrev read : Outcome Entry
  read = reading_of k

  usable : is_damaged t ≡ false → is_full t ≡ false → IsUsable t
  usable d f = record { undamaged = d; not_full = eqb-false (counted t.counts) 1_000_000 f }

  pub not_full : IsUsable t → is_full t ≡ false
  not_full u = ne_eqb (counted t.counts) 1_000_000 u.not_full

  pub posted : Posted k t (answer_to k t)
  unfolding posting fitting first_of rank_in
  posted = by_damage (is_damaged t) refl
    where
      by_range : IsUsable t → (c : List ℕ) (z : ℤ) → read ≡ answered (money c z) → (HasNoRow c t.rows → ⊥) → (b : Bool) → is_in_range (new_total c z t.rows) ≡ b
          → Posted k t (answered (money c z) unless [] ++ TOTAL when not b)
      by_range u c z h n true e = added u h n e
      by_range u c z h n false e = out_of_range u h n e

      by_row : IsUsable t → (c : List ℕ) (z : ℤ) → read ≡ answered (money c z)
          → (a b r : Bool) → is_held c t.rows ≡ a → eqb (length t.rows) 16 ≡ b → is_in_range (new_total c z t.rows) ≡ r
          → Posted k t (answered (money c z) unless NO_ROW when (not a && b) ++ TOTAL when not r)
      by_row u c z h true b r x y w = by_range u c z h (λ n. let i = n.new in clash (cc)) r w
      by_row u c z h false false r x y w = by_range u c z h (λ n. eqb-false (length t.rows) 16 y n.all_held) r w
      by_row u c z h false true true x y w = no_row u h (record { new = x; all_held = eqb-true (length t.rows) 16 y })
      by_row u c z h false true false x y w = no_row u h (record { new = x; all_held = eqb-true (length t.rows) 16 y })

      by_entry : IsUsable t → (o : Outcome Entry) → read ≡ o → Posted k t (o and_then fitting t.rows)
      by_entry u (refused r) h = faulty u h
      by_entry u (answered null) h = a_null u h
      by_entry u (answered (money c z)) h = by_row u c z h (is_held c t.rows) (eqb (length t.rows) 16) (is_in_range (new_total c z t.rows)) refl refl refl

      by_fullness : is_damaged t ≡ false → (b : Bool) → is_full t ≡ b → Posted k t (cond b (refused DAY_FULL) (read and_then fitting t.rows))
      by_fullness d true f = full d (eqb-true (counted t.counts) 1_000_000 f)
      by_fullness d false f = by_entry (usable d f) read refl

      by_damage : (b : Bool) → is_damaged t ≡ b → Posted k t (cond b (refused DAMAGED) (cond (is_full t) (refused DAY_FULL) (read and_then fitting t.rows)))
      by_damage true d = damaged d
      by_damage false d = by_fullness d (is_full t) refl

  -- each case gives its answer, and so only its own
  pub posted_only : {o : Outcome Entry} → Posted k t o → answer_to k t ≡ o
  unfolding posting fitting first_of rank_in
  posted_only (damaged d) = rw d
  posted_only (full d f) = rw (d, eq-eqb (counted t.counts) 1_000_000 f)
  posted_only (faulty u h) = rw (u.undamaged, not_full u, h)
  posted_only (a_null u h) = rw (u.undamaged, not_full u, h)
  posted_only (no_row u {c = c} {z = z} h n) =
      rw (u.undamaged, not_full u, h, n.new, eq-eqb (length t.rows) 16 n.all_held) (go (is_in_range (new_total c z t.rows)))
    where
      go : (b : Bool) → (answered (money c z) unless NO_ROW ∷ [] ++ TOTAL when not b) ≡ refused NO_ROW
      go true = refl
      go false = refl
  posted_only (out_of_range u {c = c} {z = z} h n i) = rw (u.undamaged, not_full u, h, i) (go (is_held c t.rows) (eqb (length t.rows) 16) refl refl)
    where
      go : (a b : Bool) → is_held c t.rows ≡ a → eqb (length t.rows) 16 ≡ b → (answered (money c z) unless NO_ROW when (not a && b) ++ TOTAL ∷ []) ≡ refused TOTAL
      go true b x y = refl
      go false false x y = refl
      go false true x y = absurd (n (record { new = x; all_held = eqb-true (length t.rows) 16 y }))
  posted_only (added u {c = c} {z = z} h n i) = rw (u.undamaged, not_full u, h, i) (go (is_held c t.rows) (eqb (length t.rows) 16) refl refl)
    where
      go : (a b : Bool) → is_held c t.rows ≡ a → eqb (length t.rows) 16 ≡ b → (answered (money c z) unless NO_ROW when (not a && b) ++ []) ≡ answered (money c z)
      go true b x y = refl
      go false false x y = refl
      go false true x y = absurd (n (record { new = x; all_held = eqb-true (length t.rows) 16 y }))

  -- only a damaged table is answered so
  pub posted_undamaged : {o : Outcome Entry} → Posted k t o → (o ≡ refused DAMAGED → ⊥) → is_damaged t ≡ false
  posted_undamaged (damaged d) n = absurd (n refl)
  posted_undamaged (full d f) n = d
  posted_undamaged (faulty u h) n = u.undamaged
  posted_undamaged (a_null u h) n = u.undamaged
  posted_undamaged (no_row u h i) n = u.undamaged
  posted_undamaged (out_of_range u h i j) n = u.undamaged
  posted_undamaged (added u h i j) n = u.undamaged

-- the refusals of the ladder are counted
pub ladder_counted : (r : Refusal) → is_of_record r ≡ true → is_uncounted r ≡ false
unfolding is_of_record rank_in
ladder_counted r h =
    let other : (q : Refusal) → is_of_record q ≡ false → number r ≡ number q → ⊥ = λ q f e. let z = number_injective r q e in clash (cc (ap is_of_record z)) in
    rw (ne_eqb (number r) (number DAMAGED) (other DAMAGED refl), ne_eqb (number r) (number DAY_FULL) (other DAY_FULL refl))

-- 21, 25, 16 and 17 are given exactly if what they are for is so
module _ (k : Call) (t : Table) where
  own : (r : Refusal) → is_of_record r ≡ false → reading_of k ≡ refused r → ⊥
  own r f h = let e = reading_refusals k.offset k.record' h in clash (cc)

  pub exactly-damaged : answer_to k t ≡ refused DAMAGED ↔ is_damaged t ≡ true
  unfolding is_of_record rank_in
  exactly-damaged = (λ e. go (rw e at (posted k t)), λ d. posted_only k t (damaged d))
    where
      go : Posted k t (refused DAMAGED) → is_damaged t ≡ true
      go (damaged d) = d
      go (faulty u h) = absurd (own DAMAGED refl h)

  pub exactly-full : answer_to k t ≡ refused DAY_FULL ↔ (is_damaged t ≡ false) × (counted t.counts ≡ 1_000_000)
  unfolding is_of_record rank_in
  exactly-full = (λ e. go (rw e at (posted k t)), λ (d, f). posted_only k t (full d f))
    where
      go : Posted k t (refused DAY_FULL) → (is_damaged t ≡ false) × (counted t.counts ≡ 1_000_000)
      go (full d f) = (d, f)
      go (faulty u h) = absurd (own DAY_FULL refl h)

  pub exactly_no_row : answer_to k t ≡ refused NO_ROW
      ↔ (c : List ℕ) × (z : ℤ) × IsUsable t × (reading_of k ≡ answered (money c z)) × HasNoRow c t.rows
  unfolding is_of_record rank_in
  exactly_no_row = (λ e. go (rw e at (posted k t)), λ (c, z, u, h, n). posted_only k t (no_row u h n))
    where
      go : Posted k t (refused NO_ROW) → (c : List ℕ) × (z : ℤ) × IsUsable t × (reading_of k ≡ answered (money c z)) × HasNoRow c t.rows
      go (faulty u h) = absurd (own NO_ROW refl h)
      go (no_row u {c = c} {z = z} h n) = (c, z, u, h, n)

  pub exactly-total : answer_to k t ≡ refused TOTAL
      ↔ (c : List ℕ) × (z : ℤ) × IsUsable t × (reading_of k ≡ answered (money c z)) × (HasNoRow c t.rows → ⊥) × (is_in_range (new_total c z t.rows) ≡ false)
  unfolding is_of_record rank_in
  exactly-total = (λ e. go (rw e at (posted k t)), λ (c, z, u, h, n, i). posted_only k t (out_of_range u h n i))
    where
      go : Posted k t (refused TOTAL)
          → (c : List ℕ) × (z : ℤ) × IsUsable t × (reading_of k ≡ answered (money c z)) × (HasNoRow c t.rows → ⊥) × (is_in_range (new_total c z t.rows) ≡ false)
      go (faulty u h) = absurd (own TOTAL refl h)
      go (out_of_range u {c = c} {z = z} h n i) = (c, z, u, h, n, i)

module _ (k : Call) (t : Table) (p : Proper t) where
  -- one more can be counted
  room : IsUsable t → counted t.counts < 1_000_000
  room u = let n = u.not_full in omega (arith, p.below)

  refused-proper : (r : Refusal) → IsUsable t → Proper (recorded (refused r) t)
  refused-proper r u = record { few = p.few; formed = p.formed; once = p.once; within = p.within; below = go (is_uncounted r) }
    where
      go : (b : Bool) → counted (cond b t.counts (counting t.counts.added t.counts.null (suc t.counts.refused))) ≤ 1_000_000
      go true = p.below
      go false = omega (arith, room u)

  added-proper : (c : List ℕ) (z : ℤ) → IsUsable t → is_currency c ≡ true → (HasNoRow c t.rows → ⊥)
      → is_in_range (new_total c z t.rows) ≡ true → (b : Bool) → is_held c t.rows ≡ b → Proper (recorded (answered (money c z)) t)
  unfolding exists
  added-proper c z u f n i true e = record {
    few = rw (entered-length c z t.rows e) p.few;
    formed = entered-held c z (λ r. not (is_currency r.currency)) (λ d a b. refl) t.rows e ∙ p.formed;
    once = entered_once c z t.rows p.once;
    within = entered-within c z t.rows p.within i;
    below = omega (arith, room u);
  }
  added-proper c z u f n i false e = record {
    few =
        rw (entered-new c z t.rows e, length-append t.rows (totalling c z ∷ []))
        (let m : length t.rows ≡ 16 → ⊥ = λ l. n (record { new = e; all_held = l }) in omega (arith, p.few));
    formed = rw (entered-new c z t.rows e, exists-append (λ r. not (is_currency r.currency)) t.rows (totalling c z ∷ []), p.formed, f);
    once = entered_once c z t.rows p.once;
    within = entered-within c z t.rows p.within i;
    below = omega (arith, room u);
  }

  -- a call leaves a table that is not damaged
  pub step_proper : {o : Outcome Entry} → Posted k t o → Proper (recorded o t)
  step_proper (damaged d) = p
  step_proper (full d f) = p
  step_proper (faulty u {r = r} h) = refused-proper r u
  step_proper (a_null u h) = record { few = p.few; formed = p.formed; once = p.once; within = p.within; below = omega (arith, room u) }
  step_proper (no_row u h n) = refused-proper NO_ROW u
  step_proper (out_of_range u h n i) = refused-proper TOTAL u
  step_proper (added u {c = c} {z = z} h n i) = added-proper c z u (reading-currency k.offset k.record' h) n i (is_held c t.rows) refl

pub reached-proper : (h : History Call) → Proper (reached h)
unfolding reached exists is_held_twice
reached-proper beginning = record { few = omega arith; formed = refl; once = refl; within = refl; below = omega arith }
reached-proper (h then k) = step_proper k (reached h) (reached-proper h) (posted k (reached h))

-- the day so far with an answer more
day_more : (a : History (Outcome Entry)) (o : Outcome Entry) → is_held_twice (rows_of a) ≡ false → recorded o (day_of a) ≡ day_of (a then o)
unfolding how_many sum_added currencies_added
day_more a (answered null) w = refl
day_more a (answered (money c z)) w = ap (λ rows. table rows (counts_of (a then answered (money c z)))) (rows_more c z a w)
day_more a (refused r) w = go (is_uncounted r)
  where
    go : (b : Bool)
        → table (rows_of a) (cond b (counts_of a) (counting (how_many is_added a) (how_many is_null_answer a) (suc (how_many is_counted_refusal a))))
        ≡ table (rows_of a) (counting (how_many is_added a) (how_many is_null_answer a) (cond (not b) (suc (how_many is_counted_refusal a)) (how_many is_counted_refusal a)))
    go true = refl
    go false = refl

-- at any moment the table is what the answers come to
pub reached-day : (h : History Call) → reached h ≡ day_of (answers h)
unfolding reached answers how_many sum_added currencies_added
reached-day beginning = refl
reached-day (h then k) =
    let e = reached-day h in
    ap (recorded (answer_to k (reached h))) e ∙ day_more (answers h) (answer_to k (reached h)) (rw e at (reached-proper h).once)

-- the three counts add up to the answers that are neither 21 nor 25
pub counts-add_up : (a : History (Outcome Entry)) → counted (counts_of a) ≡ how_many is_counted a
unfolding how_many
counts-add_up beginning = refl
counts-add_up (a then answered null) = omega (arith, counts-add_up a)
counts-add_up (a then answered (money c z)) = omega (arith, counts-add_up a)
counts-add_up (a then refused r) = go (is_uncounted r) (counts-add_up a)
  where
    go : (b : Bool) → counted (counts_of a) ≡ how_many is_counted a
        → how_many is_added a + how_many is_null_answer a + cond (not b) (suc (how_many is_counted_refusal a)) (how_many is_counted_refusal a) ≡ cond (not b) (suc (how_many is_counted a)) (how_many is_counted a)
    go true e = e
    go false e = omega (arith, e)

-- no call of a day is answered DAMAGED
pub never_damaged : (h : History Call) → is_damaged (reached h) ≡ false
never_damaged h = (undamaged (reached h)).1 (reached-proper h)
