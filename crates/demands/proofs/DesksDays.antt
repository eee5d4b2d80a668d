-- Calls of both desks, mixed: at any moment each desk's part of the table is its own day, and what it hears is what it would with the box to itself.
use Prim.Native.Nat.{ℕ, ◌*◌, ◌^◌, ◌<◌}
use mathlib.Core.Path.{◌≡◌, refl, sym, ◌∙◌, ap, subst}
use mathlib.Core.Logic.{◌↔◌}
use mathlib.Core.Bool.{Bool, true, false, not, ◌||◌, cond}
use mathlib.Core.List.{List, []}
use native.Mathlib.Omega.{arith}
use borrow.Author.Tests.{eqb-true, eqb-false, eq-eqb, ne_eqb, not-false}
use lib.Dec.{eqb}
use lib.ListN.{length}
use lib.IntN.{ℤ}
use Rattle.rules.specs.Basics.{every}
use Rattle.rules.specs.Refusal.{DAY_FULL, number, Outcome, answered, refused}
use Rattle.rules.specs.Services.{packed, overwrite}
use Rattle.rules.specs.Totals.{Table, empty_table, counted, Entry, money, is_uncounted, is_counted, recorded}
use Rattle.rules.specs.TotalNumbers.{is64, Lent, report_numbers, entry_number}
use Rattle.rules.specs.TotalDays.{Call, reading_of, answer_to, History, beginning, ◌then◌, reached, answers, how_many, IsDay}
use Rattle.rules.specs.Desks.{Shared, shared, is_desk, rows_for, with_rows, part_of, with_part, is_faulty, recorded_of}
use Rattle.rules.specs.DeskNumbers.{rows_in, shared_in, shared_numbers, opened_table, add_answer}
use Rattle.rules.specs.DeskDays.{Ask, start, add, report, DeskCall}
use Rattle.rules.proofs.Tests.{clash}
use Rattle.rules.proofs.Totals.{Proper, posted, exactly-full, step_proper, reached-proper, never_damaged}
use Rattle.rules.proofs.Desks.{rows_back, part_other, Sound, faultless, sound_part, sound_with, given_then, given, shared_after, shared_reached, parted, reached-sound, never_faulty}
use Rattle.rules.proofs.DeskNumbers.{shared-read, shared-lent}
use Rattle.demands.specs.Services.{services}
use Rattle.demands.specs.Totals.{told, Limits}
use Rattle.demands.specs.Desks.{IsDesk, Heard, hearing, leaves_after, hears, table_at, heard_by, said_to, told_to, OwnCalls, none, its, another}
use Rattle.demands.proofs.DesksDamage.{is-desk}
use Rattle.demands.proofs.DesksCalls.{Usable, Refused, no_desk, damaged, shared_refusal, of_desk_lem, case, start_given, add_given, report_given, start-refused, add-refused}
use Rattle.demands.proofs.Answers.{iff_trans}
use Rattle.demands.proofs.TotalsDays.{packed-number, told_is, numbers_of, is-day, day-counted}
use Rattle.demands.proofs.TotalsLimits.{limits_met}

-- a part put back changes nothing
part_back : (n : ℕ) (s : Shared) → with_part n (part_of n s) s ≡ s
part_back n s = go (eqb n 1)
  where
    go : (b : Bool) → shared (with_rows n (rows_for n s.rows) s.rows) (cond b (cond b s.first s.second) s.first) (cond b s.second (cond b s.first s.second)) ≡ s
    go true = ap (λ rows. shared rows s.first s.second) (rows_back n s.rows)
    go false = ap (λ rows. shared rows s.first s.second) (rows_back n s.rows)

-- an answer that is not counted changes nothing
uncounted_kept : (o : Outcome Entry) → is_counted o ≡ false → (t : Table) → recorded o t ≡ t
uncounted_kept (answered e) h t = clash (cc)
uncounted_kept (refused r) h t = rw (not-false (is_uncounted r) h)

abbrev call : (desk : ℕ) → Ask → DeskCall
call n a = record { desk = n; ask = a }

-- what a call under a number leaves of a table
module _ (numbers : List ℕ) (n : ℕ) where
  abbrev s : Shared
  s = shared_in numbers

  -- if it is refused as all are, the table as it was
  left_refused : {r : ℕ} → Refused numbers n r → (a : Ask) → leaves_after services numbers (call n a) ≡ numbers
  left_refused r start = (start-refused numbers n r).1
  left_refused r (add k) = (add-refused numbers n k r).1
  left_refused r (report lent) = refl

  after-refused : {r : ℕ} → Refused numbers n r → (a : Ask) → shared_after (call n a) s ≡ s
  unfolding shared_after
  after-refused (no_desk h) a = rw h
  after-refused (damaged h f) a = rw (h, f)

  -- else numbers that say what the desk called for
  record Left (a : Ask) (x : List ℕ) : Type 0 where
    long : Lent 103 x
    says : shared_in x ≡ shared_after (call n a) s

  module _ (lent : Lent 103 numbers) (p : Sound s) (u : Usable numbers n) where
    abbrev t : Table
    t = part_of n s

    left_kept : (a : Ask) → shared_after (call n a) s ≡ s → Left a numbers
    left_kept a e = record { long = lent; says = sym e }

    left_written : (a : Ask) (x : Table) → Proper x → shared_after (call n a) s ≡ with_part n x s → Left a (overwrite numbers (shared_numbers (with_part n x s)))
    left_written a x q e =
        let w = sound_with s p n u.desk x q in
        record { long = shared-lent numbers lent (with_part n x s) w; says = shared-read numbers (with_part n x s) w ∙ sym e }

    left_asked : (a : Ask) → Left a (leaves_after services numbers (call n a))
    unfolding shared_after reached
    left_asked start = subst (Left start) (sym (start_given numbers n u).1) (left_written start empty_table (reached-proper beginning) (rw (u.desk, u.sound)))
    left_asked (report x) = left_kept (report x) (rw (u.desk, u.sound))
    left_asked (add k) = subst (Left (add k)) (sym (add_given numbers n u k).1) (go (is_counted (answer_to k t)) refl)
      where
        e : shared_after (call n (add k)) s ≡ recorded_of n (answer_to k t) s
        e = rw (u.desk, u.sound)

        go : (b : Bool) → is_counted (answer_to k t) ≡ b → Left (add k) (cond b (overwrite numbers (shared_numbers (recorded_of n (answer_to k t) s))) numbers)
        go true h = left_written (add k) (recorded (answer_to k t) t) (step_proper k t (sound_part s p n u.desk) (posted k t)) e
        go false h = left_kept (add k) (e ∙ ap (λ t. with_part n t s) (uncounted_kept (answer_to k t) h t) ∙ part_back n s)

    -- another desk's part as it was
    after-other : (m : ℕ) → is_desk m ≡ true → eqb n m ≡ false → (a : Ask) → part_of m (shared_after (call n a) s) ≡ part_of m s
    unfolding shared_after
    after-other m i e start = rw (u.desk, u.sound) (part_other n empty_table s u.desk m i e)
    after-other m i e (add k) = rw (u.desk, u.sound) (part_other n (recorded (answer_to k t) t) s u.desk m i e)
    after-other m i e (report x) = rw (u.desk, u.sound)

-- 103 numbers that say what the rules' table says after the call
left : (numbers : List ℕ) → Lent 103 numbers → Sound (shared_in numbers) → (k : DeskCall) → Left numbers k.desk k.ask (leaves_after services numbers k)
left numbers l p k = elim (case numbers k.desk) [
  | shared_refusal r ↦
      subst (Left numbers k.desk k.ask) (sym (left_refused numbers k.desk r k.ask))
      (record { long = l; says = sym (after-refused numbers k.desk r k.ask) })
  | of_desk_lem u ↦ left_asked numbers k.desk l p u k.ask
]

-- and of the other desk's part nothing changes, in any table
pub others_kept : (numbers : List ℕ) → Lent 103 numbers → (k : DeskCall) (m : ℕ) → IsDesk m → (k.desk ≡ m → ⊥)
    → part_of m (shared_in (leaves_after services numbers k)) ≡ part_of m (shared_in numbers)
others_kept numbers l k m i n = elim (case numbers k.desk) [
  | shared_refusal r ↦ ap (λ x. part_of m (shared_in x)) (left_refused numbers k.desk r k.ask)
  | of_desk_lem u ↦
      let p = (faultless (shared_in numbers)).0 u.sound in
      ap (part_of m) (left_asked numbers k.desk l p u k.ask).says ∙ after-other numbers k.desk l p u m (is-desk m i) (ne_eqb k.desk m n) k.ask
]

-- what a desk is answered, by its part
abbrev heard_of : Ask → Table → Heard
heard_of start t = hearing 0 []
heard_of (add k) t = hearing (packed entry_number (answer_to k t)) []
heard_of (report lent) t = hearing (length t.rows * 2 ^ 8) (overwrite lent (report_numbers t))

same_heard : {a b : ℕ} {x y : List ℕ} → a ≡ b → x ≡ y → hearing a x ≡ hearing b y
same_heard e f = cc

hears_part : (numbers : List ℕ) (n : ℕ) → Usable numbers n → (a : Ask) → hears services numbers (call n a) ≡ heard_of a (part_of n (shared_in numbers))
hears_part numbers n u start = same_heard (start_given numbers n u).0 refl
hears_part numbers n u (add k) = same_heard (add_given numbers n u k).0 refl
hears_part numbers n u (report lent) = same_heard (report_given numbers n u lent).0 (report_given numbers n u lent).1

same_then : {A : Type 0} {g h : History A} {a b : A} → g ≡ h → a ≡ b → (g then a) ≡ (h then b)
same_then e f = cc

zeros : every is64 opened_table ≡ true
unfolding every
zeros = refl

-- calls of both desks, from the opening on
module _ (before : List ℕ) where
  abbrev at : History DeskCall → List ℕ
  at = table_at services before

  -- at any moment: 103 numbers of 64 bits, and what they say
  record Moment (h : History DeskCall) : Type 0 where
    long : Lent 103 (at h)
    says : shared_in (at h) ≡ shared_reached h

  moment : (h : History DeskCall) → Moment h
  unfolding table_at shared_reached rows_in
  moment beginning = record { long = record { long = refl; bits = zeros }; says = refl }
  moment (h then k) =
      let m = moment h in
      let q = left (at h) m.long (subst Sound (sym m.says) (reached-sound h)) k in
      record { long = q.long; says = q.says ∙ ap (shared_after k) m.says }

  pub lent_at : (h : History DeskCall) → Lent 103 (at h)
  lent_at h = (moment h).long

  pub sound-at : (h : History DeskCall) → is_faulty (shared_in (at h)) ≡ false
  sound-at h = ap is_faulty (moment h).says ∙ never_faulty h

  -- each desk's part is its day
  module _ (n : ℕ) (d : IsDesk n) where
    usable_at : (h : History DeskCall) → Usable (at h) n
    usable_at h = record { desk = is-desk n d; sound = sound-at h }

    part_at : (h : History DeskCall) → part_of n (shared_in (at h)) ≡ reached (given n h)
    part_at h = ap (part_of n) (moment h).says ∙ (parted h).part n (is-desk n d)

    add_at : (h : History DeskCall) (k : Call) → add_answer n k.offset k.record' (at h) ≡ packed entry_number (answer_to k (reached (given n h)))
    add_at h k = (add_given (at h) n (usable_at h) k).0 ∙ ap (λ t. packed entry_number (answer_to k t)) (part_at h)

    -- what was said and told to it since its last start are the answers of that day
    said-answers : (h : History DeskCall) → said_to services before n h ≡ numbers_of (answers (given n h))
    unfolding said_to given answers numbers_of
    said-answers beginning = refl
    said-answers (h then k) = go (eqb k.desk n) refl k.ask (said-answers h)
      where
        go : (b : Bool) → eqb k.desk n ≡ b → (a : Ask) → said_to services before n h ≡ numbers_of (answers (given n h))
            → cond b (elim a [
              | start ↦ beginning
              | add c ↦ said_to services before n h then add_answer k.desk c.offset c.record' (at h)
              | report lent ↦ said_to services before n h
            ]) (said_to services before n h)
            ≡ numbers_of (answers (cond b (given_then a (given n h)) (given n h)))
        go true e start below = refl
        go true e (add c) below = same_then below (ap (λ m. add_answer m c.offset c.record' (at h)) (eqb-true k.desk n e) ∙ add_at h c)
        go true e (report lent) below = below
        go false e a below = below

    told_at : (h : History DeskCall) (k : Call) → told k (add_answer n k.offset k.record' (at h)) ≡ answer_to k (reached (given n h))
    told_at h k = ap (told k) (add_at h k) ∙ told_is k (reached (given n h)) (posted k (reached (given n h)))

    told-answers : (h : History DeskCall) → told_to services before n h ≡ answers (given n h)
    unfolding told_to given answers
    told-answers beginning = refl
    told-answers (h then k) = go (eqb k.desk n) refl k.ask (told-answers h)
      where
        go : (b : Bool) → eqb k.desk n ≡ b → (a : Ask) → told_to services before n h ≡ answers (given n h)
            → cond b (elim a [
              | start ↦ beginning
              | add c ↦ told_to services before n h then told c (add_answer k.desk c.offset c.record' (at h))
              | report lent ↦ told_to services before n h
            ]) (told_to services before n h)
            ≡ answers (cond b (given_then a (given n h)) (given n h))
        go true e start below = refl
        go true e (add c) below = same_then below (ap (λ m. told c (add_answer m c.offset c.record' (at h))) (eqb-true k.desk n e) ∙ told_at h c)
        go true e (report lent) below = below
        go false e a below = below

    pub day-at : (h : History DeskCall) → IsDay (part_of n (shared_in (at h))) (said_to services before n h) (told_to services before n h)
    day-at h = is-day (given n h) (part_at h) (said-answers h) (told-answers h)

    pub limits-at : (h : History DeskCall) (k : Call) (c : List ℕ) (z : ℤ) → reading_of k ≡ answered (money c z) → counted (part_of n (shared_in (at h))).counts < 1_000_000
        → Limits (told_to services before n h) c z (add_answer n k.offset k.record' (at h))
    limits-at h k c z e l =
        subst (Limits (told_to services before n h) c z) (sym (add_given (at h) n (usable_at h) k).0)
        (limits_met (told_to services before n h) k (part_of n (shared_in (at h))) (day-at h).totals (record { undamaged = (day-at h).undamaged; not_full = λ f. omega (arith, l, f) }) c z e)

    pub full_at : (h : History DeskCall) (k : Call)
        → add_answer n k.offset k.record' (at h) ≡ number DAY_FULL ↔ how_many (λ a. not (eqb a 21 || eqb a 25)) (said_to services before n h) ≡ 1_000_000
    full_at h k =
        let g = given n h in
        let e = add_at h k in
        let c : counted (reached g).counts ≡ how_many (λ a. not (eqb a 21 || eqb a 25)) (said_to services before n h) = day-counted g ∙ ap (how_many (λ a. not (eqb a 21 || eqb a 25))) (sym (said-answers h)) in
        iff_trans (λ i. sym e ∙ i, λ i. e ∙ i) (iff_trans (packed-number (answer_to k (reached g)) DAY_FULL) (iff_trans (exactly-full k (reached g)) (λ (d, f). sym c ∙ f, λ f. (never_damaged g, c ∙ f))))

    hears-at : (h : History DeskCall) (a : Ask) → hears services (at h) (call n a) ≡ heard_of a (reached (given n h))
    hears-at h a = hears_part (at h) n (usable_at h) a ∙ ap (heard_of a) (part_at h)

-- every history has a desk's own calls
pub own_calls : (n : ℕ) (all : History DeskCall) → (own : History DeskCall) × OwnCalls n all own
own_calls n beginning = (beginning, none)
own_calls n (h then k) = go (eqb k.desk n) refl (own_calls n h)
  where
    go : (b : Bool) → eqb k.desk n ≡ b → (own : History DeskCall) × OwnCalls n h own → (own : History DeskCall) × OwnCalls n (h then k) own
    go true e (own, o) = (own then k, its o (eqb-true k.desk n e))
    go false e (own, o) = (own, another o (eqb-false k.desk n e))

-- what a desk has given is what it has given by its own calls
own_given : (n : ℕ) {all own : History DeskCall} → OwnCalls n all own → given n all ≡ given n own
unfolding given
own_given n none = refl
own_given n (its {k = k} o e) = rw (eq-eqb k.desk n e) (ap (given_then k.ask) (own_given n o))
own_given n (another {k = k} o e) = rw (ne_eqb k.desk n e) (own_given n o)

-- so its part is the same, and what it hears
module _ (before alone : List ℕ) (n : ℕ) (d : IsDesk n) where
  pub same_part : {all own : History DeskCall} → OwnCalls n all own → part_of n (shared_in (table_at services before all)) ≡ part_of n (shared_in (table_at services alone own))
  same_part {all} {own} o = part_at before n d all ∙ ap reached (own_given n o) ∙ sym (part_at alone n d own)

  own_heard : {all own : History DeskCall} → OwnCalls n all own → (k : DeskCall) → k.desk ≡ n → hears services (table_at services before all) k ≡ hears services (table_at services alone own) k
  own_heard {all} {own} o k e =
      subst (λ x. hears services (table_at services before all) (call x k.ask) ≡ hears services (table_at services alone own) (call x k.ask)) (sym e)
      (hears-at before n d all k.ask ∙ ap (λ g. heard_of k.ask (reached g)) (own_given n o) ∙ sym (hears-at alone n d own k.ask))

  pub isolated : {all own : History DeskCall} → OwnCalls n all own → heard_by services before n all ≡ heard_by services alone n own
  unfolding heard_by
  isolated none = refl
  isolated (its {k = k} o e) = rw (eq-eqb k.desk n e) (same_then (isolated o) (own_heard o k e))
  isolated (another {k = k} o e) = rw (ne_eqb k.desk n e) (isolated o)
