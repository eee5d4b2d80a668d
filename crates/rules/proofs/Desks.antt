-- One table for two desks: what replacing a desk's part does to the parts, and that each desk's part is its own day, however the calls are mixed.
use Prim.Native.Nat.{ℕ}
use mathlib.Core.Path.{◌≡◌, refl, sym, ◌∙◌, ap}
use mathlib.Core.Logic.{◌⊎◌, inl, inr, ◌↔◌}
use mathlib.Core.Bool.{Bool, true, false, not, ◌||◌, cond}
use mathlib.Core.List.{List, [], ◌∷◌, ◌++◌, map}
use native.Mathlib.Omega.{arith}
use borrow.Author.Tests.{eqb-true, eqb-false, ne_eqb}
use lib.Dec.{eqb}
use lib.ListN.{take, drop}
use Rattle.rules.specs.Basics.{exists}
use Rattle.rules.specs.Totals.{Row, Counts, Table, counting, table, empty_table, is_damaged, recorded}
use Rattle.rules.specs.TotalDays.{Call, answer_to, History, beginning, ◌then◌, reached}
use Rattle.rules.specs.Desks.{Owned, Shared, owned, shared, is_desk, rows_for, with_rows, counts_for, part_of, with_part, is_faulty, recorded_of}
use Rattle.rules.specs.DeskDays.{Ask, start, add, report, DeskCall}
use Rattle.rules.proofs.Tests.{clash, neither, eqb_refl}
use Rattle.rules.proofs.Totals.{Proper, undamaged, reached-proper}

pub desk_is : (n : ℕ) → is_desk n ≡ true → (n ≡ 1) ⊎ (n ≡ 2)
desk_is n h = go (eqb n 1) (eqb n 2) refl refl h
  where
    go : (a b : Bool) → eqb n 1 ≡ a → eqb n 2 ≡ b → (a || b) ≡ true → (n ≡ 1) ⊎ (n ≡ 2)
    go true b e f h = inl (eqb-true n 1 e)
    go false true e f h = inr (eqb-true n 2 f)
    go false false e f h = clash (cc)

-- a row is of one desk
one-desk : (d m n : ℕ) → eqb n m ≡ false → eqb d n ≡ true → eqb d m ≡ false
one-desk d m n h e = ne_eqb d m (λ f. eqb-false n m h (omega (arith, eqb-true d n e)))

-- rows of a desk replaced
module _ {A : Type 0} (n : ℕ) where
  rows-owned : (new : List A) → rows_for n (map (owned n) new) ≡ new
  unfolding rows_for
  rows-owned [] = refl
  rows-owned (r ∷ new) = rw (eqb_refl n) (ap (λ l. r ∷ l) (rows-owned new))

  -- it then has the new ones
  pub rows_own : (new : List A) (rows : List (Owned A)) → rows_for n (with_rows n new rows) ≡ new
  unfolding rows_for with_rows
  rows_own new [] = rows-owned new
  rows_own new (r ∷ rows) = go (eqb r.desk n) refl new (λ new. rows_own new rows)
    where
      go : (b : Bool) → eqb r.desk n ≡ b → (new : List A) → ((new : List A) → rows_for n (with_rows n new rows) ≡ new)
          → rows_for n (cond b (map (owned n) (take 1 new) ++ with_rows n (drop 1 new) rows) (r ∷ with_rows n new rows)) ≡ new
      go true e [] below = below []
      go true e (x ∷ new) below = rw (eqb_refl n) (ap (λ l. x ∷ l) (below new))
      go false e new below = rw e (below new)

  -- those of another desk stay, in their order
  pub rows_other : (m : ℕ) → eqb n m ≡ false → (new : List A) (rows : List (Owned A)) → rows_for m (with_rows n new rows) ≡ rows_for m rows
  unfolding rows_for with_rows
  rows_other m h new [] = none new
    where
      none : (new : List A) → rows_for m (map (owned n) new) ≡ []
      none [] = refl
      none (x ∷ new) = rw h (none new)
  rows_other m h new (r ∷ rows) = go (eqb r.desk n) refl new (λ new. rows_other m h new rows)
    where
      go : (b : Bool) → eqb r.desk n ≡ b → (new : List A) → ((new : List A) → rows_for m (with_rows n new rows) ≡ rows_for m rows)
          → rows_for m (cond b (map (owned n) (take 1 new) ++ with_rows n (drop 1 new) rows) (r ∷ with_rows n new rows)) ≡ cond (eqb r.desk m) (r.row ∷ rows_for m rows) (rows_for m rows)
      go true e [] below = rw (one-desk r.desk m n h e) (below [])
      go true e (x ∷ new) below = rw (h, one-desk r.desk m n h e) (below new)
      go false e new below = rw (below new)

  -- its own, put back, change nothing
  pub rows_back : (rows : List (Owned A)) → with_rows n (rows_for n rows) rows ≡ rows
  unfolding rows_for with_rows
  rows_back [] = refl
  rows_back (r ∷ rows) = go (eqb r.desk n) refl (rows_back rows)
    where
      go : (b : Bool) → eqb r.desk n ≡ b → with_rows n (rows_for n rows) rows ≡ rows
          → cond b (map (owned n) (take 1 (cond b (r.row ∷ rows_for n rows) (rows_for n rows))) ++ with_rows n (drop 1 (cond b (r.row ∷ rows_for n rows) (rows_for n rows))) rows) (r ∷ with_rows n (cond b (r.row ∷ rows_for n rows) (rows_for n rows)) rows)
          ≡ r ∷ rows
      go true e below =
          let z : owned n r.row ≡ r = ap (λ d. owned d r.row) (sym (eqb-true r.desk n e)) in
          ap (λ l. owned n r.row ∷ l) below ∙ ap (λ x. x ∷ rows) z
      go false e below = ap (λ l. r ∷ l) below

  -- each row then is a new one of the desk, or one that was there
  pub rows-from : (p : Owned A → Bool) → ((r : A) → p (owned n r) ≡ false) → (new : List A) (rows : List (Owned A)) → exists p rows ≡ false → exists p (with_rows n new rows) ≡ false
  unfolding exists with_rows
  rows-from p q [] [] h = refl
  rows-from p q (x ∷ new) [] h = rw (q x) (rows-from p q new [] h)
  rows-from p q new (r ∷ rows) h = let (f, g) = neither (p r) (exists p rows) h in go (eqb r.desk n) new f (λ new. rows-from p q new rows g)
    where
      go : (b : Bool) (new : List A) → p r ≡ false → ((new : List A) → exists p (with_rows n new rows) ≡ false)
          → exists p (cond b (map (owned n) (take 1 new) ++ with_rows n (drop 1 new) rows) (r ∷ with_rows n new rows)) ≡ false
      go true [] f below = below []
      go true (x ∷ new) f below = rw (q x) (below new)
      go false new f below = rw f (below new)

-- a row of neither desk
abbrev pub is_stray : {A : Type 0} → Owned A → Bool
is_stray r = not (is_desk r.desk)

part_is : {a b : List Row} {m n : Counts} → a ≡ b → m ≡ n → table a m ≡ table b n
part_is e f = cc

-- a part replaced
module _ (n : ℕ) (t : Table) (s : Shared) where
  pub part_own : part_of n (with_part n t s) ≡ t
  part_own = part_is (rows_own n t.rows s.rows) (go (eqb n 1))
    where
      go : (b : Bool) → cond b (cond b t.counts s.first) (cond b s.second t.counts) ≡ t.counts
      go true = refl
      go false = refl

  pub part_other : is_desk n ≡ true → (m : ℕ) → is_desk m ≡ true → eqb n m ≡ false → part_of m (with_part n t s) ≡ part_of m s
  part_other h m i e = part_is (rows_other n m e t.rows s.rows) (go (desk_is n h) (desk_is m i))
    where
      go : (n ≡ 1) ⊎ (n ≡ 2) → (m ≡ 1) ⊎ (m ≡ 2) → counts_for m (with_part n t s) ≡ counts_for m s
      go (inl f) (inl g) = absurd (eqb-false n m e (omega arith))
      go (inl f) (inr g) = rw (f, g) refl
      go (inr f) (inl g) = rw (f, g) refl
      go (inr f) (inr g) = absurd (eqb-false n m e (omega arith))

-- a table that is not damaged
pub record Sound (s : Shared) : Type 0 where
  pub first : Proper (part_of 1 s)
  pub second : Proper (part_of 2 s)
  pub desks : exists is_stray s.rows ≡ false

pub faultless : (s : Shared) → is_faulty s ≡ false ↔ Sound s
unfolding is_faulty
faultless s = (
  λ e.
      let (d, desks) = neither _ _ e in
      let (first, second) = neither (is_damaged (part_of 1 s)) (is_damaged (part_of 2 s)) d in
      record { first = (undamaged (part_of 1 s)).0 first; second = (undamaged (part_of 2 s)).0 second; desks = desks },
  λ p. rw ((undamaged (part_of 1 s)).1 p.first, (undamaged (part_of 2 s)).1 p.second, p.desks),
)

pub sound_part : (s : Shared) → Sound s → (n : ℕ) → is_desk n ≡ true → Proper (part_of n s)
sound_part s p n h = go (desk_is n h)
  where
    go : (n ≡ 1) ⊎ (n ≡ 2) → Proper (part_of n s)
    go (inl e) = rw e p.first
    go (inr e) = rw e p.second

pub sound_with : (s : Shared) → Sound s → (n : ℕ) → is_desk n ≡ true → (t : Table) → Proper t → Sound (with_part n t s)
sound_with s p n h t q = record { first = part 1 refl; second = part 2 refl; desks = rows-from n is_stray (λ r. ap not h) t.rows s.rows p.desks }
  where
    part : (m : ℕ) → is_desk m ≡ true → Proper (part_of m (with_part n t s))
    part m i = go (eqb n m) refl
      where
        go : (b : Bool) → eqb n m ≡ b → Proper (part_of m (with_part n t s))
        go true e = rw (← eqb-true n m e, part_own n t s) q
        go false e = rw (part_other n t s h m i e) (sound_part s p m i)

-- what a desk has given since its last start
abbrev pub given_then : Ask → History Call → History Call
given_then start g = beginning
given_then (add k) g = g then k
given_then (report lent) g = g

unfoldable pub given : (desk : ℕ) → History DeskCall → History Call
given n beginning = beginning
given n (h then k) = cond (eqb k.desk n) (given_then k.ask (given n h)) (given n h)

-- calls of both desks, mixed
abbrev ask_after : (desk : ℕ) → Ask → Shared → Shared
ask_after n start s = with_part n empty_table s
ask_after n (add k) s = recorded_of n (answer_to k (part_of n s)) s
ask_after n (report lent) s = s

unfoldable pub shared_after : DeskCall → Shared → Shared
shared_after k s = cond (is_desk k.desk) (cond (is_faulty s) s (ask_after k.desk k.ask s)) s

unfoldable pub shared_reached : History DeskCall → Shared
shared_reached beginning = shared [] (counting 0 0 0) (counting 0 0 0)
shared_reached (h then k) = shared_after k (shared_reached h)

-- at any moment each desk's part is the table of its own day since its last start, and no row is of neither
pub record Parted (h : History DeskCall) : Type 0 where
  pub part : (n : ℕ) → is_desk n ≡ true → part_of n (shared_reached h) ≡ reached (given n h)
  pub desks : exists is_stray (shared_reached h).rows ≡ false

parted_sound : (h : History DeskCall) → Parted h → Sound (shared_reached h)
parted_sound h p = record { first = rw (p.part 1 refl) (reached-proper (given 1 h)); second = rw (p.part 2 refl) (reached-proper (given 2 h)); desks = p.desks }

-- what a desk calls for is done to its part
module _ (n : ℕ) (s : Shared) where
  ask_own : (a : Ask) (g : History Call) → part_of n s ≡ reached g → part_of n (ask_after n a s) ≡ reached (given_then a g)
  unfolding reached
  ask_own start g e = part_own n empty_table s
  ask_own (add k) g e = part_own n (recorded (answer_to k (part_of n s)) (part_of n s)) s ∙ ap (λ t. recorded (answer_to k t) t) e
  ask_own (report lent) g e = e

  ask-other : is_desk n ≡ true → (m : ℕ) → is_desk m ≡ true → eqb n m ≡ false → (a : Ask) → part_of m (ask_after n a s) ≡ part_of m s
  ask-other h m i e start = part_other n empty_table s h m i e
  ask-other h m i e (add k) = part_other n (recorded (answer_to k (part_of n s)) (part_of n s)) s h m i e
  ask-other h m i e (report lent) = refl

  ask-desks : is_desk n ≡ true → exists is_stray s.rows ≡ false → (a : Ask) → exists is_stray (ask_after n a s).rows ≡ false
  ask-desks h e start = rows-from n is_stray (λ r. ap not h) [] s.rows e
  ask-desks h e (add k) = rows-from n is_stray (λ r. ap not h) (recorded (answer_to k (part_of n s)) (part_of n s)).rows s.rows e
  ask-desks h e (report lent) = e

pub parted : (h : History DeskCall) → Parted h
unfolding shared_reached shared_after given reached rows_for exists
parted beginning = record { part = λ n h. empty (eqb n 1); desks = refl }
  where
    empty : (b : Bool) → table [] (cond b empty_table.counts empty_table.counts) ≡ empty_table
    empty true = refl
    empty false = refl
parted (h then k) = go (parted h) (is_desk k.desk) refl
  where
    faults : Parted h → is_faulty (shared_reached h) ≡ false
    faults p = (faultless (shared_reached h)).1 (parted_sound h p)

    go : Parted h → (b : Bool) → is_desk k.desk ≡ b → Parted (h then k)
    go p true e = record {
      part = λ n i. rw (e, faults p) (own n i (eqb k.desk n) refl);
      desks = rw (e, faults p) (ask-desks k.desk (shared_reached h) e p.desks k.ask);
    }
      where
        own : (n : ℕ) → is_desk n ≡ true → (b : Bool) → eqb k.desk n ≡ b
            → part_of n (ask_after k.desk k.ask (shared_reached h)) ≡ reached (cond b (given_then k.ask (given n h)) (given n h))
        own n i true f = rw (eqb-true k.desk n f) (ask_own n (shared_reached h) k.ask (given n h) (p.part n i))
        own n i false f = ask-other k.desk (shared_reached h) e n i f k.ask ∙ p.part n i
    go p false e = record { part = λ n i. rw (e, no_desk n i) (p.part n i); desks = rw e p.desks }
      where
        no_desk : (n : ℕ) → is_desk n ≡ true → eqb k.desk n ≡ false
        no_desk n i = ne_eqb k.desk n (λ f. let z : is_desk k.desk ≡ true = ap is_desk f ∙ i in clash (cc))

-- no table reached from the opening is damaged
pub reached-sound : (h : History DeskCall) → Sound (shared_reached h)
reached-sound h = parted_sound h (parted h)

pub never_faulty : (h : History DeskCall) → is_faulty (shared_reached h) ≡ false
never_faulty h = (faultless (shared_reached h)).1 (reached-sound h)
