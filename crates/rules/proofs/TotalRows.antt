-- Rows of a table: what an amount more does to them, and that they come to the sums of the amounts added, in the order of first addition.
use Prim.Native.Nat.{ℕ, suc}
use mathlib.Core.Path.{◌≡◌, refl, sym, ◌∙◌, ap}
use mathlib.Core.Bool.{Bool, true, false, not, ◌||◌, cond}
use mathlib.Core.List.{List, [], ◌∷◌, ◌++◌, map}
use mathlib.Core.Option.{some}
use lib.ListN.{length}
use lib.IntN.{ℤ, pos, ◌+ℤ◌, +ℤ_idl}
use Rattle.rules.specs.Basics.{if_some, find, exists, same}
use Rattle.rules.specs.Refusal.{Outcome, answered, refused}
use Rattle.rules.specs.Totals.{Row, totalling, is_in_range, is_of, is_held, is_held_twice, Entry, null, money, new_total, entered}
use Rattle.rules.specs.TotalDays.{History, beginning, ◌then◌, sum_added, currencies_added, rows_of}
use Rattle.rules.proofs.Tests.{clash, neither, same_true, same_refl, same_sym}

pub exists-append : {A : Type 0} (p : A → Bool) (a b : List A) → exists p (a ++ b) ≡ (exists p a || exists p b)
unfolding exists
exists-append p [] b = refl
exists-append p (x ∷ a) b = go (p x) (exists-append p a b)
  where
    go : (t : Bool) → exists p (a ++ b) ≡ (exists p a || exists p b) → (t || exists p (a ++ b)) ≡ ((t || exists p a) || exists p b)
    go true e = refl
    go false e = e

-- a currency that is held keeps the rows' currencies as they are; a new one comes after the others
module _ (c : List ℕ) (z : ℤ) where
  pub entered-new : (rows : List Row) → is_held c rows ≡ false → entered c z rows ≡ rows ++ totalling c z ∷ []
  unfolding exists entered
  entered-new [] h = refl
  entered-new (r ∷ rows) h = let (f, g) = neither (is_of c r) (is_held c rows) h in rw f (ap (λ l. r ∷ l) (entered-new rows g))

  pub entered-held : (p : Row → Bool) → ((d : List ℕ) (a b : ℤ) → p (totalling d a) ≡ p (totalling d b)) → (rows : List Row) → is_held c rows ≡ true
      → exists p (entered c z rows) ≡ exists p rows
  unfolding exists entered
  entered-held p q [] h = clash (cc)
  entered-held p q (r ∷ rows) h = go (is_of c r) refl h (entered-held p q rows)
    where
      go : (t : Bool) → is_of c r ≡ t → (t || is_held c rows) ≡ true → (is_held c rows ≡ true → exists p (entered c z rows) ≡ exists p rows)
          → exists p (cond t (totalling r.currency (r.total +ℤ z) ∷ rows) (r ∷ entered c z rows)) ≡ (p r || exists p rows)
      go true e i below = ap (λ x. x || exists p rows) (q r.currency (r.total +ℤ z) r.total)
      go false e i below = ap (λ x. p r || x) (below i)

  pub entered-length : (rows : List Row) → is_held c rows ≡ true → length (entered c z rows) ≡ length rows
  unfolding exists entered
  entered-length [] h = clash (cc)
  entered-length (r ∷ rows) h = go (is_of c r) h (entered-length rows)
    where
      go : (t : Bool) → (t || is_held c rows) ≡ true → (is_held c rows ≡ true → length (entered c z rows) ≡ length rows)
          → length (cond t (totalling r.currency (r.total +ℤ z) ∷ rows) (r ∷ entered c z rows)) ≡ suc (length rows)
      go true i below = refl
      go false i below = ap suc (below i)

  -- no currency comes to be held twice
  pub entered_once : (rows : List Row) → is_held_twice rows ≡ false → is_held_twice (entered c z rows) ≡ false
  unfolding exists entered is_held_twice
  entered_once [] h = refl
  entered_once (r ∷ rows) h =
      let (f, g) = neither (is_held r.currency rows) (is_held_twice rows) h in go (is_of c r) refl f g (entered_once rows g) (is_held c rows) refl
    where
      other : is_of c r ≡ false → same c r.currency ≡ false
      other e = same_sym c r.currency ∙ e

      go : (t : Bool) → is_of c r ≡ t → is_held r.currency rows ≡ false → is_held_twice rows ≡ false → is_held_twice (entered c z rows) ≡ false
          → (u : Bool) → is_held c rows ≡ u
          → is_held_twice (cond t (totalling r.currency (r.total +ℤ z) ∷ rows) (r ∷ entered c z rows)) ≡ false
      go true e f g below u i = rw (f, g)
      go false e f g below true i = rw (entered-held (is_of r.currency) (λ d a b. refl) rows i, f, below)
      go false e f g below false i =
          rw (below, entered-new rows i, exists-append (is_of r.currency) rows (totalling c z ∷ []), f, other e)

  -- all totals stay within the range, if the new one does
  pub entered-within : (rows : List Row) → exists (λ r. not (is_in_range r.total)) rows ≡ false → is_in_range (new_total c z rows) ≡ true
      → exists (λ r. not (is_in_range r.total)) (entered c z rows) ≡ false
  unfolding exists entered find
  entered-within [] h k = rw k
  entered-within (r ∷ rows) h k =
      let (f, g) = neither (not (is_in_range r.total)) (exists (λ r. not (is_in_range r.total)) rows) h in go (is_of c r) f g k (entered-within rows g)
    where
      go : (t : Bool) → not (is_in_range r.total) ≡ false → exists (λ r. not (is_in_range r.total)) rows ≡ false
          → is_in_range (if_some (cond t (some r) (find (is_of c) rows)) (λ r. r.total +ℤ z) z) ≡ true
          → (is_in_range (new_total c z rows) ≡ true → exists (λ r. not (is_in_range r.total)) (entered c z rows) ≡ false)
          → exists (λ r. not (is_in_range r.total)) (cond t (totalling r.currency (r.total +ℤ z) ∷ rows) (r ∷ entered c z rows)) ≡ false
      go true f g k below = rw (k, g)
      go false f g k below = rw (f, below k)

-- rows that hold a number for each currency of a list
abbrev totals : (List ℕ → ℤ) → List (List ℕ) → List Row
totals f = map (λ c. totalling c (f c))

held-totals : (c : List ℕ) (f : List ℕ → ℤ) (cs : List (List ℕ)) → is_held c (totals f cs) ≡ exists (λ d. same d c) cs
unfolding exists
held-totals c f [] = refl
held-totals c f (d ∷ cs) = ap (λ x. same d c || x) (held-totals c f cs)

module _ (c : List ℕ) (z : ℤ) (f : List ℕ → ℤ) where
  -- the same with z more for c
  abbrev more : List ℕ → ℤ
  more d = cond (same c d) (f d +ℤ z) (f d)

  totals-other : (cs : List (List ℕ)) → exists (λ d. same d c) cs ≡ false → totals more cs ≡ totals f cs
  unfolding exists
  totals-other [] h = refl
  totals-other (d ∷ cs) h =
      let (i, j) = neither (same d c) (exists (λ d. same d c) cs) h in
      rw (same_sym c d, i) (ap (λ l. totalling d (f d) ∷ l) (totals-other cs j))

  totals-held : (cs : List (List ℕ)) → is_held_twice (totals f cs) ≡ false → exists (λ d. same d c) cs ≡ true → entered c z (totals f cs) ≡ totals more cs
  unfolding exists entered is_held_twice
  totals-held [] w h = clash (cc)
  totals-held (d ∷ cs) w h =
      let (i, j) = neither (is_held d (totals f cs)) (is_held_twice (totals f cs)) w in go (same d c) refl h (sym (held-totals d f cs) ∙ i) (totals-held cs j)
    where
      go : (t : Bool) → same d c ≡ t → (t || exists (λ d. same d c) cs) ≡ true → exists (λ e. same e d) cs ≡ false
          → (exists (λ d. same d c) cs ≡ true → entered c z (totals f cs) ≡ totals more cs)
          → cond t (totalling d (f d +ℤ z) ∷ totals f cs) (totalling d (f d) ∷ entered c z (totals f cs)) ≡ totalling d (more d) ∷ totals more cs
      go true e k i below =
          let u : exists (λ e. same e c) cs ≡ false = rw (same_true d c e) at i in
          rw (same_sym c d, e) (ap (λ l. totalling d (f d +ℤ z) ∷ l) (sym (totals-other cs u)))
      go false e k i below = rw (same_sym c d, e) (ap (λ l. totalling d (f d) ∷ l) (below k))

map-append : {A B : Type 0} (f : A → B) (a b : List A) → map f (a ++ b) ≡ map f a ++ map f b
map-append f [] b = refl
map-append f (x ∷ a) b = ap (λ l. f x ∷ l) (map-append f a b)

-- what was not added comes to nothing
pub sum-none : (c : List ℕ) (h : History (Outcome Entry)) → exists (λ d. same d c) (currencies_added h) ≡ false → sum_added c h ≡ pos 0
unfolding exists currencies_added sum_added
sum-none c beginning n = refl
sum-none c (h then answered null) n = sum-none c h n
sum-none c (h then refused r) n = sum-none c h n
sum-none c (h then answered (money d z)) n = go (exists (λ e. same e d) (currencies_added h)) (same d c) refl refl n (sum-none c h)
  where
    go : (t u : Bool) → exists (λ e. same e d) (currencies_added h) ≡ t → same d c ≡ u
        → exists (λ e. same e c) (cond t (currencies_added h) (currencies_added h ++ d ∷ [])) ≡ false
        → (exists (λ e. same e c) (currencies_added h) ≡ false → sum_added c h ≡ pos 0)
        → cond u (sum_added c h +ℤ z) (sum_added c h) ≡ pos 0
    go true false i j n below = below n
    go true true i j n below = let k : exists (λ e. same e c) (currencies_added h) ≡ true = rw (same_true d c j) at i in clash (cc)
    go false true i j n below =
        let k = (neither (exists (λ e. same e c) (currencies_added h)) (same d c || false) (sym (exists-append (λ e. same e c) (currencies_added h) (d ∷ [])) ∙ n)).1 in
        clash (cc)
    go false false i j n below =
        below (neither (exists (λ e. same e c) (currencies_added h)) (same d c || false) (sym (exists-append (λ e. same e c) (currencies_added h) (d ∷ [])) ∙ n)).0

-- the rows of the day so far, with an amount more
pub rows_more : (c : List ℕ) (z : ℤ) (h : History (Outcome Entry)) → is_held_twice (rows_of h) ≡ false
    → entered c z (rows_of h) ≡ rows_of (h then answered (money c z))
unfolding currencies_added sum_added
rows_more c z h w = go (exists (λ d. same d c) (currencies_added h)) refl
  where
    go : (t : Bool) → exists (λ d. same d c) (currencies_added h) ≡ t
        → entered c z (rows_of h) ≡ totals (more c z (λ d. sum_added d h)) (cond t (currencies_added h) (currencies_added h ++ c ∷ []))
    go true e = totals-held c z (λ d. sum_added d h) (currencies_added h) w e
    go false e =
        entered-new c z (rows_of h) (held-totals c (λ d. sum_added d h) (currencies_added h) ∙ e)
        ∙ rw (map-append (λ d. totalling d (more c z (λ d. sum_added d h) d)) (currencies_added h) (c ∷ []), totals-other c z (λ d. sum_added d h) (currencies_added h) e)
        (ap (λ x. rows_of h ++ totalling c x ∷ []) (last (sum-none c h e)))
      where
        last : sum_added c h ≡ pos 0 → z ≡ more c z (λ d. sum_added d h) c
        last n = rw (same_refl c, n) (sym (+ℤ_idl z))
