-- The place of a currency among rows: as code finds it, and what an amount more does there.
use Rattle.std.proofs.Common.{◌≡◌, ℕ, zero, suc, ◌+◌, ◌<◌, ◌≤◌, Bool, true, false, cond, ◌||◌, eqb, ltb, List, [], ◌∷◌, map, length, get_or, take, drop, sym, refl, ap, ◌∙◌, add-one, arith, drop_of_length-le, length-take-le, drop-cons, get_or-take, ltb-false, ltb-true, le-ltb, lt-ltb, eq-eqb, ne_eqb, eqb-true}
use borrow.Author.Tests.{eqb-false}
use Rattle.rules.specs.Basics.{exists, same}
use Rattle.rules.specs.Forms.{is_currency}
use Rattle.rules.specs.Totals.{is_held}
use Rattle.rules.specs.TotalNumbers.{currency_number, currency_in}
use Rattle.rules.proofs.Tests.{clash, same_true, same_refl}
use Rattle.rules.proofs.TotalNumbers.{currency-written}
use Rattle.totals.specs.declared.Row.{Row}
use Rattle.totals.specs.Tables.{blank, row_meant, place_of}

-- the search, from the first row on
pub searching : (c : ℕ) (l : List Row) → place_of c l ≡ 0 + place_of c (drop 0 l)
searching c l = omega arith

-- and from row k on
module _ (c : ℕ) (rows : List Row) (n k : ℕ) (l : n ≤ length rows) (so_far : place_of c (take n rows) ≡ k + place_of c (drop k (take n rows))) where
  at_row : k < n → place_of c (take n rows) ≡ k + place_of c (get_or rows k blank ∷ drop (suc k) (take n rows))
  at_row h =
      let m = length-take-le n rows l in
      so_far ∙ ap (λ (x : List Row). k + place_of c x) (drop-cons (take n rows) k blank (omega arith) ∙ ap (λ r. r ∷ drop (suc k) (take n rows)) (get_or-take n rows k blank h))

  pub found : k < n → (get_or rows k blank).currency ≡ c → k ≡ place_of c (take n rows)
  unfolding place_of
  found h e = sym (at_row h ∙ rw (eq-eqb (get_or rows k blank).currency c e) (omega arith))

  pub not_yet : k < n → ((get_or rows k blank).currency ≡ c → ⊥) → place_of c (take n rows) ≡ k + 1 + place_of c (drop (k + 1) (take n rows))
  unfolding place_of
  not_yet h e = at_row h ∙ rw (ne_eqb (get_or rows k blank).currency c e, add-one) (omega arith)

  pub nowhere : n ≤ k → k ≤ n → n ≡ place_of c (take n rows)
  unfolding place_of
  nowhere h i = sym (so_far ∙ rw (drop_of_length-le (take n rows) {i = k} (omega (arith, length-take-le n rows l))) (omega arith))

-- rows and what they mean, by places
pub map_at : (rows : List Row) (k : ℕ) → k < length rows → get_or (map row_meant rows) k (row_meant blank) ≡ row_meant (get_or rows k blank)
map_at [] k h = clash (omega arith)
map_at (r ∷ rows) zero h = refl
map_at (r ∷ rows) (suc k) h = map_at rows k (omega arith)

pub map-take : (rows : List Row) (k : ℕ) → take k (map row_meant rows) ≡ map row_meant (take k rows)
map-take rows zero = refl
map-take [] (suc k) = refl
map-take (r ∷ rows) (suc k) = ap (λ l. row_meant r ∷ l) (map-take rows k)

-- the number of a currency stands for it
pub same_number : (m n : ℕ) → is_currency (currency_in n) ≡ true → same (currency_in m) (currency_in n) ≡ eqb m n
same_number m n h = go (same (currency_in m) (currency_in n)) (eqb m n) refl refl
  where
    go : (x y : Bool) → same (currency_in m) (currency_in n) ≡ x → eqb m n ≡ y → x ≡ y
    go true true e f = refl
    go false false e f = refl
    go true false e f =
        let i = same_true (currency_in m) (currency_in n) e in
        let j : m ≡ n = sym (currency-written m (rw i h)) ∙ ap currency_number i ∙ currency-written n h in
        absurd (eqb-false m n f j)
    go false true e f =
        let j = eqb-true m n f in
        let i : same (currency_in m) (currency_in n) ≡ true = rw j (same_refl (currency_in n)) in
        clash (cc)

one_more : (a b : ℕ) → ltb a b ≡ ltb (suc a) (suc b)
one_more a b = go (ltb a b) refl
  where
    go : (x : Bool) → ltb a b ≡ x → x ≡ ltb (suc a) (suc b)
    go true e = sym (lt-ltb (suc a) (suc b) (omega (arith, ltb-true a b e)))
    go false e = sym (le-ltb (suc a) (suc b) (omega (arith, ltb-false a b e)))

-- a currency is held exactly if a row is found
pub held_place : (c : ℕ) → is_currency (currency_in c) ≡ true → (rows : List Row) → is_held (currency_in c) (map row_meant rows) ≡ ltb (place_of c rows) (length rows)
unfolding exists place_of
held_place c h [] = refl
held_place c h (r ∷ rows) = rw (same_number r.currency c h) (go (eqb r.currency c) (held_place c h rows))
  where
    go : (b : Bool) → is_held (currency_in c) (map row_meant rows) ≡ ltb (place_of c rows) (length rows)
        → (b || is_held (currency_in c) (map row_meant rows)) ≡ ltb (cond b 0 (suc (place_of c rows))) (suc (length rows))
    go true e = sym (lt-ltb 0 (suc (length rows)) (omega arith))
    go false e = e ∙ one_more (place_of c rows) (length rows)
