-- The parts after the year, one after another.
use Rattle.std.specs.Prelude.{Some}
use Prim.Native.Nat.{ℕ, zero, suc, ◌+◌, ◌-◌, ◌≤◌, ◌<◌}
use mathlib.Core.Path.{◌≡◌, refl, ap, subst, sym}
use mathlib.Core.Bool.{cond}
use mathlib.Core.List.{List, [], ◌∷◌, ◌++◌, append_assoc, append-nil}
use native.Mathlib.Omega.{arith}
use lib.Dec.{eqb, eqb-zero-suc, eqb-suc-zero, eqb-suc-suc}
use lib.ListN.{length, get_or, drop, length-append}
use Rattle.rules.specs.Parsers.{ok, bad}
use Rattle.rules.specs.Timestamp.{digits, two_digits}
use Rattle.text.specs.Numbers.{NumberAt}
use Rattle.timestamp.specs.Written.{parts_of, PartsAt}
use Rattle.timestamp.specs.declared.form.Parts.{Parts}
use Rattle.timestamp.proofs.Reading.{two_more, two-stop, two_last}

-- a list with one number more, place by place
pub place_next : (l : List ℕ) (n i d : ℕ) → get_or (l ++ (n ∷ [])) i d ≡ cond (eqb (length l) i) n (get_or l i d)
place_next [] n zero d = refl
place_next [] n (suc i) d = rw (eqb-zero-suc i)
place_next (a ∷ l) n zero d = rw (eqb-suc-zero (length l))
place_next (a ∷ l) n (suc i) d = rw (eqb-suc-suc (length l) i) (place_next l n i d)

-- the numbers up to a position, and what is left to read from there on
pub record PartsTo (s : List ℕ) (p : Parts) : Type 0 where
  pub list : List ℕ
  pub parts : p ≡ parts_of list p.end
  pub few : length list ≤ 5
  pub high : p.end ≤ length s
  pub goes : (more : List ℕ) (e : ℕ) → two_digits (5 - length list) (drop p.end s) ≡ ok more (drop e s) → two_digits 5 (drop 4 s) ≡ ok (list ++ more) (drop e s)

module _ (s : List ℕ) (p : Parts) (h : PartsTo s p) where
  pub counted : p.count ≡ length h.list
  counted = ap (λ (q : Parts). q.count) h.parts

  -- nothing more is read
  stays : two_digits (5 - length h.list) (drop p.end s) ≡ ok [] (drop p.end s) → PartsAt s p
  stays e = record { list = h.list; reads = rw append-nil at (h.goes [] p.end e); parts = h.parts; few = h.few; high = h.high }

  pub parts-stop : p.count < 5 → digits 2 (drop p.end s) ≡ bad → PartsAt s p
  parts-stop l e =
      let n : 5 - length h.list ≡ suc (4 - length h.list) = omega (arith, counted) in
      stays (rw n (two-stop (4 - length h.list) (drop p.end s) e))

  pub parts_last : 5 ≤ p.count → PartsAt s p
  parts_last l =
      let n : 5 - length h.list ≡ 0 = omega (arith, counted) in
      stays (rw n (two_last (drop p.end s)))

  pub count_more : (n : ℕ) (r : Parts) → r ≡ parts_of (h.list ++ (n ∷ [])) (p.end + 2) → r.count ≡ p.count + 1
  count_more n r e =
      let size : length (h.list ++ (n ∷ [])) ≡ length h.list + 1 = length-append h.list (n ∷ []) in
      omega (arith, ap (λ (q : Parts). q.count) e, size, counted)

  pub parts_more : (n : ℕ) (r : Parts) → p.count < 5 → NumberAt s p.end 2 (Some n) → r ≡ parts_of (h.list ++ (n ∷ [])) (p.end + 2) → PartsTo s r
  parts_more n r l d e = subst (PartsTo s) (sym e) (record { list = h.list ++ (n ∷ []); parts = refl; few = omega (arith, size, counted); high = d.0; goes = goes })
    where
      size : length (h.list ++ (n ∷ [])) ≡ length h.list + 1
      size = length-append h.list (n ∷ [])

      goes : (more : List ℕ) (e : ℕ) → two_digits (5 - length (h.list ++ (n ∷ []))) (drop (p.end + 2) s) ≡ ok more (drop e s) → two_digits 5 (drop 4 s) ≡ ok ((h.list ++ (n ∷ [])) ++ more) (drop e s)
      goes more e f =
          let a : 5 - length h.list ≡ suc (4 - length h.list) = omega (arith, counted) in
          let b : 5 - length (h.list ++ (n ∷ [])) ≡ 4 - length h.list = omega (arith, size, counted) in
          rw append_assoc (h.goes (n ∷ more) e (rw a (two_more (4 - length h.list) (drop p.end s) (drop (p.end + 2) s) d.2 (rw b at f))))
