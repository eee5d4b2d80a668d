-- A list of intervals whose edges rise strictly is the list of the stretches of its places.
use mathlib.Core.Path.{◌≡◌, refl, sym, ◌∙◌}
use mathlib.Core.Bool.{Bool, true, false}
use mathlib.Core.List.{List, [], ◌∷◌}
use mathlib.Core.Option.{Option, none, some}
use lib.IntN.{pos}
use Rattle.rules.specs.Basics.{if_some, exists}
use Rattle.rules.specs.Sets.{Place, at, next_place, previous_place, ◌is_before◌, Interval, IsStretch, is_in, ComesBefore, AllStretches, AreStretches}
use Rattle.rules.proofs.Order.{places, next-number, previous_number}
use Rattle.rules.proofs.Edges.{first_edge, end_edge, since, until, past, inside, is-inside, not-until, after-end, passes}

-- the first place is before the end
abbrev pub Opens : (first end : Option Place) → Type 0
Opens f e = if_some f (until e) true ≡ true

-- the end is before the first place of the following interval
abbrev pub Parts : (end first : Option Place) → Type 0
Parts e f = if_some f (past e) false ≡ true

abbrev pub Follows : (end : Option Place) → List Interval → Type 0
Follows e [] = Unit {0}
Follows e (s ∷ ss) = Parts e (first_edge s)

-- from low to high, each interval has a place, and there is a place between it and the following one that is in neither
abbrev pub Canonical : List Interval → Type 0
Canonical [] = Unit {0}
Canonical (s ∷ ss) = Opens (first_edge s) (end_edge s) × Follows (end_edge s) ss × Canonical ss

opens-until : (f e : Option Place) (x : Place) → Opens f e → since f x ≡ false → past e x ≡ false
opens-until none e x o h = cc
opens-until (some f) none x o h = refl
opens-until (some f) (some n) x o h = omega places

parts_since : (e f : Option Place) (x : Place) → Parts e f → past e x ≡ false → since f x ≡ false
parts_since e none x o h = cc
parts_since none (some f) x o h = cc
parts_since (some n) (some f) x o h = omega places

-- what is not past the end of one is in none of those that follow it
not-past : (s : Interval) (ss : List Interval) → Canonical (s ∷ ss) → (y : Place) → past (end_edge s) y ≡ false → is_in ss y ≡ false
unfolding exists
not-past s [] c y h = refl
not-past s (r ∷ rs) c y h =
    let g : since (first_edge r) y ≡ false = parts_since (end_edge s) (first_edge r) y c.1 h in
    rw (g, not-past r rs c.2 y (opens-until (first_edge r) (end_edge r) y c.2.0 g)) refl

place_in : (f e : Option Place) → Opens f e → (x : Place) × (since f x ≡ true) × (until e x ≡ true)
place_in none none o = (at (pos 0), refl, refl)
place_in none (some n) o = (previous_place n, refl, omega (places, previous_number n))
place_in (some f) none o = (f, omega places, refl)
place_in (some f) (some n) o = (f, omega places, o)

between : (e : Option Place) (x y : Place) → until e x ≡ true → past e y ≡ true → x is_before y ≡ true
between none x y h k = cc
between (some n) x y h k = omega places

comes_before : (s : Interval) (ss : List Interval) → Canonical (s ∷ ss) → ComesBefore s ss
comes_before s ss c x y i j = between (end_edge s) x y (inside s x i).1 (passes (not-past s ss c y) j)

opens_since : (f e : Option Place) (y : Place) → Opens f e → until e y ≡ false → since f (next_place y) ≡ true
opens_since none e y o h = refl
opens_since (some f) none y o h = cc
opens_since (some f) (some n) y o h = omega (places, next-number y)

parts-until : (e f : Option Place) (y : Place) → Parts e f → since f (next_place y) ≡ true → until e y ≡ false
parts-until e none y o h = cc
parts-until none (some f) y o h = cc
parts-until (some n) (some f) y o h = omega (places, next-number y)

since_next : (f : Option Place) (y : Place) → since f y ≡ true → since f (next_place y) ≡ true
since_next none y h = refl
since_next (some f) y h = omega (places, next-number y)

-- next before the first; at the end
false-before : (p : Place → Bool) (f : Option Place) → ((y : Place) → since f (next_place y) ≡ true → since f y ≡ false → p y ≡ false)
    → if_some f (λ x. p (previous_place x)) false ≡ false
false-before p none h = refl
false-before p (some f) h = h (previous_place f) (omega (places, next-number (previous_place f), previous_number f)) (omega (places, previous_number f))

false-at : (p : Place → Bool) (e : Option Place) → ((y : Place) → until e y ≡ false → past e y ≡ false → p y ≡ false) → if_some e p false ≡ false
false-at p none h = refl
false-at p (some n) h = h n (omega places) (omega places)

module _ (p : Place → Bool) where
  -- p has the places of the list, from the one next before its first on
  abbrev Agrees : Interval → List Interval → Type 0
  Agrees s ss = (y : Place) → since (first_edge s) (next_place y) ≡ true → is_in (s ∷ ss) y ≡ p y

  first_stretch : (s : Interval) (ss : List Interval) → Canonical (s ∷ ss) → Agrees s ss → IsStretch p s
  unfolding exists
  first_stretch s ss c h =
      let f = first_edge s in
      let e = end_edge s in
      let i = place_in f e c.0 in
      record {
        inhabited = (i.0, is-inside s i.0 i.1 i.2);
        filled = λ x i. sym (h x (since_next f x (inside s x i).0)) ∙ rw i refl;
        before = false-before p f (λ y n o. sym (h y n) ∙ rw (o, not-past s ss c y (opens-until f e y c.0 o)) refl);
        after = after-end p s.high ∙ false-at p e (λ y u n. sym (h y (opens_since f e y c.0 u)) ∙ rw (not-until s y u, not-past s ss c y n) refl);
      }

  all-stretches : (s : Interval) (ss : List Interval) → Canonical (s ∷ ss) → Agrees s ss → AllStretches p (s ∷ ss)
  unfolding exists
  all-stretches s [] c h = (first_stretch s [] c h, comes_before s [] c, tt)
  all-stretches s (r ∷ rs) c h = (
    first_stretch s (r ∷ rs) c h,
    comes_before s (r ∷ rs) c,
    all-stretches r rs c.2 (λ y n.
        let u : until (end_edge s) y ≡ false = parts-until (end_edge s) (first_edge r) y c.1 n in
        rw (not-until s y u) at (h y (opens_since (first_edge s) (end_edge s) y c.0 u))),
  )

pub canonical-stretches : {p : Place → Bool} {ss : List Interval} → Canonical ss → ((x : Place) → is_in ss x ≡ p x) → AreStretches p ss
canonical-stretches {ss = []} c h = record { each = tt; all = h }
canonical-stretches {p} {ss = s ∷ ss} c h = record { each = all-stretches p s ss c (λ y n. h y); all = h }
