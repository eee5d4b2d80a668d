-- The stretches of a set are listed in one way only.
use mathlib.Core.Path.{◌≡◌, refl, sym, ◌∙◌, ap}
use mathlib.Core.Bool.{Bool, true, false, ◌||◌, false≢true}
use mathlib.Core.List.{List, [], ◌∷◌, Memᴰ}
use mathlib.Core.Option.{Option, none, some}
use Rattle.rules.specs.Basics.{if_some, exists}
use Rattle.rules.specs.Sets.{Place, previous_place, ◌is_before◌, Interval, holds, IsStretch, is_in, ComesBefore, AllStretches, AreStretches}
use Rattle.rules.proofs.Order.{places, before_irreflexive, previous_number}
use Rattle.rules.proofs.Edges.{first_edge, end_edge, since, until, inside, is-inside, after-end, by_edges, since_up, until_down, fails}

module _ (p : Place → Bool) (z : Place) where
  -- what holds of the edges of a stretch that has z: no place between the edge and z is out, and the next one beyond the edge is
  abbrev IsFirst : Option Place → Type 0
  IsFirst f = (since f z ≡ true) × ((x : Place) → x is_before z ≡ true → p x ≡ false → since f x ≡ false) × (if_some f (λ x. p (previous_place x)) false ≡ false)

  abbrev IsEnd : Option Place → Type 0
  IsEnd e = (until e z ≡ true) × ((x : Place) → z is_before x ≡ true → p x ≡ false → until e x ≡ false) × (if_some e p false ≡ false)

  is-first : (s : Interval) → IsStretch p s → holds s z ≡ true → IsFirst (first_edge s)
  is-first s k i =
      ((inside s z i).0, λ x b. fails (λ h. k.filled x (is-inside s x h (until_down (end_edge s) x z b (inside s z i).1))), k.before)

  is-end : (s : Interval) → IsStretch p s → holds s z ≡ true → IsEnd (end_edge s)
  is-end s k i = (
    (inside s z i).1,
    λ x b. fails (λ h. k.filled x (is-inside s x (since_up (first_edge s) z x b (inside s z i).0) h)),
    sym (after-end p s.high) ∙ k.after,
  )

  -- the edge f is not before g
  not_sooner : (f g : Option Place) → IsFirst f → IsFirst g → if_some g (λ y. since f (previous_place y)) false ≡ false
  not_sooner f none a b = refl
  not_sooner f (some g) a b = a.1 (previous_place g) (omega (places, previous_number g)) b.2

  same_first : (f g : Option Place) → IsFirst f → IsFirst g → f ≡ g
  same_first f g a b = go f g (not_sooner f g a b) (not_sooner g f b a)
    where
      go : (f g : Option Place) → if_some g (λ y. since f (previous_place y)) false ≡ false → if_some f (λ y. since g (previous_place y)) false ≡ false → f ≡ g
      go none none h k = refl
      go none (some g) h k = cc
      go (some f) none h k = cc
      go (some f) (some g) h k = ap some (omega (places, previous_number f, previous_number g))

  same_end : (e d : Option Place) → IsEnd e → IsEnd d → e ≡ d
  same_end none none a b = refl
  same_end none (some d) a b = cc (a.1 d b.0 b.2)
  same_end (some e) none a b = cc (b.1 e a.0 a.2)
  same_end (some e) (some d) a b = ap some (omega (places, a.1 d b.0 b.2, b.1 e a.0 a.2))

  -- stretches that share a place are one
  shared : (s r : Interval) → IsStretch p s → IsStretch p r → holds s z ≡ true → holds r z ≡ true → s ≡ r
  shared s r k l i j =
      by_edges s r (same_first (first_edge s) (first_edge r) (is-first s k i) (is-first r l j)) (same_end (end_edge s) (end_edge r) (is-end s k i) (is-end r l j))

either : {C : Type 0} (a b : Bool) → a || b ≡ true → (a ≡ true → C) → (b ≡ true → C) → C
either true b e f g = f refl
either false b e f g = g e

-- two lists have the same places
abbrev Same : List Interval → List Interval → Type 0
Same ss rs = (y : Place) → is_in ss y ≡ is_in rs y

some_in : {p : Place → Bool} (s : Interval) (ss : List Interval) → IsStretch p s → Same [] (s ∷ ss) → ⊥
unfolding exists
some_in s ss k c = let i = k.inhabited in false≢true (c i.0 ∙ rw i.1 refl)

first-same : {p : Place → Bool} (s r : Interval) (ss rs : List Interval)
    → AllStretches p (s ∷ ss) → AllStretches p (r ∷ rs) → Same (s ∷ ss) (r ∷ rs) → s ≡ r
unfolding exists
first-same {p} s r ss rs a b c =
    let z = a.0.inhabited.0 in
    let w = b.0.inhabited.0 in
    let i : holds s z ≡ true = a.0.inhabited.1 in
    let j : holds r w ≡ true = b.0.inhabited.1 in
    either (holds r z) (is_in rs z) (sym (c z) ∙ rw i refl) (shared p z s r a.0 b.0 i)
    (λ k. either (holds s w) (is_in ss w) (c w ∙ rw j refl) (λ l. shared p w s r a.0 b.0 l j)
    (λ l. absurd (omega (places, a.1 z w i l, b.1 w z j k))))

rest-same : (s : Interval) (ss rs : List Interval) → ComesBefore s ss → ComesBefore s rs → Same (s ∷ ss) (s ∷ rs) → Same ss rs
unfolding exists
rest-same s ss rs a b c y = go (holds s y) refl (c y)
  where
    go : (t : Bool) → holds s y ≡ t → t || is_in ss y ≡ t || is_in rs y → is_in ss y ≡ is_in rs y
    go true i e = fails (a y y i) (before_irreflexive y) ∙ sym (fails (b y y i) (before_irreflexive y))
    go false i e = e

unique : (p : Place → Bool) (ss rs : List Interval) → AllStretches p ss → AllStretches p rs → Same ss rs → ss ≡ rs
unique p [] [] a b c = refl
unique p [] (r ∷ rs) a b c = absurd (some_in r rs b.0 c)
unique p (s ∷ ss) [] a b c = absurd (some_in s ss a.0 (λ y. sym (c y)))
unique p (s ∷ ss) (r ∷ rs) a b c =
    let e : r ≡ s = sym (first-same s r ss rs a b c) in
    let d : Same (s ∷ ss) (s ∷ rs) = rw e at c in
    cc (e, unique p ss rs a.2 b.2 (rest-same s ss rs a.1 (rw e at b.1) d))

pub stretches_unique : {p : Place → Bool} {ss rs : List Interval} → AreStretches p ss → AreStretches p rs → ss ≡ rs
stretches_unique {p} {ss} {rs} a b = unique p ss rs a.each b.each (λ y. a.all y ∙ sym (b.all y))

-- every stretch of the set is listed
pub stretch_listed : {p : Place → Bool} {ss : List Interval} → AreStretches p ss → (s : Interval) → IsStretch p s → Memᴰ s ss
unfolding exists
stretch_listed {p} {ss} a s k = go ss a.each (a.all z ∙ k.filled z i)
  where
    z : Place
    z = k.inhabited.0

    i : holds s z ≡ true
    i = k.inhabited.1

    go : (rs : List Interval) → AllStretches p rs → is_in rs z ≡ true → Memᴰ s rs
    go [] b e = absurd (false≢true e)
    go (r ∷ rs) b e = either (holds r z) (is_in rs z) e (λ j. Memᴰ.head (shared p z s r k b.0 i j)) (λ j. Memᴰ.tail (go rs b.2 j))
