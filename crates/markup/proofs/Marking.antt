-- The numbers made of names, and a table of marks: a name whose mark is not found before a free place is none of those whose marks are there.
use Prim.Native.Nat.{ℕ, ◌+◌, ◌*◌, ◌/◌, ◌<◌, ◌≤◌}
use mathlib.Core.Path.{◌≡◌, refl, sym, ◌∙◌, subst}
use mathlib.Core.List.{List}
use native.Mathlib.Numerals.{add-one}
use native.Mathlib.Omega.{arith}
use native.Mathlib.Decide.{dec_le}
use lib.ListN.{length, drop, get_or, set, drop_of_length-le}
use lib.Seq.{get_or-set_same, get_or-set_other}
use Rattle.text.proofs.Reading.{here}
use Rattle.markup.specs.Marks.{mixed, mix_of, mark_of, next_place, place_of, Passes, SpotFor, free, marked}
use Rattle.markup.specs.declared.marks.Spot.{Spot}
use Rattle.markup.specs.declared.marks.Spot.TheVariants.{Free, Marked}

-- one byte of a name after the other
pub mix_more : (n : List ℕ) (h i : ℕ) → i < length n → mix_of h (drop i n) ≡ mix_of (mixed h (get_or n i 0)) (drop (i + 1) n)
unfolding mix_of
mix_more n h i l = rw (here n i l)

pub mix_end : (n : List ℕ) (h i : ℕ) → length n ≤ i → mix_of h (drop i n) ≡ h
unfolding mix_of
mix_end n h i l = rw (drop_of_length-le n l)

-- one place of a name after the other
pub place_first : (h : ℕ) → place_of h 0 ≡ h * 3 / 1_024
unfolding place_of
place_first h = refl

pub place_more : (h c : ℕ) → place_of h (c + 1) ≡ next_place (place_of h c)
unfolding place_of
place_more h c = rw add-one

pub passes_none : (h : ℕ) (t : List ℕ) → Passes h t 0
passes_none h t d l = absurd (omega arith)

pub passes_more : (h : ℕ) (t : List ℕ) {c i m : ℕ} → place_of h c ≡ i → m ≡ mark_of h → Passes h t c → (get_or t i 0 ≡ 0 → ⊥) → (get_or t i 0 ≡ m → ⊥) → Passes h t (c + 1)
passes_more h t {c} {i} {m} e f p x y d l = go (dec_le c d)
  where
    go : Dec (c ≤ d) → (get_or t (place_of h d) 0 ≡ 0 → ⊥) × (get_or t (place_of h d) 0 ≡ mark_of h → ⊥)
    go (yes k) = let z : d ≡ c = omega arith in rw (z, e, ← f) (x, y)
    go (no k) = p d (omega arith)

-- what an answer says once its case is known
pub spot_is : {h : ℕ} {t : List ℕ} {r x : Spot} → r ≡ x → SpotFor h t r → SpotFor h t x
spot_is {h} {t} e p = subst (λ (y : Spot). SpotFor h t y) e p

-- a table has the mark of a name: at one of its places, and those before are not free
pub record Held (t : List ℕ) (h : ℕ) : Type 0 where
  pub tries : ℕ
  pub before : (d : ℕ) → d < tries → get_or t (place_of h d) 0 ≡ 0 → ⊥
  pub mark : get_or t (place_of h tries) 0 ≡ mark_of h

pub held-marked : {h : ℕ} {t : List ℕ} → SpotFor h t Marked → Held t h
held-marked (marked c i e p m) = record { tries = c; before = λ d l. (p d l).0; mark = rw e m }

-- a name that finds a free place is new
pub held-not : {h i : ℕ} {t : List ℕ} → SpotFor h t (Free i) → Held t h → ⊥
held-not {h} {i} {t} (free c _ e l p z) held = go (dec_le c held.tries)
  where
    here : get_or t (place_of h c) 0 ≡ 0
    here = rw e z

    go : Dec (c ≤ held.tries) → ⊥
    go (no k) = (p held.tries (omega arith)).1 held.mark
    go (yes k) = last (dec_le held.tries c)
      where
        last : Dec (held.tries ≤ c) → ⊥
        last (no m) = held.before c (omega arith) here
        last (yes m) = let z : held.tries ≡ c = omega arith in let w = rw z at held.mark in omega (arith, w, here)

-- a mark is put at a free place
module _ (t : List ℕ) (i m : ℕ) (z : get_or t i 0 ≡ 0) where
  stays : (j : ℕ) → (get_or t j 0 ≡ 0 → ⊥) → (get_or (set t i m) j 0 ≡ get_or t j 0)
  stays j h = get_or-set_other t i j m 0 (λ e. h (rw e z))

  taken : (j : ℕ) → (get_or t j 0 ≡ 0 → ⊥) → get_or (set t i m) j 0 ≡ 0 → ⊥
  taken j h e = h (sym (stays j h) ∙ e)

  pub held_stays : (h : ℕ) → Held t h → Held (set t i m) h
  held_stays h held = record {
    tries = held.tries;
    before = λ d k. taken (place_of h d) (held.before d k);
    mark = stays _ (λ e. omega (arith, e, held.mark)) ∙ held.mark;
  }

pub held-put : {h i m : ℕ} {t : List ℕ} → length t ≡ 3_072 → SpotFor h t (Free i) → m ≡ mark_of h → Held (set t i m) h
held-put {h} {i} {m} {t} n (free c _ e l p z) f = record {
  tries = c;
  before = λ d k. taken t i m z (place_of h d) (p d k).0;
  mark = rw e (get_or-set_same t i m 0 (omega arith) ∙ f);
}

pub spot_free : {h i : ℕ} {t : List ℕ} → SpotFor h t (Free i) → (i < 3_072) × (get_or t i 0 ≡ 0)
spot_free (free c i e l p z) = (l, z)

-- a table has the marks of names
abbrev pub HasMark : List ℕ → List ℕ → Type 0
HasMark t n = Held t (mix_of 0 n)
