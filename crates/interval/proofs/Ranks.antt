-- Rising edges: how many are below a number, and the places within.
use Rattle.std.proofs.Common.{◌≡◌, ℕ, zero, suc, ◌%◌, ◌<◌, ◌≤◌, not, ◌&&◌, ◌||◌, eqb, ltb, leb, ◌⊎◌, List, [], ◌∷◌, ◌++◌, length, get_or, take, replicate, sym, refl, ap, ◌∙◌, inl, inr, ⊎_elim, suc-le-suc, zero-le, arith, le-ltb, lt-ltb, le-leb}
use mathlib.Core.Bool.{not-not}
use borrow.Author.Tests.{lt-leb}
use Rattle.interval.specs.Edges.{top, Rising, Climbs, Below, rank, odd, within}

pub le-or-lt : (a b : ℕ) → (a ≤ b) ⊎ (b < a)
le-or-lt zero b = inl zero-le
le-or-lt (suc a) zero = inr (suc-le-suc zero-le)
le-or-lt (suc a) (suc b) = ⊎_elim (λ p. inl (suc-le-suc p)) (λ q. inr (suc-le-suc q)) (le-or-lt a b)

pub not_ltb : (a b : ℕ) → not (ltb a b) ≡ leb b a
not_ltb a b = ⊎_elim (λ (p : b ≤ a). rw (le-ltb a b p, le-leb b a p)) (λ (q : a < b). rw (lt-ltb a b q, lt-leb b a q)) (le-or-lt b a)

-- ---- rank
rank-zero : (l : List ℕ) (b f : ℕ) → f ≤ b → Climbs b l → rank l f ≡ 0
rank-zero [] b f h c = refl
rank-zero (e ∷ l) b f h c = rw (le-ltb e f (omega (arith, c.0)))

pub rank-start : (l : List ℕ) → Climbs 0 l → rank l 0 ≡ 0
rank-start l c = rank-zero l 0 0 zero-le c

-- no edge stands between f and g
pub rank_keep : (l : List ℕ) (f g d : ℕ) → f ≤ g → g ≤ get_or l (rank l f) d → rank l g ≡ rank l f
rank_keep [] f g d h k = refl
rank_keep (e ∷ l) f g d h k =
    ⊎_elim
    (λ (p : f ≤ e). simp (le-ltb e f p, le-ltb e g (simp (le-ltb e f p) at k)))
    (λ (q : e < f). simp (lt-ltb e f q, lt-ltb e g (omega arith)) (ap suc (rank_keep l f g d h (simp (lt-ltb e f q) at k))))
    (le-or-lt f e)

-- the next edge is m: one stands at or after f and not after m
pub rank_step : (l : List ℕ) (b f m : ℕ) → Climbs b l → f ≤ m → m < top → get_or l (rank l f) top ≡ m → rank l (suc m) ≡ suc (rank l f)
rank_step [] b f m c h t e = absurd (omega arith)
rank_step (e ∷ l) b f m c h t q =
    ⊎_elim
    (λ (p : f ≤ e). let w : e ≡ m = simp (le-ltb e f p) at q in
    simp (le-ltb e f p, lt-ltb e (suc m) (omega arith)) (ap suc (rank-zero l (suc e) (suc m) (omega arith) (c.1 (omega arith)))))
    (λ (p : e < f). simp (lt-ltb e f p, lt-ltb e (suc m) (omega arith))
    (ap suc (rank_step l (suc e) f m (c.1 (omega arith)) h t (simp (lt-ltb e f p) at q))))
    (le-or-lt f e)

-- the next edge is at or after f
pub next-from : (l : List ℕ) (f d : ℕ) → f ≤ d → f ≤ get_or l (rank l f) d
next-from [] f d h = h
next-from (e ∷ l) f d h =
    ⊎_elim
    (λ (p : f ≤ e). simp (le-ltb e f p) p)
    (λ (p : e < f). simp (lt-ltb e f p) (next-from l f d h))
    (le-or-lt f e)

pub rank_more : (l : List ℕ) (f g : ℕ) → f ≤ g → rank l f ≤ rank l g
rank_more [] f g h = zero-le
rank_more (e ∷ l) f g h =
    ⊎_elim
    (λ (p : f ≤ e). simp (le-ltb e f p) zero-le)
    (λ (p : e < f). simp (lt-ltb e f p, lt-ltb e g (omega arith)) (suc-le-suc (rank_more l f g h)))
    (le-or-lt f e)

pub rank-length : (l : List ℕ) (f : ℕ) → rank l f ≤ length l
rank-length [] f = zero-le
rank-length (e ∷ l) f =
    ⊎_elim
    (λ (p : f ≤ e). simp (le-ltb e f p) zero-le)
    (λ (p : e < f). simp (lt-ltb e f p) (suc-le-suc (rank-length l f)))
    (le-or-lt f e)

pub rank_below : (l : List ℕ) (f : ℕ) → Below f l → rank l f ≡ length l
rank_below [] f h = refl
rank_below (e ∷ l) f h = simp (lt-ltb e f h.0) (ap suc (rank_below l f h.1))

-- what stands after l is not below f
pub rank-append : (l : List ℕ) (n f : ℕ) → f ≤ top → rank (l ++ replicate n top) f ≡ rank l f
rank-append [] zero f h = refl
rank-append [] (suc n) f h = simp (le-ltb top f h)
rank-append (e ∷ l) n f h =
    ⊎_elim
    (λ (p : f ≤ e). simp (le-ltb e f p))
    (λ (p : e < f). simp (lt-ltb e f p) (ap suc (rank-append l n f h)))
    (le-or-lt f e)

pub rank-snoc : (l : List ℕ) (m f : ℕ) → f ≤ m → rank (l ++ m ∷ []) f ≡ rank l f
rank-snoc [] m f h = simp (le-ltb m f h)
rank-snoc (e ∷ l) m f h =
    ⊎_elim
    (λ (p : f ≤ e). simp (le-ltb e f p))
    (λ (p : e < f). simp (lt-ltb e f p) (ap suc (rank-snoc l m f h)))
    (le-or-lt f e)

pub rank-take : (l : List ℕ) (j f : ℕ) → rank l f ≤ j → rank (take j l) f ≡ rank l f
rank-take [] zero f h = refl
rank-take [] (suc j) f h = refl
rank-take (e ∷ l) zero f h = omega arith
rank-take (e ∷ l) (suc j) f h =
    ⊎_elim
    (λ (p : f ≤ e). simp (le-ltb e f p))
    (λ (p : e < f). simp (lt-ltb e f p) (ap suc (rank-take l j f (omega (arith, simp (lt-ltb e f p) at h)))))
    (le-or-lt f e)

-- ---- below
pub below_more : (l : List ℕ) (f g : ℕ) → f ≤ g → Below f l → Below g l
below_more [] f g h k = tt
below_more (e ∷ l) f g h k = (omega arith, below_more l f g h k.1)

pub below-snoc : (l : List ℕ) (f m : ℕ) → Below f l → m < f → Below f (l ++ m ∷ [])
below-snoc [] f m h k = (k, tt)
below-snoc (e ∷ l) f m h k = (h.0, below-snoc l f m h.1 k)

pub below_at : (l : List ℕ) (f i d : ℕ) → Below f l → i < length l → get_or l i d < f
below_at [] f i d h k = absurd (omega arith)
below_at (e ∷ l) f zero d h k = h.0
below_at (e ∷ l) f (suc i) d h k = below_at l f i d h.1 (omega arith)

-- ---- rising
pub rising_snoc : (l : List ℕ) (b m : ℕ) → Rising b l → Below m l → b ≤ m → Rising b (l ++ m ∷ [])
rising_snoc [] b m r h k = (k, tt)
rising_snoc (e ∷ l) b m r h k = (r.0, rising_snoc l (suc e) m r.1 h.1 h.0)

pub rising_climbs : (l : List ℕ) (b n : ℕ) → b ≤ top → Rising b l → Climbs b (l ++ replicate n top)
rising_climbs [] b zero h r = tt
rising_climbs [] b (suc n) h r = (h, λ k. absurd (omega arith))
rising_climbs (e ∷ l) b n h r = (r.0, λ k. rising_climbs l (suc e) n (omega arith) r.1)

-- up to the first `top`, and with it
pub climbs_rising : (l : List ℕ) (b j : ℕ) → Climbs b l → j ≤ suc (rank l top) → Rising b (take j l)
climbs_rising [] b zero c h = tt
climbs_rising [] b (suc j) c h = tt
climbs_rising (e ∷ l) b zero c h = tt
climbs_rising (e ∷ l) b (suc j) c h =
    ⊎_elim
    (λ (p : top ≤ e). let z : j ≡ 0 = omega (arith, simp (le-ltb e top p) at h) in rw z (c.0, tt))
    (λ (p : e < top). (c.0, climbs_rising l (suc e) j (c.1 p) (omega (arith, simp (lt-ltb e top p) at h))))
    (le-or-lt top e)

-- the next is more
pub rising_next : (l : List ℕ) (b i d : ℕ) → Rising b l → suc i < length l → get_or l i d < get_or l (suc i) d
rising_next [] b i d r h = absurd (omega arith)
rising_next (e ∷ []) b i d r h = absurd (omega arith)
rising_next (e ∷ f ∷ l) b zero d r h = r.1.0
rising_next (e ∷ f ∷ l) b (suc i) d r h = rising_next (f ∷ l) (suc e) i d r.1 (omega arith)

-- ---- within
rising_rank : (l : List ℕ) (b f : ℕ) → f ≤ b → Rising b l → rank l f ≡ 0
rising_rank [] b f h r = refl
rising_rank (e ∷ l) b f h r = rw (le-ltb e f (omega (arith, r.0)))

-- in the first stretch, or in one that follows it
pub within-cons : (a e b x : ℕ) (l : List ℕ) → Rising b (a ∷ e ∷ l) → within (a ∷ e ∷ l) x ≡ (leb a x && ltb x e) || within l x
within-cons a e b x l r =
    ⊎_elim
    (λ (p : a ≤ x).
    ⊎_elim
    (λ (q : e ≤ x). simp (le-leb a x p, le-ltb x e q, lt-ltb a (suc x) (omega arith), lt-ltb e (suc x) (omega arith)) (not-not _))
    (λ (q : x < e). simp (le-leb a x p, lt-ltb x e q, lt-ltb a (suc x) (omega arith), le-ltb e (suc x) (omega arith)))
    (le-or-lt e x))
    (λ (p : x < a).
    simp (lt-leb a x p, le-ltb a (suc x) (omega arith), rising_rank l (suc e) (suc x) (omega (arith, r.1.0)) r.1.1))
    (le-or-lt a x)

-- ---- parity
mod-two : (n : ℕ) → eqb (suc (suc n) % 2) 1 ≡ eqb (n % 2) 1
mod-two n = let e : suc (suc n) % 2 ≡ n % 2 = omega arith in rw e

pub odd-mod : (n : ℕ) → odd n ≡ eqb (n % 2) 1
odd-mod zero = refl
odd-mod (suc zero) = refl
odd-mod (suc (suc n)) = not-not (odd n) ∙ odd-mod n ∙ sym (mod-two n)
