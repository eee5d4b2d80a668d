-- Whole characters: texts of them end to end, and the longest beginning of a text that is whole characters.
use Prim.Native.Nat.{ℕ, zero, suc, ◌+◌, ◌-◌, ◌≤◌, ◌<◌, min}
use mathlib.Core.Path.{◌≡◌, refl, sym, ◌∙◌}
use mathlib.Core.Bool.{Bool, true, false, cond, false≢true}
use mathlib.Core.List.{List, [], ◌∷◌, ◌++◌}
use mathlib.Core.Option.{Option, none, some}
use native.Mathlib.Omega.{arith}
use native.Mathlib.Decide.{dec_le}
use lib.ListN.{length, take, length-append, length-take}
use lib.Seq.{take-length, take-append_seam, take-append-add}
use Rattle.rules.specs.Basics.{if_some}
use Rattle.rules.specs.Utf8.{Range, in_range, Lead, lead_of, follows, is_utf8, longest, cut_length}
use Rattle.rules.proofs.Tests.{both_true}

-- whole characters after the bytes that some ranges ask for: what follows them is whole characters, or is not, by itself
pub follows-append : (l : List Range) (a b : List ℕ) → follows l a ≡ true → follows l (a ++ b) ≡ follows [] b
unfolding follows
follows-append [] [] b h = refl
follows-append (r ∷ l) [] b h = absurd (false≢true h)
follows-append (r ∷ l) (c ∷ a) b h = let (f, g) = both_true (in_range c r) (follows l a) h in rw f (follows-append l a b g)
follows-append [] (c ∷ a) b h = go (lead_of c) (λ l. follows-append l a b) h
  where
    go : (o : Option Lead) → ((l : List Range) → follows l a ≡ true → follows l (a ++ b) ≡ follows [] b) → if_some o (λ l. follows l.next a) false ≡ true → if_some o (λ l. follows l.next (a ++ b)) false ≡ follows [] b
    go none below h = absurd (false≢true h)
    go (some l) below h = below l.next h

-- each range asks for a byte
follows-length : (l : List Range) (s : List ℕ) → follows l s ≡ true → length l ≤ length s
unfolding follows
follows-length [] s h = omega arith
follows-length (r ∷ l) [] h = absurd (false≢true h)
follows-length (r ∷ l) (c ∷ s) h = omega (arith, follows-length l s (both_true (in_range c r) (follows l s) h).1)

longest-le : (n : ℕ) (text : List ℕ) → longest n text ≤ n
unfolding longest
longest-le zero text = omega arith
longest-le (suc n) text = go (is_utf8 (take (suc n) text)) (longest-le n text)
  where
    go : (b : Bool) → longest n text ≤ n → cond b (suc n) (longest n text) ≤ suc n
    go true h = omega arith
    go false h = omega arith

longest-whole : (n : ℕ) (text : List ℕ) → is_utf8 (take (longest n text) text) ≡ true
unfolding longest follows
longest-whole zero text = refl
longest-whole (suc n) text = go _ refl (longest-whole n text)
  where
    go : (b : Bool) → is_utf8 (take (suc n) text) ≡ b → is_utf8 (take (longest n text) text) ≡ true → is_utf8 (take (cond b (suc n) (longest n text)) text) ≡ true
    go true e h = e
    go false e h = h

longest-most : (n : ℕ) (text : List ℕ) (m : ℕ) → m ≤ n → is_utf8 (take m text) ≡ true → m ≤ longest n text
unfolding longest
longest-most zero text m l h = l
longest-most (suc n) text m l h = go _ refl (dec_le m n) (λ k. longest-most n text m k h)
  where
    go : (b : Bool) → is_utf8 (take (suc n) text) ≡ b → Dec (m ≤ n) → (m ≤ n → m ≤ longest n text) → m ≤ cond b (suc n) (longest n text)
    go true e d below = l
    go false e (yes k) below = below k
    go false e (no k) below = let z : m ≡ suc n = omega arith in absurd (false≢true (sym e ∙ (rw z at h)))

module _ (room : ℕ) (text : List ℕ) where
  pub cut-whole : is_utf8 (take (cut_length room text) text) ≡ true
  cut-whole = longest-whole _ text

  pub cut_fits : (cut_length room text ≤ room) × (cut_length room text ≤ length text)
  cut_fits = (omega (arith, longest-le (min room (length text)) text), omega (arith, longest-le (min room (length text)) text))

  pub cut-longest : (n : ℕ) → n ≤ room → n ≤ length text → is_utf8 (take n text) ≡ true → n ≤ cut_length room text
  cut-longest n f g h = longest-most _ text n (omega arith) h

  pub cut_all : length text ≤ room → is_utf8 text ≡ true → cut_length room text ≡ length text
  cut_all l h = omega (arith, cut_fits, cut-longest (length text) l (omega arith) (rw take-length h))

-- whole characters, and of what comes after them no beginning that fits is whole characters
pub cut-after : (room : ℕ) (a rest : List ℕ) → is_utf8 a ≡ true → length a ≤ room
    → ((k : ℕ) → 0 < k → length a + k ≤ room → k ≤ length rest → is_utf8 (take k rest) ≡ true → ⊥)
    → cut_length room (a ++ rest) ≡ length a
cut-after room a rest whole fits no_more = go (dec_le m (length a))
  where
    m : ℕ
    m = cut_length room (a ++ rest)

    low : length a ≤ m
    low = cut-longest room (a ++ rest) (length a) fits (omega (arith, length-append a rest)) (rw take-append_seam whole)

    go : Dec (m ≤ length a) → m ≡ length a
    go (yes h) = omega (arith, low)
    go (no h) =
        let k = m - length a in
        let z : m ≡ length a + k = omega (arith, low) in
        let w : is_utf8 (a ++ take k rest) ≡ true = rw (z, take-append-add a rest k) at (cut-whole room (a ++ rest)) in
        let (f, g) = cut_fits room (a ++ rest) in
        absurd (no_more k (omega arith) (omega arith) (omega (arith, length-append a rest)) (sym (follows-append [] a (take k rest) whole) ∙ w))

-- whole characters, and the next one, led by c, does not fit
pub cut-before : (room : ℕ) (a : List ℕ) (c : ℕ) (rest : List ℕ) (l : Lead) → is_utf8 a ≡ true → lead_of c ≡ some l
    → length a ≤ room → room ≤ length a + length l.next → cut_length room (a ++ c ∷ rest) ≡ length a
unfolding follows
cut-before room a c rest l whole led fits short = cut-after room a (c ∷ rest) whole fits no_more
  where
    no_more : (k : ℕ) → 0 < k → length a + k ≤ room → k ≤ length (c ∷ rest) → is_utf8 (take k (c ∷ rest)) ≡ true → ⊥
    no_more zero h f g w = omega arith
    no_more (suc k) h f g w = omega (arith, follows-length l.next (take k rest) (rw led at w), length-take k rest)
