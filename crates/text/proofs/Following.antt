-- Whole characters one after another: what stands at a position decides whether the rest is UTF-8.
use Prim.Native.Nat.{ℕ, zero, suc, ◌+◌, ◌≤◌, ◌<◌}
use mathlib.Core.Path.{◌≡◌, refl, sym, ◌∙◌, ap}
use mathlib.Core.Bool.{Bool, true, false, ◌&&◌, cond, and-true, and_assoc, false≢true}
use mathlib.Core.List.{List, [], ◌∷◌, ◌++◌}
use mathlib.Core.Option.{Option, none, some, some-ne-none}
use lib.Dec.{ltb}
use lib.ListN.{length, get_or, take, drop, length-drop, take-append-drop}
use lib.Seq.{drop-cons, drop-drop, take-suc, get_or-drop}
use native.Mathlib.Nat.{add_assoc}
use native.Mathlib.Numerals.{add-one}
use native.Mathlib.Omega.{arith}
use borrow.Author.Tests.{lt-ltb, ltb-true}
use Rattle.rules.specs.Basics.{if_some, every}
use Rattle.rules.specs.Utf8.{Range, in_range, Lead, lead_of, follows, is_utf8}
use Rattle.text.specs.Characters.{followers, fill, char_length, is_ascii, Skips}
use Rattle.text.proofs.Leads.{leads_alone}

-- bytes in ranges, and then whole characters
pub follows-fill : (l : List Range) (s : List ℕ) → follows l s ≡ fill l s && is_utf8 (drop (length l) s)
unfolding follows fill
follows-fill [] [] = refl
follows-fill [] (c ∷ s) = refl
follows-fill (r ∷ l) [] = refl
follows-fill (r ∷ l) (c ∷ s) = ap (λ (b : Bool). in_range c r && b) (follows-fill l s) ∙ sym (and_assoc (in_range c r) (fill l s) _)

pub fill-short : (l : List Range) (s : List ℕ) → length s < length l → fill l s ≡ false
unfolding fill
fill-short [] s h = absurd (omega arith)
fill-short (r ∷ l) [] h = refl
fill-short (r ∷ l) (c ∷ s) h = go (in_range c r) (fill-short l s (omega arith))
  where
    go : (b : Bool) → fill l s ≡ false → b && fill l s ≡ false
    go true e = e
    go false e = refl

-- one range after another, by positions
pub fill-at : (r : Range) (l : List Range) (s : List ℕ) (at : ℕ) → at < length s
    → fill (r ∷ l) (drop at s) ≡ in_range (get_or s at 0) r && fill l (drop (suc at) s)
unfolding fill
fill-at r l s at h = rw (drop-cons s at 0 h) refl

pub fill-two : (q r : Range) (s : List ℕ) (at : ℕ) → at + 2 ≤ length s
    → fill (q ∷ r ∷ []) (drop at s) ≡ in_range (get_or s at 0) q && in_range (get_or s (at + 1) 0) r
unfolding fill
fill-two q r s at h = rw (fill-at q (r ∷ []) s at (omega arith), ← add-one at, fill-at r [] s (at + 1) (omega arith), and-true) refl

pub fill-three : (p q r : Range) (s : List ℕ) (at : ℕ) → at + 3 ≤ length s
    → fill (p ∷ q ∷ r ∷ []) (drop at s) ≡ in_range (get_or s at 0) p && in_range (get_or s (at + 1) 0) q && in_range (get_or s (at + 2) 0) r
fill-three p q r s at h =
    fill-at p (q ∷ r ∷ []) s at (omega arith)
    ∙ rw (← add-one at, fill-two q r s (at + 1) (omega arith), add_assoc at 1 1) (sym (and_assoc (in_range (get_or s at 0) p) (in_range (get_or s (at + 1) 0) q) _))

pub fill-past : (l : List Range) (s : List ℕ) (at : ℕ) → at ≤ length s → length s < at + length l → fill l (drop at s) ≡ false
fill-past l s at k h = fill-short l (drop at s) (simp length-drop (omega arith))

fill-long : (l : List Range) (s : List ℕ) → fill l s ≡ true → length l ≤ length s
unfolding fill
fill-long [] s e = omega arith
fill-long (r ∷ l) [] e = absurd (false≢true e)
fill-long (r ∷ l) (c ∷ s) e = go (in_range c r) e (fill-long l s)
  where
    go : (b : Bool) → b && fill l s ≡ true → (fill l s ≡ true → length l ≤ length s) → suc (length l) ≤ suc (length s)
    go true d h = omega (arith, h d)
    go false d h = absurd (false≢true d)

-- a text is UTF-8 exactly if it begins with a character and the rest is UTF-8
char-first : (c : ℕ) (s : List ℕ) → is_utf8 (c ∷ s) ≡ ltb 0 (char_length (c ∷ s)) && is_utf8 (drop (char_length (c ∷ s)) (c ∷ s))
unfolding follows char_length followers
char-first c s = by_lead (lead_of c)
  where
    by_fill : (l : List Range) (b : Bool)
        → b && is_utf8 (drop (length l) s) ≡ ltb 0 (cond b (suc (length l)) 0) && is_utf8 (drop (cond b (suc (length l)) 0) (c ∷ s))
    by_fill l true = rw (lt-ltb 0 (suc (length l)) (omega arith)) refl
    by_fill l false = refl

    by_lead : (o : Option Lead)
        → if_some o (λ l. follows l.next s) false
        ≡ ltb 0 (if_some (if_some o (λ l. some l.next) none) (λ l. cond (fill l s) (suc (length l)) 0) 0)
        && is_utf8 (drop (if_some (if_some o (λ l. some l.next) none) (λ l. cond (fill l s) (suc (length l)) 0) 0) (c ∷ s))
    by_lead none = refl
    by_lead (some l) = follows-fill l.next s ∙ by_fill l.next (fill l.next s)

char-fits : (s : List ℕ) → char_length s ≤ length s
unfolding char_length
char-fits [] = omega arith
char-fits (c ∷ s) = by_followers (followers c)
  where
    by_fill : (l : List Range) (b : Bool) → fill l s ≡ b → cond b (suc (length l)) 0 ≤ suc (length s)
    by_fill l true e = omega (arith, fill-long l s e)
    by_fill l false e = omega arith

    by_followers : (o : Option (List Range)) → if_some o (λ l. cond (fill l s) (suc (length l)) 0) 0 ≤ suc (length s)
    by_followers none = omega arith
    by_followers (some l) = by_fill l (fill l s) refl

-- at a position: the text from there on is UTF-8 exactly if a character stands there and what follows it is UTF-8
module _ (s : List ℕ) (at n : ℕ) (e : n ≡ char_length (drop at s)) (h : at < length s) where
  pub char-high : at + n ≤ length s
  char-high = omega (arith, char-fits (drop at s), length-drop at s)

  first_char : is_utf8 (drop at s) ≡ ltb 0 (char_length (drop at s)) && is_utf8 (drop (char_length (drop at s)) (drop at s))
  first_char = rw (drop-cons s at 0 h) (char-first (get_or s at 0) (drop (suc at) s))

  first : is_utf8 (drop at s) ≡ ltb 0 n && is_utf8 (drop (at + n) s)
  first = rw e (first_char ∙ ap (λ (t : List ℕ). ltb 0 (char_length (drop at s)) && is_utf8 t) (drop-drop (char_length (drop at s)) at s))

  pub no_char : n ≡ 0 → is_utf8 (drop at s) ≡ false
  no_char z = first ∙ rw z refl

  pub after-char : (n ≡ 0 → ⊥) → is_utf8 (drop at s) ≡ is_utf8 (drop (at + n) s)
  after-char z = first ∙ rw (lt-ltb 0 n (omega arith)) refl

-- the character at a position, by what its lead byte asks to follow
char_led : (l : List Range) (s : List ℕ) (at : ℕ) (b : Bool) → at < length s → some l ≡ followers (get_or s at 0) → b ≡ fill l (drop (at + 1) s)
    → char_length (drop at s) ≡ cond b (suc (length l)) 0
unfolding char_length
char_led l s at b h e f = rw (drop-cons s at 0 h, ← e, f, add-one at) refl

pub char-whole : (l : List Range) (s : List ℕ) (at : ℕ) (b : Bool) → at < length s → some l ≡ followers (get_or s at 0) → b ≡ fill l (drop (at + 1) s)
    → b ≡ true → suc (length l) ≡ char_length (drop at s)
char-whole l s at b h e f y = rw (char_led l s at b h e f, y) refl

pub char-broken : (l : List Range) (s : List ℕ) (at : ℕ) (b : Bool) → at < length s → some l ≡ followers (get_or s at 0) → b ≡ fill l (drop (at + 1) s)
    → b ≡ false → 0 ≡ char_length (drop at s)
char-broken l s at b h e f y = rw (char_led l s at b h e f, y) refl

pub char-none : (s : List ℕ) (at : ℕ) → at < length s → none ≡ followers (get_or s at 0) → 0 ≡ char_length (drop at s)
unfolding char_length
char-none s at h e = rw (drop-cons s at 0 h, ← e) refl

-- ASCII stands by itself
ascii_first : (c : ℕ) (s : List ℕ) → c < 128 → is_utf8 (c ∷ s) ≡ is_utf8 s
unfolding follows followers
ascii_first c s h = by_lead (lead_of c) (leads_alone c h)
  where
    by_lead : (o : Option Lead) → some [] ≡ if_some o (λ l. some l.next) none → if_some o (λ l. follows l.next s) false ≡ is_utf8 s
    by_lead none e = absurd (some-ne-none [] e)
    by_lead (some l) e = ap (λ (o : Option (List Range)). if_some o (λ (r : List Range). follows r s) false) (sym e)

ascii_all : (a b : List ℕ) → every is_ascii a ≡ true → is_utf8 (a ++ b) ≡ is_utf8 b
unfolding every
ascii_all [] b e = refl
ascii_all (c ∷ a) b e = go (is_ascii c) refl e (ascii_all a b)
  where
    go : (t : Bool) → is_ascii c ≡ t → t && every is_ascii a ≡ true → (every is_ascii a ≡ true → is_utf8 (a ++ b) ≡ is_utf8 b) → is_utf8 (c ∷ a ++ b) ≡ is_utf8 b
    go true d q h = ascii_first c (a ++ b) (ltb-true c 128 d) ∙ h q
    go false d q h = absurd (false≢true q)

every_last : (p : ℕ → Bool) (l : List ℕ) (a : ℕ) → every p (l ++ (a ∷ [])) ≡ every p l && p a
unfolding every
every_last p [] a = and-true (p a)
every_last p (b ∷ l) a = ap (λ (t : Bool). p b && t) (every_last p l a) ∙ sym (and_assoc (p b) (every p l) (p a))

-- one byte more
pub every_next : (p : ℕ → Bool) (l : List ℕ) (k : ℕ) → k < length l → every p (take k l) && p (get_or l k 0) ≡ every p (take (k + 1) l)
every_next p l k h = sym (rw (add-one k, take-suc l k 0 h) (every_last p (take k l) (get_or l k 0)))

pub every_more : (p : ℕ → Bool) (s : List ℕ) (at k : ℕ) → at + k < length s
    → every p (take k (drop at s)) && p (get_or s (at + k) 0) ≡ every p (take (k + 1) (drop at s))
every_more p s at k h = rw (← get_or-drop at s k 0) (every_next p (drop at s) k (rw length-drop (omega arith)))

-- all bytes
pub every_whole : (p : ℕ → Bool) (l : List ℕ) (k : ℕ) → length l ≤ k → every p (take k l) ≡ every p l
unfolding every
every_whole p [] zero h = refl
every_whole p [] (suc k) h = refl
every_whole p (c ∷ l) zero h = absurd (omega arith)
every_whole p (c ∷ l) (suc k) h = ap (λ (t : Bool). p c && t) (every_whole p l k (omega arith))

pub skips_none : (s : List ℕ) (i : ℕ) → i ≤ length s → Skips s i i
skips_none s i h = record { low = omega arith; high = h; whole = refl }

pub skips_block : (s : List ℕ) (i j n : ℕ) → Skips s i j → j + n ≤ length s → every is_ascii (take n (drop j s)) ≡ true → Skips s i (j + n)
skips_block s i j n k h a = record {
  low = omega (arith, k.low);
  high = h;
  whole = k.whole ∙ rw (← take-append-drop n (drop j s)) (ascii_all (take n (drop j s)) (drop n (drop j s)) a ∙ ap is_utf8 (drop-drop n j s));
}

pub skips_on : {s : List ℕ} {i j k : ℕ} → Skips s i j → Skips s j k → Skips s i k
skips_on a b = record { low = omega (arith, a.low, b.low); high = b.high; whole = a.whole ∙ b.whole }

pub after_ascii : (s : List ℕ) (at j : ℕ) → at < length s → get_or s at 0 < 128 → Skips s (at + 1) j → is_utf8 (drop at s) ≡ is_utf8 (drop j s)
after_ascii s at j h a k = first ∙ k.whole
  where
    first : is_utf8 (drop at s) ≡ is_utf8 (drop (at + 1) s)
    first = rw (drop-cons s at 0 h, add-one at) (ascii_first (get_or s at 0) (drop (suc at) s) a)
