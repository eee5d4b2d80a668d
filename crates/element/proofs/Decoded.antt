-- The decoded characters of a value, one after another.
use Rattle.std.specs.Prelude.{Option, Some, None, is_some, is_none}
use Rattle.std.proofs.Common.{unwrap_or}
use Prim.Native.Nat.{ℕ, zero, suc, ◌+◌, ◌≤◌, ◌<◌}
use mathlib.Core.Path.{◌≡◌, refl, subst}
use mathlib.Core.Bool.{Bool, true, false, not}
use mathlib.Core.List.{List, [], ◌∷◌}
use native.Mathlib.Omega.{arith}
use borrow.Author.Tests.{eq-eqb, ne_eqb, eqb-true, eqb-false}
use lib.Dec.{eqb}
use lib.ListN.{length, drop, get_or, length-drop, drop_of_length-le}
use Rattle.rules.specs.Basics.{is_empty, same}
use Rattle.rules.specs.Parsers.{ok, byte}
use Rattle.rules.specs.Markup.{char, text, value}
use Rattle.rules.proofs.Parsers.{map-ok}
use Rattle.rules.proofs.Tests.{clash}
use Rattle.text.specs.Reads.{Good, Reads, upto, none}
use Rattle.text.proofs.Reading.{here, none_of}
use Rattle.markup.specs.Values.{CharBy, char_is, no_char}
use Rattle.element.specs.Texts.{TextAt, Chars, no_chars, chars, CharOn, no_char_on, char_on}

-- the characters stand after the quote
pub text-start : {s : List ℕ} {at i : ℕ} → Good 1 (byte 34) s at i → (v after : List ℕ) → value (drop at s) ≡ ok v after → TextAt s i v
unfolding value
text-start {s} {at} {i} g v after q =
    record { fuel = length (drop i s); enough = rw length-drop (omega arith); after = after; reads = rw g.reads at q }

-- where no quote stands there is no value
pub text-none : {P : Type 0} {s : List ℕ} {at : ℕ} → Reads 1 (byte 34) s at None → (v after : List ℕ) → value (drop at s) ≡ ok v after → P
unfolding value
text-none b v after q = let z = rw (none_of (byte 34) b) at q in clash (cc)

-- where the characters stand, by the answer on the quote
pub text-from : {s : List ℕ} {at : ℕ} {r : Option ℕ} → at ≤ length s → Reads 1 (byte 34) s at r
    → (unwrap_or r at ≤ length s) × ((v after : List ℕ) → value (drop at s) ≡ ok v after → TextAt s (unwrap_or r at) v)
text-from l (upto e g) = (g.high, text-start g)
text-from {s} {at} l (none b) = (l, λ v after q. text-none {s = s} {at = at} (none b) v after q)

-- no character, where the quote stands
pub chars-end : {s : List ℕ} {at e : ℕ} → Reads 1 (byte 34) s at (Some e) → (v : List ℕ) → TextAt s at v → Chars s v None
unfolding text
chars-end {s} {at} (upto e g) v x = go x.fuel x.reads
  where
    go : (f : ℕ) → text f (drop at s) ≡ ok v x.after → Chars s v None
    go zero q = clash (cc)
    go (suc f) q = let r = rw g.reads at q in let z : [] ≡ v = cc in subst (λ (p : List ℕ). Chars s p None) z no_chars

-- else a character, and the others after it
pub chars-next : {s : List ℕ} {at : ℕ} {r : Option (ℕ × ℕ)} → Reads 1 (byte 34) s at None → CharBy char s at r → (v : List ℕ) → TextAt s at v → Chars s v r
unfolding text
chars-next {s} {at} b (char_is c e l h p) v x = go x.fuel x.enough x.reads
  where
    go : (f : ℕ) → length s ≤ at + f → text f (drop at s) ≡ ok v x.after → Chars s v (Some (c, e))
    go zero m q = clash (cc)
    go (suc f) m q =
        let (w, y, z) = map-ok (text f (drop e s)) (λ cs. c ∷ cs) (rw (none_of (byte 34) b, p) at q) in
        subst (λ (p : List ℕ). Chars s p (Some (c, e))) z (chars c e w (record { fuel = f; enough = omega arith; after = x.after; reads = y }))
chars-next {s} {at} b (no_char p) v x = go x.fuel x.reads
  where
    go : (f : ℕ) → text f (drop at s) ≡ ok v x.after → Chars s v None
    go zero q = clash (cc)
    go (suc f) q = let r = rw (none_of (byte 34) b, p) at q in clash (cc)

pub chars-on : {s : List ℕ} {at : ℕ} {r : Option (ℕ × ℕ)} → CharBy char s at r → CharOn s at r
chars-on (char_is c e l h p) = char_on c e l h
chars-on (no_char p) = no_char_on

-- what an answer says once its case is known
pub on-bounds : {s : List ℕ} {at : ℕ} {p : ℕ × ℕ} → CharOn s at (Some p) → (at < p.1) × (p.1 ≤ length s)
on-bounds (char_on c e l h) = (l, h)

pub chars-none : {s : List ℕ} {v : List ℕ} → Chars s v None → v ≡ []
chars-none no_chars = refl

pub chars-some : {s : List ℕ} {v : List ℕ} {p : ℕ × ℕ} → Chars s v (Some p) → (w : List ℕ) × (v ≡ p.0 ∷ w) × TextAt s p.1 w
chars-some (chars c e w x) = (w, refl, x)

-- what `is_none` answers
pub none_told : (o : Option (ℕ × ℕ)) (b : Bool) → is_some o ≡ not b → b ≡ is_none o
none_told o true h = rw h refl
none_told o false h = rw h refl

-- there is no character exactly where the text is empty
pub chars-empty : {s : List ℕ} {v : List ℕ} {r : Option (ℕ × ℕ)} → Chars s v r → is_none r ≡ is_empty v
chars-empty no_chars = refl
chars-empty (chars c e w x) = refl

-- b says whether the text whose characters stand from i on is t from k on
abbrev pub Says : List ℕ → List ℕ → (i k : ℕ) → Bool → Type 0
Says s t i k b = (v : List ℕ) → TextAt s i v → b ≡ same v (drop k t)

-- no more is left of t
pub says-last : {s : List ℕ} (t : List ℕ) {i : ℕ} (k : ℕ) {r : Option (ℕ × ℕ)} → ((v : List ℕ) → TextAt s i v → Chars s v r) → length t ≤ k → Says s t i k (is_none r)
unfolding same
says-last {s = s} t k h l v x = rw (drop_of_length-le t l) (go (h v x))
  where
    go : {v : List ℕ} {r : Option (ℕ × ℕ)} → Chars s v r → is_none r ≡ same v []
    go no_chars = refl
    go (chars c e w x) = refl

-- a byte of t is left, and no character, another one or the same
module _ {s : List ℕ} (t : List ℕ) {i : ℕ} (k : ℕ) (l : k < length t) where
  pub says-short : ((v : List ℕ) → TextAt s i v → Chars s v None) → Says s t i k false
  unfolding same
  says-short h v x = rw (chars-none (h v x), here t k l)

  module _ {p : ℕ × ℕ} (h : (v : List ℕ) → TextAt s i v → Chars s v (Some p)) where
    pub says_other : (p.0 ≡ get_or t k 0 → ⊥) → Says s t i k false
    unfolding same
    says_other d v x = let (w, y, u) = chars-some (h v x) in rw (y, here t k l, ne_eqb p.0 (get_or t k 0) d)

    pub says_more : p.0 ≡ get_or t k 0 → (b : Bool) → Says s t p.1 (k + 1) b → Says s t i k b
    unfolding same
    says_more d b n v x = let (w, y, u) = chars-some (h v x) in rw (y, here t k l, eq-eqb p.0 (get_or t k 0) d) (n w u)

-- b says whether the texts whose characters stand from i and from j on are the same
abbrev pub Agree : List ℕ → List ℕ → (i j : ℕ) → Bool → Type 0
Agree s t i j b = (v w : List ℕ) → TextAt s i v → TextAt t j w → b ≡ same v w

module _ {s t : List ℕ} {i j : ℕ} where
  pub agree_end : {r : Option (ℕ × ℕ)} → ((v : List ℕ) → TextAt s i v → Chars s v None) → ((w : List ℕ) → TextAt t j w → Chars t w r) → Agree s t i j (is_none r)
  unfolding same
  agree_end h k v w x y = rw (chars-none (h v x)) (go (k w y))
    where
      go : {w : List ℕ} {r : Option (ℕ × ℕ)} → Chars t w r → is_none r ≡ same [] w
      go no_chars = refl
      go (chars c e w x) = refl

  module _ {p : ℕ × ℕ} (h : (v : List ℕ) → TextAt s i v → Chars s v (Some p)) where
    pub agree_short : ((w : List ℕ) → TextAt t j w → Chars t w None) → Agree s t i j false
    unfolding same
    agree_short k v w x y = let (v₁, q, x₁) = chars-some (h v x) in rw (q, chars-none (k w y))

    module _ {r : ℕ × ℕ} (k : (w : List ℕ) → TextAt t j w → Chars t w (Some r)) where
      pub agree_other : (p.0 ≡ r.0 → ⊥) → Agree s t i j false
      unfolding same
      agree_other n v w x y =
          let (v₁, q, x₁) = chars-some (h v x) in
          let (w₁, o, y₁) = chars-some (k w y) in
          rw (q, o, ne_eqb p.0 r.0 n)

      pub agree_more : p.0 ≡ r.0 → (b : Bool) → Agree s t p.1 r.1 b → Agree s t i j b
      unfolding same
      agree_more n b m v w x y =
          let (v₁, q, x₁) = chars-some (h v x) in
          let (w₁, o, y₁) = chars-some (k w y) in
          rw (q, o, eq-eqb p.0 r.0 n) (m v₁ w₁ x₁ y₁)
