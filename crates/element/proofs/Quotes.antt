-- A value ends at the first quote after the one that begins it: its characters are never a quote.
use Prim.Native.Nat.{ℕ, zero, suc, ◌+◌, ◌-◌, ◌≤◌, ◌<◌}
use mathlib.Core.Path.{◌≡◌, refl, sym, ◌∙◌, ap}
use mathlib.Core.Bool.{Bool, true, false, not, cond}
use mathlib.Core.List.{List, [], ◌∷◌}
use mathlib.Core.Logic.{inl, inr}
use native.Mathlib.Omega.{arith}
use borrow.Author.Tests.{not-true}
use lib.Dec.{eqb}
use lib.ListN.{length, drop, get_or, length-drop, drop_of_length-le}
use lib.Seq.{drop-drop}
use Rattle.rules.specs.Basics.{bytes, every}
use Rattle.rules.specs.Parsers.{Parsed, Parser, bad, ok, next, else, opposite, pure, ◌>>=◌, ◌>>◌, ◌or◌, after, one, many, byte, literal, sized}
use Rattle.rules.specs.Markup.{space, is_plain, reference, noncharacter, char, text, value, Attribute}
use Rattle.rules.proofs.Parsers.{next-ok, map-ok, cons_ok, else-ok, one_ok, byte-ok}
use Rattle.rules.proofs.Tests.{clash, every_true}
use Rattle.text.specs.Reads.{Good}
use Rattle.text.proofs.Reading.{here}
use Rattle.element.specs.Texts.{is_bare}
use Rattle.element.specs.Carried.{value_of, PastEquals}

-- what follows the first quote of a text
abbrev past_quote : List ℕ → List ℕ
past_quote s = drop 1 (after is_bare s)

-- a byte that is none
bare : (c : ℕ) (s : List ℕ) → eqb c 34 ≡ false → past_quote s ≡ past_quote (c ∷ s)
unfolding after
bare c s e = rw e

literal_bare : (bs : List ℕ) → every is_bare bs ≡ true → (s : List ℕ) {u : Unit {0}} {r : List ℕ} → literal bs s ≡ ok u r → past_quote r ≡ past_quote s
unfolding literal
literal_bare [] h s {r = r} q = let z : s ≡ r = cc in rw z
literal_bare (b ∷ bs) h s q =
    let (d, more) = every_true is_bare b bs h in
    next-ok (byte b s) (λ c. literal bs) q (λ c t x y. literal_bare bs more t y ∙ rw (byte-ok b s x) (bare b t (not-true _ d)))

abbrev Bare : Parser ℕ → Type 0
Bare p = (s : List ℕ) (x : ℕ) (r : List ℕ) → p s ≡ ok x r → past_quote r ≡ past_quote s

written_bare : (bs : List ℕ) (c : ℕ) → every is_bare bs ≡ true → Bare (literal bs >> pure c)
written_bare bs c h s x r q = let (u, y, z) = map-ok (literal bs s) (λ u. c) q in literal_bare bs h s y

or_bare : (p q : Parser ℕ) → Bare p → Bare q → Bare (p or q)
or_bare p q f g s x r e = elim (else-ok (p s) (q s) e) [ inl h ↦ f s x r h | inr h ↦ g s x r h ]

reference_bare : Bare reference
unfolding reference every
reference_bare = or_bare _ _ (written_bare (bytes "&amp;") 38 refl) (or_bare _ _ (written_bare (bytes "&lt;") 60 refl) (or_bare _ _ (written_bare (bytes "&gt;") 62 refl)
    (or_bare _ _ (written_bare (bytes "&quot;") 34 refl) (written_bare (bytes "&apos;") 39 refl))))

unread : (w : Parsed (Unit {0})) (s : List ℕ) {u : Unit {0}} {r : List ℕ} → opposite w s ≡ ok u r → r ≡ s
unread bad s q = cc
unread (ok u t) s q = clash (cc)

char_bare : (c : ℕ) (s : List ℕ) → eqb c 34 ≡ false → {x : ℕ} {r : List ℕ} → char (c ∷ s) ≡ ok x r → past_quote r ≡ past_quote (c ∷ s)
unfolding char
char_bare c s e {x} {r} q =
    next-ok (opposite (noncharacter (c ∷ s)) (c ∷ s)) (λ u. one is_plain or reference) q (λ u t y z.
    elim (else-ok (one is_plain (c ∷ s)) _ (rw (unread (noncharacter (c ∷ s)) (c ∷ s) y) at z)) [
      | inl f ↦ let w : c ∷ s ≡ x ∷ r = (one_ok is_plain (c ∷ s) f).0 in let d : s ≡ r = cc in rw (← d) (bare c s e)
      | inr f ↦ reference_bare (c ∷ s) x r f
    ])

no_text : {P : Type 0} (f : ℕ) {v r : List ℕ} → text (suc f) [] ≡ ok v r → P
unfolding text one char noncharacter reference literal
no_text f q = clash (cc)

text-past : (f : ℕ) (s : List ℕ) {v r : List ℕ} → text f s ≡ ok v r → r ≡ past_quote s
unfolding text one after
text-past zero s q = clash (cc)
text-past (suc f) [] q = no_text f q
text-past (suc f) (c ∷ s) {v} {r} q = go (eqb c 34) refl q (λ t l y. text-past f t y)
  where
    go : (b : Bool) → eqb c 34 ≡ b → else (next (cond b (ok c s) bad) (λ u. pure [])) (next (char (c ∷ s)) (λ d. text f >>= (λ l. pure (d ∷ l)))) ≡ ok v r
        → ((t l : List ℕ) → text f t ≡ ok l r → r ≡ past_quote t) → r ≡ past_quote (c ∷ s)
    go true e q below = let z : s ≡ r = cc in rw (e, z)
    go false e q below = let (d, t, l, x, y, z) = cons_ok (char (c ∷ s)) (text f) q in below t l y ∙ char_bare c s e x

-- what follows a byte at a position
pub after-byte : (s : List ℕ) (at : ℕ) {c : ℕ} {t : List ℕ} → drop at s ≡ c ∷ t → (at < length s) × (t ≡ drop (at + 1) s)
after-byte s at {c} {t} q =
    let n : length s - at ≡ suc (length t) = sym (length-drop at s) ∙ ap length q in
    let h : drop at s ≡ get_or s at 0 ∷ drop (at + 1) s = here s at (omega (arith, n)) in
    (omega (arith, n), cc)

pub value-past : (s : List ℕ) (at : ℕ) {v r : List ℕ} → value (drop at s) ≡ ok v r → (at < length s) × (r ≡ past_quote (drop (at + 1) s))
unfolding value
value-past s at q = next-ok (byte 34 (drop at s)) (λ c. sized text) q (λ c t x y.
    let (h, z) = after-byte s at (byte-ok 34 (drop at s) x) in
    (h, text-past (length t) t y ∙ ap past_quote z))

-- what follows the first quote stands at a position
past-at : (s : List ℕ) → (e : ℕ) × (e ≤ length s) × (past_quote s ≡ drop e s)
unfolding after
past-at [] = (0, omega arith, refl)
past-at (c ∷ s) = go (eqb c 34) (past-at s)
  where
    go : (b : Bool) → (e : ℕ) × (e ≤ length s) × (past_quote s ≡ drop e s) → (e : ℕ) × (e ≤ suc (length s)) × (drop 1 (cond (not b) (after is_bare s) (c ∷ s)) ≡ drop e (c ∷ s))
    go true x = (1, omega arith, refl)
    go false (e, h, q) = (suc e, omega (arith, h), q)

pub value-to : (s : List ℕ) (at : ℕ) {v r : List ℕ} → value (drop at s) ≡ ok v r → (e : ℕ) × (e ≤ length s) × (r ≡ drop e s)
value-to s at q =
    let (h, p) = value-past s at q in
    let (e, l, z) = past-at (drop (at + 1) s) in
    (at + 1 + e, omega (arith, h, l, length-drop (at + 1) s), p ∙ z ∙ drop-drop e (at + 1) s)

-- the value ends where the first quote is past
pub ends_at : (s : List ℕ) (at : ℕ) {i r : ℕ} → Good 0 (many is_bare) s (at + 1) i → r ≤ length s → drop r s ≡ drop (i + 1) s
    → (v : List ℕ) (e : ℕ) → e ≤ length s → value (drop at s) ≡ ok v (drop e s) → r ≡ e
unfolding many
ends_at s at {i} {r} b h p v e g q =
    let w : after is_bare (drop (at + 1) s) ≡ drop i s = cc b.reads in
    let z : drop r s ≡ drop e s = p ∙ sym (drop-drop 1 i s) ∙ ap (drop 1) (sym w) ∙ sym (value-past s at q).1 in
    let n : length s - r ≡ length s - e = sym (length-drop r s) ∙ ap length z ∙ length-drop e s in
    omega (arith, h, g, n)

pub past_end : (s : List ℕ) (i : ℕ) → length s ≤ i → drop (length s) s ≡ drop (i + 1) s
past_end s i h = rw (drop_of_length-le s {i = length s} (omega arith), drop_of_length-le s {i = i + 1} (omega (arith, h)))

-- the value of an attribute stands past the equals sign, if there is one
module _ {s : List ℕ} {at i : ℕ} (g : Good 0 space s at i) where
  pub equals : (n : List ℕ) {a : Attribute} {left : List ℕ} → (space >> byte 61 >> space >> value_of n) (drop at s) ≡ ok a left → (i < length s) × ((space >> value_of n) (drop (i + 1) s) ≡ ok a left)
  equals n q = next-ok (byte 61 (drop i s)) (λ c. space >> value_of n) (rw g.reads at q) (λ c t x y. let (h, z) = after-byte s i (byte-ok 61 (drop i s) x) in (h, rw z at y))

  module _ {j : ℕ} (h : Good 0 space s (i + 1) j) where
    pub valued : (n : List ℕ) {a : Attribute} {left : List ℕ} → (space >> byte 61 >> space >> value_of n) (drop at s) ≡ ok a left → (j < length s) × (a.name ≡ n) × (value (drop j s) ≡ ok a.value left)
    valued n {a} {left} q =
        let (v, y, w) = map-ok (value (drop j s)) (λ v. record { name = n; value = v }) (rw h.reads at (equals n q).1) in
        ((value-past s j y).0, ap (λ (b : Attribute). b.name) (sym w), y ∙ ap (λ (b : Attribute). ok b.value left) w)

    pub value_here : j < length s → PastEquals s at j
    value_here l = record { low = omega (arith, g.low, h.low); high = l; past = λ n a left q. (omega (arith, g.low, h.low), (valued n q).1, (valued n q).2) }
