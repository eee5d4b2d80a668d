-- The right form of a timestamp: what its parser reads is what is spelled, and all that is spelled is read.
use Prim.Native.Nat.{ℕ, zero, suc, ◌^◌, ◌≤◌, ◌<◌}
use mathlib.Core.Path.{◌≡◌, refl, sym, ◌∙◌, ap, subst}
use mathlib.Core.Logic.{◌⊎◌, inl, inr, ◌↔◌}
use mathlib.Core.Bool.{Bool, true, false}
use mathlib.Core.List.{List, [], ◌∷◌, ◌++◌, flat_map, append_assoc, append-nil}
use mathlib.Core.Option.{some}
use native.Mathlib.Omega.{arith}
use borrow.Author.Tests.{leb-true, lt-ltb, ltb-true, le-leb}
use lib.Dec.{ltb, leb}
use lib.ListN.{length}
use Rattle.rules.specs.Basics.{every, is_digit, decimal, digits_of}
use Rattle.rules.specs.Parsers.{Parsed, bad, ok, next, else, pure, guard, ◌>>=◌, one, times, up_to, byte, finish, whole}
use Rattle.rules.specs.Timestamp.{Zone, no_zone, plus, minus, Written, digits, two_digits, point, hours, zone, timestamp}
use Rattle.rules.proofs.Tests.{clash, every_true}
use Rattle.rules.proofs.Beginnings.{up_to-read}
use Rattle.rules.proofs.Parsers.{next-ok, map-ok, cons_ok, else-ok, one_ok, byte-ok, whole-ok}
use Rattle.rules.proofs.Digits.{decimal-below, decimal_injective, digits_of-length, digits_of-digits, digits_of-decimal}
use Rattle.rules.proofs.Dates.{digits-read}
use Rattle.rules.proofs.Ticks.{Form, form}
use Rattle.demands.specs.Totals.{AreDigits, pointed}
use Rattle.demands.specs.WrongTimes.{SpellsZone, no_offset, plus_hours, minus_hours, plus_minutes, minus_minutes, Spells}

-- What is read is spelled.
times-ok : (n : ℕ) (s : List ℕ) {ds r : List ℕ} → times n is_digit s ≡ ok ds r → (s ≡ ds ++ r) × (length ds ≡ n) × (every is_digit ds ≡ true)
unfolding times every
times-ok zero s {ds} {r} e = let z : ds ≡ [] = cc in let y : s ≡ r = cc in rw z (y, refl, refl)
times-ok (suc n) s {ds} {r} e =
    let (c, t, l, f, g, z) = cons_ok (one is_digit s) (times n is_digit) e in
    let (a, b, d) = times-ok n t g in
    let (h, k) = one_ok is_digit s f in
    rw (← z) (h ∙ ap (λ u. c ∷ u) a, ap suc b, rw k d)

digits-ok : (n : ℕ) (s : List ℕ) {v : ℕ} {r : List ℕ} → digits n s ≡ ok v r → (s ≡ digits_of n v ++ r) × (v < 10 ^ n)
unfolding digits
digits-ok n s {v} {r} e =
    let (ds, f, g) = map-ok (times n is_digit s) decimal e in
    let (a, b, d) = times-ok n s f in
    let l : v < 10 ^ n = subst (λ k. k < 10 ^ n) g (subst (λ k. decimal ds < 10 ^ k) b (decimal-below ds d)) in
    let z : digits_of n v ≡ ds = decimal_injective (digits_of n v) ds (digits_of-length n v ∙ sym b) (digits_of-digits n v) d (digits_of-decimal n v l ∙ sym g) in
    (a ∙ ap (λ u. u ++ r) (sym z), l)

-- one and others after it, or nothing
data Several {A : Type 0} (x : Parsed A) (p : List ℕ → Parsed (List A)) (s : List ℕ) (l : List A) (r : List ℕ) : Type 0 where
  more : (a : A) (t : List ℕ) (m : List A) → x ≡ ok a t → p t ≡ ok m r → a ∷ m ≡ l → Several x p s l r
  none : l ≡ [] → s ≡ r → Several x p s l r

several : {A : Type 0} (x : Parsed A) (p : List ℕ → Parsed (List A)) (s : List ℕ) {l : List A} {r : List ℕ} → else (next x (λ a. p >>= (λ m. pure (a ∷ m)))) (ok [] s) ≡ ok l r → Several x p s l r
several x p s e = elim (else-ok (next x (λ a. p >>= (λ m. pure (a ∷ m)))) (ok [] s) e) [
  | inl f ↦ let (a, t, m, g, h, z) = cons_ok x p f in more a t m g h z
  | inr f ↦ none (cc) (cc)
]

parts-ok : (n : ℕ) (s : List ℕ) {ps r : List ℕ} → two_digits n s ≡ ok ps r → (s ≡ flat_map (digits_of 2) ps ++ r) × (every (λ n. ltb n 100) ps ≡ true)
unfolding two_digits flat_map every
parts-ok zero s {ps} {r} e = let z : ps ≡ [] = cc in let y : s ≡ r = cc in rw z (y, refl)
parts-ok (suc n) s {ps} {r} e = elim (several (digits 2 s) (two_digits n) s e) [
  | more a t l f g z ↦
      let (b, c) = digits-ok 2 s f in
      let (h, k) = parts-ok n t g in
      rw (← z) (b ∙ ap (λ u. digits_of 2 a ++ u) h ∙ sym (append_assoc (digits_of 2 a) (flat_map (digits_of 2) l) r), rw (lt-ltb a 100 c) k)
  | none z y ↦ rw z (y, refl)
]

up_to-text : (n : ℕ) (p : ℕ → Bool) (s : List ℕ) {cs r : List ℕ} → up_to n p s ≡ ok cs r → s ≡ cs ++ r
unfolding up_to
up_to-text zero p s {cs} {r} e = let z : cs ≡ [] = cc in let y : s ≡ r = cc in rw z y
up_to-text (suc n) p s e = elim (several (one p s) (up_to n p) s e) [
  | more c t l f g z ↦ rw (← z) ((one_ok p s f).0 ∙ ap (λ u. c ∷ u) (up_to-text n p t g))
  | none z y ↦ rw z y
]

point-text : (s : List ℕ) {ds r : List ℕ} → point s ≡ ok ds r → s ≡ pointed ds ++ r
unfolding point
point-text s {ds} {r} e = next-ok (byte 46 s) _ e λ b t f g.
    let (d, u, l, h, k, z) = cons_ok (one is_digit t) (up_to 3 is_digit) g in
    rw (← z) (byte-ok 46 s f ∙ ap (λ v. 46 ∷ v) ((one_ok is_digit t h).0 ∙ ap (λ v. d ∷ v) (up_to-text 3 is_digit u k)))

-- after a test, or nothing
data Guarded {A : Type 0} (b : Bool) (x : Parsed A) (d : A) (s : List ℕ) (a : A) (r : List ℕ) : Type 0 where
  there : b ≡ true → x ≡ ok a r → Guarded b x d s a r
  nothing : a ≡ d → s ≡ r → Guarded b x d s a r

guarded : {A : Type 0} (b : Bool) (p : List ℕ → Parsed A) (d : A) (s : List ℕ) {a : A} {r : List ℕ} → else (next (guard b s) (λ u. p)) (ok d s) ≡ ok a r → Guarded b (p s) d s a r
guarded true p d s e = elim (else-ok (p s) (ok d s) e) [ inl e ↦ there refl e | inr e ↦ nothing (cc) (cc) ]
guarded false p d s e = nothing (cc) (cc)

hours-text : (sign : ℕ → ℕ → Zone) (s : List ℕ) {z : Zone} → hours sign s ≡ ok z []
    → (h m : ℕ) × (h < 100) × (m < 100) × (z ≡ sign h m) × ((s ≡ digits_of 2 h ++ digits_of 2 m) ⊎ ((s ≡ digits_of 2 h) × (m ≡ 0)))
unfolding hours
hours-text sign s {z} e = next-ok (digits 2 s) _ e λ h t f g.
    let (m, k, y) = map-ok (else (digits 2 t) (ok 0 t)) (sign h) g in
    let (a, b) = digits-ok 2 s f in
    elim (else-ok (digits 2 t) (ok 0 t) k) [
      | inl k ↦ let (c, d) = digits-ok 2 t k in (h, m, b, d, sym y, inl (a ∙ ap (λ u. digits_of 2 h ++ u) (c ∙ append-nil (digits_of 2 m))))
      | inr k ↦
          let n : m ≡ 0 = cc in
          let v : t ≡ [] = cc in
          (h, m, b, omega (arith, n), sym y, inr (a ∙ ap (λ u. digits_of 2 h ++ u) v ∙ append-nil (digits_of 2 h), n))
    ]

-- after a sign
abbrev IsTime : (sign : ℕ → ℕ → Zone) → List ℕ → Zone → Type 0
IsTime sign t z = (h m : ℕ) × (h < 100) × (m < 100) × (z ≡ sign h m) × ((t ≡ digits_of 2 h ++ digits_of 2 m) ⊎ ((t ≡ digits_of 2 h) × (m ≡ 0)))

plus-text : {s t : List ℕ} {z : Zone} → s ≡ 43 ∷ t → IsTime plus t z → SpellsZone s z
plus-text f (h, m, i, j, y, inl k) = rw (f, k, y) (plus_minutes i j)
plus-text f (h, m, i, j, y, inr (k, n)) = rw (f, k, y, n) (plus_hours i)

minus-text : {s t : List ℕ} {z : Zone} → s ≡ 45 ∷ t → IsTime minus t z → SpellsZone s z
minus-text f (h, m, i, j, y, inl k) = rw (f, k, y) (minus_minutes i j)
minus-text f (h, m, i, j, y, inr (k, n)) = rw (f, k, y, n) (minus_hours i)

zone-text : (s : List ℕ) {z : Zone} → zone s ≡ ok z [] → SpellsZone s z
unfolding zone
zone-text s e = elim (else-ok (next (byte 43 s) (λ b. hours plus)) (next (byte 45 s) (λ b. hours minus)) e) [
  | inl e ↦ next-ok (byte 43 s) _ e λ b t f g. plus-text (byte-ok 43 s f) (hours-text plus t g)
  | inr e ↦ next-ok (byte 45 s) _ e λ b t f g. minus-text (byte-ok 45 s f) (hours-text minus t g)
]

fraction-text : (n : ℕ) (s : List ℕ) {f r : List ℕ} → else (next (guard (leb 5 n) s) (λ u. point)) (ok [] s) ≡ ok f r → (s ≡ pointed f ++ r) × ((f ≡ []) ⊎ (5 ≤ n))
fraction-text n s e = elim (guarded (leb 5 n) point [] s e) [
  | there b x ↦ (point-text s x, inr (leb-true 5 n b))
  | nothing z y ↦ rw z (y, inl refl)
]

offset-text : (n : ℕ) (s : List ℕ) {z : Zone} → else (next (guard (leb 3 n) s) (λ u. zone)) (ok no_zone s) ≡ ok z [] → SpellsZone s z × ((z ≡ no_zone) ⊎ (3 ≤ n))
offset-text n s e = elim (guarded (leb 3 n) zone no_zone s e) [
  | there b x ↦ (zone-text s x, inr (leb-true 3 n b))
  | nothing z y ↦ rw (z, y) (no_offset, inl refl)
]

read-spelled : (s : List ℕ) {w : Written} → timestamp s ≡ ok w [] → Spells s w
unfolding timestamp
read-spelled s {w} e =
    next-ok (digits 4 s) _ e λ y s₁ a e₁.
    next-ok (two_digits 5 s₁) _ e₁ λ ps s₂ b e₂.
    next-ok (else (next (guard (leb 5 (length ps)) s₂) (λ u. point)) (ok [] s₂)) _ e₂ λ f s₃ c e₃.
    let (z, d, k) = map-ok (else (next (guard (leb 3 (length ps)) s₃) (λ u. zone)) (ok no_zone s₃)) _ e₃ in
    subst (Spells s) k (together y ps f z s₁ s₂ s₃ (subst Form (sym k) (form s e)) (digits-ok 4 s a) (parts-ok 5 s₁ b) (fraction-text (length ps) s₂ c) (offset-text (length ps) s₃ d))
  where
    together : (y : ℕ) (ps f : List ℕ) (z : Zone) (s₁ s₂ s₃ : List ℕ) → let w : Written = record { year = y; parts = ps; fraction = f; zone = z } in
        Form w → (s ≡ digits_of 4 y ++ s₁) × (y < 10 ^ 4) → (s₁ ≡ flat_map (digits_of 2) ps ++ s₂) × (every (λ n. ltb n 100) ps ≡ true)
        → (s₂ ≡ pointed f ++ s₃) × ((f ≡ []) ⊎ (5 ≤ length ps)) → SpellsZone s₃ z × ((z ≡ no_zone) ⊎ (3 ≤ length ps)) → Spells s w
    together y ps f z s₁ s₂ s₃ q (g, l) (h, m) (n, o) (i, j) = record {
      offset = s₃;
      spelled =
          g ∙ ap (λ t. digits_of 4 y ++ t) (h ∙ ap (λ t. flat_map (digits_of 2) ps ++ t) n)
          ∙ sym (append_assoc (digits_of 4 y ++ flat_map (digits_of 2) ps) (pointed f) s₃ ∙ append_assoc (digits_of 4 y) (flat_map (digits_of 2) ps) (pointed f ++ s₃));
      year_digits = omega (arith, l);
      part_digits = m;
      parts_most = q.parts_most;
      fraction_digits = record { digits = q.fraction_digits; enough = omega arith; few = q.fraction_most };
      after_seconds = elim o [ inl e ↦ inl e | inr e ↦ inr (omega (arith, e, q.parts_most)) ];
      zone_spelled = i;
      after_hours = j;
    }

-- What is spelled is read. A text that ends or goes on with a point or a sign has no digit there.
data NoDigit : List ℕ → Type 0 where
  at_end : NoDigit []
  at_point : {s : List ℕ} → NoDigit (46 ∷ s)
  at_plus : {s : List ℕ} → NoDigit (43 ∷ s)
  at_minus : {s : List ℕ} → NoDigit (45 ∷ s)

no_digits : {s : List ℕ} → NoDigit s → (digits 2 s ≡ bad) × (one is_digit s ≡ bad)
unfolding digits times one
no_digits at_end = (refl, refl)
no_digits at_point = (refl, refl)
no_digits at_plus = (refl, refl)
no_digits at_minus = (refl, refl)

zone-first : {s : List ℕ} {z : Zone} → SpellsZone s z → NoDigit s × (byte 46 s ≡ bad)
unfolding one
zone-first no_offset = (at_end, refl)
zone-first (plus_hours i) = (at_plus, refl)
zone-first (minus_hours i) = (at_minus, refl)
zone-first (plus_minutes i j) = (at_plus, refl)
zone-first (minus_minutes i j) = (at_minus, refl)

fraction-first : (f : List ℕ) {s : List ℕ} → NoDigit s → NoDigit (pointed f ++ s)
fraction-first [] n = n
fraction-first (d ∷ f) n = at_point

parts-read : (n : ℕ) (ps : List ℕ) {r : List ℕ} → length ps ≤ n → every (λ n. ltb n 100) ps ≡ true → NoDigit r → two_digits n (flat_map (digits_of 2) ps ++ r) ≡ ok ps r
unfolding two_digits flat_map
parts-read zero [] l h n = refl
parts-read zero (p ∷ ps) l h n = absurd (omega arith)
parts-read (suc k) [] l h n = rw (no_digits n).0 refl
parts-read (suc k) (p ∷ ps) {r} l h n =
    let (f, g) = every_true (λ n. ltb n 100) p ps h in
    rw (append_assoc (digits_of 2 p) (flat_map (digits_of 2) ps) r, digits-read 2 p (flat_map (digits_of 2) ps ++ r) (ltb-true p 100 f), parts-read k ps (omega arith) g n) refl

fraction-read : (n : ℕ) (f : List ℕ) {s : List ℕ} {z : Zone} → AreDigits 0 4 f → (f ≡ []) ⊎ (n ≡ 5) → SpellsZone s z
    → else (next (guard (leb 5 n) (pointed f ++ s)) (λ u. point)) (ok [] (pointed f ++ s)) ≡ ok f s
unfolding point one
fraction-read n [] {s} a o z = go (leb 5 n)
  where
    go : (b : Bool) → else (next (guard b s) (λ u. point)) (ok [] s) ≡ ok [] s
    go true = rw (zone-first z).1 refl
    go false = refl
fraction-read n (d ∷ f) a (inl e) z = clash (cc)
fraction-read n (d ∷ f) a (inr e) z =
    let (g, h) = every_true is_digit d f a.digits in
    rw (e, g, up_to-read 3 is_digit f _ (omega (arith, a.few)) h (no_digits (zone-first z).0).1) refl

zone-read : (n : ℕ) {s : List ℕ} {z : Zone} → SpellsZone s z → (z ≡ no_zone) ⊎ (3 ≤ n) → else (next (guard (leb 3 n) s) (λ u. zone)) (ok no_zone s) ≡ ok z []
unfolding zone hours one
zone-read n no_offset o = go (leb 3 n)
  where
    go : (b : Bool) → else (next (guard b []) (λ u. zone)) (ok no_zone []) ≡ ok no_zone []
    go true = refl
    go false = refl
zone-read n (plus_hours i) (inl e) = clash (cc)
zone-read n (minus_hours i) (inl e) = clash (cc)
zone-read n (plus_minutes i j) (inl e) = clash (cc)
zone-read n (minus_minutes i j) (inl e) = clash (cc)
zone-read n (plus_hours {h = h} i) (inr l) = rw (le-leb 3 n l, ← append-nil (digits_of 2 h), digits-read 2 h [] i, (no_digits at_end).0) refl
zone-read n (minus_hours {h = h} i) (inr l) = rw (le-leb 3 n l, ← append-nil (digits_of 2 h), digits-read 2 h [] i, (no_digits at_end).0) refl
zone-read n (plus_minutes {h = h} {m = m} i j) (inr l) =
    rw (le-leb 3 n l, digits-read 2 h (digits_of 2 m) i, ← append-nil (digits_of 2 m), digits-read 2 m [] j) refl
zone-read n (minus_minutes {h = h} {m = m} i j) (inr l) =
    rw (le-leb 3 n l, digits-read 2 h (digits_of 2 m) i, ← append-nil (digits_of 2 m), digits-read 2 m [] j) refl

spelled-read : (s : List ℕ) (w : Written) → Spells s w → whole timestamp s ≡ some w
unfolding timestamp finish
spelled-read s w h =
    let year = digits_of 4 w.year in
    let parts = flat_map (digits_of 2) w.parts in
    let rest = pointed w.fraction ++ h.offset in
    rw (
      h.spelled ∙ append_assoc (year ++ parts) (pointed w.fraction) h.offset ∙ append_assoc year parts rest,
      digits-read 4 w.year (parts ++ rest) (omega (arith, h.year_digits)),
      parts-read 5 w.parts h.parts_most h.part_digits (fraction-first w.fraction (zone-first h.zone_spelled).0),
      fraction-read (length w.parts) w.fraction h.fraction_digits h.after_seconds h.zone_spelled,
      zone-read (length w.parts) h.zone_spelled h.after_hours,
    )
    refl

pub spells : (s : List ℕ) (w : Written) → whole timestamp s ≡ some w ↔ Spells s w
spells s w = (λ e. read-spelled s (whole-ok timestamp s e), spelled-read s w)
