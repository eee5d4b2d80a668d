-- What a parser that succeeded has read.
use Prim.Native.Nat.{ℕ, zero, suc, ◌≤◌}
use mathlib.Core.Path.{◌≡◌, refl, ◌∙◌, ap}
use mathlib.Core.Logic.{◌⊎◌, inl, inr}
use mathlib.Core.Bool.{Bool, true, false, cond}
use mathlib.Core.List.{List, [], ◌∷◌}
use mathlib.Core.Option.{some}
use native.Mathlib.Omega.{arith}
use borrow.Author.Tests.{eqb-true}
use lib.Dec.{eqb}
use lib.ListN.{length}
use Rattle.rules.specs.Basics.{every}
use Rattle.rules.specs.Parsers.{Parsed, bad, ok, Parser, next, else, result, pure, guard, ◌>>=◌, ◌>>◌, one, up_to, byte, finish, whole}
use Rattle.rules.proofs.Tests.{clash}

-- one, and then the other with what is left
pub next-ok : {A B P : Type 0} (x : Parsed A) (k : A → Parser B) {b : B} {r : List ℕ} → next x k ≡ ok b r
    → ((a : A) (s : List ℕ) → x ≡ ok a s → k a s ≡ ok b r → P) → P
next-ok bad k e f = clash (cc)
next-ok (ok a s) k e f = f a s refl e

-- one and then only a value put together from what it read
pub map-ok : {A B : Type 0} (x : Parsed A) (f : A → B) {b : B} {r : List ℕ} → next x (λ a. pure (f a)) ≡ ok b r → (a : A) × (x ≡ ok a r) × (f a ≡ b)
map-ok bad f e = clash (cc)
map-ok (ok a s) f {b} {r} e = let z : s ≡ r = cc in (a, ap (ok a) z, cc)

-- one, and others after it
pub cons_ok : {A : Type 0} (x : Parsed A) (p : Parser (List A)) {as' : List A} {r : List ℕ} → next x (λ a. p >>= (λ as'. pure (a ∷ as'))) ≡ ok as' r
    → (a : A) × (s : List ℕ) × (l : List A) × (x ≡ ok a s) × (p s ≡ ok l r) × (a ∷ l ≡ as')
cons_ok bad p e = clash (cc)
cons_ok (ok a s) p e = let (l, f, g) = map-ok (p s) (λ l. a ∷ l) e in (a, s, l, refl, f, g)

pub else-ok : {A : Type 0} (x y : Parsed A) {a : A} {r : List ℕ} → else x y ≡ ok a r → (x ≡ ok a r) ⊎ (y ≡ ok a r)
else-ok bad y e = inr e
else-ok (ok a s) y e = inl e

-- one and others after it, or nothing
pub data More {A : Type 0} (x : Parsed A) (p : Parser (List A)) (as' : List A) (r : List ℕ) : Type 0 where
  more : (a : A) (t : List ℕ) (l : List A) → x ≡ ok a t → p t ≡ ok l r → a ∷ l ≡ as' → More x p as' r
  done : as' ≡ [] → More x p as' r

pub more_ok : {A : Type 0} (x : Parsed A) (p : Parser (List A)) (s : List ℕ) {as' : List A} {r : List ℕ} → else (next x (λ a. p >>= (λ as'. pure (a ∷ as')))) (ok [] s) ≡ ok as' r
    → More x p as' r
more_ok x p s e = elim (else-ok (next x (λ a. p >>= (λ as'. pure (a ∷ as')))) _ e) [
  | inl f ↦ let (a, t, l, g, h, z) = cons_ok x p f in more a t l g h z
  | inr f ↦ done (cc)
]

pub guard_ok : (b : Bool) (s : List ℕ) {u : Unit {0}} {r : List ℕ} → guard b s ≡ ok u r → b ≡ true
guard_ok true s e = refl
guard_ok false s e = clash (cc)

pub one_ok : (p : ℕ → Bool) (s : List ℕ) {c : ℕ} {r : List ℕ} → one p s ≡ ok c r → (s ≡ c ∷ r) × (p c ≡ true)
unfolding one
one_ok p [] e = clash (cc)
one_ok p (d ∷ s) {c} {r} e = go _ refl e
  where
    go : (b : Bool) → p d ≡ b → cond b (ok d s) bad ≡ ok c r → (d ∷ s ≡ c ∷ r) × (p c ≡ true)
    go true h e = let z : d ≡ c = cc in (cc, rw z at h)
    go false h e = clash (cc)

pub byte-ok : (b : ℕ) (s : List ℕ) {c : ℕ} {r : List ℕ} → byte b s ≡ ok c r → s ≡ b ∷ r
byte-ok b s {c} {r} e = let (f, g) = one_ok (λ c. eqb c b) s e in f ∙ ap (λ x. x ∷ r) (eqb-true c b g)

pub up_to-ok : (n : ℕ) (p : ℕ → Bool) (s : List ℕ) {cs r : List ℕ} → up_to n p s ≡ ok cs r → (length cs ≤ n) × (every p cs ≡ true)
unfolding up_to every
up_to-ok zero p s {cs} e = let z : cs ≡ [] = cc in rw z (omega arith, refl)
up_to-ok (suc n) p s e = elim (more_ok (one p s) (up_to n p) s e) [
  | more c t ds f g z ↦ let (h, k) = up_to-ok n p t g in rw (← z) (omega arith, rw (one_ok p s f).1 k)
  | done z ↦ rw z (omega arith, refl)
]

-- the whole text is read
pub whole-ok : {A : Type 0} (p : Parser A) (s : List ℕ) {a : A} → whole p s ≡ some a → p s ≡ ok a []
unfolding finish
whole-ok {A} p s {a} e = go (p s) e
  where
    go : (x : Parsed A) → result (next x (λ b. finish >> pure b)) ≡ some a → x ≡ ok a []
    go bad e = clash (cc)
    go (ok b []) e = cc
    go (ok b (c ∷ t)) e = clash (cc)
