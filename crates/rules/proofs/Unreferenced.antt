-- Timestamps, amounts, currencies, OIDs and qualifiers hold no byte that references stand for.
use Prim.Native.Nat.{ℕ, zero, suc}
use Prim.Native.String.{String}
use mathlib.Core.Path.{◌≡◌, refl, sym, ◌∙◌, ap, ap₂}
use mathlib.Core.Logic.{inl, inr}
use mathlib.Core.Bool.{Bool, true, false, not, ◌||◌, cond, or_assoc}
use mathlib.Core.List.{List, [], ◌∷◌}
use mathlib.Core.Option.{Option, none, some}
use native.Mathlib.Omega.{arith}
use borrow.Author.Tests.{eqb-true, ne_eqb, le-leb, not-true}
use lib.Dec.{leb, eqb}
use lib.IntN.{neg_ℤ}
use lib.ListN.{length}
use Rattle.rules.specs.Basics.{exists, every, same, onto, split, words, bytes, one_of, is_from, is_digit, decimal}
use Rattle.rules.specs.Refusal.{VALUE, refused}
use Rattle.rules.specs.Parsers.{ok, Parser, pure, guard, ◌>>=◌, ◌or◌, one, times, up_to, byte, whole}
use Rattle.rules.specs.Timestamp.{Zone, no_zone, digits, two_digits, point, hours, zone, timestamp, plus, minus, read_timestamp}
use Rattle.rules.specs.Forms.{amount_text, is_currency, is_plain_number, is_oid, is_root, is_qualifiers}
use Rattle.rules.proofs.Tests.{clash, both_true, is_from-true, every_true}
use Rattle.rules.proofs.Parsers.{next-ok, else-ok, one_ok, whole-ok}
use Rattle.rules.proofs.References.{is_referenced}

-- a byte that is none of the five
unreferenced : (c : ℕ) → (c ≡ 38 → ⊥) → (c ≡ 60 → ⊥) → (c ≡ 62 → ⊥) → (c ≡ 34 → ⊥) → (c ≡ 39 → ⊥) → is_referenced c ≡ false
unreferenced c h i j k l = rw (ne_eqb c 38 h, ne_eqb c 60 i, ne_eqb c 62 j, ne_eqb c 34 k, ne_eqb c 39 l)

digit_unreferenced : (c : ℕ) → is_digit c ≡ true → is_referenced c ≡ false
digit_unreferenced c e =
    let (l, h) = is_from-true 48 57 c e in
    unreferenced c (λ z. omega arith) (λ z. omega arith) (λ z. omega arith) (λ z. omega arith) (λ z. omega arith)

capital_unreferenced : (c : ℕ) → is_from 65 90 c ≡ true → is_referenced c ≡ false
capital_unreferenced c e =
    let (l, h) = is_from-true 65 90 c e in
    unreferenced c (λ z. omega arith) (λ z. omega arith) (λ z. omega arith) (λ z. omega arith) (λ z. omega arith)

-- what all of a list pass, and what none of them is
every_no : {A : Type 0} (p x : A → Bool) → ((a : A) → p a ≡ true → x a ≡ false) → (l : List A) → every p l ≡ true → exists x l ≡ false
unfolding exists
every_no p x h [] e = refl
every_no p x h (a ∷ l) e = let (f, g) = every_true p a l e in rw (h a f, every_no p x h l g)

-- a test that no text of the form passes
refuses : {A : Type 0} (p x : A → Bool) → ((a : A) → p a ≡ true → x a ≡ false) → (a : A) → x a ≡ true → p a ≡ false
refuses p x h a e = go (p a) refl
  where
    go : (b : Bool) → p a ≡ b → b ≡ false
    go true f = clash (cc (h a f))
    go false f = refl

-- a byte of a text is one of the parts between others
exists-onto : (p : ℕ → Bool) (c : ℕ) (ws : List (List ℕ)) → exists (exists p) (onto c ws) ≡ (p c || exists (exists p) ws)
unfolding exists
exists-onto p c [] = or_assoc (p c) false false
exists-onto p c (w ∷ ws) = or_assoc (p c) (exists p w) (exists (exists p) ws)

exists-split : (p : ℕ → Bool) (b : ℕ) → p b ≡ false → (s : List ℕ) → exists (exists p) (split b s) ≡ exists p s
unfolding split exists
exists-split p b h [] = refl
exists-split p b h (c ∷ s) = go (eqb c b) refl (exists-split p b h s)
  where
    go : (t : Bool) → eqb c b ≡ t → exists (exists p) (split b s) ≡ exists p s → exists (exists p) (cond t ([] ∷ split b s) (onto c (split b s))) ≡ (p c || exists p s)
    go true e f = let z : p c ≡ false = ap p (eqb-true c b e) ∙ h in rw z f
    go false e f = exists-onto p c (split b s) ∙ ap (λ t. p c || t) f

-- of parts that all pass a test that no part with such a byte passes
parts_no : (p : List ℕ → Bool) (b : ℕ) → is_referenced b ≡ false → ((w : List ℕ) → p w ≡ true → exists is_referenced w ≡ false)
    → (s : List ℕ) → every p (split b s) ≡ true → exists is_referenced s ≡ false
parts_no p b h k s e = sym (exists-split is_referenced b h s) ∙ every_no p (exists is_referenced) k (split b s) e

-- a parser that reads past no such byte
abbrev Clean : {A : Type 0} → Parser A → Type 0
Clean {A} P = (s : List ℕ) (a : A) (r : List ℕ) → P s ≡ ok a r → exists is_referenced s ≡ exists is_referenced r

clean_pure : {A : Type 0} (a : A) → Clean (pure a)
clean_pure a s b r e = let z : s ≡ r = cc in ap (exists is_referenced) z

clean_guard : (b : Bool) → Clean (guard b)
clean_guard true s u r e = let z : s ≡ r = cc in ap (exists is_referenced) z
clean_guard false s u r e = clash (cc)

clean_then : {A B : Type 0} (P : Parser A) (Q : A → Parser B) → Clean P → ((a : A) → Clean (Q a)) → Clean (P >>= Q)
clean_then P Q h k s b r e = next-ok (P s) Q e λ a t f g. h s a t f ∙ k a t b r g

clean_or : {A : Type 0} (P Q : Parser A) → Clean P → Clean Q → Clean (P or Q)
clean_or P Q h k s a r e = elim (else-ok (P s) (Q s) e) [
  | inl f ↦ h s a r f
  | inr f ↦ k s a r f
]

clean_one : (p : ℕ → Bool) → ((c : ℕ) → p c ≡ true → is_referenced c ≡ false) → Clean (one p)
unfolding exists
clean_one p h s c r e = let (f, g) = one_ok p s e in rw (f, h c g)

clean_byte : (b : ℕ) → is_referenced b ≡ false → Clean (byte b)
clean_byte b h = clean_one (λ c. eqb c b) (λ c e. ap is_referenced (eqb-true c b e) ∙ h)

clean_digit : Clean (one is_digit)
clean_digit = clean_one is_digit digit_unreferenced

clean_times : (n : ℕ) → Clean (times n is_digit)
unfolding times
clean_times zero = clean_pure []
clean_times (suc n) = clean_then (one is_digit) _ clean_digit λ c. clean_then (times n is_digit) _ (clean_times n) λ cs. clean_pure (c ∷ cs)

clean_up_to : (n : ℕ) → Clean (up_to n is_digit)
unfolding up_to
clean_up_to zero = clean_pure []
clean_up_to (suc n) =
    clean_or _ (pure []) (clean_then (one is_digit) _ clean_digit λ c. clean_then (up_to n is_digit) _ (clean_up_to n) λ cs. clean_pure (c ∷ cs)) (clean_pure [])

clean_digits : (n : ℕ) → Clean (digits n)
unfolding digits
clean_digits n = clean_then (times n is_digit) _ (clean_times n) λ ds. clean_pure (decimal ds)

clean_two_digits : (n : ℕ) → Clean (two_digits n)
unfolding two_digits
clean_two_digits zero = clean_pure []
clean_two_digits (suc n) =
    clean_or _ (pure []) (clean_then (digits 2) _ (clean_digits 2) λ a. clean_then (two_digits n) _ (clean_two_digits n) λ more. clean_pure (a ∷ more)) (clean_pure [])

clean_point : Clean point
unfolding point
clean_point = clean_then (byte 46) _ (clean_byte 46 refl) λ b. clean_then (one is_digit) _ clean_digit λ d. clean_then (up_to 3 is_digit) _ (clean_up_to 3) λ ds. clean_pure (d ∷ ds)

clean_hours : (sign : ℕ → ℕ → Zone) → Clean (hours sign)
unfolding hours
clean_hours sign = clean_then (digits 2) _ (clean_digits 2) λ h. clean_then (digits 2 or pure 0) _ (clean_or (digits 2) (pure 0) (clean_digits 2) (clean_pure 0)) λ m. clean_pure (sign h m)

clean_zone : Clean zone
unfolding zone
clean_zone = clean_or _ _ (clean_then (byte 43) _ (clean_byte 43 refl) λ b. clean_hours plus) (clean_then (byte 45) _ (clean_byte 45 refl) λ b. clean_hours minus)

clean_timestamp : Clean timestamp
unfolding timestamp
clean_timestamp =
    clean_then (digits 4) _ (clean_digits 4) λ y.
    clean_then (two_digits 5) _ (clean_two_digits 5) λ ps.
    clean_then _ _ (clean_or _ (pure []) (clean_then (guard (leb 5 (length ps))) _ (clean_guard (leb 5 (length ps))) λ u. clean_point) (clean_pure [])) λ f.
    clean_then _ _ (clean_or _ (pure no_zone) (clean_then (guard (leb 3 (length ps))) _ (clean_guard (leb 3 (length ps))) λ u. clean_zone) (clean_pure _)) λ z.
    clean_pure _

clean_amount : Clean amount_text
unfolding amount_text
clean_amount =
    clean_then _ _ (clean_or _ (pure (λ z. z)) (clean_then (byte 45) _ (clean_byte 45 refl) λ b. clean_pure neg_ℤ) (clean_pure _)) λ sign.
    clean_then (one is_digit) _ clean_digit λ d.
    clean_then (up_to 11 is_digit) _ (clean_up_to 11) λ ds.
    clean_then _ _ (clean_or point (pure []) clean_point (clean_pure [])) λ f.
    clean_pure _

-- such a parser reads no whole text with such a byte
whole_no : {A : Type 0} (P : Parser A) → Clean P → (t : List ℕ) → exists is_referenced t ≡ true → whole P t ≡ none
unfolding exists
whole_no {A} P h t e = go (whole P t) refl
  where
    go : (o : Option A) → whole P t ≡ o → o ≡ none
    go none f = refl
    go (some a) f = clash (cc (h t a [] (whole-ok P t f)))

-- a text with such a byte is none of these
pub no_timestamp : (shift : ℕ) (t : List ℕ) → exists is_referenced t ≡ true → read_timestamp shift t ≡ refused VALUE
unfolding read_timestamp
no_timestamp shift t e = rw (whole_no timestamp clean_timestamp t e)

pub no_amount : (t : List ℕ) → exists is_referenced t ≡ true → whole amount_text t ≡ none
no_amount = whole_no amount_text clean_amount

pub no_currency : (t : List ℕ) → exists is_referenced t ≡ true → is_currency t ≡ false
no_currency = refuses is_currency (exists is_referenced) λ t e.
    every_no (is_from 65 90) is_referenced capital_unreferenced t (both_true (eqb (length t) 3) _ e).1

pub plain_digits : (w : List ℕ) → is_plain_number w ≡ true → every is_digit w ≡ true
unfolding is_plain_number every
plain_digits [] e = refl
plain_digits (c ∷ []) e = rw e
plain_digits (c ∷ d ∷ s) e =
    let (f, g) = both_true _ _ e in
    let (l, h) = is_from-true 49 57 c f in
    rw (le-leb 48 c (omega arith), le-leb c 57 h) g

number_unreferenced : (w : List ℕ) → is_plain_number w ≡ true → exists is_referenced w ≡ false
number_unreferenced w e = every_no is_digit is_referenced digit_unreferenced w (plain_digits w e)

pub oid_numbers : (l : List (List ℕ)) → is_oid l ≡ true → every is_plain_number l ≡ true
unfolding is_oid
oid_numbers [] e = clash (cc)
oid_numbers (a ∷ []) e = clash (cc)
oid_numbers (a ∷ b ∷ more) e = (both_true _ _ (both_true _ _ e).0).0

pub no_root : (t : List ℕ) → exists is_referenced t ≡ true → is_root t ≡ false
unfolding is_root
no_root = refuses is_root (exists is_referenced) λ t e.
    parts_no is_plain_number 46 refl number_unreferenced t (oid_numbers (split 46 t) (both_true (leb (length t) 128) _ e).1)

same_true : (a b : List ℕ) → same a b ≡ true → a ≡ b
unfolding same
same_true [] [] e = refl
same_true [] (d ∷ b) e = clash (cc)
same_true (c ∷ a) [] e = clash (cc)
same_true (c ∷ a) (d ∷ b) e = let (f, g) = both_true (eqb c d) _ e in ap₂ ◌∷◌ (eqb-true c d f) (same_true a b g)

-- a text that is one of a list has what all of the list have
one_of_lem : (p : List ℕ → Bool) (w : List ℕ) (l : List (List ℕ)) → every p l ≡ true → exists (same w) l ≡ true → p w ≡ true
unfolding exists
one_of_lem p w [] h e = clash (cc)
one_of_lem p w (a ∷ l) h e = go (same w a) refl e (one_of_lem p w l (every_true p a l h).1)
  where
    go : (b : Bool) → same w a ≡ b → (b || exists (same w) l) ≡ true → (exists (same w) l ≡ true → p w ≡ true) → p w ≡ true
    go true f e k = ap p (same_true w a f) ∙ (every_true p a l h).0
    go false f e k = k e

-- words of a list that has no such byte
words_no : (list : String) → every (λ w. not (exists is_referenced w)) (words (bytes list)) ≡ true
    → (t : List ℕ) → every (one_of list) (words t) ≡ true → exists is_referenced t ≡ false
unfolding one_of
words_no list h = parts_no (one_of list) 32 refl λ w f. not-true _ (one_of_lem (λ w. not (exists is_referenced w)) w (words (bytes list)) h f)

qualifiers_unreferenced : every (λ w. not (exists is_referenced w)) (words (bytes "LS AC NB PR HON BR AD SP MID CL IN PFX SFX")) ≡ true
unfolding split exists every
qualifiers_unreferenced = refl

pub no_qualifiers : (t : List ℕ) → exists is_referenced t ≡ true → is_qualifiers t ≡ false
no_qualifiers = refuses is_qualifiers (exists is_referenced) (words_no "LS AC NB PR HON BR AD SP MID CL IN PFX SFX" qualifiers_unreferenced)
