-- A text compared with each word of a list, one after another.
use Prim.Native.Nat.{ℕ}
use Prim.Native.String.{String}
use mathlib.Core.Path.{◌≡◌, refl, sym, ◌∙◌, ap}
use mathlib.Core.Bool.{Bool, false, ◌||◌, or-false, or_assoc}
use mathlib.Core.List.{List, [], ◌∷◌, ◌++◌}
use Rattle.rules.specs.Basics.{exists, same, split, words, bytes, one_of}
use Rattle.rules.specs.Forms.{is_flavor}
use Rattle.form.specs.Words.{is_invalid_flavor, is_unknown_flavor}

-- b, or p of one of the list, from the left
abbrev pub more : {A : Type 0} → (A → Bool) → Bool → List A → Bool
more p b [] = b
more p b (a ∷ l) = more p (b || p a) l

abbrev pub any : {A : Type 0} → (A → Bool) → List A → Bool
any p [] = false
any p (a ∷ l) = more p (p a) l

more_is : {A : Type 0} (p : A → Bool) (b : Bool) (l : List A) → more p b l ≡ (b || exists p l)
unfolding exists
more_is p b [] = sym (or-false b)
more_is p b (a ∷ l) = more_is p (b || p a) l ∙ or_assoc b (p a) (exists p l)

any-is : {A : Type 0} (p : A → Bool) (l : List A) → any p l ≡ exists p l
unfolding exists
any-is p [] = refl
any-is p (a ∷ l) = more_is p (p a) l

pub one_by_one : (list : String) (t : List ℕ) → any (same t) (words (bytes list)) ≡ one_of list t
unfolding one_of
one_by_one list t = any-is (same t) (words (bytes list))

exists-append : {A : Type 0} (p : A → Bool) (l m : List A) → exists p (l ++ m) ≡ (exists p l || exists p m)
unfolding exists
exists-append p [] m = refl
exists-append p (a ∷ l) m = ap (λ b. p a || b) (exists-append p l m) ∙ sym (or_assoc (p a) (exists p l) (exists p m))

in_groups : {A : Type 0} (p : A → Bool) (a b c : A) (l m : List A) → ((((p a || exists p l) || p b) || p c) || exists p m) ≡ exists p (a ∷ (l ++ (b ∷ c ∷ m)))
unfolding exists
in_groups p a b c l m =
    or_assoc ((p a || exists p l) || p b) (p c) (exists p m)
    ∙ or_assoc (p a || exists p l) (p b) (p c || exists p m)
    ∙ or_assoc (p a) (exists p l) (p b || (p c || exists p m))
    ∙ ap (λ q. p a || q) (sym (exists-append p l (b ∷ c ∷ m)))

-- a flavor is NI, one of an invalid value, MSK, NA, or one of an unknown value
pub flavor_groups : (t : List ℕ)
    → ((((same t (bytes "NI") || is_invalid_flavor t) || same t (bytes "MSK")) || same t (bytes "NA")) || is_unknown_flavor t) ≡ is_flavor t
unfolding one_of split
flavor_groups t = in_groups (same t) (bytes "NI") (bytes "MSK") (bytes "NA") (words (bytes "INV DER OTH NINF PINF UNC")) (words (bytes "UNK ASKU NAV NASK QS TRC"))
