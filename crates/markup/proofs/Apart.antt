-- Attributes of which none occurs twice, and none has one of the names before them.
use Rattle.std.specs.Prelude.{Option, Some, None}
use Prim.Native.Nat.{ℕ, zero, suc, ◌+◌, ◌-◌, ◌≤◌}
use mathlib.Core.Path.{◌≡◌, refl, sym}
use mathlib.Core.Bool.{Bool, true, false, not, ◌&&◌, ◌||◌, and-true, and-false, and_assoc}
use mathlib.Core.List.{List, [], ◌∷◌, ◌++◌}
use native.Mathlib.Omega.{arith}
use lib.ListN.{length, take, drop}
use Rattle.rules.specs.Basics.{is_some, same}
use Rattle.rules.specs.Markup.{Attribute as RulesAttribute, some_space, lookup, is_distinct}
use Rattle.rules.proofs.Tests.{clash, neither, same_true}
use Rattle.text.specs.Reads.{Good, Reads, upto, none as not-read}
use Rattle.markup.specs.Attributes.{AttributeTo, Stops, ReadsDistinct}
use Rattle.markup.specs.Marks.{is_among}
use Rattle.markup.proofs.Attributes.{guarded, this, steps, bounds, others, guarded_on}

-- what is known of every name among some
abbrev pub Known : (List ℕ → Type 0) → List (List ℕ) → Type 0
Known P k = (n : List ℕ) → is_among n k ≡ true → P n

pub known-none : (P : List ℕ → Type 0) → Known P []
unfolding is_among
known-none P n e = clash (cc)

among_last : (n m : List ℕ) (k : List (List ℕ)) → is_among n (k ++ (m ∷ [])) ≡ true → is_among n k ≡ false → same n m ≡ true
unfolding is_among
among_last n m [] e f = go (same n m) e
  where
    go : (b : Bool) → (b || false) ≡ true → b ≡ true
    go true e = refl
    go false e = e
among_last n m (x ∷ k) e f =
    let (g, h) = neither (same n x) (is_among n k) f in
    among_last n m k (rw g at e) h

pub known_more : (P Q : List ℕ → Type 0) (m : List ℕ) (k : List (List ℕ)) → Known P k → ((n : List ℕ) → P n → Q n) → Q m → Known Q (k ++ (m ∷ []))
known_more P Q m k h f q n e = go (is_among n k) refl
  where
    go : (b : Bool) → is_among n k ≡ b → Q n
    go true i = f n (h n i)
    go false i = let z : n ≡ m = same_true n m (among_last n m k e i) in rw z q

pub known-not : (P : List ℕ → Type 0) (n : List ℕ) (k : List (List ℕ)) → Known P k → (P n → ⊥) → is_among n k ≡ false
known-not P n k h f = go (is_among n k) refl
  where
    go : (b : Bool) → is_among n k ≡ b → b ≡ false
    go true e = absurd (f (h n e))
    go false e = refl

-- none of the attributes has one of the names
unfoldable pub is_apart : List (List ℕ) → List RulesAttribute → Bool
is_apart [] l = true
is_apart (n ∷ k) l = not (is_some (lookup n l)) && is_apart k l

abbrev pub passes : List (List ℕ) → List RulesAttribute → Bool
passes k l = is_apart k l && is_distinct l

-- the answer on such attributes from a position on, with any fuel that is enough
abbrev pub ReadsApart : List (List ℕ) → List ℕ → (at : ℕ) → Option ℕ → Type 0
ReadsApart k s at r = (f : ℕ) → length s ≤ at + f → Reads 0 (guarded (passes k) f) s at r

pub apart_start : {s : List ℕ} {at : ℕ} (r : Option ℕ) → ReadsApart [] s at r → ReadsDistinct s at r
unfolding is_apart
apart_start r h = h

apart_nothing : (k : List (List ℕ)) → is_apart k [] ≡ true
unfolding is_apart lookup
apart_nothing [] = refl
apart_nothing (n ∷ k) = apart_nothing k

pub apart_end : {s : List ℕ} {i : ℕ} (k : List (List ℕ)) → i ≤ length s → Stops s i → ReadsApart k s i (Some i)
unfolding is_distinct
apart_end {s} {i} k l h f m = upto i (record { low = omega arith; high = l; value = []; reads = rw (h f, apart_nothing k) })

-- one attribute before others
module _ (a : RulesAttribute) (l : List RulesAttribute) where
  missed : (k : List (List ℕ)) → is_among a.name k ≡ false → is_apart k (a ∷ l) ≡ is_apart k l
  unfolding is_apart is_among lookup
  missed [] e = refl
  missed (n ∷ k) e = let (f, g) = neither (same a.name n) (is_among a.name k) e in rw (f, missed k g)

  hit : (k : List (List ℕ)) → is_among a.name k ≡ true → is_apart k (a ∷ l) ≡ false
  unfolding is_apart is_among lookup
  hit [] e = clash (cc)
  hit (n ∷ k) e = go (same a.name n) refl e (hit k)
    where
      go : (b : Bool) → same a.name n ≡ b → (b || is_among a.name k) ≡ true → (is_among a.name k ≡ true → is_apart k (a ∷ l) ≡ false)
          → (not (is_some (lookup n (a ∷ l))) && is_apart k (a ∷ l)) ≡ false
      go true f e h = rw f
      go false f e h = rw (f, h e) (and-false (not (is_some (lookup n l))))

joined : (l : List RulesAttribute) (n : List ℕ) (k : List (List ℕ)) → is_apart (k ++ (n ∷ [])) l ≡ (is_apart k l && not (is_some (lookup n l)))
unfolding is_apart
joined l n [] = and-true _
joined l n (m ∷ k) = rw (joined l n k) (sym (and_assoc (not (is_some (lookup m l))) (is_apart k l) _))

one_more : (a : RulesAttribute) (l : List RulesAttribute) (k : List (List ℕ)) → is_among a.name k ≡ false → passes k (a ∷ l) ≡ passes (k ++ (a.name ∷ [])) l
unfolding is_distinct
one_more a l k e = rw (missed a l k e, joined l a.name k) (sym (and_assoc (is_apart k l) _ (is_distinct l)))

-- an attribute, and the others after it
module _ {s : List ℕ} {i j n q e : ℕ} (g : Good 1 some_space s i j) (a : AttributeTo s j n q e) (k : List (List ℕ)) where
  pub apart_more : is_among (take (n - j) (drop j s)) k ≡ false → (r : Option ℕ) → ReadsApart (k ++ (take (n - j) (drop j s) ∷ [])) s e r → ReadsApart k s i r
  apart_more d r h zero z = absurd (omega (arith, (bounds g a).0, (bounds g a).1))
  apart_more d r h (suc f) z =
      let (m, at, x, t) = others g a f z in
      guarded_on g a (passes k) (passes (k ++ (take (n - j) (drop j s) ∷ []))) f m x t (one_more (this g a) m k d) (h f (omega (arith, (bounds g a).0)))

  pub apart_again : is_among (take (n - j) (drop j s)) k ≡ true → ReadsApart k s i None
  apart_again d zero z = absurd (omega (arith, (bounds g a).0, (bounds g a).1))
  apart_again d (suc f) z =
      let (m, at, x, t) = others g a f z in
      not-read (rw (steps g a f m x t, hit (this g a) m k d))
