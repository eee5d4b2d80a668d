-- Attributes one after another: the search for one by its name, and that no name occurs twice.
use Rattle.std.specs.Prelude.{Option, Some, None, is_some as is_found}
use Prim.Native.Nat.{ℕ, zero, suc, ◌+◌, ◌-◌, ◌≤◌, ◌<◌}
use mathlib.Core.Path.{◌≡◌, refl, sym, ◌∙◌, ap, subst}
use mathlib.Core.Bool.{Bool, true, false}
use mathlib.Core.List.{List, [], ◌∷◌}
use mathlib.Core.Option.{Option as RulesOption}
use native.Mathlib.Omega.{arith}
use lib.ListN.{length, take, drop, length-take, length-drop}
use Rattle.rules.specs.Basics.{is_some, same}
use Rattle.rules.specs.Parsers.{Parsed, Parser, bad, ok, next, else, pure, guard, ◌>>=◌, ◌>>◌, byte}
use Rattle.rules.specs.Markup.{Attribute as RulesAttribute, space, some_space, name, value, attribute, attributes, lookup, is_distinct}
use Rattle.rules.proofs.Tests.{clash}
use Rattle.text.specs.Reads.{Good, Reads, upto, none as not-read}
use Rattle.text.proofs.Reading.{none_of}
use Rattle.markup.specs.Attributes.{AttributeTo, PartsAt, parts, no_parts, Stops, NextAt, next_is, no_next, AttributesAt, Finds, absent, present, Answers, ReadsDistinct, ToldAt, sure}
use Rattle.markup.specs.declared.tag.Attribute.{Attribute}
use Rattle.markup.proofs.Names.{name_is}

-- the attribute that stands next from a position on
pub record NextTo (s : List ℕ) (at : ℕ) (a : Attribute) : Type 0 where
  pub gap : Good 1 some_space s at a.name
  pub attr : AttributeTo s a.name a.name_end a.value a.end

-- what an answer says once its case is known
pub parts_found : {s : List ℕ} {at : ℕ} {a : Attribute} {r : Option Attribute} → r ≡ Some a → PartsAt s at r → (a.name ≡ at) × AttributeTo s at a.name_end a.value a.end
parts_found {s} {at} z h = go (subst (λ (y : Option Attribute). PartsAt s at y) z h)
  where
    go : {a : Attribute} → PartsAt s at (Some a) → (a.name ≡ at) × AttributeTo s at a.name_end a.value a.end
    go (parts n q e a) = (refl, a)

pub next_at : {s : List ℕ} {at : ℕ} {a : Attribute} → NextAt s at (Some a) → NextTo s at a
next_at (next_is j n q e g a) = record { gap = g; attr = a }

pub next_stops : {s : List ℕ} {at : ℕ} → NextAt s at None → Stops s at
next_stops (no_next h) = h

-- its name has a byte
pub name-some : {s : List ℕ} {at n q e : ℕ} → AttributeTo s at n q e → 1 ≤ length (take (n - at) (drop at s))
name-some {s} {at} {n} a = rw (length-take, length-drop) (omega (arith, a.name_low, a.name_high, a.value_low, a.high))

pub parts_not : {s : List ℕ} {at : ℕ} {r : Option Attribute} → r ≡ None → attribute (drop at s) ≡ bad → PartsAt s at r
parts_not {s} {at} z b = subst (λ (y : Option Attribute). PartsAt s at y) (sym z) (no_parts b)

pub next_not : {s : List ℕ} {at : ℕ} {r : Option Attribute} → r ≡ None → Stops s at → NextAt s at r
next_not {s} {at} z h = subst (λ (y : Option Attribute). NextAt s at y) (sym z) (no_next h)

pub parts_none : {s : List ℕ} {at : ℕ} {r : Option Attribute} → r ≡ None → PartsAt s at r → PartsAt s at None
parts_none {s} {at} z h = subst (λ (y : Option Attribute). PartsAt s at y) z h

pub told-sure : {s : List ℕ} {at : ℕ} {r : Option ℕ} → ToldAt s at (Some r) → ReadsDistinct s at r
told-sure (sure r d) = d

-- a name, an equals sign and a value, with white space around the sign
pub parts_good : (s : List ℕ) (at n i j q e : ℕ) → Good 1 name s at n → Good 0 space s n i → Good 1 (byte 61) s i j → Good 0 space s j q → Good 1 value s q e
    → PartsAt s at (Some (record { name = at; name_end = n; value = q; end = e }))
unfolding attribute
parts_good s at n i j q e g₁ g₂ g₃ g₄ g₅ = parts n q e (record {
  name_low = omega (arith, g₁.low);
  name_high = omega (arith, g₂.low, g₃.low, g₄.low);
  value_low = omega (arith, g₅.low);
  high = g₅.high;
  text = g₅.value;
  quoted = g₅.reads;
  reads = rw (g₁.reads, g₂.reads, g₃.reads, g₄.reads, g₅.reads) (ap put (name_is s at n g₁.value g₁.low g₁.high g₁.reads));
})
  where
    put : List ℕ → Parsed RulesAttribute
    put x = ok (record { name = x; value = g₅.value }) (drop e s)

-- the reader of attributes never fails
pub total : (f : ℕ) (x : List ℕ) → (l : List RulesAttribute) × (r : List ℕ) × (attributes f x ≡ ok l r)
unfolding attributes
total zero x = ([], x, refl)
total (suc f) x = go (next (some_space x) (λ u. attribute >>= (λ a. attributes f >>= (λ l. pure (a ∷ l)))))
  where
    go : (p : Parsed (List RulesAttribute)) → (l : List RulesAttribute) × (r : List ℕ) × (else p (ok [] x) ≡ ok l r)
    go bad = ([], x, refl)
    go (ok l r) = (l, r, refl)

-- no attribute from a position on
pub stops_space : {s : List ℕ} {i : ℕ} → Reads 1 some_space s i None → Stops s i
unfolding attributes
stops_space b zero = refl
stops_space b (suc f) = rw (none_of some_space b)

pub stops_attribute : {s : List ℕ} {i j : ℕ} → Good 1 some_space s i j → PartsAt s j None → Stops s i
unfolding attributes
stops_attribute g (no_parts b) zero = refl
stops_attribute g (no_parts b) (suc f) = rw (g.reads, b)

pub next_attribute : {s : List ℕ} {i j : ℕ} {r : Option Attribute} → Good 1 some_space s i j → PartsAt s j r → NextAt s i r
next_attribute g (parts n q e a) = next_is _ n q e g a
next_attribute g (no_parts b) = no_next (stops_attribute g (no_parts b))

pub find-end : {s : List ℕ} (key : List ℕ) {i : ℕ} → Stops s i → Answers s key i None
unfolding lookup
find-end {s} key {i} h l a =
    let e : ◌≡◌ {A = Parsed (List RulesAttribute)} (ok [] (drop i s)) (ok l a.after) = sym (h a.fuel) ∙ a.reads in
    let z : [] ≡ l = cc in
    subst (λ (x : List RulesAttribute). Finds s (lookup key x) None) z absent

pub distinct-end : {s : List ℕ} {i : ℕ} → i ≤ length s → Stops s i → ReadsDistinct s i (Some i)
unfolding is_distinct
distinct-end {s} {i} l h f m = upto i (record { low = omega arith; high = l; value = []; reads = rw (h f) })

-- whether a name is among those of other attributes
found_same : {s : List ℕ} {o : RulesOption (List ℕ)} {w : Option (ℕ × ℕ)} → Finds s o w → is_some o ≡ is_found w
found_same absent = refl
found_same (present q e v l h w) = refl

repeated : (a : RulesAttribute) (l : List RulesAttribute) → is_some (lookup a.name l) ≡ true → is_distinct (a ∷ l) ≡ false
unfolding is_distinct
repeated a l e = rw e

fresh : (a : RulesAttribute) (l : List RulesAttribute) → is_some (lookup a.name l) ≡ false → is_distinct (a ∷ l) ≡ is_distinct l
unfolding is_distinct
fresh a l e = rw e

-- attributes that pass a test
abbrev pub guarded : (List RulesAttribute → Bool) → (fuel : ℕ) → Parser (List RulesAttribute)
guarded p f = attributes f >>= (λ l. guard (p l) >> pure l)

-- two values under one guard
kept : {A : Type 0} (b : Bool) (l m : A) (x : List ℕ) {v : A} {y : List ℕ} → (guard b >> pure m) x ≡ ok v y → (guard b >> pure l) x ≡ ok l y
kept true l m x {v} {y} e = let z : x ≡ y = cc in ap (ok l) z
kept false l m x e = clash (cc)

lost : {A : Type 0} (b : Bool) (l m : A) (x : List ℕ) → (guard b >> pure m) x ≡ bad → (guard b >> pure l) x ≡ bad
lost true l m x e = clash (cc)
lost false l m x e = refl

-- an attribute, and the others after it
module _ {s : List ℕ} {i j n q e : ℕ} (g : Good 1 some_space s i j) (a : AttributeTo s j n q e) where
  abbrev pub this : RulesAttribute
  this = record { name = take (n - j) (drop j s); value = a.text }

  pub steps : (f : ℕ) (l : List RulesAttribute) (r : List ℕ) → attributes f (drop e s) ≡ ok l r → attributes (suc f) (drop i s) ≡ ok (this ∷ l) r
  unfolding attributes
  steps f l r h = rw (g.reads, a.reads, h)

  pub bounds : (i < e) × (e ≤ length s)
  bounds = (omega (arith, g.low, a.name_low, a.name_high, a.value_low), a.high)

  -- what follows, with fuel enough
  pub others : (f : ℕ) → length s ≤ i + suc f → (l : List RulesAttribute) × AttributesAt s e l × (r : List ℕ) × (attributes f (drop e s) ≡ ok l r)
  others f h = let (l, r, t) = total f (drop e s) in (l, record { fuel = f; enough = omega (arith, bounds.0); after = r; reads = t }, r, t)

  pub passed : (l : List RulesAttribute) → AttributesAt s i l → (m : List RulesAttribute) × AttributesAt s e m × (l ≡ this ∷ m)
  passed l b = go b.fuel b.enough b.reads
    where
      go : (f : ℕ) → length s ≤ i + f → attributes f (drop i s) ≡ ok l b.after → (m : List RulesAttribute) × AttributesAt s e m × (l ≡ this ∷ m)
      go zero h u = absurd (omega (arith, bounds.0, bounds.1))
      go (suc f) h u =
          let (m, at, r, t) = others f h in
          let z : ◌≡◌ {A = Parsed (List RulesAttribute)} (ok (this ∷ m) r) (ok l b.after) = sym (steps f m r t) ∙ u in
          (m, at, cc)

  pub find_more : (key : List ℕ) → same (take (n - j) (drop j s)) key ≡ false → (r : Option (ℕ × ℕ)) → Answers s key e r → Answers s key i r
  unfolding lookup
  find_more key d r t l b = let (m, at, z) = passed l b in rw (z, d) (t m at)

  pub find_here : (key : List ℕ) → same (take (n - j) (drop j s)) key ≡ true → Answers s key i (Some (q, e))
  unfolding lookup
  find_here key d l b = let (m, at, z) = passed l b in rw (z, d) (present q e a.text a.value_low a.high a.quoted)

  pub distinct_again : {w : Option (ℕ × ℕ)} → is_found w ≡ true → Answers s (take (n - j) (drop j s)) e w → ReadsDistinct s i None
  distinct_again z h zero k = absurd (omega (arith, bounds.0, bounds.1))
  distinct_again z h (suc f) k =
      let (m, at, r, t) = others f k in
      not-read (rw (steps f m r t, repeated this m (found_same (h m at) ∙ z)))

  pub guarded_on : (p q : List RulesAttribute → Bool) (f : ℕ) (m : List RulesAttribute) (x : List ℕ) → attributes f (drop e s) ≡ ok m x → p (this ∷ m) ≡ q m
      → {r : Option ℕ} → Reads 0 (guarded q f) s e r → Reads 0 (guarded p (suc f)) s i r
  guarded_on p q f m x t u (upto k d) = upto k (record {
    low = omega (arith, bounds.0, d.low);
    high = d.high;
    value = this ∷ m;
    reads = rw (steps f m x t, u) (kept (q m) (this ∷ m) m x (rw t at d.reads));
  })
  guarded_on p q f m x t u (not-read b) = not-read (rw (steps f m x t, u) (lost (q m) (this ∷ m) m x (rw t at b)))

  pub distinct_more : {w : Option (ℕ × ℕ)} → is_found w ≡ false → Answers s (take (n - j) (drop j s)) e w → (r : Option ℕ) → ReadsDistinct s e r → ReadsDistinct s i r
  distinct_more z h r d zero k = absurd (omega (arith, bounds.0, bounds.1))
  distinct_more z h r d (suc f) k =
      let (m, at, x, t) = others f k in
      guarded_on is_distinct is_distinct f m x t (fresh this m (found_same (h m at) ∙ z)) (d f (omega (arith, bounds.0)))
