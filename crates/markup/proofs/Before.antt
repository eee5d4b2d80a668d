-- The names of the attributes from a position up to another: the search for a name among them.
use Prim.Native.Nat.{ℕ, ◌-◌, ◌≤◌, ◌<◌}
use mathlib.Core.Path.{◌≡◌, refl, sym, ◌∙◌, ap}
use mathlib.Core.Bool.{Bool, true, false}
use mathlib.Core.List.{List, [], ◌∷◌, ◌++◌}
use native.Mathlib.Omega.{arith}
use lib.ListN.{length, take, drop, length-drop}
use Rattle.rules.specs.Basics.{same}
use Rattle.rules.specs.Parsers.{Parsed}
use Rattle.rules.specs.Markup.{Attribute as RulesAttribute, some_space, attribute, attributes}
use Rattle.rules.proofs.Tests.{clash}
use Rattle.text.specs.Reads.{Good}
use Rattle.markup.specs.Attributes.{AttributeTo, Stops}
use Rattle.markup.specs.Marks.{is_among, NamesFrom, no_names, more_names}
use Rattle.markup.proofs.Attributes.{steps}

-- a position is known by what follows it
same_place : (s : List ℕ) {i j : ℕ} → i ≤ length s → j ≤ length s → drop i s ≡ drop j s → i ≡ j
same_place s {i} {j} h k e = omega (arith, ap length e, length-drop i s, length-drop j s)

names-high : {s : List ℕ} {i to : ℕ} {k : List (List ℕ)} → NamesFrom s i to k → i ≤ to
names-high no_names = omega arith
names-high (more_names g a h) = omega (arith, g.low, a.name_low, a.name_high, a.value_low, names-high h)

-- the answer of a search for a name
abbrev pub Tells : List ℕ → (name : List ℕ) → (at to : ℕ) → Bool → Type 0
Tells s name at to r = (k : List (List ℕ)) → NamesFrom s at to k → r ≡ is_among name k

pub tells-end : {s : List ℕ} (name : List ℕ) {i to : ℕ} → to ≤ i → Tells s name i to false
unfolding is_among
tells-end name l _ no_names = refl
tells-end name l _ (more_names g a h) = absurd (omega (arith, g.low, a.name_low, a.name_high, a.value_low, names-high h))

pub tells-stop : {s : List ℕ} (name : List ℕ) {i to : ℕ} → Stops s i → Tells s name i to false
unfolding is_among attributes
tells-stop name h _ no_names = refl
tells-stop {s} name {i} h _ (more_names {e = e} g a x) =
    let z : ◌≡◌ {A = Parsed (List RulesAttribute)} _ _ = sym (h 1) ∙ steps g a 0 [] (drop e s) refl in
    clash (cc)

-- an attribute, and the others after it
module _ {s : List ℕ} {i j n q e : ℕ} (g : Good 1 some_space s i j) (a : AttributeTo s j n q e) where
  pub names_more : {at : ℕ} {k : List (List ℕ)} → NamesFrom s at i k → NamesFrom s at e (k ++ (take (n - j) (drop j s) ∷ []))
  names_more no_names = more_names g a no_names
  names_more (more_names f b h) = more_names f b (names_more h)

  passed : {to : ℕ} {k : List (List ℕ)} → i < to → NamesFrom s i to k → (m : List (List ℕ)) × NamesFrom s e to m × (k ≡ take (n - j) (drop j s) ∷ m)
  passed l no_names = absurd (omega arith)
  passed {to} l (more_names {j = x} {n = u} {e = y} {k = m} f b h) =
      let d : drop j s ≡ drop x s = cc (g.reads, f.reads) in
      let r = sym a.reads ∙ ap attribute d ∙ b.reads in
      let z : y ≡ e = same_place s b.high a.high (cc) in
      let w : ◌≡◌ {A = RulesAttribute} (record { name = take (u - x) (drop x s); value = b.text }) (record { name = take (n - j) (drop j s); value = a.text }) = cc in
      (m, rw z at h, ap (λ (v : RulesAttribute). v.name ∷ m) w)

  module _ (name : List ℕ) {to : ℕ} (l : i < to) where
    pub tells_more : same name (take (n - j) (drop j s)) ≡ false → (r : Bool) → Tells s name e to r → Tells s name i to r
    unfolding is_among
    tells_more d r t k h = let (m, x, z) = passed l h in rw (z, d) (t m x)

    pub tells_here : same name (take (n - j) (drop j s)) ≡ true → Tells s name i to true
    unfolding is_among
    tells_here d k h = let (m, x, z) = passed l h in rw (z, d)
