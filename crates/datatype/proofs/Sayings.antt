-- What an element says as a bound is what the rules have of it, on each side.
use Prim.Native.Nat.{ℕ}
use mathlib.Core.Path.{◌≡◌, refl}
use mathlib.Core.Bool.{Bool, true, false, cond}
use mathlib.Core.List.{List}
use mathlib.Core.Option.{Option, none, some}
use Rattle.rules.specs.Basics.{is_some, if_some, bytes, same}
use Rattle.rules.specs.Refusal.{Outcome, answered, refused}
use Rattle.rules.specs.Markup.{Attribute, Nodes, lookup}
use Rattle.rules.specs.Timestamp.{Moment, read_timestamp}
use Rattle.rules.specs.Invariants.{has_flavor, child_named, Endpoint, infinite, unknown, endpoint_read, endpoint_in, endpoint_of, is_wrong}
use Rattle.rules.proofs.Tests.{clash, same_true}
use Rattle.datatype.specs.Bounds.{side_meant}
use Rattle.datatype.specs.Said.{Said, below, above, nothing, said_flavor, said_read, said_value, said_by, said_named, endpoint_said, wrong_said}
use Rattle.datatype.specs.declared.bounds.Side.{Side}
use Rattle.datatype.specs.declared.bounds.Side.TheVariants.{Low, High}

-- a side says e, and w whether it is wrong, by what is said
abbrev pub Agrees : Side → Endpoint → (w : Bool) → Said → Type 0
Agrees side e w said = (e ≡ endpoint_said side said) × (w ≡ wrong_said side said)

-- a text is at most one of the two flavors
one-flavor : (P : (below above : Bool) → Type 0) → P true false → P false true → P false false → (t : List ℕ) → P (same (bytes "NINF") t) (same (bytes "PINF") t)
unfolding same
one-flavor P x y z t = go (same (bytes "NINF") t) (same (bytes "PINF") t) (λ e. rw (← same_true (bytes "NINF") t e))
  where
    go : (a b : Bool) → (a ≡ true → b ≡ false) → P a b
    go true true h = let e = h refl in clash (cc)
    go true false h = x
    go false true h = y
    go false false h = z

by_flavor : (side : Side) (t : List ℕ) → Agrees side (cond (same (side_meant side).infinity t) infinite unknown) (same (side_meant side).wrong t) (said_flavor (some t))
by_flavor Low t = one-flavor (λ a b. Agrees Low (cond a infinite unknown) b (cond a below (cond b above nothing))) (refl, refl) (refl, refl) (refl, refl) t
by_flavor High t = one-flavor (λ a b. Agrees High (cond b infinite unknown) a (cond a below (cond b above nothing))) (refl, refl) (refl, refl) (refl, refl) t

by_read : (side : Side) (o : Outcome Moment) → Agrees side (endpoint_read o) false (said_read o)
by_read side (answered m) = (refl, refl)
by_read side (refused r) = (refl, refl)

module _ (shift : ℕ) (side : Side) where
  -- by its value
  pub by_value : (value : Option (List ℕ)) → if_some value (λ text. endpoint_read (read_timestamp shift text)) unknown ≡ endpoint_said side (said_value shift value)
  by_value none = refl
  by_value (some t) = (by_read side (read_timestamp shift t)).0

  -- by its attributes
  pub by_attributes : (l : List Attribute) → Agrees side (endpoint_in shift (side_meant side) l) (has_flavor (side_meant side).wrong l) (said_by shift l)
  by_attributes l = go (lookup (bytes "nullFlavor") l) (lookup (bytes "value") l)
    where
      go : (flavor value : Option (List ℕ)) → Agrees side
          (cond (is_some flavor) (cond (if_some flavor (same (side_meant side).infinity) false) infinite unknown) (if_some value (λ text. endpoint_read (read_timestamp shift text)) unknown))
          (if_some flavor (same (side_meant side).wrong) false)
          (cond (is_some flavor) (said_flavor flavor) (said_value shift value))
      go (some t) value = by_flavor side t
      go none none = (refl, refl)
      go none (some t) = by_read side (read_timestamp shift t)

  -- by the child of the side
  pub by_child : (kids : Nodes) → Agrees side (endpoint_of shift (side_meant side) kids) (is_wrong (side_meant side) kids) (said_named shift (side_meant side).child kids)
  unfolding endpoint_of
  by_child kids = go (child_named (side_meant side).child kids)
    where
      go : (o : Option (List Attribute)) → Agrees side
          (if_some o (endpoint_in shift (side_meant side)) unknown) (if_some o (has_flavor (side_meant side).wrong) false) (if_some o (said_by shift) nothing)
      go none = (refl, refl)
      go (some l) = by_attributes l
