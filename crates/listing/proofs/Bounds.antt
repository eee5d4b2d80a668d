-- Bounds as a record writes them: their ticks are such as sets take; and the interval of two bounds.
use Prim.Native.Nat.{ℕ, ◌^◌, ◌≤◌, ◌<◌}
use mathlib.Core.Path.{◌≡◌, refl, sym, ap, ap₂, ◌∙◌, subst}
use mathlib.Core.Bool.{Bool, true, false, not, cond}
use mathlib.Core.List.{List}
use mathlib.Core.Option.{Option, none, some}
use native.Mathlib.Omega.{arith}
use Rattle.std.specs.Prelude.{Option as StdOption, Some, None}
use borrow.Author.Tests.{lt-ltb}
use lib.Dec.{ltb}
use Rattle.rules.specs.Basics.{if_some, bytes}
use Rattle.rules.specs.Refusal.{UNKNOWN_BOUND, Outcome, answered, refused}
use Rattle.rules.specs.Markup.{Attribute, Nodes, lookup}
use Rattle.rules.specs.Timestamp.{Moment, tick_at, read_timestamp}
use Rattle.rules.specs.Invariants.{is_null, is_closed, is_pushed, Side as PageSide, low, high, Endpoint as PageEndpoint, valued, infinite, unknown, has_flavor, child_named, endpoint_read, endpoint_valued, endpoint_in, endpoint_of}
use Rattle.rules.specs.Listing.{bound_at, value_read, bound_read, bound_of, interval_of}
use Rattle.rules.proofs.Tests.{clash}
use Rattle.rules.proofs.TickOrder.{tick-one}
use Rattle.rules.proofs.Ticks.{ticks_in_60_bits}
use Rattle.interval.specs.declared.Bound.{Bound}
use Rattle.interval.specs.declared.Bound.TheVariants.{Unbounded, Open, Closed}
use Rattle.interval.specs.Meaning.{bound_of as bound_meant, tick, Ticked}
use Rattle.datatype.specs.declared.bounds.Side.{Side}
use Rattle.datatype.specs.declared.bounds.Endpoint.{Endpoint}
use Rattle.datatype.specs.Bounds.{side_meant, endpoint_meant}
use Rattle.datatype.specs.Said.{Said, endpoint_said}
use Rattle.datatype.proofs.Sayings.{by_child}
use Rattle.listing.specs.Bounds.{limit_meant, LimitOn, written_meant, BoundSaid}

-- the ticks of a side are such as sets take
abbrev Small : PageEndpoint → Type 0
Small (valued m) = (m.start < 2 ^ 60) × (m.next < 2 ^ 60)
Small infinite = Unit {0}
Small unknown = Unit {0}

module _ (shift : ℕ) (most : shift ≤ 1680) where
  value-small : (text : List ℕ) (o : Outcome Moment) → read_timestamp shift text ≡ o → Small (endpoint_read o)
  value-small text (answered m) e = ticks_in_60_bits shift text m e most
  value-small text (refused r) e = tt

  endpoint_small : (side : PageSide) (kids : Nodes) → Small (endpoint_of shift side kids)
  unfolding endpoint_of
  endpoint_small side kids = go (child_named side.child kids)
    where
      valued-small : (o : Option (List ℕ)) → Small (if_some o (λ text. endpoint_read (read_timestamp shift text)) unknown)
      valued-small none = tt
      valued-small (some text) = value-small text _ refl

      null-small : (a b : Bool) (x : PageEndpoint) → Small x → Small (cond a (cond b infinite unknown) x)
      null-small true true x h = tt
      null-small true false x h = tt
      null-small false b x h = h

      go : (o : Option (List Attribute)) → Small (if_some o (endpoint_in shift side) unknown)
      go none = tt
      go (some attrs) = null-small (is_null attrs) (has_flavor side.infinity attrs) (endpoint_valued shift attrs) (valued-small (lookup (bytes "value") attrs))

-- a bound at a tick that sets take is one that they take
bound_at-small : (b : Bound) (closed : Bool) (n : ℕ) → n < 2 ^ 60 → bound_meant b ≡ bound_at closed (tick_at n) → Ticked b
bound_at-small Unbounded closed n s h = omega arith
bound_at-small (Open k) true n s h = clash (cc)
bound_at-small (Open k) false n s h = let d : tick_at k ≡ tick_at n = cc in omega (arith, tick-one k n d)
bound_at-small (Closed k) true n s h = let d : tick_at k ≡ tick_at n = cc in omega (arith, tick-one k n d)
bound_at-small (Closed k) false n s h = clash (cc)

value-small-at : (b : Bound) (side : PageSide) (closed : Bool) (m : Moment) → Small (valued m) → bound_meant b ≡ value_read side closed m → Ticked b
value-small-at b side closed m (s, n) =
    elim (is_pushed side closed m) as (λ p. bound_meant b ≡ cond p (bound_at (not closed) (tick_at m.next)) (bound_at closed (tick_at m.start)) → Ticked b)
    [ false ↦ bound_at-small b closed m.start s | true ↦ bound_at-small b (not closed) m.next n ]

-- a bound that was read has a tick that its side says
bound_small : (b : Bound) (side : PageSide) (closed : Bool) (e : PageEndpoint) → Small e → answered (bound_meant b) ≡ bound_read side closed e → Ticked b
bound_small b side closed (valued m) s h = value-small-at b side closed m s (cc)
bound_small Unbounded side closed infinite s h = omega arith
bound_small (Open n) side closed infinite s h = clash (cc)
bound_small (Closed n) side closed infinite s h = clash (cc)
bound_small b side closed unknown s h = clash (cc)

-- what is said on a side, as a bound
module _ (said : Said) (side : Side) (closed : Bool) (e : Endpoint) {l : StdOption Bound} (p : endpoint_meant e ≡ endpoint_said side said) (q : limit_meant l ≡ bound_read (side_meant side) closed (endpoint_meant e)) where
  pub bound_said : (r : StdOption Bound) → l ≡ r → BoundSaid said side closed r
  bound_said r z shift most attrs kids x y =
      sym (ap limit_meant z) ∙ q ∙ ap₂ (bound_read (side_meant side)) y (p ∙ ap (endpoint_said side) x ∙ sym (by_child shift side kids).0)

  -- no bound of a record is left out for its tick
  pub bound_kept : {b : Bound} → l ≡ Some b → ltb (tick b) (2 ^ 60) ≡ false → BoundSaid said side closed None
  bound_kept {b} z f shift most attrs kids x y =
      let t = bound_small b (side_meant side) (is_closed (side_meant side) attrs) (endpoint_of shift (side_meant side) kids) (endpoint_small shift most (side_meant side) kids) (bound_said (Some b) z shift most attrs kids x y) in
      clash (cc (lt-ltb (tick b) (2 ^ 60) t))

pub limit_on : {l : StdOption Bound} {b : Bound} → l ≡ Some b → LimitOn l → Ticked b
limit_on z h = subst LimitOn z h

-- the interval of two bounds
module _ (shift : ℕ) (attrs : List Attribute) (kids : Nodes) {l : StdOption Bound} (h : limit_meant l ≡ bound_of shift low attrs kids) where
  pub interval-low : l ≡ None → written_meant None ≡ interval_of shift attrs kids
  interval-low z = let e : refused UNKNOWN_BOUND ≡ bound_of shift low attrs kids = sym (ap limit_meant z) ∙ h in rw (← e)

  module _ {b : Bound} (z : l ≡ Some b) (r : StdOption Bound) (g : limit_meant r ≡ bound_of shift high attrs kids) where
    first : answered (bound_meant b) ≡ bound_of shift low attrs kids
    first = sym (ap limit_meant z) ∙ h

    pub interval-high : r ≡ None → written_meant None ≡ interval_of shift attrs kids
    interval-high y = let e : refused UNKNOWN_BOUND ≡ bound_of shift high attrs kids = sym (ap limit_meant y) ∙ g in rw (← first, ← e)

    pub interval-both : {c : Bound} → r ≡ Some c → answered (record { low = bound_meant b; high = bound_meant c }) ≡ interval_of shift attrs kids
    interval-both {c} y = let e : answered (bound_meant c) ≡ bound_of shift high attrs kids = sym (ap limit_meant y) ∙ g in rw (← first, ← e)
