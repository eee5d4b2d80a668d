-- Whether a place is in the set that an element writes, and in those of members one after another.
use Prim.Native.Nat.{ℕ}
use mathlib.Core.Path.{◌≡◌, refl, sym, ap, ◌∙◌}
use mathlib.Core.Bool.{Bool, true, false, cond}
use mathlib.Core.List.{List, []}
use Rattle.std.specs.Prelude.{Option as StdOption, Some, None}
use Rattle.rules.specs.Refusal.{Outcome}
use Rattle.rules.specs.Markup.{Nodes, end, node, Element}
use Rattle.rules.specs.Sets.{Op as PageOp, Interval as PageInterval, Place, holds, apply}
use Rattle.rules.specs.Listing.{interval_of}
use Rattle.rules.specs.ListingPromise.{is_within, together, mean_place, is_meant}
use Rattle.rules.proofs.Meaning.{folded, folded_together}
use Rattle.interval.specs.declared.Op.{Op}
use Rattle.interval.specs.Meaning.{op_of, interval_of as interval_meant}
use Rattle.interval.specs.declared.Interval.{Interval}
use Rattle.listing.specs.declared.set.Shape.TheVariants.{Single, Members, Other}
use Rattle.listing.specs.Bounds.{written_meant}
use Rattle.listing.specs.Sets.{WritesAs}

-- the interval that an element writes
pub within-written : (x : Place) {w : StdOption Interval} {v : Interval} {b : Bool} → w ≡ Some v → b ≡ holds (interval_meant v) x
    → {o : Outcome PageInterval} → written_meant w ≡ o → b ≡ is_within o x
within-written x z h e = rw (← e, z) h

pub within-unknown : (x : Place) {w : StdOption Interval} → w ≡ None → {o : Outcome PageInterval} → written_meant w ≡ o → false ≡ is_within o x
within-unknown x z e = rw (← e, z)

-- an element, by what it writes
module _ (shift : ℕ) (v : Element) (x : Place) where
  pub means_single : WritesAs v.attrs Single → {r : Bool} → r ≡ is_within (interval_of shift v.attrs v.kids) x → r ≡ is_meant shift v x
  means_single w e = rw w e

  pub means-other : WritesAs v.attrs Other → false ≡ is_meant shift v x
  means-other w = rw (w.0, w.1)

  pub means_members : (op : Op) → WritesAs v.attrs (Members op) → {r : Bool} → r ≡ together (op_of op) (mean_place shift x v.kids) → r ≡ is_meant shift v x
  means_members op w e = rw (w.0, w.1) e

-- the place is in the set of the members so far, if there are any, with those left
abbrev mean_left : PageOp → (any first : Bool) → List Bool → Bool
mean_left o any first left = cond any (folded o first left) (together o left)

abbrev pub Placing : (shift : ℕ) → Op → Place → (any first : Bool) → (all left : Nodes) → Type 0
Placing shift op x any first all left = together (op_of op) (mean_place shift x all) ≡ mean_left (op_of op) any first (mean_place shift x left)

-- where there are none it is in the set of none
abbrev pub Begun : Op → (any first : Bool) → Type 0
Begun op any first = any ≡ false → first ≡ together (op_of op) []

module _ (shift : ℕ) (op : Op) (x : Place) (any first : Bool) where
  pub place_goes : (v : Element) (next : Bool) → next ≡ is_meant shift v x → (b : Bool) → b ≡ cond any (apply (op_of op) first next) next
      → (all left : Nodes) → Placing shift op x any first all (node v.name v.attrs v.kids left) → Placing shift op x true b all left
  unfolding mean_place
  place_goes v next n b e all left h = h ∙ go any ∙ ap (λ (c : Bool). folded (op_of op) c (mean_place shift x left)) (sym (e ∙ ap (λ (c : Bool). cond any (apply (op_of op) first c) c) n))
    where
      go : (a : Bool) → mean_left (op_of op) a first (mean_place shift x (node v.name v.attrs v.kids left))
          ≡ folded (op_of op) (cond a (apply (op_of op) first (is_meant shift v x)) (is_meant shift v x)) (mean_place shift x left)
      go true = refl
      go false = sym (folded_together (op_of op) (is_meant shift v x) (mean_place shift x left))

  pub place_ends : Begun op any first → (all : Nodes) → Placing shift op x any first all end → first ≡ together (op_of op) (mean_place shift x all)
  unfolding mean_place
  place_ends g all h = go any g ∙ sym h
    where
      go : (a : Bool) → (a ≡ false → first ≡ together (op_of op) []) → first ≡ mean_left (op_of op) a first []
      go true g = refl
      go false g = g refl
