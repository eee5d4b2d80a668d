-- Flags are compared where both sides are valued.
use mathlib.Core.Path.{◌≡◌, refl}
use mathlib.Core.Bool.{Bool, true, false, not, ◌&&◌, ◌||◌}
use Rattle.rules.specs.Invariants.{Endpoint, valued, infinite, unknown}
use Rattle.rules.specs.Comparison.{Answer, Yes, No, Unknown, answer, ◌also◌, compare_moments, compare_endpoints}
use Rattle.comparison.specs.Sides.{is_valued}

pub also_yes : (a : Answer) → (a also Yes) ≡ a
also_yes Yes = refl
also_yes No = refl
also_yes Unknown = refl

pub flags_where : (flags : Bool) {asked : Bool} (a b : Endpoint) → asked ≡ (is_valued a && is_valued b)
    → (compare_endpoints true a b also answer (flags || not asked)) ≡ compare_endpoints flags a b
flags_where flags a b e = rw e (go flags a b)
  where
    go : (flags : Bool) (a b : Endpoint) → (compare_endpoints true a b also answer (flags || not (is_valued a && is_valued b))) ≡ compare_endpoints flags a b
    go true (valued a) (valued b) = also_yes (compare_moments a b also Yes)
    go false (valued a) (valued b) = rw (also_yes (compare_moments a b))
    go true (valued a) infinite = refl
    go true (valued a) unknown = refl
    go true infinite (valued b) = refl
    go true infinite infinite = refl
    go true infinite unknown = refl
    go true unknown (valued b) = refl
    go true unknown infinite = refl
    go true unknown unknown = refl
    go false (valued a) infinite = refl
    go false (valued a) unknown = refl
    go false infinite (valued b) = refl
    go false infinite infinite = refl
    go false infinite unknown = refl
    go false unknown (valued b) = refl
    go false unknown infinite = refl
    go false unknown unknown = refl
