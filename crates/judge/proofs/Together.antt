-- An element's faults put together: its own and those inside it, where what its bounds say matters only if no fault comes before RULE.
use Prim.Native.Nat.{ℕ}
use mathlib.Core.Path.{◌≡◌, refl, ◌∙◌}
use mathlib.Core.Bool.{Bool, ◌||◌}
use mathlib.Core.List.{flat_map}
use mathlib.Core.Logic.{◌⊎◌, inl, inr}
use mathlib.Core.Option.{Option, some}
use Rattle.rules.specs.Basics.{exists}
use Rattle.rules.specs.Refusal.{Refusal, SHAPE, RULE, earlier, first_of, ◌when◌}
use Rattle.rules.specs.Markup.{Element}
use Rattle.rules.specs.Invariants.{is_null}
use Rattle.rules.specs.Types.{Kind, line_of}
use Rattle.rules.specs.Judge.{Standing, attribute_faults, lacks, breaks_null, child_faults}
use Rattle.judge.specs.Faults.{judged}
use Rattle.judge.specs.Rows.{Hides}
use Rattle.judge.proofs.ElementFaults.{when_so, own_first, own_and-children}
use Rattle.judge.proofs.Rowing.{hidden}

pub all_faults : (shift : ℕ) (p : Standing) (k : Kind) (v : Element) {x y w : Option Refusal} (b : Bool)
    → x ≡ first_of (flat_map (attribute_faults shift p k) v.attrs)
    → y ≡ first_of (SHAPE when exists (lacks v.attrs) (line_of k).columns)
    → w ≡ first_of (child_faults shift k (is_null v.attrs) 0 v.kids)
    → Hides w ⊎ (b ≡ ((line_of k).invariant shift v.attrs v.kids || breaks_null k v.attrs v.kids))
    → earlier (earlier x (earlier y (first_of (RULE when b)))) w ≡ first_of (judged shift p (some k) v)
all_faults shift p k v b e f g (inr h) = own_and-children shift p k v (own_first shift p k v e f (when_so RULE refl h)) g
all_faults shift p k v {x} {y} {w} b e f g (inl h) = hidden x y w b ((line_of k).invariant shift v.attrs v.kids || breaks_null k v.attrs v.kids) h ∙ own_and-children shift p k v (own_first shift p k v e f refl) g
