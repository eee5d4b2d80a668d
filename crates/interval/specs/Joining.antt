-- Joining one interval to a list of stretches, for the contracts of private functions. Edges say which bounds are lower and higher.
use Rattle.std.specs.Prelude.{◌≡◌, ℕ, ◌+◌, ◌≤◌, cond, List, [], ◌∷◌, ◌++◌, take, drop, nat_le, nat_lt}
use Rattle.interval.specs.declared.Bound.{Bound}
use Rattle.interval.specs.declared.Interval.{Interval}
use Rattle.interval.specs.declared.Stretches.{Stretches}
use Rattle.interval.specs.declared.join.Joint.{Joint}
use Rattle.interval.specs.Meaning.{Ticked, used}
use Rattle.interval.specs.Edges.{low_edge, high_edge}

abbrev pub lower_of : Bound → Bound → Bound
lower_of a b = cond (nat_le (low_edge a) (low_edge b)) a b

abbrev pub higher_of : Bound → Bound → Bound
higher_of a b = cond (nat_le (high_edge b) (high_edge a)) a b

-- from the lower low to the higher high
abbrev pub hull_of : Interval → Interval → Interval
hull_of v w = record { low = lower_of v.low w.low; high = higher_of v.high w.high }

-- v and the stretches after it, joined with those that it meets
unfoldable pub absorb : Interval → List Interval → List Interval
absorb v [] = v ∷ []
absorb v (w ∷ l) = cond (nat_lt (high_edge v.high) (low_edge w.low)) (v ∷ w ∷ l) (absorb (hull_of v w) l)

-- v among stretches, joined with those that it meets
unfoldable pub insert : Interval → List Interval → List Interval
insert v [] = v ∷ []
insert v (w ∷ l) = cond (nat_lt (high_edge w.high) (low_edge v.low)) (w ∷ insert v l) (absorb v (w ∷ l))

-- p stretches end before v
pub record Passed (s : Stretches) (v : Interval) (p : ℕ) : Type 0 where
  pub most : p ≤ s.count
  pub rest : insert v (used s) ≡ take p (used s) ++ absorb v (drop p (used s))

-- v joined with the stretches from the p-th up to the one at `next`
pub record Joins (s : Stretches) (v : Interval) (p : ℕ) (j : Joint) : Type 0 where
  pub least : p ≤ j.next
  pub most : j.next ≤ s.count
  pub low : Ticked j.whole.low
  pub high : Ticked j.whole.high
  pub rest : absorb v (drop p (used s)) ≡ j.whole ∷ drop j.next (used s)

-- v in place of the stretches from the p-th up to the one at q
pub record Replaced (s : Stretches) (p q : ℕ) (v : Interval) (r : Stretches) : Type 0 where
  pub items_are : used r ≡ take p (used s) ++ v ∷ drop q (used s)
  pub count_is : r.count + q ≡ s.count + p + 1
