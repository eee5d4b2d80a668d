-- Sets as rising edges, for the contracts of private functions. An edge is the number of the first place in, or of the first place
-- out again: tick n has the number 2 n + 1, the gap after it the next one, and the places before all ticks share 0.
use Rattle.std.specs.Prelude.{◌≡◌, ℕ, zero, suc, ◌+◌, ◌-◌, ◌*◌, ◌^◌, ◌<◌, ◌≤◌, Bool, true, false, cond, not, ◌&&◌, List, [], ◌∷◌, ◌++◌, length, take, replicate, ◌==◌, nat_le, nat_lt}
use Rattle.interval.specs.declared.Bound.{Bound}
use Rattle.interval.specs.declared.Bound.TheVariants.{Unbounded, Open, Closed}
use Rattle.interval.specs.declared.Interval.{Interval}
use Rattle.interval.specs.declared.Stretches.{Stretches}
use Rattle.interval.specs.Meaning.{Ticked, AllTicked, used}

-- above every place: one more than the number of the gap after the last tick
abbrev pub top : ℕ
top = 2 ^ 61 + 1

-- the number of a tick or of the gap after it
abbrev pub number_of : (n : ℕ) → (gap : Bool) → ℕ
number_of n true = 2 * n + 2
number_of n false = 2 * n + 1

-- the first place from a low bound on
abbrev pub low_edge : Bound → ℕ
low_edge Unbounded = 0
low_edge (Open n) = number_of n true
low_edge (Closed n) = number_of n false

-- the first place past a high bound
abbrev pub high_edge : Bound → ℕ
high_edge Unbounded = top
high_edge (Open n) = number_of n false
high_edge (Closed n) = number_of n true

pub record LowAt (e : ℕ) (b : Bound) : Type 0 where
  pub edge : low_edge b ≡ e
  pub ticked : Ticked b

pub record HighAt (e : ℕ) (b : Bound) : Type 0 where
  pub edge : high_edge b ≡ e
  pub ticked : Ticked b

-- low, high, low, high and so on
abbrev pub edges : List Interval → List ℕ
edges [] = []
edges (v ∷ l) = low_edge v.low ∷ high_edge v.high ∷ edges l

-- whether the place with number x is in an interval
abbrev pub is_within : Interval → ℕ → Bool
is_within v x = nat_le (low_edge v.low) x && nat_lt x (high_edge v.high)

-- strictly rising, from b on
abbrev pub Rising : ℕ → List ℕ → Type 0
Rising b [] = Unit {0}
Rising b (e ∷ l) = (b ≤ e) × Rising (suc e) l

-- the same, up to the first that is `top`
abbrev pub Climbs : ℕ → List ℕ → Type 0
Climbs b [] = Unit {0}
Climbs b (e ∷ l) = (b ≤ e) × (e < top → Climbs (suc e) l)

abbrev pub Below : ℕ → List ℕ → Type 0
Below f [] = Unit {0}
Below f (e ∷ l) = (e < f) × Below f l

-- how many stand at the front that are below f
abbrev pub rank : List ℕ → ℕ → ℕ
rank [] f = 0
rank (e ∷ l) f = cond (nat_lt e f) (suc (rank l f)) 0

abbrev pub odd : ℕ → Bool
odd zero = false
odd (suc n) = not (odd n)

-- one if the next edge is at m, else none
abbrev pub passed_at : (next m : ℕ) → ℕ
passed_at e m = cond (e == m) 1 0

-- whether the place with number x is in the set that has these edges
abbrev pub within : List ℕ → ℕ → Bool
within l x = odd (rank l (suc x))

-- followed by `top`, 65 numbers in all
abbrev pub padded : List ℕ → List ℕ
padded l = l ++ replicate (65 - length l) top

-- the edges of two sets, padded, few enough for the outcome's to be padded too
pub record Inputs (a b : List ℕ) : Type 0 where
  pub long_a : length a ≡ 65
  pub long_b : length b ≡ 65
  pub climbs_a : Climbs 0 a
  pub climbs_b : Climbs 0 b
  pub few : rank a top + rank b top ≤ 64

-- l is n rising edges below `top`, and then `top` alone
pub record Edged (n : ℕ) (l : List ℕ) : Type 0 where
  pub list : List ℕ
  pub rest : l ≡ padded list
  pub count : length list ≡ n
  pub rises : Rising 0 list
  pub below : Below top list

-- the n edges in l are those of the outcome of h on the sets that have the edges a and b
pub record Merged (h : Bool → Bool → Bool) (a b : List ℕ) (n : ℕ) (l : List ℕ) : Type 0 where
  pub edged : Edged n l
  pub agrees : (x : ℕ) → x < top → within l x ≡ h (within a x) (within b x)
  pub short : n ≤ rank a top + rank b top

-- the set r has the edges l
pub record Drawn (n : ℕ) (l : List ℕ) (r : Stretches) : Type 0 where
  pub ticked : AllTicked (used r)
  pub edges_are : edges (used r) ≡ take (2 * r.count) l
  pub fewest : n ≤ 2 * r.count
  pub most : 2 * r.count ≤ suc n
