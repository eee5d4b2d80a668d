-- Sets joined one after another, and how many stretches a set has.
use Prim.Native.Nat.{ℕ, zero, suc, ◌+◌}
use mathlib.Core.Path.{◌≡◌, refl, sym, ap, ap₂, ◌∙◌}
use mathlib.Core.Bool.{◌||◌}
use mathlib.Core.List.{List}
use native.Mathlib.Omega.{arith}
use native.Mathlib.Numerals.{add-one}
use lib.ListN.{length, length-map, length-take}
use Rattle.rules.specs.Sets.{Interval, holds, Op, difference, apply, Expression, combine, meant}
use Rattle.rules.specs.Stretches.{stretches}
use Rattle.interval.specs.declared.Stretches.{Stretches}
use Rattle.interval.specs.declared.Op.{Op as CodeOp}
use Rattle.interval.specs.declared.Interval.{Interval as CodeInterval}
use Rattle.interval.specs.Meaning.{op_of, interval_of, used, Holds, applied, joined_by}
use Rattle.interval.proofs.Unique.{stretches-meant}
use Rattle.interval_bench.specs.Counts.{piece_at, IsPiece, joined_to, operation_by}

-- an operation on two sets that have the places of two expressions
pub applied-meant : (op : CodeOp) (o : Op) (a b r : Stretches) (d e : Expression) (m n k : ℕ) → op_of op ≡ o → Holds (meant d) m a → Holds (meant e) n b
    → Holds (applied op a b) k r → Holds (meant (combine o d e)) k r
unfolding meant
applied-meant op o a b r d e m n k z p q h = record {
  canonical = h.canonical;
  places = λ x. h.places x ∙ ap₂ (apply (op_of op)) (p.places x) (q.places x) ∙ ap (λ (o : Op). apply o (meant d x) (meant e x)) z;
  short = h.short;
}

-- the set of the first interval
pub joined-first : (l : List ℕ) (from : ℕ) (v : CodeInterval) (r : Stretches) → IsPiece l from v → Holds (holds (interval_of v)) 1 r → Holds (meant (joined_to l from 0)) 1 r
unfolding meant
joined-first l from v r p h = record {
  canonical = h.canonical;
  places = λ x. h.places x ∙ ap (λ (w : Interval). holds w x) p.means;
  short = h.short;
}

-- one interval more is joined
pub joined_more : (l : List ℕ) (from k : ℕ) (s r : Stretches) (v : CodeInterval) → Holds (meant (joined_to l from k)) (k + 1) s → IsPiece l (from + (k + 1) + (k + 1)) v
    → Holds (joined_by s v) (s.count + 1) r → Holds (meant (joined_to l from (k + 1))) (k + 1 + 1) r
unfolding meant
joined_more l from k s r v h p j =
    let e : interval_of v ≡ piece_at l (from + suc k + suc k) = rw (add-one k) at p.means in
    rw (add-one k)
    (record {
      canonical = j.canonical;
      places = λ x. j.places x ∙ ap₂ ◌||◌ (h.places x) (ap (λ (w : Interval). holds w x) e);
      short = omega (arith, j.short, h.short);
    })

-- a set has as many stretches as the expression whose places it has
pub count-meant : (e : Expression) (n : ℕ) (s : Stretches) → length s.items ≡ 32 → Holds (meant e) n s → s.count ≡ length (stretches e)
count-meant e n s g h =
    let f = h.canonical.fits in
    let t : length (used s) ≡ s.count = length-take s.count s.items ∙ omega arith in
    sym t ∙ sym (length-map (used s) interval_of) ∙ ap length (stretches-meant e s h.canonical h.places)

-- the operation after the first two
pub else-difference : (n : ℕ) → (n ≡ 0 → ⊥) → (n ≡ 1 → ⊥) → difference ≡ operation_by n
else-difference zero a b = absurd (a refl)
else-difference (suc zero) a b = absurd (b refl)
else-difference (suc (suc n)) a b = refl
