-- The bytes that list a set, written one interval after another.
use Rattle.std.proofs.Common.{◌≡◌, ℕ, zero, suc, ◌+◌, ◌*◌, ◌/◌, ◌^◌, ◌<◌, ◌≤◌, List, [], ◌∷◌, ◌++◌, map, length, get_or, take, sym, refl, ap, ◌∙◌, ⊎_elim, append_assoc, append-nil, add-one, arith, length-append, take-suc, le-ltb, lt-ltb}
use mathlib.Core.List.{flat_map}
use native.Mathlib.Nat.{div-div-eq-div-mul}
use Rattle.std.specs.Int.{w64, to_le_bytes}
use Rattle.rules.specs.Timestamp.{before_start, tick_at}
use Rattle.rules.specs.Listing.{bound_numbers, list_numbers}
use Rattle.rules.specs.Services.{low_bytes, eight_bytes, overwrite}
use Rattle.writer.specs.Placing.{placed}
use Rattle.writer.proofs.Placing.{placed-append, placed-both, overwrite-placed}
use Rattle.interval.specs.declared.Bound.{Bound}
use Rattle.interval.specs.declared.Bound.TheVariants.{Unbounded, Open, Closed}
use Rattle.interval.specs.declared.Interval.{Interval}
use Rattle.interval.specs.Meaning.{bound_of, interval_of, Ticked}
use Rattle.interval.specs.Writing.{kind_of, wrapped, bits_of, bound_bytes, interval_bytes}
use Rattle.interval.proofs.Ranks.{le-or-lt}

-- ---- numbers
pub low_bytes-length : (n k : ℕ) → length (low_bytes n k) ≡ n
unfolding low_bytes
low_bytes-length zero k = refl
low_bytes-length (suc n) k = ap suc (low_bytes-length n (k / 256))

-- the bytes of a number, as the library has them
pub le_bytes : (n : ℕ) → to_le_bytes w64 n ≡ low_bytes 8 n
unfolding low_bytes
le_bytes n = simp div-div-eq-div-mul

-- the eight bytes of a tick are those of a difference that wraps
tick-bytes : (n : ℕ) → n < 2 ^ 60 → eight_bytes (tick_at n) ≡ low_bytes 8 (wrapped n)
unfolding tick_at
tick-bytes n h =
    ⊎_elim
    (λ (p : before_start ≤ n). rw (le-ltb n before_start p) (ap (low_bytes 8) (omega arith)))
    (λ (q : n < before_start). rw (lt-ltb n before_start q) (ap (low_bytes 8) (omega arith)))
    (le-or-lt before_start n)

pub bound_bytes_lem : (b : Bound) → Ticked b → bound_bytes b ≡ low_bytes 8 (kind_of b) ++ low_bytes 8 (bits_of b)
unfolding flat_map
bound_bytes_lem Unbounded t = ap (low_bytes 8 0 ++◌) (append-nil (low_bytes 8 0))
bound_bytes_lem (Open n) t = ap (low_bytes 8 1 ++◌) (append-nil (eight_bytes (tick_at n)) ∙ tick-bytes n t)
bound_bytes_lem (Closed n) t = ap (low_bytes 8 2 ++◌) (append-nil (eight_bytes (tick_at n)) ∙ tick-bytes n t)

pub bound_length : (b : Bound) → Ticked b → length (bound_bytes b) ≡ 16
bound_length b t =
    ap length (bound_bytes_lem b t)
    ∙ omega (arith, length-append (low_bytes 8 (kind_of b)) (low_bytes 8 (bits_of b)), low_bytes-length 8 (kind_of b), low_bytes-length 8 (bits_of b))

pub bound_placed : (b : Bound) → Ticked b → (at : ℕ) (old : List ℕ) → at + 16 ≤ length old
    → placed (at + 8) (low_bytes 8 (bits_of b)) (placed at (low_bytes 8 (kind_of b)) old) ≡ placed at (bound_bytes b) old
bound_placed b t at old h =
    rw (bound_bytes_lem b t) (placed-both at 8 (low_bytes 8 (kind_of b)) (low_bytes 8 (bits_of b)) old (low_bytes-length 8 (kind_of b)) (omega arith))

-- ---- lists
abbrev pub list_bytes : List Interval → List ℕ
list_bytes l = flat_map eight_bytes (list_numbers (map interval_of l))

pub nothing_written : (old : List ℕ) → (old ≡ overwrite old (list_bytes [])) × (length (list_bytes []) ≡ 0)
unfolding flat_map
nothing_written old = (refl, refl)

flat_map_append : {A B : Type 0} (f : A → List B) (l m : List A) → flat_map f (l ++ m) ≡ flat_map f l ++ flat_map f m
unfolding flat_map
flat_map_append f [] m = refl
flat_map_append f (x ∷ l) m = ap (f x ++◌) (flat_map_append f l m) ∙ sym (append_assoc (f x) (flat_map f l) (flat_map f m))

list_bytes_snoc : (l : List Interval) (v : Interval) → list_bytes (l ++ v ∷ []) ≡ list_bytes l ++ interval_bytes v
unfolding flat_map
list_bytes_snoc [] v = rw append-nil (flat_map_append eight_bytes (bound_numbers (bound_of v.low)) (bound_numbers (bound_of v.high)))
list_bytes_snoc (w ∷ l) v =
    let a = bound_numbers (bound_of w.low) ++ bound_numbers (bound_of w.high) in
    flat_map_append eight_bytes a (list_numbers (map interval_of (l ++ v ∷ [])))
    ∙ ap (flat_map eight_bytes a ++◌) (list_bytes_snoc l v)
    ∙ sym (append_assoc (flat_map eight_bytes a) (list_bytes l) (interval_bytes v))
    ∙ ap (◌++ interval_bytes v) (sym (flat_map_append eight_bytes a (list_numbers (map interval_of l))))

pub interval-length : (v : Interval) → Ticked v.low → Ticked v.high → length (interval_bytes v) ≡ 32
interval-length v t u = omega (arith, length-append (bound_bytes v.low) (bound_bytes v.high), bound_length v.low t, bound_length v.high u)

-- one more interval after k of them
module _ (items : List Interval) (old now : List ℕ) (k : ℕ) (h : k < length items) (d : Interval) (e : now ≡ overwrite old (list_bytes (take k items)))
    (n : length (list_bytes (take k items)) ≡ 32 * k) (room : 32 * k ≤ length old) where
  more_items : take (k + 1) items ≡ take k items ++ get_or items k d ∷ []
  more_items = rw add-one (take-suc items k d h)

  pub written_more : placed (32 * k) (interval_bytes (get_or items k d)) now ≡ overwrite old (list_bytes (take (k + 1) items))
  written_more =
      let v = get_or items k d in
      let b = list_bytes (take k items) in
      let z : 32 * k ≡ 0 + length b = omega arith in
      rw (more_items, list_bytes_snoc (take k items) v, overwrite-placed, e, overwrite-placed, z) (sym (placed-append 0 b (interval_bytes v) old (omega arith)))

  pub length_more : Ticked (get_or items k d).low → Ticked (get_or items k d).high → length (list_bytes (take (k + 1) items)) ≡ 32 * (k + 1)
  length_more t u =
      let v = get_or items k d in
      rw (more_items, list_bytes_snoc (take k items) v) (omega (arith, length-append (list_bytes (take k items)) (interval_bytes v), interval-length v t u))
