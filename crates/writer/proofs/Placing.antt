-- Bytes placed one after another are placed together.
use Prim.Native.Nat.{ℕ, suc, ◌+◌, ◌/◌, ◌%◌, ◌≤◌, ◌<◌}
use mathlib.Core.Path.{◌≡◌, refl, sym, ap, ap₂, ◌∙◌}
use mathlib.Core.List.{List, [], ◌∷◌, ◌++◌, append_assoc, append-nil}
use native.Mathlib.Omega.{arith}
use native.Mathlib.Numerals.{add-one}
use lib.ListN.{length, set, take-append-drop, length-set, length-append}
use lib.Seq.{take-suc-set, drop-set-lt}
use Rattle.rules.specs.Basics.{digits_of}
use Rattle.rules.specs.Services.{overwrite}
use Rattle.writer.specs.Placing.{placed, Put}

pub placed-none : (at : ℕ) (old : List ℕ) → placed at [] old ≡ old
placed-none at old = let e : at + 0 ≡ at = omega arith in rw (e, append-nil) (take-append-drop at old)

-- the first byte, and then the others
pub placed-cons : (at b : ℕ) (bs old : List ℕ) → at < length old → placed at (b ∷ bs) old ≡ placed (at + 1) bs (set old at b)
placed-cons at b bs old h =
    let e : at + 1 + length bs ≡ at + suc (length bs) = omega arith in
    rw (e, drop-set-lt (at + suc (length bs)) old at b (omega arith), add-one, take-suc-set old at b h) (simp append_assoc)

pub placed-append : (at : ℕ) (a b old : List ℕ) → at + length a ≤ length old → placed at (a ++ b) old ≡ placed (at + length a) b (placed at a old)
placed-append at [] b old h = let e : at + 0 ≡ at = omega arith in ap₂ (λ (n : ℕ) (l : List ℕ). placed n b l) (sym e) (sym (placed-none at old))
placed-append at (x ∷ a) b old h =
    let e : at + 1 + length a ≡ at + suc (length a) = omega arith in
    placed-cons at x (a ++ b) old (omega arith)
    ∙ placed-append (at + 1) a b (set old at x) (rw length-set (omega arith))
    ∙ ap₂ (λ (n : ℕ) (l : List ℕ). placed n b l) e (sym (placed-cons at x a old (omega arith)))

-- the same, where the length of the first part is known
pub placed-both : (at n : ℕ) (a b old : List ℕ) → length a ≡ n → at + n ≤ length old → placed (at + n) b (placed at a old) ≡ placed at (a ++ b) old
placed-both at n a b old e h = rw (← e) (sym (placed-append at a b old (omega arith)))

pub placed-length : (at : ℕ) (new old : List ℕ) → at + length new ≤ length old → length (placed at new old) ≡ length old
placed-length at [] old h = ap length (placed-none at old)
placed-length at (x ∷ new) old h =
    ap length (placed-cons at x new old (omega arith)) ∙ placed-length (at + 1) new (set old at x) (rw length-set (omega arith)) ∙ length-set old at x

pub overwrite-placed : (old new : List ℕ) → overwrite old new ≡ placed 0 new old
overwrite-placed old new = let e : 0 + length new ≡ length new = omega arith in rw e refl

-- nothing is put
pub put-none : (at : ℕ) (x : List ℕ) → at ≤ length x → Put at [] x at x
put-none at x h = record { room = omega arith; next_is = omega arith; bytes_are = sym (placed-none at x) }

-- after one piece, what is left to place
pub put_rest : {at r : ℕ} {a x y : List ℕ} (b : List ℕ) → Put at a x r y → placed r b y ≡ placed at (a ++ b) x
put_rest {at} {r} {a} {x} {y} b p = rw (p.bytes_are, p.next_is) (sym (placed-append at a b x p.room))

-- one piece and then another are put as one
pub put_both : {at r q : ℕ} {a b x y z : List ℕ} → Put at a x r y → Put r b y q z → Put at (a ++ b) x q z
put_both {at} {r} {q} {a} {b} {x} {y} {z} p s =
    let n : length y ≡ length x = ap length p.bytes_are ∙ placed-length at a x p.room in
    let l = length-append a b in
    record {
      room = omega (arith, p.next_is, s.room);
      next_is = omega (arith, p.next_is, s.next_is);
      bytes_are = s.bytes_are ∙ put_rest b p;
    }

-- two digits are two bytes stored
pub pair_put : (at n : ℕ) (out : List ℕ) → at + 2 ≤ length out → n < 100 → set (set out at (48 + n / 10)) (at + 1) (48 + n % 10) ≡ placed at (digits_of 2 n) out
unfolding digits_of
pair_put at n out h l =
    let z : n / 10 % 10 ≡ n / 10 = omega arith in
    rw z (sym (placed-cons at (48 + n / 10) ((48 + n % 10) ∷ []) out (omega arith)
    ∙ placed-cons (at + 1) (48 + n % 10) [] (set out at (48 + n / 10)) (rw length-set (omega arith)) ∙ placed-none (at + 1 + 1) _))
