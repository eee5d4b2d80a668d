-- A name is the bytes that it was read from.
use Prim.Native.Nat.{ℕ, ◌+◌, ◌-◌, ◌≤◌}
use mathlib.Core.Path.{◌≡◌, refl, sym, ap}
use mathlib.Core.Bool.{Bool, true, false, cond}
use mathlib.Core.List.{List, [], ◌∷◌, ◌++◌}
use native.Mathlib.Omega.{arith}
use lib.ListN.{length, take, drop, length-drop, length-append}
use lib.Seq.{take_at}
use Rattle.rules.specs.Parsers.{bad, ok, next, pure, ◌>>=◌, front, after, one, many}
use Rattle.rules.specs.Markup.{is_name_start, is_name_byte, name}
use Rattle.rules.proofs.Tests.{clash}

front-after : (p : ℕ → Bool) (s : List ℕ) → front p s ++ after p s ≡ s
unfolding front after
front-after p [] = refl
front-after p (c ∷ s) = go (p c) (front-after p s)
  where
    go : (b : Bool) → front p s ++ after p s ≡ s → cond b (c ∷ front p s) [] ++ cond b (after p s) (c ∷ s) ≡ c ∷ s
    go true e = ap (λ (l : List ℕ). c ∷ l) e
    go false e = refl

name-append : (s a r : List ℕ) → name s ≡ ok a r → s ≡ a ++ r
unfolding name one many
name-append [] a r e = clash (cc)
name-append (c ∷ s) a r e = go (is_name_start c) e
  where
    go : (b : Bool) → next (cond b (ok c s) bad) (λ x. many is_name_byte >>= (λ xs. pure (x ∷ xs))) ≡ ok a r → c ∷ s ≡ a ++ r
    go true e =
        let h : front is_name_byte s ++ after is_name_byte s ≡ s = front-after is_name_byte s in
        let d : c ∷ front is_name_byte s ≡ a = cc in
        let f : after is_name_byte s ≡ r = cc in
        rw (← d, ← f) (ap (λ (l : List ℕ). c ∷ l) (sym h))
    go false e = clash (cc)

pub name_is : (s : List ℕ) (i j : ℕ) (a : List ℕ) → i + 1 ≤ j → j ≤ length s → name (drop i s) ≡ ok a (drop j s) → a ≡ take (j - i) (drop i s)
name_is s i j a l h q =
    let e : drop i s ≡ a ++ drop j s = name-append (drop i s) a (drop j s) q in
    let n : length (drop i s) ≡ length (a ++ drop j s) = ap length e in
    rw e (sym (take_at a (drop j s) (j - i) (omega (arith, n, length-drop i s, length-drop j s, length-append a (drop j s)))))
