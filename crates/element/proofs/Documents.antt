-- The root of a document.
use Prim.Native.Nat.{ℕ}
use mathlib.Core.Path.{◌≡◌, ◌∙◌, ap}
use mathlib.Core.List.{List}
use mathlib.Core.Option.{some}
use native.Mathlib.Omega.{arith}
use lib.ListN.{length, drop, length-drop}
use Rattle.rules.specs.Parsers.{ok, pure, ◌>>=◌, ◌>>◌, sized}
use Rattle.rules.specs.Markup.{space, Element, element, document}
use Rattle.rules.proofs.Parsers.{next-ok, whole-ok}
use Rattle.text.specs.Reads.{Good}
use Rattle.element.specs.Tags.{ElementTo}

pub root-at : {s : List ℕ} {i : ℕ} → Good 0 space s 0 i → (v : Element) → document s ≡ some v → (after : List ℕ) × ElementTo s i 8 v after
unfolding document
root-at {s} {i} g v q =
    next-ok (sized (λ n. element n 8) (drop i s)) (λ a. space >> pure a) (rw g.reads at (whole-ok (space >> (sized (λ n. element n 8) >>= (λ a. space >> pure a))) s q)) (λ a t x r.
    next-ok (space t) (λ w. pure a) r (λ w u y r₁.
    let z : a ≡ v = cc in
    (t, record { fuel = length (drop i s); enough = rw length-drop (omega arith); reads = x ∙ ap (λ (p : Element). ok p t) z })))
