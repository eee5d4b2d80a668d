-- Values that can be written in one way alone, since no byte of them has a reference.
use Prim.Native.Nat.{ℕ}
use mathlib.Core.Path.{◌≡◌, refl, sym, ◌∙◌, ap}
use mathlib.Core.Bool.{Bool, true, false}
use mathlib.Core.List.{List, [], ◌∷◌, ◌++◌, append_assoc}
use lib.ListN.{length, drop}
use Rattle.rules.specs.Basics.{every, exists, same, begins}
use Rattle.rules.specs.Parsers.{ok}
use Rattle.rules.specs.Markup.{value}
use Rattle.rules.proofs.Tests.{clash, eqb_refl, same_true, same_refl}
use Rattle.rules.proofs.Writing.{is_bare, value_read}
use Rattle.rules.proofs.References.{is_referenced, Raw, plain, referred, value_decoded}
use Rattle.text.proofs.Sameness.{begins-append}

begins-itself : (a r : List ℕ) → begins a (a ++ r) ≡ true
unfolding begins
begins-itself [] r = refl
begins-itself (c ∷ a) r = rw (eqb_refl c) (begins-itself a r)

-- a value is such a text exactly if that stands there, in its quotes
pub quoted : (t : List ℕ) → every is_bare t ≡ true → exists is_referenced t ≡ false → (x v after : List ℕ) → value x ≡ ok v after
    → begins (34 ∷ t ++ 34 ∷ []) x ≡ same v t
quoted t bare un x v after q = go (begins (34 ∷ t ++ 34 ∷ []) x) refl (same v t) refl
  where
    in_quotes : (r : List ℕ) → (34 ∷ t ++ 34 ∷ []) ++ r ≡ 34 ∷ t ++ 34 ∷ r
    in_quotes r = ap (λ (l : List ℕ). 34 ∷ l) (append_assoc t (34 ∷ []) r)

    go : (b : Bool) → begins (34 ∷ t ++ 34 ∷ []) x ≡ b → (d : Bool) → same v t ≡ d → b ≡ d
    go true e true f = refl
    go false e false f = refl
    go true e false f =
        let r = drop (length (34 ∷ t ++ 34 ∷ [])) x in
        let y : value x ≡ ok t r = ap value (begins-append (34 ∷ t ++ 34 ∷ []) x e ∙ in_quotes r) ∙ value_read t r bare in
        let z : v ≡ t = cc (q, y) in
        clash (cc (f, ap (λ (l : List ℕ). same l t) z, same_refl t))
    go false e true f = let (raw, w, d) = value_decoded x q in let z = same_true v t f in raw_case raw w d z
      where
        raw_case : (raw : List ℕ) → x ≡ 34 ∷ raw ++ 34 ∷ after → Raw raw v → v ≡ t → false ≡ true
        raw_case raw w (plain y) z =
            clash (cc (e, ap (begins (34 ∷ t ++ 34 ∷ [])) (w ∙ ap (λ (l : List ℕ). 34 ∷ l ++ 34 ∷ after) (y ∙ z) ∙ sym (in_quotes after)), begins-itself (34 ∷ t ++ 34 ∷ []) after))
        raw_case raw w (referred f g) z = clash (cc (g, un, ap (exists is_referenced) z))
