-- Each way through the readers of an element and of content.
use Rattle.std.specs.Prelude.{Option, Some, None}
use Prim.Native.Nat.{ℕ, zero, suc, ◌-◌}
use mathlib.Core.Path.{◌≡◌, refl, sym, subst}
use mathlib.Core.Bool.{true, false}
use mathlib.Core.List.{List}
use native.Mathlib.Omega.{arith}
use lib.ListN.{take, drop}
use Rattle.rules.specs.Markup.{space, end_tag, element, content}
use Rattle.rules.proofs.Tests.{clash}
use Rattle.text.specs.Reads.{Good, Reads, upto, none}
use Rattle.text.proofs.Reading.{good, any, then, then_not, last, first, second, stay}
use Rattle.markup.specs.Tags.{TagAt, empty_tag, open_tag, no_tag}
use Rattle.markup.specs.Elements.{ReadsElement, ReadsContent}
use Rattle.markup.specs.declared.tag.Tag.{Tag}
use Rattle.markup.proofs.Names.{name_is}

module _ {s : List ℕ} {at : ℕ} where
  pub too_deep : (depth : ℕ) → depth ≡ 0 → ReadsElement s at depth None
  unfolding element
  too_deep depth e zero h = none refl
  too_deep zero e (suc f) h = none refl
  too_deep (suc d) e (suc f) h = absurd (omega arith)

  pub no_element : (depth : ℕ) → TagAt s at None → ReadsElement s at depth None
  no_element depth (no_tag b) f h = none (b f depth)

  pub empty-element : {x : Tag} (depth : ℕ) → (depth ≡ 0 → ⊥) → x.full ≡ false → TagAt s at (Some x) → ReadsElement s at depth (Some x.end)
  unfolding element
  empty-element depth z w (empty_tag n m i e t g) zero h = absurd (omega (arith, t.begins.less.low, t.begins.less.high))
  empty-element zero z w (empty_tag n m i e t g) (suc f) h = absurd (z refl)
  empty-element depth z w (open_tag n m i e t b g) f h = clash (cc)
  empty-element (suc d) z w (empty_tag n m i e t g) (suc f) h =
      then _ _ t.begins.less (λ x p. then _ _ t.begins.named (λ x p. then _ _ t.attrs (λ x p. then _ _ t.gap (λ x p. last _ _ (first _ _ (last _ _ (upto e g)))))))

  pub full-element : {x : Tag} {k : ℕ} {r : Option ℕ} (depth : ℕ) → (depth ≡ 0 → ⊥) → x.full ≡ true → TagAt s at (Some x) → ReadsContent s x.end (depth - 1) k
      → Reads 1 (end_tag (take (x.name_end - x.name) (drop x.name s))) s k r → ReadsElement s at depth r
  unfolding element
  full-element depth z w (open_tag n m i e t b g) c x zero h = absurd (omega (arith, t.begins.less.low, t.begins.less.high))
  full-element zero z w (open_tag n m i e t b g) c x (suc f) h = absurd (z refl)
  full-element depth z w (empty_tag n m i e t g) c x f h = clash (cc)
  full-element {k = k} {r} (suc d) z w (open_tag n m i e t b g) c x (suc f) h =
      let inner : Reads 0 (content f d) s e (Some k) = subst (λ (y : ℕ). Reads 0 (content f y) s e (Some k)) (omega arith)
      (c f (omega (arith, t.begins.less.low, t.begins.named.low, t.attrs.low, t.gap.low, g.low))) in
      then _ _ t.begins.less (λ y p. then _ _ t.begins.named (λ v p. then _ _ t.attrs (λ y p₁. then _ _ t.gap (λ y p₂. last _ _ (second _ _ (last _ _ b)
      (then _ _ g (λ y p₃. then _ _ (good inner) (λ y p₄. last _ _ (subst (λ (y : List ℕ). Reads 1 (end_tag y) s k r) (sym (name_is s n m v t.begins.named.low t.begins.named.high p)) x)))))))))

-- elements side by side: no more of them, or one and those after it
module _ {s : List ℕ} {at i : ℕ} (depth : ℕ) (g : Good 0 space s at i) where
  pub content-end : ReadsElement s i depth None → ReadsContent s at depth i
  unfolding content
  content-end b zero h = absurd (omega (arith, g.low, g.high))
  content-end b (suc f) h = then _ _ g (λ a p. second _ _ (then_not _ _ (b f (omega (arith, g.low)))) (stay _ s i g.high))

  pub content_more : {j : ℕ} → ReadsElement s i depth (Some j) → (k : ℕ) → ReadsContent s j depth k → ReadsContent s at depth k
  unfolding content
  content_more e k t zero h = absurd (omega (arith, g.low, g.high))
  content_more e k t (suc f) h =
      let x = good (e f (omega (arith, g.low))) in
      then _ _ g (λ a p. first _ _ (any (then _ _ x (λ a p. last _ _ (t f (omega (arith, g.low, x.low)))))))
