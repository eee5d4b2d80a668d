-- The tag with which an element begins, and where there is none.
use Rattle.std.specs.Prelude.{Option, Some, None}
use Prim.Native.Nat.{ℕ, zero, suc, ◌≤◌, ◌<◌}
use mathlib.Core.Path.{◌≡◌, refl, sym, subst}
use mathlib.Core.List.{List}
use native.Mathlib.Omega.{arith}
use lib.ListN.{length, drop}
use Rattle.rules.specs.Basics.{bytes}
use Rattle.rules.specs.Parsers.{bad, byte, literal}
use Rattle.rules.specs.Markup.{name, tag_attributes, element}
use Rattle.text.specs.Reads.{Good, Reads}
use Rattle.text.proofs.Reading.{none_of, then, then_not, last, second}
use Rattle.markup.specs.Tags.{HeadTo, HeadAt, head, no_head, TagTo, TagAt, empty_tag, open_tag, no_tag}
use Rattle.markup.specs.declared.tag.Head.{Head}
use Rattle.markup.specs.declared.tag.Tag.{Tag}

-- what an answer says once its case is known
pub head_at : {s : List ℕ} {at : ℕ} {x : Head} → HeadAt s at (Some x) → HeadTo s at x.name x.name_end
head_at (head n m t) = t

pub head_not_at : {s : List ℕ} {at : ℕ} → HeadAt s at None → (f d : ℕ) → element f d (drop at s) ≡ bad
head_not_at (no_head b) = b

pub head-not : {s : List ℕ} {at : ℕ} {r : Option Head} → r ≡ None → HeadAt s at None → HeadAt s at r
head-not {s} {at} q h = subst (λ (y : Option Head). HeadAt s at y) (sym q) h

pub tag-not : {s : List ℕ} {at : ℕ} {r : Option Tag} → r ≡ None → TagAt s at None → TagAt s at r
tag-not {s} {at} q h = subst (λ (y : Option Tag). TagAt s at y) (sym q) h

-- where a tag stands
pub tag-bounds : {s : List ℕ} {at : ℕ} {x : Tag} → TagAt s at (Some x) → (at < x.end) × (x.end ≤ length s) × (x.name ≤ x.name_end) × (x.name_end ≤ length s)
tag-bounds (empty_tag n m i e t g) =
    (omega (arith, t.begins.less.low, t.begins.named.low, t.attrs.low, t.gap.low, g.low), g.high, omega (arith, t.begins.named.low), t.begins.named.high)
tag-bounds (open_tag n m i e t b g) =
    (omega (arith, t.begins.less.low, t.begins.named.low, t.attrs.low, t.gap.low, g.low), g.high, omega (arith, t.begins.named.low), t.begins.named.high)

-- no element begins at a position, whatever the fuel and the depth
never : {s : List ℕ} {at : ℕ} → ((f d : ℕ) → Reads 1 (element (suc f) (suc d)) s at None) → (f d : ℕ) → element f d (drop at s) ≡ bad
unfolding element
never h zero d = refl
never h (suc f) zero = refl
never h (suc f) (suc d) = none_of _ (h f d)

module _ {s : List ℕ} {at : ℕ} where
  pub no_less : Reads 1 (byte 60) s at None → HeadAt s at None
  unfolding element
  no_less b = no_head (never (λ f d. then_not _ _ b))

  pub no_name : {n : ℕ} → Good 1 (byte 60) s at n → Reads 1 name s n None → HeadAt s at None
  unfolding element
  no_name o b = no_head (never (λ f d. then _ _ o (λ x p. then_not _ _ b)))

  pub no_attributes : {n m : ℕ} → HeadTo s at n m → Reads 0 tag_attributes s m None → TagAt s at None
  unfolding element
  no_attributes t b = no_tag (never (λ f d. then _ _ t.less (λ x p. then _ _ t.named (λ x p. then_not _ _ b))))

  pub no_end : {n m i : ℕ} → TagTo s at n m i → Reads 2 (literal (bytes "/>")) s i None → Reads 1 (byte 62) s i None → TagAt s at None
  unfolding element
  no_end t b c = no_tag (never (λ f d. then _ _ t.begins.less (λ x p. then _ _ t.begins.named (λ x p. then _ _ t.attrs (λ x p. then _ _ t.gap (λ x p. last _ _ (second _ _ (last _ _ b) (then_not _ _ c))))))))
