-- The first child of each side of an interval, found in a walk over the children.
use Prim.Native.Nat.{ℕ}
use mathlib.Core.Path.{◌≡◌, refl, sym, ◌∙◌}
use mathlib.Core.Bool.{true, false}
use mathlib.Core.List.{List}
use Rattle.std.specs.Prelude.{Option, Some, None, is_some, unwrap_or}
use Rattle.rules.specs.Basics.{bytes, same}
use Rattle.rules.specs.Markup.{Nodes, end, node, Element}
use Rattle.rules.specs.Invariants.{child_named}
use Rattle.rules.proofs.Tests.{clash}
use Rattle.datatype.specs.Said.{said_meant, said_by, said_named}
use Rattle.datatype.specs.Sides.{said_from, Passes}
use Rattle.datatype.specs.declared.said.Said.{Said}
use Rattle.datatype.specs.declared.said.Said.TheVariants.{Nothing}

-- one child more
module _ (shift : ℕ) (name : List ℕ) (v : Element) where
  pub seen_before : (f : Option Said) → is_some f ≡ true → Passes shift name v f f
  seen_before (Some x) z left = refl
  seen_before None z left = clash (cc)

  pub other_name : (f : Option Said) → is_some f ≡ false → same v.name name ≡ false → Passes shift name v f f
  unfolding child_named
  other_name (Some x) z d left = refl
  other_name None z d left = rw d

  pub seen_now : (f : Option Said) → is_some f ≡ false → same v.name name ≡ true → (x : Said) → said_meant x ≡ said_by shift v.attrs → Passes shift name v f (Some x)
  unfolding child_named
  seen_now (Some y) z d x e left = clash (cc)
  seen_now None z d x e left = rw (d, e)

-- what all the children say is what those passed say, and those left
abbrev pub Sought : (shift : ℕ) → (low high : Option Said) → (all left : Nodes) → Type 0
Sought shift low high all left =
    (said_named shift (bytes "low") all ≡ said_from shift (bytes "low") low left) × (said_named shift (bytes "high") all ≡ said_from shift (bytes "high") high left)

module _ (shift : ℕ) (low high : Option Said) where
  pub sought_goes : (v : Element) (first last : Option Said) → Passes shift (bytes "low") v low first → Passes shift (bytes "high") v high last
      → (all left : Nodes) → Sought shift low high all (node v.name v.attrs v.kids left) → Sought shift first last all left
  sought_goes v first last p q all left (x, y) = (x ∙ p left, y ∙ q left)

  pub sought_ends : (all : Nodes) → Sought shift low high all end
      → (said_meant (unwrap_or low Nothing) ≡ said_named shift (bytes "low") all) × (said_meant (unwrap_or high Nothing) ≡ said_named shift (bytes "high") all)
  unfolding child_named
  sought_ends all (x, y) = (told (bytes "low") low ∙ sym x, told (bytes "high") high ∙ sym y)
    where
      told : (name : List ℕ) (f : Option Said) → said_meant (unwrap_or f Nothing) ≡ said_from shift name f end
      told name (Some x) = refl
      told name None = refl
