-- The faults of an attribute, by the form that its column asks for.
use Prim.Native.Nat.{ℕ}
use mathlib.Core.Path.{◌≡◌, refl}
use mathlib.Core.Bool.{Bool, true, false, ◌&&◌, cond}
use mathlib.Core.List.{List, [], ◌∷◌}
use mathlib.Core.Option.{Option, none, some}
use Rattle.rules.specs.Basics.{if_some, find, bytes, same, begins}
use Rattle.rules.specs.Refusal.{Refusal, SHAPE, first_of}
use Rattle.rules.specs.Markup.{Attribute}
use Rattle.rules.specs.Forms.{Form, form_faults}
use Rattle.rules.specs.Types.{Kind}
use Rattle.rules.specs.Judge.{Standing, is_top, attribute_faults}
use Rattle.datatype.specs.Tables.{pick, form_among, columns_of}

-- f of what is found is what is picked by f
pub picked : {A B C : Type 0} (p : A → Bool) (f : A → B) (g : B → C) (z : C) (l : List A) → if_some (find p l) (λ a. g (f a)) z ≡ if_some (pick p f l) g z
unfolding find
picked p f g z [] = refl
picked p f g z (a ∷ l) = go (p a) (picked p f g z l)
  where
    go : (b : Bool) → if_some (find p l) (λ a. g (f a)) z ≡ if_some (pick p f l) g z
        → if_some (cond b (some a) (find p l)) (λ a. g (f a)) z ≡ if_some (cond b (some (f a)) (pick p f l)) g z
    go true h = refl
    go false h = h

module _ (shift : ℕ) (p : Standing) (k : Kind) (a : Attribute) where
  pub ignored_fault : (is_top p && begins (bytes "xmlns") a.name) ≡ true → none ≡ first_of (attribute_faults shift p k a)
  unfolding attribute_faults first_of
  ignored_fault e = rw e

  by_form : (is_top p && begins (bytes "xmlns") a.name) ≡ false
      → attribute_faults shift p k a ≡ if_some (form_among (columns_of p k) a.name) (λ f. form_faults shift f a.value) (SHAPE ∷ [])
  unfolding attribute_faults
  by_form e = rw e (picked (λ c. same c.name a.name) (λ c. c.form) (λ f. form_faults shift f a.value) (SHAPE ∷ []) (columns_of p k))

  pub unknown-fault : (is_top p && begins (bytes "xmlns") a.name) ≡ false → form_among (columns_of p k) a.name ≡ none → some SHAPE ≡ first_of (attribute_faults shift p k a)
  unfolding first_of
  unknown-fault e z = rw (by_form e, z)

  pub form-fault : {f : Form} {o : Option Refusal} → (is_top p && begins (bytes "xmlns") a.name) ≡ false → form_among (columns_of p k) a.name ≡ some f
      → o ≡ first_of (form_faults shift f a.value) → o ≡ first_of (attribute_faults shift p k a)
  form-fault e z h = rw (by_form e, z) h
