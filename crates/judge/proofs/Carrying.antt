-- The first fault of the attribute of a number.
use Prim.Native.Nat.{ℕ, ◌≤◌, ◌<◌}
use mathlib.Core.Path.{◌≡◌, refl}
use mathlib.Core.Bool.{false, ◌&&◌, and-false}
use mathlib.Core.List.{List}
use mathlib.Core.Option.{Option, none, some}
use native.Mathlib.Omega.{arith}
use lib.ListN.{length, drop}
use Rattle.rules.specs.Basics.{bytes, same, begins}
use Rattle.rules.specs.Refusal.{Refusal, SHAPE, first_of}
use Rattle.rules.specs.Parsers.{ok}
use Rattle.rules.specs.Markup.{Attribute, lookup, value}
use Rattle.rules.specs.Forms.{Form, timestamp, form_faults}
use Rattle.rules.specs.Types.{Kind, TS, line_of}
use Rattle.rules.specs.Judge.{Standing, top, member, inside, is_top, attribute_faults}
use Rattle.element.specs.Names.{known, name_at}
use Rattle.element.specs.Tags.{Place}
use Rattle.element.proofs.Asked.{standing}
use Rattle.datatype.specs.Tables.{form_among, columns_of}
use Rattle.datatype.specs.Said.{time_fault}
use Rattle.judge.specs.Carried.{fault_at}
use Rattle.judge.proofs.AttributeFaults.{unknown-fault, form-fault}
use Rattle.judge.proofs.Strange.{plain}

module _ (shift : ℕ) (p : Standing) where
  not_ignored : (n : ℕ) → n < known → (is_top p && begins (bytes "xmlns") (name_at n)) ≡ false
  not_ignored n h = rw (plain n h) (and-false (is_top p))

  module _ (k : Kind) (n : ℕ) (h : n < known) (l : List Attribute) {s : List ℕ} {q : ℕ} (at : Place s (lookup (name_at n) l) q) (there : 0 < q) where
    pub shape_at : form_among (columns_of p k) (name_at n) ≡ none → some SHAPE ≡ fault_at (attribute_faults shift p k) l n
    shape_at z = let v = standing at (λ w. absurd (omega (arith, w, there))) in rw v.is (unknown-fault shift p k _ (not_ignored n h) z)

    pub form-at : {f : Form} {o : Option Refusal} → form_among (columns_of p k) (name_at n) ≡ some f
        → ((v : List ℕ) (e : ℕ) → e ≤ length s → value (drop q s) ≡ ok v (drop e s) → o ≡ first_of (form_faults shift f v)) → o ≡ fault_at (attribute_faults shift p k) l n
    form-at z g =
        let v = standing at (λ w. absurd (omega (arith, w, there))) in
        rw v.is (form-fault shift p k _ (not_ignored n h) z (g v.text v.end v.high v.reads))

  -- that of the value of a TS is that of its timestamp
  pub time-at : (l : List Attribute) → time_fault shift l ≡ fault_at (attribute_faults shift p TS) l 0
  unfolding form_faults line_of same
  time-at l = go (lookup (bytes "value") l) refl
    where
      column : (p : Standing) → form_among (columns_of p TS) (bytes "value") ≡ some timestamp
      column top = refl
      column member = refl
      column inside = refl

      go : (o : Option (List ℕ)) → lookup (bytes "value") l ≡ o → time_fault shift l ≡ fault_at (attribute_faults shift p TS) l 0
      go none e = rw e
      go (some v) e = rw e (form-fault shift p TS _ (not_ignored 0 (omega arith)) (column p) refl)
