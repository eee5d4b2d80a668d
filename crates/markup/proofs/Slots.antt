-- Names in slots: one whose slot is free is none of those before, whose slots are taken.
use Prim.Native.Nat.{ℕ, ◌-◌, ◌<◌}
use mathlib.Core.Path.{◌≡◌, refl, sym, ◌∙◌}
use mathlib.Core.Bool.{Bool, true, false}
use mathlib.Core.List.{List}
use native.Mathlib.Omega.{arith}
use borrow.Author.Tests.{eqb-true, eqb-false}
use lib.Dec.{eqb}
use lib.ListN.{length, take, drop, get_or, set}
use lib.Seq.{get_or-set_same, get_or-set_other}
use Rattle.rules.specs.Markup.{some_space}
use Rattle.rules.proofs.Tests.{clash}
use Rattle.text.specs.Reads.{Good}
use Rattle.markup.specs.Attributes.{AttributeTo}
use Rattle.markup.specs.Marks.{slot_of}
use Rattle.markup.proofs.Apart.{known-not}
use Rattle.markup.proofs.Begun.{Begun, begun_more}

abbrev pub HasSlot : List Bool → List ℕ → Type 0
HasSlot t n = get_or t (slot_of n) false ≡ true

slot_not : (t : List Bool) (n : List ℕ) {k : ℕ} → k ≡ slot_of n → get_or t k false ≡ false → HasSlot t n → ⊥
slot_not t n {k} e f h = let z : get_or t k false ≡ true = rw e h in clash (cc)

module _ (t : List Bool) {k : ℕ} (l : k < length t) where
  slot_put : (n : List ℕ) → k ≡ slot_of n → HasSlot (set t k true) n
  slot_put n e = rw (← e) (get_or-set_same t k true false l)

  slot_stays : (n : List ℕ) → HasSlot t n → HasSlot (set t k true) n
  slot_stays n h = go (eqb (slot_of n) k) refl
    where
      go : (b : Bool) → eqb (slot_of n) k ≡ b → HasSlot (set t k true) n
      go true e = slot_put n (sym (eqb-true (slot_of n) k e))
      go false e = get_or-set_other t k (slot_of n) true false (eqb-false (slot_of n) k e) ∙ h

-- an attribute more, whose name's slot is free
pub slot_more : {s : List ℕ} {at i j n q e k : ℕ} (t : List Bool) → length t ≡ 64 → Begun (HasSlot t) s at i → Good 1 some_space s i j → AttributeTo s j n q e
    → k ≡ slot_of (take (n - j) (drop j s)) → k < 64 → get_or t k false ≡ false → Begun (HasSlot (set t k true)) s at e
slot_more {s} {j = j} {n = n} {k = k} t m b g a e l f =
    let name = take (n - j) (drop j s) in
    let in_table : k < length t = omega arith in
    begun_more b g a (HasSlot (set t k true)) (known-not (HasSlot t) name b.names b.known (slot_not t name e f)) (slot_stays t in_table) (slot_put t in_table name e)
