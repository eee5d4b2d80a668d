-- What a child is judged as, by the step that it is.
use Prim.Native.Nat.{ℕ}
use mathlib.Core.Path.{◌≡◌, refl, sym, ◌∙◌, ap}
use mathlib.Core.Option.{Option, none, some}
use Rattle.rules.specs.Basics.{if_some}
use Rattle.rules.specs.Refusal.{TYPE, SHAPE, first_of}
use Rattle.rules.specs.Markup.{Element}
use Rattle.rules.specs.Types.{member_types, type_among, typed}
use Rattle.rules.specs.Judge.{element_faults}
use Rattle.refusal.specs.Meaning.{refusal_of, fault_of}
use Rattle.refusal.specs.declared.Refusal.{Refusal as CodeRefusal}
use Rattle.refusal.specs.declared.Refusal.TheVariants.{«Type», Shape}
use Rattle.std.specs.Prelude.{Option as StdOption, Some, None, Ok}
use Rattle.datatype.specs.Meaning.{type_meant}
use Rattle.datatype.specs.Said.{nothing}
use Rattle.datatype.specs.Tables.{Step, step_meant}
use Rattle.datatype.specs.declared.kind.Kind.{Kind}
use Rattle.datatype.specs.declared.kind.Kind.TheVariants.{Part}
use Rattle.datatype.specs.declared.table.Standing.TheVariants.{Member, Inside}
use Rattle.datatype.specs.declared.table.Step.{Step as CodeStep}
use Rattle.datatype.specs.declared.table.Step.TheVariants.{Always, Typed}
use Rattle.judge.specs.Faults.{child_judged}
use Rattle.judge.specs.Rows.{child_said, AskedAs}
use Rattle.judge.specs.declared.row.Asked.{Asked}

module _ (shift stage : ℕ) (v : Element) where
  -- a child that is refused
  refused_as : (o : Option Step) (q : CodeRefusal) (a : Asked) → first_of (child_judged shift o v) ≡ some (refusal_of q) → child_said shift o v ≡ nothing → (to : ℕ) → to ≡ if_some o (λ t. t.to) stage
      → (fault_of a.fault ≡ some (refusal_of q)) × (a.kind ≡ Part) × (a.stage ≡ to) → AskedAs shift o stage v a
  refused_as o q a e f to g h = record { fault = rw (h.0, e); said = rw (h.1, f); to = h.2 ∙ g }

  -- a member of a set
  pub asked_member : {r : StdOption Kind} {k : Kind} (to : ℕ) → r ≡ Some k → type_meant r ≡ type_among member_types v.attrs
      → AskedAs shift (some (record { kind = typed; to = to })) stage v (record { fault = Ok tt; kind = k; standing = Member; stage = to })
  asked_member to z h = let e = sym h ∙ ap type_meant z in record { fault = rw e; said = rw e; to = refl }

  pub asked_none : {r : StdOption Kind} (to : ℕ) (a : Asked) → r ≡ None → type_meant r ≡ type_among member_types v.attrs
      → (fault_of a.fault ≡ some TYPE) × (a.kind ≡ Part) × (a.stage ≡ to) → AskedAs shift (some (record { kind = typed; to = to })) stage v a
  unfolding element_faults first_of
  asked_none to a z h = let e = sym h ∙ ap type_meant z in refused_as (some (record { kind = typed; to = to })) «Type» a (rw e) (rw e) to refl

  -- by the step
  module _ (o : Option Step) {n : StdOption CodeStep} (is : step_meant n ≡ o) where
    pub asked_inside : {k : Kind} {to : ℕ} → n ≡ Some (Always k to) → AskedAs shift o stage v (record { fault = Ok tt; kind = k; standing = Inside; stage = to })
    asked_inside z = rw (← is, z) (record { fault = refl; said = refl; to = refl })

    pub asked_typed : {to : ℕ} (a : Asked) → n ≡ Some (Typed to) → AskedAs shift (some (record { kind = typed; to = to })) stage v a → AskedAs shift o stage v a
    asked_typed a z h = rw (← is, z) h

    pub asked_nothing : (a : Asked) → n ≡ None → (fault_of a.fault ≡ some SHAPE) × (a.kind ≡ Part) × (a.stage ≡ stage) → AskedAs shift o stage v a
    unfolding first_of
    asked_nothing a z = rw (← is, z) (refused_as none Shape a refl refl stage refl)
