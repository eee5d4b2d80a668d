-- What an accepted MO says, from its tag.
use Rattle.std.proofs.Common.{◌≡◌, ℕ, Bool, true, false, cond, List, [], ◌∷◌, ℤ, sym, refl, ap, ◌∙◌, rules}
use mathlib.Core.Option.{none, some}
use denote.Enum.Bare.{sameb, same_true, same_false}
use Rattle.datatype.specs.contracts.kind.Kind.{the_type}
use Rattle.rules.specs.Basics.{if_some, find, bytes}
use Rattle.rules.specs.Markup.{Element, lookup}
use Rattle.rules.specs.Forms.{is_currency}
use Rattle.rules.specs.Invariants.{is_null}
use Rattle.rules.specs.Types.{Kind as RulesKind, MO, all_types, has_type}
use Rattle.rules.specs.Judge.{top_faults}
use Rattle.rules.specs.Comparison.{amount_of}
use Rattle.rules.specs.Totals.{null, money, entry_of}
use Rattle.rules.specs.TotalNumbers.{currency_number, currency_in, total_in}
use Rattle.rules.proofs.Tests.{clash}
use Rattle.rules.proofs.TotalNumbers.{currency-read}
use Rattle.rules.proofs.TotalReading.{is-null, is-money, type-money, entry_faultless}
use Rattle.form.specs.Amounts.{code_of}
use Rattle.datatype.specs.Meaning.{kind_meant}
use Rattle.datatype.specs.Records.{RecordOf}
use Rattle.datatype.specs.declared.record.Record.{Record}
use Rattle.datatype.specs.declared.kind.Kind.{Kind}
use Rattle.datatype.specs.declared.kind.Kind.TheVariants.{Ts, IvlTs, QsuTs, QsiTs, QsdTs, Mo, Ii, Cd, En, DisplayName, Part}

-- the kind that a type is found as
found : (p : RulesKind → Bool) (kinds : List RulesKind) {k : RulesKind} → find p kinds ≡ some k → p k ≡ true
unfolding find
found p [] e = clash (cc)
found p (j ∷ kinds) {k} e = go (p j) refl e (found p kinds)
  where
    go : (b : Bool) → p j ≡ b → cond b (some j) (find p kinds) ≡ some k → (find p kinds ≡ some k → p k ≡ true) → p k ≡ true
    go true f e below = let z : j ≡ k = cc in rw z at f
    go false f e below = below e

is_mo : {s : List ℕ} {e : Element} {r : Record} → RecordOf s e r → r.kind ≡ Mo → true ≡ has_type e.attrs MO
is_mo {s} {e} {r} h z = sym (found (has_type e.attrs) all_types (h.kind ∙ ap (λ k. some (kind_meant k)) z))

other-kind : (k : Kind) → (k ≡ Mo → ⊥) → kind_meant k ≡ MO → ⊥
other-kind Ts e z = clash (cc)
other-kind IvlTs e z = clash (cc)
other-kind QsuTs e z = clash (cc)
other-kind QsiTs e z = clash (cc)
other-kind QsdTs e z = clash (cc)
other-kind Mo e z = e refl
other-kind Ii e z = clash (cc)
other-kind Cd e z = clash (cc)
other-kind En e z = clash (cc)
other-kind DisplayName e z = clash (cc)
other-kind Part e z = clash (cc)

is-other : {s : List ℕ} {e : Element} {r : Record} → RecordOf s e r → (r.kind ≡ Mo → ⊥) → false ≡ has_type e.attrs MO
is-other {s} {e} {r} h o = go (has_type e.attrs MO) refl
  where
    go : (b : Bool) → has_type e.attrs MO ≡ b → false ≡ b
    go false f = refl
    go true f = let z = type-money e.attrs f in absurd (other-kind r.kind o (cc (z, h.kind)))

pub mo_told : {s : List ℕ} {e : Element} {r : Record} → RecordOf s e r → sameb the_type r.kind Mo ≡ has_type e.attrs MO
mo_told {s} {e} {r} h = go (sameb the_type r.kind Mo) refl
  where
    go : (b : Bool) → sameb the_type r.kind Mo ≡ b → b ≡ has_type e.attrs MO
    go true z = is_mo h (same_true the_type (search rules) r.kind Mo z)
    go false z = is-other h (same_false the_type r.kind Mo z)

-- what an element says that has no fault
module _ (e : Element) (shift : ℕ) (faultless : top_faults shift e ≡ []) (mo : has_type e.attrs MO ≡ true) where
  pub null-read : true ≡ is_null e.attrs → null ≡ entry_of e.attrs
  null-read n = rw (← n)

  pub no_amount-read : none ≡ amount_of e.attrs → null ≡ entry_of e.attrs
  no_amount-read a = elim (entry_faultless shift e faultless mo) [
    | is-null n m ↦ sym m
    | is-money c z n l i b m ↦ clash (cc)
  ]

  pub amount-read : (c n : ℕ) {z : ℤ} → false ≡ is_null e.attrs → some z ≡ amount_of e.attrs → total_in n ≡ z → c ≡ if_some (lookup (bytes "currency") e.attrs) code_of 0
      → (is_currency (currency_in c) ≡ true) × (money (currency_in c) (total_in n) ≡ entry_of e.attrs)
  amount-read c n {z} p a t d = elim (entry_faultless shift e faultless mo) [
    | is-null q m ↦ clash (cc)
    | is-money x y q l i b m ↦
        let k : c ≡ currency_number x = d ∙ rw (l, i) refl in
        let j : currency_in c ≡ x = ap currency_in k ∙ currency-read x i in
        let w : z ≡ y = cc in
        (rw j i, rw (j, t, w, m) refl)
  ]
