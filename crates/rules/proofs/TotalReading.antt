-- What the ladder gives for the totals of a day: a null, or an amount of a currency of the right form, of an accepted MO; or what checking refuses, and TYPE.
use Prim.Native.Nat.{ℕ}
use mathlib.Core.Path.{◌≡◌, refl}
use mathlib.Core.Logic.{◌↔◌}
use mathlib.Core.Bool.{Bool, true, false, not, ◌&&◌, ◌||◌, cond}
use mathlib.Core.List.{List, [], ◌∷◌, flat_map, append-eq-nil_iff}
use mathlib.Core.Option.{Option, none, some}
use borrow.Author.Tests.{not-false}
use lib.IntN.{ℤ}
use Rattle.rules.specs.Basics.{is_some, exactly_one, find, bytes, same, begins}
use Rattle.rules.specs.Refusal.{Refusal, TYPE, VALUE, Outcome, answered, refused, faults_in, faults_of, ◌when◌, ◌and_then◌}
use Rattle.rules.specs.Markup.{Attribute, Element, lookup}
use Rattle.rules.specs.Parsers.{whole}
use Rattle.rules.specs.Forms.{amount_text, is_currency, form_faults}
use Rattle.rules.specs.Invariants.{is_null}
use Rattle.rules.specs.Types.{Kind, MO, all_types, has_type, type_among, line_of}
use Rattle.rules.specs.Judge.{Standing, top, attribute_faults, element_faults, top_faults}
use Rattle.rules.specs.Check.{shift_by, element_of, check}
use Rattle.rules.specs.Comparison.{amount_of}
use Rattle.rules.specs.Totals.{Entry, null, money, entry_of, not_money, reading}
use Rattle.rules.proofs.Tests.{clash, same_true}
use Rattle.rules.proofs.Precedence.{when_none, unless_answered, unless_refused, check-answered}
use Rattle.rules.proofs.CheckRefusals.{Pass, none_left, one_more, pass-append, first_passes, is_of_record, check_refusals, type_passes}
use Rattle.rules.proofs.Members.{type-is, element_faultless}
use Rattle.rules.proofs.ListingCases.{check_faultless}

-- the text of an attribute of an element without fault has no fault
attribute_faultless : (shift : ℕ) (p : Standing) (k : Kind) (n : List ℕ) (faults : List ℕ → List Refusal)
    → ((a : Attribute) → a.name ≡ n → attribute_faults shift p k a ≡ faults a.value)
    → (attrs : List Attribute) (text : List ℕ) → flat_map (attribute_faults shift p k) attrs ≡ [] → lookup n attrs ≡ some text → faults text ≡ []
unfolding flat_map lookup
attribute_faultless shift p k n faults are [] text f l = clash (cc)
attribute_faultless shift p k n faults are (a ∷ attrs) text f l =
    let (g, h) = append-eq-nil_iff.0 f in go (same a.name n) refl g l (attribute_faultless shift p k n faults are attrs text h)
  where
    go : (b : Bool) → same a.name n ≡ b → attribute_faults shift p k a ≡ [] → cond b (some a.value) (lookup n attrs) ≡ some text
        → (lookup n attrs ≡ some text → faults text ≡ []) → faults text ≡ []
    go true d g l below = let z : a.value ≡ text = cc in rw (← z, ← are a (same_true a.name n d)) g
    go false d g l below = below l

module _ (shift : ℕ) where
  currency_faults : (a : Attribute) → a.name ≡ bytes "currency" → attribute_faults shift top MO a ≡ VALUE when not (is_currency a.value)
  unfolding attribute_faults line_of find same begins form_faults
  currency_faults a e = rw e

  value_faults : (a : Attribute) → a.name ≡ bytes "value" → attribute_faults shift top MO a ≡ VALUE when not (is_some (whole amount_text a.value))
  unfolding attribute_faults line_of find same begins form_faults
  value_faults a e = rw e

-- an element that names the type MO is of it
pub type-money : (attrs : List Attribute) → has_type attrs MO ≡ true → type_among all_types attrs ≡ some MO
unfolding find same
type-money attrs h = rw (type-is attrs MO h)

-- what an accepted MO says: null if it is null, else its amount, a number, and its currency, three capitals
pub data EntryOf (attrs : List Attribute) : Type 0 where
  is-null : is_null attrs ≡ true → entry_of attrs ≡ null → EntryOf attrs
  is-money : (c : List ℕ) (z : ℤ) → is_null attrs ≡ false → lookup (bytes "currency") attrs ≡ some c → is_currency c ≡ true → amount_of attrs ≡ some z
      → entry_of attrs ≡ money c z → EntryOf attrs

pub entry_faultless : (shift : ℕ) (e : Element) → top_faults shift e ≡ [] → has_type e.attrs MO ≡ true → EntryOf e.attrs
unfolding line_of
entry_faultless shift e c t =
    let f : element_faults shift top (some MO) e.attrs e.kids _ ≡ [] = rw (type-money e.attrs t) at c in
    let g = element_faultless shift top MO e.attrs e.kids _ f in
    go shift e.attrs g.0 (is_null e.attrs) (lookup (bytes "currency") e.attrs) (lookup (bytes "value") e.attrs) refl refl refl g.2
  where
    valued : (shift : ℕ) (attrs : List Attribute) (c text : List ℕ) (o : Option ℤ) → is_null attrs ≡ false → lookup (bytes "currency") attrs ≡ some c → lookup (bytes "value") attrs ≡ some text
        → is_currency c ≡ true → whole amount_text text ≡ o → is_some o ≡ true → EntryOf attrs
    valued shift attrs c text none n l v i w s = clash (cc)
    valued shift attrs c text (some z) n l v i w s = is-money c z n l i (rw (v, w)) (rw (n, l, v, w))

    go : (shift : ℕ) (attrs : List Attribute) → flat_map (attribute_faults shift top MO) attrs ≡ [] → (n : Bool) (o v : Option (List ℕ)) → is_null attrs ≡ n
        → lookup (bytes "currency") attrs ≡ o → lookup (bytes "value") attrs ≡ v
        → (exactly_one (is_some v) (is_some o) || not (is_some v) && not n) ≡ false → EntryOf attrs
    go shift attrs f true o v n l m b = is-null n (rw n)
    go shift attrs f false none none n l m b = clash (cc)
    go shift attrs f false none (some text) n l m b = clash (cc)
    go shift attrs f false (some c) none n l m b = clash (cc)
    go shift attrs f false (some c) (some text) n l m b =
        valued shift attrs c text (whole amount_text text) n l m
        (not-false _ (when_none VALUE _ (attribute_faultless shift top MO (bytes "currency") (λ t. VALUE when not (is_currency t)) (currency_faults shift) attrs c f l)))
        refl
        (not-false _ (when_none VALUE _ (attribute_faultless shift top MO (bytes "value") (λ t. VALUE when not (is_some (whole amount_text t))) (value_faults shift) attrs text f m)))

pub entry_cases : (offset : ℤ) (record' : List ℕ) (e : Element) → check offset record' ≡ answered e → has_type e.attrs MO ≡ true → EntryOf e.attrs
entry_cases offset record' e c t = entry_faultless (shift_by offset) e (check_faultless offset record' c) t

module _ (offset : ℤ) (record' : List ℕ) where
  -- answered exactly if the record is accepted and an MO, by what it says
  pub reading-answered : (x : Entry) → reading offset record' ≡ answered x ↔ ((e : Element) × (check offset record' ≡ answered e) × (has_type e.attrs MO ≡ true) × (entry_of e.attrs ≡ x))
  unfolding reading
  reading-answered x = (λ h. there (check offset record') refl (u.0 h).0 (u.0 h).1, λ (e, c, t, n). u.1 (rw (c, n), rw (((check-answered offset record' e).0 c).0, t)))
    where
      u : (reading offset record' ≡ answered x) ↔ ((check offset record' and_then λ e. answered (entry_of e.attrs)) ≡ answered x) × (faults_in not_money (element_of record') ≡ [])
      u = unless_answered (check offset record' and_then λ e. answered (entry_of e.attrs)) (faults_in not_money (element_of record')) x

      there : (o : Outcome Element) → check offset record' ≡ o → (o and_then λ e. answered (entry_of e.attrs)) ≡ answered x → faults_in not_money (element_of record') ≡ []
          → (e : Element) × (check offset record' ≡ answered e) × (has_type e.attrs MO ≡ true) × (entry_of e.attrs ≡ x)
      there (refused r) c h f = clash (cc)
      there (answered e) c h f =
          (e, c, not-false _ (when_none TYPE _ (rw ((check-answered offset record' e).0 c).0 at f)), (cc))

  -- the currency of an amount is of the right form
  pub reading-currency : {c : List ℕ} {z : ℤ} → reading offset record' ≡ answered (money c z) → is_currency c ≡ true
  reading-currency {c} {z} h =
      let (e, k, t, n) = (reading-answered (money c z)).0 h in
      elim (entry_cases offset record' e k t) [ is-null i j ↦ clash (cc) | is-money d y i j f l m ↦ let u : d ≡ c = cc in rw u at f ]

  -- only what checking gives is given
  pub reading_refusals : {r : Refusal} → reading offset record' ≡ refused r → is_of_record r ≡ true
  unfolding reading
  reading_refusals {r} h =
      first_passes is_of_record (pass-append is_of_record (own (check offset record') refl) (type_passes offset record' (λ e. has_type e.attrs MO)))
      ((unless_refused (check offset record' and_then λ e. answered (entry_of e.attrs)) (faults_in not_money (element_of record')) r).0 h)
    where
      own : (o : Outcome Element) → check offset record' ≡ o → Pass is_of_record (faults_of (o and_then λ e. answered (entry_of e.attrs)))
      own (answered e) c = none_left
      own (refused r) c = one_more (check_refusals offset record' c) none_left
