-- The ways to what a record says of money.
use Prim.Native.Nat.{ℕ}
use mathlib.Core.Path.{◌≡◌, refl, sym, ◌∙◌}
use mathlib.Core.Bool.{Bool, true, false, not}
use mathlib.Core.List.{List, ◌∷◌}
use mathlib.Core.Option.{Option, none, some}
use lib.IntN.{ℤ}
use Rattle.rules.specs.Basics.{if_some}
use Rattle.rules.specs.Refusal.{Refusal, OFFSET, MARKUP, TYPE, rank_in, first_of, Outcome, answered, refused, faults_in, ◌when◌, ◌and_then◌}
use Rattle.rules.specs.Markup.{Element, document}
use Rattle.rules.specs.Types.{MO, has_type}
use Rattle.rules.specs.Check.{is_offset, shift_by, element_of, check}
use Rattle.rules.specs.Totals.{entry_of, not_money, reading, is_uncounted}
use Rattle.rules.proofs.Tests.{clash}
use Rattle.rules.proofs.Precedence.{unless_refused, check-refused, check-answered}
use Rattle.rules.proofs.TotalReading.{reading-answered, reading_refusals}
use Rattle.rules.proofs.Totals.{ladder_counted}
use Rattle.rigcactus.specs.Faults.{typed_faults}
use Rattle.rigcactus.proofs.Checking.{record_offset}
use Rattle.rigcactus.proofs.TypedFaults.{split, type-fault}

abbrev pub is_money : Element → Bool
is_money e = has_type e.attrs MO

module _ (offset : ℤ) (input : List ℕ) where
  -- refused by the first of its fault and TYPE
  by_fault : (r q : Refusal) → check offset input ≡ refused r → first_of (r ∷ faults_in not_money (element_of input)) ≡ some q → reading offset input ≡ refused q
  unfolding reading
  by_fault r q c f = (unless_refused (check offset input and_then λ e. answered (entry_of e.attrs)) (faults_in not_money (element_of input)) q).1 (rw c f)

  -- such a refusal is counted
  pub refused-read : {q : Refusal} → reading offset input ≡ refused q → (is_uncounted q ≡ false) × (refused q ≡ reading offset input)
  refused-read {q} e = (ladder_counted q (reading_refusals offset input e), sym e)

  pub money-offset : is_offset offset ≡ false → reading offset input ≡ refused OFFSET
  unfolding first_of rank_in
  money-offset e = by_fault OFFSET OFFSET ((check-refused offset input OFFSET).1 (record_offset offset input e)) (go (document input))
    where
      typed : (b : Bool) → first_of (OFFSET ∷ TYPE when b) ≡ some OFFSET
      typed true = refl
      typed false = refl

      go : (d : Option Element) → first_of (OFFSET ∷ faults_in not_money (if_some d answered (refused MARKUP))) ≡ some OFFSET
      go none = refl
      go (some e) = typed (not (has_type e.attrs MO))

  module _ {shift : ℕ} (fine : is_offset offset ≡ true) (by : shift ≡ shift_by offset) where
    pub money-refused : {q : Refusal} → some q ≡ first_of (typed_faults is_money shift input) → reading offset input ≡ refused q
    unfolding reading first_of rank_in
    money-refused {q} h = go (check offset input) refl
      where
        typed : (e : Element) → check offset input ≡ answered e → (b : Bool) → is_money e ≡ b → some q ≡ first_of (TYPE when not b) → reading offset input ≡ refused q
        typed e a true l z = clash (cc)
        typed e a false l z =
            let w : TYPE ≡ q = cc in
            (unless_refused (check offset input and_then λ e. answered (entry_of e.attrs)) (faults_in not_money (element_of input)) q).1 (rw (a, ((check-answered offset input e).0 a).0, l, w) refl)

        go : (o : Outcome Element) → check offset input ≡ o → reading offset input ≡ refused q
        go (refused r) f = by_fault r q f (sym (split is_money offset input fine by h ∙ rw ((check-refused offset input r).0 f)))
        go (answered e) a = typed e a (is_money e) refl (type-fault is_money offset input fine by e a h)

  pub money-read : (e : Element) → check offset input ≡ answered e → is_money e ≡ true → answered (entry_of e.attrs) ≡ reading offset input
  money-read e a m = sym ((reading-answered offset input (entry_of e.attrs)).1 (e, a, m, refl))
