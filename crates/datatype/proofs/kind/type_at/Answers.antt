-- `datatype::kind::type_at` meets its contract.
use mathlib.Core.Path.{refl, ◌∙◌}
use mathlib.Core.Bool.{true, false}
use mathlib.Core.List.{[], ◌∷◌}
use Rattle.rules.specs.Types.{TS, MO, II, CD, EN, member_types}
use Rattle.element.proofs.Asked.{absent, standing}
use Rattle.datatype.specs.Meaning.{types_for}
use Rattle.datatype.proofs.Naming.{type-none, type-some, named_first, named_second}
use Rattle.datatype.proofs.kind.type_at.Goals as goal

pub returns-then-place-eq0 : goal.returns-then-place-eq0
returns-then-place-eq0 c = λ l h. type-none l (absent h c.if-place-eq0.true) (types_for c.args.top)

pub returns-in-Some : goal.returns-in-Some
returns-in-Some c = λ l h.
    let p = standing h c.if-place-eq0.false in
    let e = c.if-top.true in
    let n = rw c.in-Some.is at (c.named.ensures p.text _ p.reads (refl, (refl, (refl, (refl, (refl, tt)))))) in
    rw e (named_first (TS ∷ MO ∷ II ∷ CD ∷ EN ∷ []) member_types p.text n ∙ type-some l p.is (types_for true))

pub returns-then-top : goal.returns-then-top
returns-then-top c = λ l h.
    let p = standing h c.if-place-eq0.false in
    let e = c.if-top.true in
    let n = rw c.in_default.is at (c.named.ensures p.text _ p.reads (refl, (refl, (refl, (refl, (refl, tt)))))) in
    rw e (c.named-then-top.ensures p.text _ p.reads (refl, (refl, (refl, (refl, tt)))) ∙ named_second (TS ∷ MO ∷ II ∷ CD ∷ EN ∷ []) member_types p.text n ∙ type-some l p.is (types_for true))

pub returns : goal.returns
returns c = λ l h.
    let p = standing h c.if-place-eq0.false in
    let e = c.if-top.false in
    rw e (c.named-2.ensures p.text _ p.reads (refl, (refl, (refl, (refl, tt)))) ∙ type-some l p.is (types_for false))
