-- `datatype::sides::after_child` meets its contract.
use Prim.Native.Nat.{ℕ}
use mathlib.Core.Path.{sym, ◌∙◌, ap}
use mathlib.Core.List.{List}
use Rattle.rules.specs.Basics.{same}
use Rattle.datatype.proofs.Finding.{seen_before, other_name, seen_now}
use Rattle.datatype.proofs.sides.after_child.Goals as goal

pub returns-then-is_some : goal.returns-then-is_some
returns-then-is_some c = λ d v after h. seen_before c.args.shift.minutes c.args.name.now v c.args.first (sym c.is_some.ensures ∙ c.if-is_some.true)

pub slice_bounds-is_same-count : goal.slice_bounds-is_same-count
slice_bounds-is_same-count c = c.requires.name

pub slice_bounds-is_same-start : goal.slice_bounds-is_same-start
slice_bounds-is_same-start c = c.requires.name

pub slice_bounds-is_same-end : goal.slice_bounds-is_same-end
slice_bounds-is_same-end c = c.requires.past

pub returns-then-not-is_same : goal.returns-then-not-is_same
returns-then-not-is_same c = λ d v after h.
    other_name c.args.shift.minutes c.args.name.now v c.args.first (sym c.is_some.ensures ∙ c.if-is_some.false)
    (ap (λ (x : List ℕ). same x c.args.name.now) h.named ∙ sym c.is_same.ensures ∙ c.if-not-is_same.true)

pub returns : goal.returns
returns c = λ d v after h.
    seen_now c.args.shift.minutes c.args.name.now v c.args.first (sym c.is_some.ensures ∙ c.if-is_some.false)
    (ap (λ (x : List ℕ). same x c.args.name.now) h.named ∙ sym c.is_same.ensures ∙ c.if-not-is_same.false) c.time_of-time.result.said
    (c.time_of-time.ensures v.attrs h.tells).1
