use Rattle.datatype.specs.Tables.{step_among}
use Rattle.datatype.specs.Meaning.{kind_meant}
use Rattle.rules.specs.Types.{line_of}
use Prim.Native.Nat.{ℕ}
use mathlib.Core.List.{List}
use mathlib.Core.Path.{sym, ◌∙◌, ap}
use native.Mathlib.Omega.{arith}
use Rattle.judge.proofs.row.step_of.Goals as goal

pub slice_bounds-next_child-count : goal.slice_bounds-next_child-count
slice_bounds-next_child-count c = c.requires.name

pub slice_bounds-next_child-start : goal.slice_bounds-next_child-start
slice_bounds-next_child-start c = omega (arith, c.requires.name)

pub slice_bounds-next_child-end : goal.slice_bounds-next_child-end
slice_bounds-next_child-end c = c.requires.past

pub returns : goal.returns
returns c =
    λ depth v after t. c.next_child.ensures ∙ ap (λ (n : List ℕ). step_among (line_of (kind_meant c.args.kind)).children c.args.stage n) (sym t.named)
