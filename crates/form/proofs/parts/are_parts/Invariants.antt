-- `form::parts::are_parts` meets its contract. The loop's invariant: every part passes if every part from here on does.
use Prim.Native.Nat.{ℕ, ◌-◌, ◌≤◌}
use mathlib.Core.Path.{◌≡◌}
use mathlib.Core.Bool.{Bool}
use mathlib.Core.List.{List}
use denote.Bor.{Bor}
use lib.ListN.{length, drop}
use Rattle.rules.specs.Basics.{every, split}
use Rattle.form.proofs.parts.are_parts.Given as goal

abbrev pub invariant-loop-passes : goal.invariant-loop-passes
invariant-loop-passes g l = (l.from ≤ length l.t) × ((p : List ℕ → Bool) → ((x : Bor (List ℕ)) (r : Bool) → goal.F-post g l.passes x r → r ≡ p x.now) → every p (split l.b (drop l.from l.t)) ≡ every p (split l.b l.t))

abbrev pub decreases-loop-passes : goal.decreases-loop-passes
decreases-loop-passes g l = length l.t - l.from
