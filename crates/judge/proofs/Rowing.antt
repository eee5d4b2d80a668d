-- A row of children judged, put together child by child.
use Prim.Native.Nat.{ℕ}
use mathlib.Core.Path.{◌≡◌, refl, sym, ◌∙◌, ap}
use mathlib.Core.Bool.{Bool, true, false, not, ◌&&◌, ◌||◌}
use mathlib.Core.List.{[], ◌∷◌}
use mathlib.Core.Option.{Option, some}
use borrow.Author.Tests.{eq-eqb, ne_eqb}
use lib.Dec.{ltb}
use Rattle.std.specs.Prelude.{Result, Ok, Err}
use Rattle.std.specs.Result.{result_and}
use Rattle.rules.specs.Basics.{if_some}
use Rattle.rules.specs.Refusal.{Refusal, SHAPE, RULE, earlier, rank_in, first_of, ◌when◌}
use Rattle.rules.specs.Markup.{Nodes, end, node, Element}
use Rattle.rules.specs.Invariants.{has_children}
use Rattle.rules.specs.Types.{Kind, line_of}
use Rattle.rules.specs.Judge.{child_faults}
use Rattle.rules.proofs.Precedence.{earlier_assoc, earlier_comm}
use Rattle.refusal.specs.Meaning.{fault_of}
use Rattle.refusal.specs.declared.Refusal.{Refusal as CodeRefusal}
use Rattle.datatype.specs.Meaning.{kind_meant}
use Rattle.datatype.specs.Tables.{standing_meant, step_among}
use Rattle.datatype.specs.Said.{Said}
use Rattle.judge.specs.Faults.{judged, child_judged}
use Rattle.judge.proofs.ElementFaults.{child-and-rest}
use Rattle.judge.specs.Rows.{said_of, Judging, with_child, row_step, AskedAs, Hides}
use Rattle.judge.specs.declared.row.Asked.{Asked}

-- the row of an element of a kind with the children l more
unfoldable pub row_after : (shift : ℕ) → Kind → Judging → Nodes → Judging
row_after shift k j end = j
row_after shift k j (node n attrs kids rest) = row_after shift k (row_step shift k j (record { name = n; attrs = attrs; kids = kids })) rest

-- after the child the row stands at stage 1, or it does not
module _ (j : Judging) (stage : ℕ) (f : Option Refusal) {g : Option Refusal} (s : Said) (h : g ≡ earlier j.fault f) where
  pub kept_low : stage ≡ 1 → ◌≡◌ {A = Judging} (record { fault = g; stage = stage; any = true; low = s; high = j.high }) (with_child j stage f s)
  kept_low z = rw (h, eq-eqb stage 1 z)

  pub kept_high : (stage ≡ 1 → ⊥) → ◌≡◌ {A = Judging} (record { fault = g; stage = stage; any = true; low = j.low; high = s }) (with_child j stage f s)
  kept_high z = rw (h, ne_eqb stage 1 z)

-- the child that a row is asked of
pub row-child : {shift : ℕ} (k : Kind) (j : Judging) {v : Element} {a : Asked} {f : Option Refusal} {s : Said} → AskedAs shift (step_among (line_of k).children j.stage v.name) j.stage v a
    → f ≡ if_some (fault_of a.fault) some (first_of (judged shift (standing_meant a.standing) (some (kind_meant a.kind)) v)) → s ≡ said_of (kind_meant a.kind) shift v.attrs
    → with_child j a.stage f s ≡ row_step shift k j v
row-child k j h e g = rw (e, g, h.fault, h.said, h.to)

-- a child's refusal, or else its fault
pub refused-or : (r f : Result (Unit {0}) CodeRefusal) → fault_of (result_and r f) ≡ if_some (fault_of r) some (fault_of f)
refused-or (Ok x) f = refl
refused-or (Err q) f = refl

-- the faults of a row, child by child, and at its end
pub row_faults : (shift : ℕ) (k : Kind) (null : Bool) (j : Judging) (l : Nodes)
    → earlier (row_after shift k j l).fault (first_of (SHAPE when (not null && ltb (row_after shift k j l).stage (line_of k).enough)))
    ≡ earlier j.fault (first_of (child_faults shift k null j.stage l))
unfolding row_after child_faults
row_faults shift k null j end = refl
row_faults shift k null j (node n attrs kids rest) =
    let v : Element = record { name = n; attrs = attrs; kids = kids } in
    row_faults shift k null (row_step shift k j v) rest
    ∙ earlier_assoc j.fault (first_of (child_judged shift (step_among (line_of k).children j.stage n) v)) _
    ∙ ap (earlier j.fault) (sym (child-and-rest shift k null j.stage v rest))

-- whether there are children
pub row_any : (shift : ℕ) (k : Kind) (j : Judging) (l : Nodes) → (row_after shift k j l).any ≡ (has_children l || j.any)
unfolding row_after
row_any shift k j end = refl
row_any shift k j (node n attrs kids rest) = go (has_children rest) (row_any shift k (row_step shift k j (record { name = n; attrs = attrs; kids = kids })) rest)
  where
    go : (b : Bool) {x : Bool} → x ≡ (b || true) → x ≡ true
    go true e = e
    go false e = e

-- a fault before RULE stays one
pub hides_more : (o p : Option Refusal) → Hides o → Hides (earlier o p)
hides_more o p h = earlier_assoc o p (some RULE) ∙ ap (earlier o) (earlier_comm p (some RULE)) ∙ sym (earlier_assoc o (some RULE) p) ∙ ap (λ (x : Option Refusal). earlier x p) h

pub shape_hides : (o : Option Refusal) → Hides (earlier o (first_of (SHAPE ∷ [])))
unfolding first_of rank_in
shape_hides o = earlier_assoc o (some SHAPE) (some RULE)

pub hides_on : (shift : ℕ) (k : Kind) (j : Judging) (l : Nodes) → Hides j.fault → Hides (row_after shift k j l).fault
unfolding row_after
hides_on shift k j end h = h
hides_on shift k j (node n attrs kids rest) h = hides_on shift k (row_step shift k j (record { name = n; attrs = attrs; kids = kids })) rest (hides_more j.fault _ h)

-- an invariant beside a fault before RULE
pub hidden : (x y w : Option Refusal) (b c : Bool) → Hides w → earlier (earlier x (earlier y (first_of (RULE when b)))) w ≡ earlier (earlier x (earlier y (first_of (RULE when c)))) w
unfolding first_of
hidden x y w b c h = to b ∙ sym (to c)
  where
    rule : (b : Bool) → earlier (first_of (RULE when b)) w ≡ w
    rule true = earlier_comm (some RULE) w ∙ h
    rule false = refl

    to : (b : Bool) → earlier (earlier x (earlier y (first_of (RULE when b)))) w ≡ earlier x (earlier y w)
    to b = earlier_assoc x (earlier y (first_of (RULE when b))) w ∙ ap (earlier x) (earlier_assoc y (first_of (RULE when b)) w ∙ ap (earlier y) (rule b))
