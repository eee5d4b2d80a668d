-- The children of an element walked by their tags: the next child, or the end of the element.
use Prim.Native.Nat.{ℕ, zero, suc, ◌-◌, ◌≤◌, ◌<◌}
use mathlib.Core.Path.{◌≡◌, refl, subst}
use mathlib.Core.Bool.{Bool, true, false, not, ◌&&◌}
use mathlib.Core.List.{List}
use native.Mathlib.Omega.{arith}
use borrow.Author.Tests.{ne_eqb}
use lib.Dec.{eqb}
use lib.ListN.{length, take, drop}
use Rattle.rules.specs.Parsers.{ok}
use Rattle.rules.specs.Markup.{Nodes, end, node, Element, end_tag}
use Rattle.rules.proofs.Tests.{clash}
use Rattle.element.specs.Tags.{ElementTo, RowTo, Inner, empty, full, TagOf, TagIn}
use Rattle.element.proofs.Rows.{RowSteps, row_ends, row_goes, Stands}
use Rattle.element.specs.declared.tag.Tag.{Tag}
use Rattle.element.specs.Inside.{Left, FirstAt, ChildAt, EndsAt}

-- content follows a tag
pub is-full : (b : Bool) (depth : ℕ) → not (b && not (eqb depth 0)) ≡ false → (b ≡ true) × (1 ≤ depth)
is-full true zero z = clash (cc)
is-full true (suc d) z = (refl, omega arith)
is-full false d z = clash (cc)

row_left : {s name : List ℕ} {depth at : ℕ} {after : List ℕ} {l : Nodes} {b : Bool} → b ≡ true → Inner s depth name at after l b → RowTo s name at depth l after
row_left z (empty q) = clash (cc)
row_left z (full l x) = x

module _ {s : List ℕ} {b : Bool} {depth at i : ℕ} (z : (b ≡ true) × (1 ≤ depth)) where
  pub child-stands : Stands s at i true → ChildAt s b depth at i
  child-stands n = record { deep = z.1; low = n.low; high = n.within refl; first = λ v after l x. go (n.steps v.name (depth - 1) l after (row_left z.0 x)) }
    where
      go : {v : Element} {after : List ℕ} {l : Nodes} → RowSteps s v.name (depth - 1) i after l true → FirstAt s b depth v after i l
      go (row_goes k rest others x goes) = record { child = k; rest = rest; others = others; is = refl; stands = x; goes = λ e h q. rw z.0 (full others (goes e h q)) }

  pub end-stands : {name past e : ℕ} → Stands s at i false
      → ((i ≤ e) × (e ≤ length s)) × ((c : ℕ) (after : List ℕ) → end_tag (take (past - name) (drop name s)) (drop i s) ≡ ok c after → after ≡ drop e s) → EndsAt s b name past depth at e
  end-stands {name} {past} {e} n ((l, h), tells) = record { low = omega (arith, n.low, l); high = h; ends = λ v after l d g x. go g (n.steps v.name (depth - 1) l after (row_left z.0 x)) }
    where
      go : {m after : List ℕ} {l : Nodes} → m ≡ take (past - name) (drop name s) → RowSteps s m (depth - 1) i after l false → (l ≡ end) × (after ≡ drop e s)
      go {after = after} g (row_ends c q) = (refl, tells c after (rw (← g) q))

-- no content follows it
pub empty-ends : {s : List ℕ} {depth at : ℕ} (b : Bool) (name past : ℕ) → not (b && not (eqb depth 0)) ≡ true → at ≤ length s → EndsAt s b name past depth at at
empty-ends {s} {depth} {at} b name past z h = record { low = omega arith; high = h; ends = λ v after l d g x. go d z x }
  where
    go : {n after : List ℕ} {l : Nodes} {b : Bool} → 1 ≤ depth → not (b && not (eqb depth 0)) ≡ true → Inner s (depth - 1) n at after l b → (l ≡ end) × (after ≡ drop at s)
    go d z (empty q) = (refl, q)
    go d z (full l x) = clash (cc (z, ne_eqb depth 0 (λ e. absurd (omega (arith, e, d)))))

-- what is known at a position of the element of a tag: P says it of all the children and of those left
pub record Walked (s : List ℕ) (t : Tag) (depth at : ℕ) (P : (all left : Nodes) → Type 0) : Type 0 where
  pub from : t.end ≤ at
  pub within : at ≤ length s
  pub left : (v : Element) (after : List ℕ) → TagOf s depth v after t → (l : Nodes) × Left s t.full depth v after at l × P v.kids l

pub walk_begins : {s : List ℕ} {t : Tag} {depth : ℕ} {P : (all left : Nodes) → Type 0} → t.end ≤ length s → ((all : Nodes) → P all all) → Walked s t depth t.end P
walk_begins w p = record { from = omega arith; within = w; left = λ v after h. (v.kids, h.inner, p v.kids) }

-- the next child, with the tag u
module _ {s : List ℕ} {b : Bool} {u : Tag} {depth at i : ℕ} (n : ChildAt s b depth at i)
    (read : (TagIn s u × (i < length s → i < u.end)) × ((d : ℕ) (v : Element) (left : List ℕ) → ElementTo s i d v left → TagOf s d v left u)) where
  pub walk_less : {e : ℕ} → (u.end ≤ e) × (e ≤ length s) → length s - e < length s - at
  walk_less (l, h) = omega (arith, n.low, n.high, read.0.1 n.high, l, h)

module _ {s : List ℕ} {t u : Tag} {depth at i : ℕ} {P : (all left : Nodes) → Type 0} (n : ChildAt s t.full depth at i)
    (read : (TagIn s u × (i < length s → i < u.end)) × ((d : ℕ) (v : Element) (left : List ℕ) → ElementTo s i d v left → TagOf s d v left u)) (w : Walked s t depth at P) where
  pub walk_child : (v : Element) (after : List ℕ) → TagOf s depth v after t
      → (l : Nodes) × (c : FirstAt s t.full depth v after i l) × TagOf s (depth - 1) c.child c.rest u × P v.kids (node c.child.name c.child.attrs c.child.kids c.others)
  walk_child v after h =
      let (l, x, p) = w.left v after h in
      let c = n.first v after l x in
      (l, c, read.1 (depth - 1) c.child c.rest c.stands, subst (P v.kids) c.is p)

  pub walk_goes : {e : ℕ} → (u.end ≤ e) × (e ≤ length s) → {Q : (all left : Nodes) → Type 0}
      → ((all l : Nodes) (v : Element) (rest : List ℕ) → TagOf s (depth - 1) v rest u → P all (node v.name v.attrs v.kids l) → (rest ≡ drop e s) × Q all l) → Walked s t depth e Q
  walk_goes {e} (m, h) next = record {
    from = omega (arith, w.from, n.low, n.high, read.0.1 n.high, m);
    within = h;
    left = λ v after h.
        let (l, c, k, p) = walk_child v after h in
        let (q, x) = next v.kids c.others c.child c.rest k p in
        (c.others, c.goes e (omega (arith, n.high, read.0.1 n.high, m)) q, x);
  }

-- the end of the element
pub walk_ends : {s : List ℕ} {t : Tag} {depth at e : ℕ} {P : (all left : Nodes) → Type 0} → EndsAt s t.full t.name t.past depth at e → Walked s t depth at P
    → (v : Element) (after : List ℕ) → TagOf s depth v after t → P v.kids end × (after ≡ drop e s)
walk_ends {P = P} n w v after h =
    let (l, x, p) = w.left v after h in
    let (z, e) = n.ends v after l h.deep h.named x in
    (subst (P v.kids) z p, e)
