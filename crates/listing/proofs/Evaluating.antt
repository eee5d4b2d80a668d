-- The set that an element writes, and those of members one after another.
use Prim.Native.Nat.{ℕ, ◌≤◌}
use mathlib.Core.Path.{◌≡◌, refl, sym, ap, ◌∙◌, subst}
use mathlib.Core.Bool.{Bool, true, false}
use mathlib.Core.List.{List}
use mathlib.Core.Option.{Option, none, some}
use native.Mathlib.Omega.{arith}
use lib.ListN.{length}
use Rattle.rules.specs.Refusal.{Refusal, TYPE, UNKNOWN_BOUND, Outcome, answered, refused, both}
use Rattle.rules.specs.Markup.{Nodes, end, node, Element}
use Rattle.rules.specs.Invariants.{is_null}
use Rattle.rules.specs.Sets.{Op as PageOp, Expression, combine}
use Rattle.rules.specs.Listing.{interval_of, set_from, set_of, members_of, joined}
use Rattle.rules.proofs.Tests.{clash}
use Rattle.interval.specs.declared.Op.{Op}
use Rattle.interval.specs.Meaning.{op_of}
use Rattle.element.specs.Tags.{TagOf}
use Rattle.element.specs.declared.tag.Tag.{Tag}
use Rattle.listing.specs.declared.set.Shape.TheVariants.{Single, Members, Other}
use Rattle.listing.specs.declared.set.Evaluated.{Evaluated}
use Rattle.listing.specs.Sets.{WritesAs, Formed, IsSet, Says, is_set, is_unknown, SoFar, none_yet, so_far, put, expressed, SaysElement}

-- an element that writes no set
pub none_said : {s : List ℕ} {t : Tag} {depth : ℕ} (shift : ℕ) {r : Evaluated} → t.end ≤ length s → Formed r × (r.known ≡ false) × (r.count ≡ 0) × (r.end ≡ t.end)
    → ((v : Element) (after : List ℕ) → TagOf s depth v after t → (q : Refusal) × (set_of shift v ≡ refused q))
    → Formed r × (((t.end ≤ r.end) × (r.end ≤ length s)) × SaysElement s t depth shift r)
none_said shift w (f, k, n, e) q = (f, ((omega (arith, e), omega (arith, e, w)), λ v after h. (rw (q v after h).1 (is_unknown k), λ y. clash (cc))))

-- an element, by what it writes
module _ (shift : ℕ) (v : Element) {b : Bool} (null : b ≡ is_null v.attrs) where
  pub null-set : b ≡ true → set_of shift v ≡ refused UNKNOWN_BOUND
  unfolding set_from
  null-set t = rw (sym null ∙ t)

  module _ (not : b ≡ false) where
    pub other-set : WritesAs v.attrs Other → set_of shift v ≡ refused TYPE
    unfolding set_from
    other-set w = rw (sym null ∙ not, w.0, w.1)

    pub single_set : WritesAs v.attrs Single → {r : Evaluated} → Says (expressed (interval_of shift v.attrs v.kids)) r → Says (set_of shift v) r
    unfolding set_from
    single_set w s = rw (sym null ∙ not, w) s

    pub members_set : (op : Op) → WritesAs v.attrs (Members op) → {r : Evaluated} → Says (members_of shift (op_of op) v.kids) r → Says (set_of shift v) r
    unfolding set_from
    members_set op w s = rw (sym null ∙ not, w.0, w.1) s

-- the set of the members so far, with those left
abbrev with_left : (shift : ℕ) → PageOp → Option Expression → Nodes → Outcome Expression
with_left shift o none left = members_of shift o left
with_left shift o (some x) left = joined shift o (answered x) left

-- what is known of the set of all members at one of them
abbrev pub Evaluating : (shift : ℕ) → Op → Evaluated → (all left : Nodes) → Type 0
Evaluating shift op a all left = (x : Option Expression) × SoFar x a × (members_of shift (op_of op) all ≡ with_left shift (op_of op) x left)

stays-refused : (shift : ℕ) (o : PageOp) (q : Refusal) (left : Nodes) → joined shift o (refused q) left ≡ refused q
unfolding joined
stays-refused shift o q end = refl
stays-refused shift o q (node n attrs kids left) = stays-refused shift o q left

-- a member more
module _ (shift : ℕ) (o : PageOp) (v : Element) (left : Nodes) where
  known_more : {y : Expression} → set_of shift v ≡ answered y → (x : Option Expression)
      → with_left shift o x (node v.name v.attrs v.kids left) ≡ joined shift o (answered (put o x y)) left
  unfolding members_of joined
  known_more z none = ap (λ (p : Outcome Expression). joined shift o p left) z
  known_more z (some x) = ap (λ (p : Outcome Expression). joined shift o (both (combine o) (answered x) p) left) z

  unknown_more : {q : Refusal} → set_of shift v ≡ refused q → (x : Option Expression) → with_left shift o x (node v.name v.attrs v.kids left) ≡ refused q
  unfolding members_of joined
  unknown_more {q} z none = ap (λ (p : Outcome Expression). joined shift o p left) z ∙ stays-refused shift o q left
  unknown_more {q} z (some x) = ap (λ (p : Outcome Expression). joined shift o (both (combine o) (answered x) p) left) z ∙ stays-refused shift o q left

module _ (shift : ℕ) (op : Op) {a : Evaluated} where
  module _ {m : Evaluated} (v : Element) (says : Says (set_of shift v) m) (all left : Nodes) (e : Evaluating shift op a all (node v.name v.attrs v.kids left)) where
    pub member-known : m.known ≡ true → {r : Evaluated} → ((x : Option Expression) (y : Expression) → SoFar x a → IsSet y m → IsSet (put (op_of op) x y) r) → Evaluating shift op r all left
    member-known k {r} join = let (x, s, q) = e in go x s q (set_of shift v) refl says
      where
        go : (x : Option Expression) → SoFar x a → members_of shift (op_of op) all ≡ with_left shift (op_of op) x (node v.name v.attrs v.kids left)
            → (o : Outcome Expression) → set_of shift v ≡ o → Says o m → Evaluating shift op r all left
        go x s q (answered y) z (is_set t) = (some (put (op_of op) x y), so_far (join x y s t), q ∙ known_more shift (op_of op) v left z x)
        go x s q (refused p) z (is_unknown t) = clash (cc)

    pub member-unknown : m.known ≡ false → {r : Evaluated} → r.known ≡ false → Says (members_of shift (op_of op) all) r
    member-unknown k {r} u = let (x, s, q) = e in go x q (set_of shift v) refl says
      where
        go : (x : Option Expression) → members_of shift (op_of op) all ≡ with_left shift (op_of op) x (node v.name v.attrs v.kids left)
            → (o : Outcome Expression) → set_of shift v ≡ o → Says o m → Says (members_of shift (op_of op) all) r
        go x q (answered y) z (is_set t) = clash (cc t.known)
        go x q (refused p) z (is_unknown t) = subst (λ (o : Outcome Expression). Says o r) (sym (q ∙ unknown_more shift (op_of op) v left z x)) (is_unknown u)

  -- no member is left
  pub members_said : (all : Nodes) → Evaluating shift op a all end → (p : ℕ) → Says (members_of shift (op_of op) all) (record { known = a.known; count = a.count; set = a.set; end = p })
  unfolding members_of joined
  members_said all e p = let (x, s, q) = e in subst (λ (o : Outcome Expression). Says o (record { known = a.known; count = a.count; set = a.set; end = p })) (sym q) (go x s)
    where
      go : (x : Option Expression) → SoFar x a → Says (with_left shift (op_of op) x end) (record { known = a.known; count = a.count; set = a.set; end = p })
      go none (none_yet k c) = is_unknown k
      go (some x) (so_far s) = is_set (record { known = s.known; count = s.count; places = s.places })
