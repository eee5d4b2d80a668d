-- What the bounds of an interval say, by the row of its children: unless one is not allowed, which is SHAPE, they are a low, a high, or both in this order.
use Prim.Native.Nat.{ℕ}
use mathlib.Core.Path.{◌≡◌, refl, sym, ◌∙◌, ap, subst}
use mathlib.Core.Bool.{Bool, true, false, ◌&&◌, cond}
use mathlib.Core.List.{List}
use mathlib.Core.Logic.{◌⊎◌, inl, inr}
use mathlib.Core.Option.{Option, none, some}
use Rattle.rules.specs.Basics.{if_some, bytes, same}
use Rattle.rules.specs.Refusal.{first_of}
use Rattle.rules.specs.Markup.{Attribute, Nodes, end, node, Element}
use Rattle.rules.specs.Invariants.{child_named}
use Rattle.rules.specs.Types.{Kind, TS, IVL_TS, QSU_TS, QSI_TS, QSD_TS, MO, II, CD, EN, DisplayName, Part, always, line_of}
use Rattle.rules.proofs.Tests.{clash, same_true, same_sym}
use Rattle.datatype.specs.Tables.{Step, step_among}
use Rattle.datatype.specs.Said.{Said, nothing, said_by, said_named}
use Rattle.judge.specs.Faults.{child_judged}
use Rattle.judge.specs.Rows.{child_said, Judging, beginning, with_child, Hides}
use Rattle.judge.proofs.Rowing.{row_after, hides_on, shape_hides}

-- the steps of the row of an interval
abbrev bound : (to : ℕ) → Option Step
bound to = some (record { kind = always TS; to = to })

first-low : (n : List ℕ) → same (bytes "low") n ≡ true → step_among (line_of IVL_TS).children 0 n ≡ bound 1
unfolding line_of
first-low n e = rw e

first-high : (n : List ℕ) → same (bytes "low") n ≡ false → same (bytes "high") n ≡ true → step_among (line_of IVL_TS).children 0 n ≡ bound 2
unfolding line_of
first-high n e f = rw (e, f)

first_neither : (n : List ℕ) → same (bytes "low") n ≡ false → same (bytes "high") n ≡ false → step_among (line_of IVL_TS).children 0 n ≡ none
unfolding line_of
first_neither n e f = rw (e, f)

second : (n : List ℕ) (b : Bool) → same (bytes "high") n ≡ b → step_among (line_of IVL_TS).children 1 n ≡ cond b (bound 2) none
unfolding line_of
second n b e = go (same (bytes "low") n) b e
  where
    go : (a b : Bool) → same (bytes "high") n ≡ b → cond (a && false) (bound 1) (cond (same (bytes "high") n && true) (bound 2) none) ≡ cond b (bound 2) none
    go true true e = rw e
    go true false e = rw e
    go false true e = rw e
    go false false e = rw e

third : (n : List ℕ) → step_among (line_of IVL_TS).children 2 n ≡ none
unfolding line_of
third n = go (same (bytes "low") n) (same (bytes "high") n)
  where
    go : (a b : Bool) → cond (a && false) (bound 1) (cond (b && false) (bound 2) none) ≡ none
    go true true = refl
    go true false = refl
    go false true = refl
    go false false = refl

module _ (shift : ℕ) where
  abbrev after : Judging → Option Step → Element → Judging
  after j o v = with_child j (if_some o (λ t. t.to) j.stage) (first_of (child_judged shift o v)) (child_said shift o v)

  one_more : (j : Judging) (n : List ℕ) (attrs : List Attribute) (kids rest : Nodes) (o : Option Step) → step_among (line_of IVL_TS).children j.stage n ≡ o
      → row_after shift IVL_TS j (node n attrs kids rest) ≡ row_after shift IVL_TS (after j o (record { name = n; attrs = attrs; kids = kids })) rest
  unfolding row_after
  one_more j n attrs kids rest o e = rw e

  -- a child that is no step
  strange : (j : Judging) (n : List ℕ) (attrs : List Attribute) (kids rest : Nodes) → step_among (line_of IVL_TS).children j.stage n ≡ none
      → Hides (row_after shift IVL_TS j (node n attrs kids rest)).fault
  strange j n attrs kids rest e =
      subst (λ (x : Judging). Hides x.fault) (sym (one_more j n attrs kids rest none e)) (hides_on shift IVL_TS _ rest (shape_hides j.fault))

  -- after a high
  last : (j : Judging) → j.stage ≡ 2 → (l : Nodes) → Hides (row_after shift IVL_TS j l).fault ⊎ (l ≡ end)
  last j z end = inr refl
  last j z (node n attrs kids rest) = inl (strange j n attrs kids rest (ap (λ (k : ℕ). step_among (line_of IVL_TS).children k n) z ∙ third n))

  abbrev Says : Judging → (low high : Said) → Type 0
  Says j low high = Hides j.fault ⊎ ((j.low ≡ low) × (j.high ≡ high))

  high_last : (j : Judging) (n : List ℕ) (attrs : List Attribute) (kids rest : Nodes) → step_among (line_of IVL_TS).children j.stage n ≡ bound 2
      → (low : Said) → (rest ≡ end → j.low ≡ low) → Says (row_after shift IVL_TS j (node n attrs kids rest)) low (said_by shift attrs)
  unfolding row_after
  high_last j n attrs kids rest e low f =
      subst (λ (x : Judging). Says x low (said_by shift attrs)) (sym (one_more j n attrs kids rest (bound 2) e)) (go rest f (last _ refl rest))
    where
      here : Judging
      here = after j (bound 2) (record { name = n; attrs = attrs; kids = kids })

      go : (l : Nodes) → (l ≡ end → j.low ≡ low) → Hides (row_after shift IVL_TS here l).fault ⊎ (l ≡ end) → Says (row_after shift IVL_TS here l) low (said_by shift attrs)
      go l f (inl h) = inl h
      go l f (inr z) = subst (λ (k : Nodes). Says (row_after shift IVL_TS here k) low (said_by shift attrs)) (sym z) (inr (f z, refl))

  -- after a low
  named-high : (n : List ℕ) (attrs : List Attribute) (kids rest : Nodes) (b : Bool) → same (bytes "high") n ≡ b
      → said_named shift (bytes "high") (node n attrs kids rest) ≡ cond b (said_by shift attrs) (said_named shift (bytes "high") rest)
  unfolding child_named
  named-high n attrs kids rest true e = rw (same_sym n (bytes "high"), e)
  named-high n attrs kids rest false e = rw (same_sym n (bytes "high"), e)

  then_high : (j : Judging) → j.stage ≡ 1 → j.high ≡ nothing → (l : Nodes) → Says (row_after shift IVL_TS j l) j.low (said_named shift (bytes "high") l)
  unfolding row_after child_named
  then_high j z w end = inr (refl, w)
  then_high j z w (node n attrs kids rest) = go (same (bytes "high") n) refl
    where
      at : (b : Bool) → same (bytes "high") n ≡ b → step_among (line_of IVL_TS).children j.stage n ≡ cond b (bound 2) none
      at b e = ap (λ (k : ℕ). step_among (line_of IVL_TS).children k n) z ∙ second n b e

      go : (b : Bool) → same (bytes "high") n ≡ b → Says (row_after shift IVL_TS j (node n attrs kids rest)) j.low (said_named shift (bytes "high") (node n attrs kids rest))
      go true e = rw (named-high n attrs kids rest true e) (high_last j n attrs kids rest (at true e) j.low (λ z. refl))
      go false e = inl (strange j n attrs kids rest (at false e))

  -- from the beginning
  low-high : (l : Nodes) → Says (row_after shift IVL_TS beginning l) (said_named shift (bytes "low") l) (said_named shift (bytes "high") l)
  unfolding row_after child_named
  low-high end = inr (refl, refl)
  low-high (node n attrs kids rest) = go (same (bytes "low") n) refl (same (bytes "high") n) refl
    where
      here : Judging
      here = after beginning (bound 1) (record { name = n; attrs = attrs; kids = kids })

      go : (a : Bool) → same (bytes "low") n ≡ a → (b : Bool) → same (bytes "high") n ≡ b
          → Says (row_after shift IVL_TS beginning (node n attrs kids rest)) (said_named shift (bytes "low") (node n attrs kids rest)) (said_named shift (bytes "high") (node n attrs kids rest))
      go true e true f = clash (cc (same_true (bytes "low") n e, same_true (bytes "high") n f))
      go true e false f =
          rw (one_more beginning n attrs kids rest (bound 1) (first-low n e), named-high n attrs kids rest false f, same_sym n (bytes "low"), e)
          (then_high here refl refl rest)
      go false e true f =
          rw (named-high n attrs kids rest true f, same_sym n (bytes "low"), e) (high_last beginning n attrs kids rest (first-high n e f) (said_named shift (bytes "low") rest) (λ z. rw z))
      go false e false f = inl (strange beginning n attrs kids rest (first_neither n e f))

  -- of any kind
  pub bounds-said : (k : Kind) (l : Nodes) → Hides (row_after shift k beginning l).fault
      ⊎ (k ≡ IVL_TS → ((row_after shift k beginning l).low ≡ said_named shift (bytes "low") l) × ((row_after shift k beginning l).high ≡ said_named shift (bytes "high") l))
  bounds-said IVL_TS l = elim (low-high l) [
    | inl h ↦ inl h
    | inr h ↦ inr (λ e. h)
  ]
  bounds-said TS l = inr (λ e. clash (cc))
  bounds-said QSU_TS l = inr (λ e. clash (cc))
  bounds-said QSI_TS l = inr (λ e. clash (cc))
  bounds-said QSD_TS l = inr (λ e. clash (cc))
  bounds-said MO l = inr (λ e. clash (cc))
  bounds-said II l = inr (λ e. clash (cc))
  bounds-said CD l = inr (λ e. clash (cc))
  bounds-said EN l = inr (λ e. clash (cc))
  bounds-said DisplayName l = inr (λ e. clash (cc))
  bounds-said Part l = inr (λ e. clash (cc))
