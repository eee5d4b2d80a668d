-- Names part by part: the answer so far, joined to the answer on the parts that are left.
use Prim.Native.Nat.{ℕ, ◌-◌, ◌≤◌, ◌<◌}
use mathlib.Core.Path.{◌≡◌, refl, sym, ◌∙◌, ap₂}
use mathlib.Core.List.{List}
use native.Mathlib.Omega.{arith}
use lib.ListN.{length, drop}
use Rattle.rules.specs.Markup.{Attribute, Nodes, node, Element}
use Rattle.rules.specs.Comparison.{Answer, Yes, No, Unknown, ◌also◌, compare_parts, compare_all_parts}
use Rattle.element.specs.Tags.{ElementTo, Tells, TagOf, TagIn}
use Rattle.element.specs.declared.tag.Tag.{Tag}
use Rattle.element.specs.Inside.{Left, ChildAt, EndsAt}

also_assoc : (a b c : Answer) → ((a also b) also c) ≡ (a also (b also c))
also_assoc Yes b c = refl
also_assoc No b c = refl
also_assoc Unknown Yes c = refl
also_assoc Unknown No c = refl
also_assoc Unknown Unknown Yes = refl
also_assoc Unknown Unknown No = refl
also_assoc Unknown Unknown Unknown = refl

also_no : (a : Answer) → (a also No) ≡ No
also_no Yes = refl
also_no No = refl
also_no Unknown = refl

also_yes : (a : Answer) → (a also Yes) ≡ a
also_yes Yes = refl
also_yes No = refl
also_yes Unknown = refl

-- a part more
also_more : (a : Answer) (d e : Element) {ls ms l m : Nodes} {c r : Answer} → l ≡ node d.name d.attrs d.kids ls → m ≡ node e.name e.attrs e.kids ms
    → c ≡ compare_parts d.attrs e.attrs → r ≡ (a also c) → (a also compare_all_parts l m) ≡ (r also compare_all_parts ls ms)
unfolding compare_all_parts
also_more a d e f g t z = rw (f, g, z, t) (sym (also_assoc a _ _))

-- the answer on all parts, by that so far and the parts that are left from two positions on
pub record Compared (s t : List ℕ) (a b : Tag) (depth i j : ℕ) (answer : Answer) : Type 0 where
  pub first : i ≤ length s
  pub second : j ≤ length t
  pub left : (v w : Element) (after rest : List ℕ) → TagOf s depth v after a → TagOf t depth w rest b
      → (l m : Nodes) × Left s a.full depth v after i l × Left t b.full depth w rest j m × (compare_all_parts v.kids w.kids ≡ (answer also compare_all_parts l m))

pub parts_begin : {s t : List ℕ} {a b : Tag} {depth : ℕ} → a.end ≤ length s → b.end ≤ length t → Compared s t a b depth a.end b.end Yes
parts_begin h k = record { first = h; second = k; left = λ v w after rest g h. (v.kids, w.kids, g.inner, h.inner, refl) }

-- a part that stands next, with the tag u, goes up to e
pub record Part (s : List ℕ) (t u : Tag) (depth at e : ℕ) : Type 0 where
  pub high : e ≤ length s
  pub first : (v : Element) (after : List ℕ) (l : Nodes) → Left s t.full depth v after at l
      → (k : Element) × (others : Nodes) × (l ≡ node k.name k.attrs k.kids others) × Tells s k.attrs u.places × Left s t.full depth v after e others

pub part : {s : List ℕ} {t u : Tag} {depth at i e : ℕ} → ChildAt s t.full depth at i
    → (TagIn s u × (i < length s → i < u.end)) × ((d : ℕ) (v : Element) (after : List ℕ) → ElementTo s i d v after → TagOf s d v after u)
    → ((u.end ≤ e) × (e ≤ length s)) × ((v : Element) (after : List ℕ) → TagOf s (depth - 1) v after u → after ≡ drop e s) → Part s t u depth at e
part {depth = depth} {e = e} n ((within, on), tells) ((low, high), past) = record {
  high = high;
  first = λ v after l x.
      let f = n.first v after l x in
      let g = tells (depth - 1) f.child f.rest f.stands in
      (f.child, f.others, f.is, g.tells, f.goes e (omega (arith, on n.high, low)) (past f.child f.rest g));
}

module _ {s t : List ℕ} {a b : Tag} {depth i j : ℕ} {answer : Answer} (h : Compared s t a b depth i j answer) where
  pub parts_more : {u w : Tag} {e o : ℕ} {c r : Answer} → Part s a u depth i e → Part t b w depth j o
      → ((l m : List Attribute) → Tells s l u.places → Tells t m w.places → c ≡ compare_parts l m) → r ≡ (answer also c) → Compared s t a b depth e o r
  parts_more p q told z = record {
    first = p.high;
    second = q.high;
    left = λ v w after rest g k.
        let (l, m, x, y, e) = h.left v w after rest g k in
        let (d, ls, f, da, xs) = p.first v after l x in
        let (d', ms, f', da', ys) = q.first w rest m y in
        (ls, ms, xs, ys, e ∙ also_more answer d d' f f' (told d.attrs d'.attrs da da') z);
  }

  module _ {v w : Element} {after rest : List ℕ} (g : TagOf s depth v after a) (k : TagOf t depth w rest b) where
    -- as many parts
    pub parts-end : {e o : ℕ} → EndsAt s a.full a.name a.past depth i e → EndsAt t b.full b.name b.past depth j o → answer ≡ compare_all_parts v.kids w.kids
    unfolding compare_all_parts
    parts-end n m =
        let (l, r, x, y, e) = h.left v w after rest g k in
        sym (e ∙ ap₂ (λ (l r : Nodes). answer also compare_all_parts l r) (n.ends v after l g.deep g.named x).0 (m.ends w rest r k.deep k.named y).0 ∙ also_yes answer)

    -- differing counts
    pub parts_over : {p o : ℕ} → ChildAt s a.full depth i p → EndsAt t b.full b.name b.past depth j o → No ≡ compare_all_parts v.kids w.kids
    unfolding compare_all_parts
    parts_over n m =
        let (l, r, x, y, e) = h.left v w after rest g k in
        sym (e ∙ ap₂ (λ (l r : Nodes). answer also compare_all_parts l r) (n.first v after l x).is (m.ends w rest r k.deep k.named y).0 ∙ also_no answer)

    pub parts_under : {e q : ℕ} → EndsAt s a.full a.name a.past depth i e → ChildAt t b.full depth j q → No ≡ compare_all_parts v.kids w.kids
    unfolding compare_all_parts
    parts_under n m =
        let (l, r, x, y, e) = h.left v w after rest g k in
        sym (e ∙ ap₂ (λ (l r : Nodes). answer also compare_all_parts l r) (n.ends v after l g.deep g.named x).0 (m.first w rest r y).is ∙ also_no answer)
