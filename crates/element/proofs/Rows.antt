-- Elements side by side, one after another, as far as the end tag.
use Rattle.std.specs.Prelude.{Option}
use Rattle.std.proofs.Common.{unwrap_or}
use Prim.Native.Nat.{ℕ, zero, suc, ◌+◌, ◌-◌, ◌≤◌, ◌<◌}
use mathlib.Core.Path.{◌≡◌, refl, sym, ◌∙◌, ap, subst}
use mathlib.Core.Bool.{Bool, true, false, not, ◌&&◌}
use mathlib.Core.List.{List, [], ◌∷◌}
use native.Mathlib.Omega.{arith}
use borrow.Author.Tests.{ne_eqb}
use lib.Dec.{eqb}
use lib.ListN.{length, take, drop, get_or, length-drop}
use Rattle.rules.specs.Basics.{bytes}
use Rattle.rules.specs.Parsers.{Parsed, bad, ok, next, else, pure, ◌>>=◌, ◌>>◌, after, one, many, byte, literal}
use Rattle.rules.specs.Markup.{is_space, space, is_name_start, is_name_byte, name, Nodes, end, node, Element, end_tag, element, content}
use Rattle.rules.proofs.Parsers.{next-ok, map-ok, cons_ok, one_ok, byte-ok}
use Rattle.rules.proofs.Tests.{clash}
use Rattle.text.specs.Reads.{Good, Reads, upto, none}
use Rattle.text.proofs.Reading.{good, here}
use Rattle.markup.specs.Elements.{ReadsContent}
use Rattle.element.specs.Tags.{ElementTo, closed, RowTo, Inner, empty, full, TagOf}
use Rattle.element.specs.Rows.{is_child}
use Rattle.element.specs.declared.tag.Tag.{Tag}

-- what stands at i, past white space: the end tag of a name; or an element, and the others from where it ends on
pub data RowSteps (s name : List ℕ) (depth i : ℕ) (after : List ℕ) : Nodes → (more : Bool) → Type 0 where
  row_ends : (c : ℕ) → end_tag name (drop i s) ≡ ok c after → RowSteps s name depth i after end false
  row_goes : (v : Element) (left : List ℕ) (l : Nodes) → ElementTo s i depth v left → ((e : ℕ) → i < e → left ≡ drop e s → RowTo s name e depth l after)
      → RowSteps s name depth i after (node v.name v.attrs v.kids l) true

-- where elements and an end tag stand from a position on, the first of them stands at i, past white space; `more`: it is an element
pub record Stands (s : List ℕ) (at i : ℕ) (more : Bool) : Type 0 where
  pub low : at ≤ i
  pub high : i ≤ length s
  pub within : more ≡ true → i < length s
  pub steps : (name : List ℕ) (depth : ℕ) (l : Nodes) (after : List ℕ) → RowTo s name at depth l after → RowSteps s name depth i after l more

abbrev joined : Element → Nodes → Nodes
joined e l = node e.name e.attrs e.kids l

-- the reader of content never fails
total : (f d : ℕ) (x : List ℕ) → (l : Nodes) × (r : List ℕ) × (content f d x ≡ ok l r)
unfolding content many
total zero d x = (end, x, refl)
total (suc f) d x = go (next (element f d (after is_space x)) (λ e. content f d >>= (λ l. pure (joined e l)))) (after is_space x)
  where
    go : (p : Parsed Nodes) (y : List ℕ) → (l : Nodes) × (r : List ℕ) × (else p (ok end y) ≡ ok l r)
    go bad y = (end, y, refl)
    go (ok l r) y = (l, r, refl)

-- an end tag begins with `</`, an element does not
end-begins : (n x : List ℕ) {c : ℕ} {r : List ℕ} → end_tag n x ≡ ok c r → is_child x ≡ false
unfolding end_tag literal
end-begins n x q =
    next-ok (literal (bytes "</") x) (λ u. literal n >> (space >> byte 62)) q (λ u t y z.
    next-ok (byte 60 x) (λ c. literal (47 ∷ [])) y (λ c t₁ y₁ z₁.
    next-ok (byte 47 t₁) (λ c. literal []) z₁ (λ c₂ t₂ y₂ z₂. rw (byte-ok 60 x y₁, byte-ok 47 t₁ y₂))))

not_slash : (c : ℕ) → is_name_start c ≡ true → eqb c 47 ≡ false
not_slash c e = ne_eqb c 47 (λ z. clash (cc (e, ap is_name_start z)))

element-begins : (f d : ℕ) (x : List ℕ) {v : Element} {r : List ℕ} → element f d x ≡ ok v r → is_child x ≡ true
unfolding element name
element-begins zero d x q = clash (cc)
element-begins (suc f) zero x q = clash (cc)
element-begins (suc f) (suc d) x q =
    next-ok (byte 60 x) _ q (λ c t y z.
    next-ok (name t) _ z (λ n t₁ y₁ z₁.
    let (b, t₂, l, g, h, w) = cons_ok (one is_name_start t) (many is_name_byte) y₁ in
    let (u, e) = one_ok is_name_start t g in
    rw (byte-ok 60 x y, u, not_slash b e)))

pub row_steps : {s name : List ℕ} {at i : ℕ} (depth : ℕ) → Good 0 space s at i → (l : Nodes) (after : List ℕ) → RowTo s name at depth l after
    → RowSteps s name depth i after l (is_child (drop i s))
unfolding content
row_steps {s} {name} {at} {i} depth g l after x = go x.fuel x.enough x.reads
  where
    go : (f : ℕ) → length s < at + f → closed name f depth (drop at s) ≡ ok l after → RowSteps s name depth i after l (is_child (drop i s))
    go zero h q = absurd (omega (arith, h, g.low, g.high))
    go (suc f) h q = cases (element f depth (drop i s)) refl (rw g.reads at q)
      where
        cases : (p : Parsed Element) → element f depth (drop i s) ≡ p → next (else (next p (λ e. content f depth >>= (λ k. pure (joined e k)))) (ok end (drop i s))) (λ k. end_tag name >> pure k) ≡ ok l after
            → RowSteps s name depth i after l (is_child (drop i s))
        cases bad e q =
            let (c, y, z) = map-ok (end_tag name (drop i s)) (λ c. end) q in
            subst (λ (k : Nodes). RowSteps s name depth i after k (is_child (drop i s))) z (rw (end-begins name (drop i s) y) (row_ends c y))
        cases (ok v t) e q =
            let (k, r, w) = total f depth t in
            let (c, y, z) = map-ok (end_tag name r) (λ c. joined v k) (rw w at q) in
            subst (λ (k : Nodes). RowSteps s name depth i after k (is_child (drop i s))) z (rw (element-begins f depth (drop i s) e)
            (row_goes v t k (record { fuel = f; enough = omega (arith, h, g.low); reads = e })
            (λ m p u. record { fuel = f; enough = omega (arith, h, g.low, p); reads = rw (← u, w, y) })))

pub stands : {s : List ℕ} {at i : ℕ} → Good 0 space s at i → (more : Bool) → is_child (drop i s) ≡ more → (more ≡ true → i < length s) → Stands s at i more
stands {s} {at} {i} g more e h = record { low = omega (arith, g.low); high = g.high; within = h; steps = λ name depth l after x. rw (← e) (row_steps depth g l after x) }

-- two bytes of a text tell
pub too_short : (s : List ℕ) (at : ℕ) → length s - at < 2 → false ≡ is_child (drop at s)
too_short s at h = go (drop at s) (rw length-drop (omega (arith, h)))
  where
    go : (x : List ℕ) → length x < 2 → false ≡ is_child x
    go [] h = refl
    go (c ∷ []) h = refl
    go (c ∷ d ∷ x) h = absurd (omega (arith, h))

pub two_bytes : (s : List ℕ) (at : ℕ) → 2 ≤ length s - at → (eqb (get_or s at 0) 60 && not (eqb (get_or s (at + 1) 0) 47)) ≡ is_child (drop at s)
two_bytes s at h = rw (here s at (omega (arith, h)), here s (at + 1) (omega (arith, h)))

-- past the end tag, by the answer on it
pub end_tag_past : {s : List ℕ} (n : List ℕ) {at : ℕ} {r : Option ℕ} → at ≤ length s → Reads 1 (end_tag n) s at r
    → ((at ≤ unwrap_or r at) × (unwrap_or r at ≤ length s)) × ((c : ℕ) (after : List ℕ) → end_tag n (drop at s) ≡ ok c after → after ≡ drop (unwrap_or r at) s)
end_tag_past {s} n l (upto e g) =
    ((omega (arith, g.low), g.high), λ c after q. let z : ◌≡◌ {A = Parsed ℕ} (ok g.value (drop e s)) (ok c after) = sym g.reads ∙ q in cc)
end_tag_past {s} n l (none b) = ((omega arith, l), λ c after q. let z = sym b ∙ q in clash (cc))

-- past the content of a tag
pub content-past : {s : List ℕ} {depth e : ℕ} (v : Element) (after : List ℕ) (t : Tag) → t.full ≡ true → ReadsContent s t.end (depth - 1) e → TagOf s depth v after t
    → (c : ℕ) × (end_tag (take (t.past - t.name) (drop t.name s)) (drop e s) ≡ ok c after)
content-past {s} {depth} {e} v after t z r h = go t.full v.kids z h.inner
  where
    go : (b : Bool) (l : Nodes) → b ≡ true → Inner s (depth - 1) v.name t.end after l b → (c : ℕ) × (end_tag (take (t.past - t.name) (drop t.name s)) (drop e s) ≡ ok c after)
    go false l z (empty q) = clash (cc)
    go true l z (full m x) =
        let g = good (r x.fuel x.enough) in
        let (c, y, w) = map-ok (end_tag v.name (drop e s)) (λ c. g.value) (rw g.reads at x.reads) in
        (c, rw (← h.named) y)

-- a tag that no content follows
pub nothing-past : {s : List ℕ} {depth : ℕ} (v : Element) (after : List ℕ) (t : Tag) → (t.full && not (eqb depth 0)) ≡ false → TagOf s depth v after t → after ≡ drop t.end s
nothing-past {s} {depth} v after t z h = go t.full v.kids z h.inner
  where
    go : (b : Bool) (l : Nodes) → (b && not (eqb depth 0)) ≡ false → Inner s (depth - 1) v.name t.end after l b → after ≡ drop t.end s
    go false l z (empty q) = q
    go true l z (full m x) = clash (cc (z, ne_eqb depth 0 (λ e. absurd (omega (arith, e, h.deep)))))

pub content-within : {s : List ℕ} {at e : ℕ} (d : ℕ) → ReadsContent s at d e → (at ≤ e) × (e ≤ length s)
content-within {s} d r = let g = good (r (suc (length s)) (omega arith)) in (omega (arith, g.low), g.high)
