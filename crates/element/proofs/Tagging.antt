-- A start tag put together: its head, what it carries, and how it closes.
use Rattle.std.specs.Prelude.{Option, None}
use Rattle.std.proofs.Common.{unwrap_or}
use Prim.Native.Nat.{ℕ, zero, suc, ◌+◌, ◌-◌, ◌≤◌, ◌<◌}
use mathlib.Core.Path.{◌≡◌, refl, sym, ◌∙◌, subst}
use mathlib.Core.Bool.{Bool, true, false}
use mathlib.Core.List.{List}
use mathlib.Core.Logic.{inl, inr}
use native.Mathlib.Omega.{arith}
use lib.ListN.{length, drop, get_or}
use Rattle.rules.specs.Basics.{bytes}
use Rattle.rules.specs.Parsers.{Parser, Parsed, bad, ok, pure, guard, ◌>>=◌, ◌>>◌, one, byte, literal}
use Rattle.rules.specs.Markup.{Attribute, space, name, tag_attributes, attributes, is_distinct, Nodes, end, Element, end_tag, body, element, content}
use Rattle.rules.proofs.Parsers.{next-ok, map-ok, else-ok, byte-ok}
use Rattle.rules.proofs.Tests.{clash}
use Rattle.text.specs.Reads.{Good, Reads, upto, none}
use Rattle.text.proofs.Reading.{none_of}
use Rattle.markup.specs.Tags.{HeadTo}
use Rattle.markup.proofs.Names.{name_is}
use Rattle.element.specs.Tags.{ElementTo, Tells, Inner, empty, full, TagOf, TagIn}
use Rattle.element.specs.Carried.{AttributesTo, CarriedIn, CarriedAs, PastLiteral, Closes, at_once, with_content, Closed}
use Rattle.element.specs.declared.tag.Carried.{Carried}
use Rattle.element.specs.declared.tag.Tag.{Tag}
use Rattle.element.proofs.Placing.{no_places, none_there}

-- past a text
pub past_there : {s : List ℕ} {at k e : ℕ} (t : List ℕ) → Good k (literal t) s at e → PastLiteral s at t e
past_there {s} {at} {k} {e} t g = record {
  low = omega (arith, g.low);
  high = g.high;
  past = λ u left q. let z : ◌≡◌ {A = Parsed (Unit {0})} (ok g.value (drop e s)) (ok u left) = sym g.reads ∙ q in let w : left ≡ drop e s = cc in w;
}

pub past-nothing : {s : List ℕ} {at k : ℕ} (t : List ℕ) → at ≤ length s → Reads k (literal t) s at None → PastLiteral s at t at
past-nothing {s} {at} t h b = record { low = omega arith; high = h; past = λ u left q. let z = sym (none_of (literal t) b) ∙ q in clash (cc) }

pub literal_past : {s : List ℕ} {at k : ℕ} {r : Option ℕ} (t : List ℕ) → at ≤ length s → Reads k (literal t) s at r → PastLiteral s at t (unwrap_or r at)
literal_past t l (upto e g) = past_there t g
literal_past {k = k} t l (none b) = past-nothing {k = k} t l (none b)

-- how it closes
module _ {s : List ℕ} {at i : ℕ} (g : Good 0 space s at i) (n : List ℕ) (p : Parser Nodes) (kids : Nodes) (after : List ℕ)
    (q : (space >> body n p) (drop at s) ≡ ok kids after) where
  at_body : body n p (drop i s) ≡ ok kids after
  at_body = rw g.reads at q

  pub opens : {e : ℕ} → Good 1 (byte 62) s i e → Closes s n p e after kids true
  unfolding literal one
  opens {e} h = with_content kids (rw (not_slash, h.reads) at at_body)
    where
      not_slash : literal (bytes "/>") (drop i s) ≡ bad
      not_slash = rw (byte-ok 62 (drop i s) h.reads)

  pub shuts : {e : ℕ} → Reads 1 (byte 62) s i None → PastLiteral s i (bytes "/>") e → Closes s n p e after kids false
  shuts {e} b h = elim (else-ok ((literal (bytes "/>") >> pure end) (drop i s)) _ at_body) [
    | inl x ↦
        let (u, y, z) = map-ok (literal (bytes "/>") (drop i s)) (λ u. end) x in
        subst (λ (k : Nodes). Closes s n p e after k false) z (at_once (h.past u after y))
    | inr x ↦ let z = rw (none_of (byte 62) b) at x in clash (cc)
  ]

abbrev made : (name : List ℕ) (attrs : List Attribute) (kids : Nodes) → Element
made n l k = record { name = n; attrs = l; kids = k }

-- how a tag closes is no name
no_name : (x n : List ℕ) (p : Parser Nodes) {kids : Nodes} {after : List ℕ} → body n p x ≡ ok kids after → name x ≡ bad
unfolding name one literal
no_name x n p q = elim (else-ok ((literal (bytes "/>") >> pure end) x) _ q) [
  | inl y ↦ let (u, z, e) = map-ok (literal (bytes "/>") x) (λ u. end) y in next-ok (byte 47 x) (λ c. literal (bytes ">")) z (λ c t w k. rw (byte-ok 47 x w))
  | inr y ↦ next-ok (byte 62 x) (λ c. p >>= (λ k. end_tag n >> pure k)) y (λ c t w k. rw (byte-ok 62 x w))
]

-- the attributes of a tag, each name once
carried_to : {s : List ℕ} {m : ℕ} {l : List Attribute} {left : List ℕ} → tag_attributes (drop m s) ≡ ok l left → (space >> name) left ≡ bad → AttributesTo s m l left × (is_distinct l ≡ true)
unfolding tag_attributes
carried_to {s} {m} {l} {left} q b =
    next-ok (attributes (length (drop m s)) (drop m s)) (λ k. guard (is_distinct k) >> pure k) q (λ k t x y.
    let (e, f, g) = passed (is_distinct k) k t y in
    (record { fuel = length (drop m s); reads = rw (← e, ← f) x; all = b }, rw (← e) g))
  where
    passed : (b : Bool) (j : List Attribute) (t : List ℕ) → (guard b >> pure j) t ≡ ok l left → (j ≡ l) × (t ≡ left) × (b ≡ true)
    passed true j t r = (cc, cc, refl)
    passed false j t r = clash (cc)

module _ {s : List ℕ} {at n m : ℕ} (h : HeadTo s at n m) (c : Carried) (t : Tag) (i : CarriedIn s m c)
    (tells : (l : List Attribute) (left : List ℕ) → AttributesTo s m l left → CarriedAs s l left c) (closed : Closed s n m c t) where
  inner : (f d : ℕ) {v : List ℕ} {after : List ℕ} {kids : Nodes} {b : Bool} → length s ≤ at + suc f → Closes s v (content f d) t.end after kids b → Inner s d v t.end after kids b
  inner f d x (at_once q) = empty q
  inner f d x (with_content kids q) = full kids (record { fuel = f; enough = omega (arith, x, h.less.low, h.named.low, i.low, closed.low); reads = q })

  pub tag_of : (depth : ℕ) (v : Element) (after : List ℕ) → ElementTo s at depth v after → TagOf s depth v after t
  unfolding element
  tag_of depth v after x = go x.fuel depth x.enough x.reads
    where
      a : List ℕ
      a = h.named.value

      go : (f d : ℕ) → length s ≤ at + f → element f d (drop at s) ≡ ok v after → TagOf s d v after t
      go zero d l q = clash (cc)
      go (suc f) zero l q = clash (cc)
      go (suc f) (suc d) l q =
          next-ok (tag_attributes (drop m s)) (λ as'. space >> (body a (content f d) >>= (λ k. pure (made a as' k)))) (rw (h.less.reads, h.named.reads) at q) (λ as' u x q₁.
          next-ok (space u) (λ w. body a (content f d) >>= (λ k. pure (made a as' k))) q₁ (λ w u₁ g q₂.
          let (j, z, made-is) = map-ok (body a (content f d) u₁) (made a as') q₂ in
          let (y, e) = carried_to x (rw g (no_name u₁ a (content f d) z)) in
          let k = tells as' u y in
          let r : (space >> body a (content f d)) (drop c.end s) ≡ ok j after = rw (← k.ends, g) z in
          subst (λ (v : Element). TagOf s (suc d) v after t) made-is (record {
            deep = omega arith;
            named = rw (closed.name_is, closed.past_is) (name_is s n m a h.named.low h.named.high h.named.reads);
            tells = subst (λ (p : List ℕ). Tells s as' p) (sym closed.places) k.tells;
            distinct = e;
            others = closed.others ∙ k.others;
            namespaces = closed.namespaces ∙ k.namespaces;
            inner = subst (λ (o : ℕ). Inner s o a t.end after j t.full) (omega arith) (inner f d l (closed.inner a (content f d) j after r));
          })))

  pub tag_in : TagIn s t × (at < length s → at < t.end)
  tag_in = (
    record {
      placed = λ k. subst (λ (p : List ℕ). get_or p k 0 ≤ length s - 1) (sym closed.places) (i.placed k);
      name = omega (arith, closed.name_is, closed.past_is, h.named.low);
      past = omega (arith, closed.past_is, h.named.high);
      end = closed.high;
    },
    λ l. omega (arith, h.less.low, h.named.low, i.low, closed.low),
  )

-- there is none
pub no_tag : {P : Type 0} {s : List ℕ} {at depth : ℕ} {v : Element} {after : List ℕ} → ((f d : ℕ) → element f d (drop at s) ≡ bad) → ElementTo s at depth v after → P
no_tag {depth = depth} b x = let z = sym (b x.fuel depth) ∙ x.reads in clash (cc)

pub no_tag_in : (s : List ℕ) {at : ℕ} → TagIn s (record { places = no_places; others = 0; namespaces = 0; name = 0; past = 0; end = length s; full = false }) × (at < length s → at < length s)
no_tag_in s = (record { placed = λ k. rw (none_there k) (omega arith); name = omega arith; past = omega arith; end = omega arith }, λ h. h)
