-- "at most 8 open at once": a text that is a tree of elements is a document exactly if no more than 8 of them are open at once.
use Prim.Native.Nat.{ℕ, zero, suc, ◌≤◌, ◌<◌, max}
use mathlib.Core.Path.{◌≡◌, refl, sym, ◌∙◌, ap}
use mathlib.Core.Bool.{Bool, true, false, cond}
use mathlib.Core.List.{List, [], ◌∷◌}
use mathlib.Core.Option.{none, some}
use native.Mathlib.Decide.{dec_le}
use native.Mathlib.Omega.{arith}
use borrow.Author.Tests.{leb-true, le-leb, lt-leb}
use lib.Dec.{leb}
use lib.ListN.{length}
use lib.IntN.{ℤ}
use Rattle.rules.specs.Basics.{bytes}
use Rattle.rules.specs.Refusal.{MARKUP, first_of, answered, refused}
use Rattle.rules.specs.Parsers.{Parsed, bad, ok, Parser, next, else, pure, ◌>>=◌, ◌>>◌, one, byte, literal, finish, sized, whole}
use Rattle.rules.specs.Markup.{space, name, tag_attributes, Nodes, end, node, Element, end_tag, body, element, content, document}
use Rattle.rules.specs.Utf8.{is_utf8}
use Rattle.rules.specs.Check.{is_offset, is_too_long, record_faults, check}
use Rattle.rules.proofs.Tests.{clash}
use Rattle.rules.proofs.Precedence.{check-refused, check-answered}
use Rattle.rules.proofs.Parsers.{next-ok, map-ok, byte-ok, whole-ok}

-- how many of these elements, and of those inside them, are open at once
unfoldable pub open_in : Nodes → ℕ
open_in end = 0
open_in (node n attrs kids rest) = max (suc (open_in kids)) (open_in rest)

-- the same of an element, itself counted
abbrev pub depth_of : Element → ℕ
depth_of e = suc (open_in e.kids)

-- one element with white space around it, as a document is, where `depth` may be open at once
abbrev pub tree_within : (depth : ℕ) → Parser Element
tree_within depth = do
  space
  e ← sized (λ n. element n depth)
  space
  pure e

-- an element whose content p reads
abbrev element_over : Parser Nodes → Parser Element
element_over p = do
  byte 60
  n ← name
  as' ← tag_attributes
  space
  kids ← body n p
  pure (record { name = n; attrs = as'; kids = kids })

-- an end tag begins with `</`, and no element does
abbrev Ends : List ℕ → Type 0
Ends s = (t : List ℕ) × (s ≡ 60 ∷ 47 ∷ t)

ends : (n s : List ℕ) {c : ℕ} {v : List ℕ} → end_tag n s ≡ ok c v → Ends s
unfolding end_tag literal
ends n s h =
    next-ok (literal (60 ∷ 47 ∷ []) s) (λ a. literal n >> space >> byte 62) h λ a r g k.
    next-ok (byte 60 s) (λ b. literal (47 ∷ [])) g λ b t g k.
    next-ok (byte 47 t) (λ b. literal []) k λ c u i j. (u, byte-ok 60 s g ∙ ap (λ t. 60 ∷ t) (byte-ok 47 t i))

no_element : (f d : ℕ) (s : List ℕ) → Ends s → element f d s ≡ bad
unfolding element name one
no_element zero d s h = refl
no_element (suc f) zero s h = refl
no_element (suc f) (suc d) s (t, z) = rw z

-- what was read has no content, or its content was read up to an end tag; Q holds of whatever reads the same content there
data Inside (p : Parser Nodes) (kids : Nodes) (Q : Parser Nodes → Type 0) : Type 0 where
  childless : kids ≡ end → ((q : Parser Nodes) → Q q) → Inside p kids Q
  around : (t u : List ℕ) → p t ≡ ok kids u → Ends u → ((q : Parser Nodes) → q t ≡ ok kids u → Q q) → Inside p kids Q

body-inside : (p : Parser Nodes) (n s : List ℕ) {kids : Nodes} {r : List ℕ} → body n p s ≡ ok kids r → Inside p kids (λ q. body n q s ≡ ok kids r)
body-inside p n s {kids} {r} h = go (literal (bytes "/>") s) refl h
  where
    go : (x : Parsed (Unit {0})) → literal (bytes "/>") s ≡ x
        → else (next x (λ a. pure end)) ((byte 62 >> (p >>= λ kids. end_tag n >> pure kids)) s) ≡ ok kids r → Inside p kids (λ q. body n q s ≡ ok kids r)
    go (ok a t) d e = childless (cc) (λ q. rw d e)
    go bad d e =
        next-ok (byte 62 s) _ e λ b t h1 g1.
        next-ok (p t) _ g1 λ l u h2 g2.
        let (c, h3, z) = map-ok (end_tag n u) (λ c. l) g2 in
        around t u (h2 ∙ ap (λ l. ok l u) z) (ends n u h3) (λ q k. rw (d, h1, k, h3))

element-inside : (p : Parser Nodes) (s : List ℕ) {e : Element} {r : List ℕ} → element_over p s ≡ ok e r → Inside p e.kids (λ q. element_over q s ≡ ok e r)
element-inside p s {e} {r} h =
    next-ok (byte 60 s) _ h λ b s1 h1 g1.
    next-ok (name s1) _ g1 λ n s2 h2 g2.
    next-ok (tag_attributes s2) _ g2 λ as' s3 h3 g3.
    next-ok (space s3) _ g3 λ w s4 h4 g4.
    let (kids, h5, z) = map-ok (body n p s4) (λ kids. record { name = n; attrs = as'; kids = kids }) g4 in
    let i : kids ≡ e.kids = ap (λ (e : Element). e.kids) z in
    let again : (q : Parser Nodes) → body n q s4 ≡ ok kids r → element_over q s ≡ ok e r = λ q k. rw (h1, h2, h3, h4, k, z) in
    elim (body-inside p n s4 h5) [
      | childless f g ↦ childless (sym i ∙ f) (λ q. again q (g q))
      | around t u f g k ↦ around t u (f ∙ ap (λ l. ok l u) i) g (λ q l. again q (k q (l ∙ ap (λ l. ok l u) (sym i))))
    ]

-- an element that is read with a fuel is at most as deep as may be, and it is read wherever so many may be open
abbrev ElementWithin : (fuel : ℕ) → Type 0
ElementWithin f = (d : ℕ) (s : List ℕ) (e : Element) (r : List ℕ) → element f d s ≡ ok e r → (depth_of e ≤ d) × ((m : ℕ) → depth_of e ≤ m → element f m s ≡ ok e r)

-- the same of content up to an end tag
abbrev ContentWithin : (fuel : ℕ) → Type 0
ContentWithin f = (d : ℕ) (s : List ℕ) (l : Nodes) (r : List ℕ) → content f d s ≡ ok l r
    → (open_in l ≤ d) × ((m : ℕ) → Ends r → open_in l ≤ m → content f m s ≡ ok l r)

element_step : (f : ℕ) → ContentWithin f → ElementWithin (suc f)
unfolding element open_in
element_step f below zero s e r h = clash (cc)
element_step f below (suc d) s e r h = elim (element-inside (content f d) s h) [
  | childless i g ↦ (rw i (omega arith), deeper λ m k. g (content f m))
  | around t u i j g ↦ let (b, again) = below d t e.kids u i in (omega (arith, b), deeper λ m k. g (content f m) (again m j k))
]
  where
    deeper : ((m : ℕ) → open_in e.kids ≤ m → element (suc f) (suc m) s ≡ ok e r) → (m : ℕ) → depth_of e ≤ m → element (suc f) m s ≡ ok e r
    deeper g zero k = absurd (omega (arith, k))
    deeper g (suc m) k = g m (omega (arith, k))

content_step : (f : ℕ) → ElementWithin f → ContentWithin f → ContentWithin (suc f)
unfolding element open_in
content_step f one_below below d s l r h = next-ok (space s) _ h λ w t h1 g. first w t h1 (element f d t) refl g
  where
    none_read : {w t : List ℕ} → space s ≡ ok w t → ok end t ≡ ok l r
        → (open_in l ≤ d) × ((m : ℕ) → Ends r → open_in l ≤ m → content (suc f) m s ≡ ok l r)
    none_read {w} {t} h1 g =
        let z : l ≡ end = cc in
        let y : t ≡ r = cc in
        (rw z (omega arith), λ m k b. rw (h1, no_element f m t (rw y k)) g)

    others : (w t u : List ℕ) (e : Element) → space s ≡ ok w t → element f d t ≡ ok e u → (x : Parsed Nodes) → content f d u ≡ x
        → else (next x (λ rest. pure (node e.name e.attrs e.kids rest))) (ok end t) ≡ ok l r
        → (open_in l ≤ d) × ((m : ℕ) → Ends r → open_in l ≤ m → content (suc f) m s ≡ ok l r)
    others w t u e h1 i bad j g = none_read h1 g
    others w t u e h1 i (ok rest v) j g =
        let z : node e.name e.attrs e.kids rest ≡ l = cc in
        let y : v ≡ r = cc in
        let (a, again) = one_below d t e u i in
        let (b, more) = below d u rest v j in
        (rw (← z) (omega (arith, a, b)), λ m k c. let c' = rw (← z) at c in rw (h1, again m (omega (arith, c')), more m (rw y k) (omega (arith, c'))) g)

    first : (w t : List ℕ) → space s ≡ ok w t → (x : Parsed Element) → element f d t ≡ x
        → else (next x (λ e. content f d >>= λ rest. pure (node e.name e.attrs e.kids rest))) (ok end t) ≡ ok l r
        → (open_in l ≤ d) × ((m : ℕ) → Ends r → open_in l ≤ m → content (suc f) m s ≡ ok l r)
    first w t h1 bad i g = none_read h1 g
    first w t h1 (ok e u) i g = others w t u e h1 i (content f d u) refl g

within : (f : ℕ) → ElementWithin f × ContentWithin f
unfolding element open_in
within zero = (λ d s e r h. clash (cc), λ d s l r h. let z : l ≡ end = cc in (rw z (omega arith), λ m k b. h))
within (suc f) = let (a, b) = within f in (element_step f b, content_step f a b)

-- and it is not read where fewer may be open
too_deep : (f d m : ℕ) (s : List ℕ) {e : Element} {r : List ℕ} → element f d s ≡ ok e r → m < depth_of e → element f m s ≡ bad
too_deep f d m s {e} {r} h b = go (element f m s) refl
  where
    go : (x : Parsed Element) → element f m s ≡ x → x ≡ bad
    go bad i = refl
    go (ok c v) i =
        let (p, again) = (within f).0 m s c v i in
        let same : ok e r ≡ ok c v = sym h ∙ again d (omega (arith, p, b, ((within f).0 d s e r h).0)) in
        let z : e ≡ c = cc in
        absurd (omega (arith, p, b, ap depth_of z))

-- so of a text that is a tree where `depth` may be open at once, whatever that is: it is a document exactly if at most 8 are
pub depth_limit : (depth : ℕ) (s : List ℕ) (e : Element) → whole (tree_within depth) s ≡ some e → document s ≡ cond (leb (depth_of e) 8) (some e) none
unfolding document finish
depth_limit depth s e h =
    next-ok (space s) _ (whole-ok (tree_within depth) s h) λ w t h1 g1.
    next-ok (element (length t) depth t) _ g1 λ d u h2 g2.
    let (w', h3, z) = map-ok (space u) (λ w. d) g2 in
    elim (dec_le (depth_of e) 8) [
      | yes k ↦ rw (le-leb (depth_of e) 8 k, h1, ((within (length t)).0 depth t d u h2).1 8 (rw z k), h3, z)
      | no k ↦ rw (lt-leb (depth_of e) 8 (omega (arith, k)), h1, too_deep (length t) depth 8 t h2 (rw z (omega (arith, k))))
    ]

pub document_depth : (s : List ℕ) (e : Element) → document s ≡ some e → depth_of e ≤ 8
unfolding document
document_depth s e h = leb-true (depth_of e) 8 (go (leb (depth_of e) 8) (sym h ∙ depth_limit 8 s e h))
  where
    go : (b : Bool) → some e ≡ cond b (some e) none → b ≡ true
    go true z = refl
    go false z = clash (cc)

-- an accepted record is at most 8 deep
pub accepted_depth : (offset : ℤ) (s : List ℕ) (e : Element) → check offset s ≡ answered e → depth_of e ≤ 8
accepted_depth offset s e h = document_depth s e ((check-answered offset s e).0 h).0

-- and one that is deeper is MARKUP, where nothing that stands before that on the ladder applies
pub deeper_markup : (depth : ℕ) (offset : ℤ) (s : List ℕ) (e : Element) → whole (tree_within depth) s ≡ some e → 8 < depth_of e
    → is_offset offset ≡ true → is_too_long s ≡ false → is_utf8 s ≡ true → check offset s ≡ refused MARKUP
unfolding record_faults first_of
deeper_markup depth offset s e h k f g u =
    let none_read : document s ≡ none = rw (depth_limit depth s e h, lt-leb (depth_of e) 8 k) in
    (check-refused offset s MARKUP).1 (rw (f, g, u, none_read))
