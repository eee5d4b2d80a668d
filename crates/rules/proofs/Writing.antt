-- A tree that is written in one way is read back as that tree.
use Prim.Native.Nat.{ℕ, zero, suc, ◌+◌, ◌≤◌, ◌<◌}
use mathlib.Core.Path.{◌≡◌, refl, sym, ◌∙◌, ap}
use mathlib.Core.Bool.{Bool, true, false, not, ◌&&◌, ◌||◌}
use mathlib.Core.List.{List, [], ◌∷◌, ◌++◌, append_assoc, append-nil, flat_map}
use mathlib.Core.Option.{some}
use native.Mathlib.Omega.{arith}
use borrow.Author.Tests.{le-leb, ne_eqb, eqb-true, not-true}
use lib.Dec.{leb, eqb}
use lib.ListN.{length, length-append}
use Rattle.rules.specs.Basics.{find, every, bytes, is_from, is_digit}
use Rattle.rules.specs.Parsers.{bad, ok, front, after, one, many, literal, finish}
use Rattle.rules.specs.Markup.{is_space, space, some_space, is_name_start, is_name_byte, name, noncharacter, char, text, value, Attribute, attribute, attributes, is_distinct, tag_attributes, Nodes, end, node, Element, end_tag, body, element, content, document}
use Rattle.rules.specs.Utf8.{lead_of, follows, is_utf8}
use Rattle.rules.proofs.Tests.{clash, both_true, is_from-true, every_true, every_append, every_map}
use Rattle.rules.proofs.Depth.{open_in, depth_of}
use Rattle.rules.proofs.Beginnings.{Stops, many_read, literal-read}

-- A tree as markup in one way: one space before each attribute, no other white space, `/>` where childless; values stand as they are.

-- ` name="value"`
abbrev pub attribute_text : Attribute → List ℕ
attribute_text a = 32 ∷ a.name ++ 61 ∷ 34 ∷ a.value ++ 34 ∷ []

-- what follows the attributes of an element named n, whose children are written as `inner`
abbrev pub body_text : List ℕ → Nodes → (inner : List ℕ) → List ℕ
body_text n end inner = bytes "/>"
body_text n (node m attrs kids rest) inner = 62 ∷ inner ++ bytes "</" ++ n ++ 62 ∷ []

abbrev pub element_text : List ℕ → List Attribute → Nodes → (inner : List ℕ) → List ℕ
element_text n attrs kids inner = 60 ∷ n ++ flat_map attribute_text attrs ++ body_text n kids inner

-- elements side by side
unfoldable pub nodes_text : Nodes → List ℕ
nodes_text end = []
nodes_text (node n attrs kids rest) = element_text n attrs kids (nodes_text kids) ++ nodes_text rest

abbrev pub write : Element → List ℕ
write e = element_text e.name e.attrs e.kids (nodes_text e.kids)

-- What can be written so: names by the markup rules, each attribute once per element, and values of ASCII with no byte that has to be
-- referred to.
unfoldable pub is_name : List ℕ → Bool
is_name [] = false
is_name (c ∷ s) = is_name_start c && every is_name_byte s

-- a byte that stands for itself in a value, and does not end it
abbrev pub is_bare : ℕ → Bool
is_bare c = is_from 32 127 c && not (eqb c 34) && not (eqb c 38) && not (eqb c 60)

abbrev pub is_bare_attribute : Attribute → Bool
is_bare_attribute a = is_name a.name && every is_bare a.value

abbrev pub is_bare_tag : List ℕ → List Attribute → Bool
is_bare_tag n attrs = is_name n && every is_bare_attribute attrs && is_distinct attrs

unfoldable pub are_bare : Nodes → Bool
are_bare end = true
are_bare (node n attrs kids rest) = is_bare_tag n attrs && are_bare kids && are_bare rest

abbrev pub is_bare_tree : Element → Bool
is_bare_tree e = is_bare_tag e.name e.attrs && are_bare e.kids

pub name-read : (n r : List ℕ) → is_name n ≡ true → Stops is_name_byte r → name (n ++ r) ≡ ok n r
unfolding name is_name one
name-read [] r h k = clash (cc)
name-read (c ∷ n) r h k = let (f, g) = both_true (is_name_start c) (every is_name_byte n) h in rw (f, many_read is_name_byte n r g k)

-- what a byte of a value is
record Bare (c : ℕ) : Type 0 where
  low : 32 ≤ c
  high : c ≤ 127
  no_quote : eqb c 34 ≡ false
  no_ampersand : eqb c 38 ≡ false
  no_tag : eqb c 60 ≡ false

bare : (c : ℕ) → is_bare c ≡ true → Bare c
bare c h =
    let (f, t) = both_true _ _ h in
    let (g, a) = both_true _ _ f in
    let (i, q) = both_true _ _ g in
    let (l, m) = is_from-true 32 127 c i in
    record { low = l; high = m; no_quote = not-true _ q; no_ampersand = not-true _ a; no_tag = not-true _ t }

char-read : (c : ℕ) (r : List ℕ) → is_bare c ≡ true → char (c ∷ r) ≡ ok c r
unfolding char noncharacter literal one
char-read c r h =
    let b = bare c h in
    rw (ne_eqb c 0xEF (λ z. omega (arith, b.high)), le-leb 32 c b.low, b.no_tag, b.no_ampersand)

text-read : (f : ℕ) (v r : List ℕ) → length v < f → every is_bare v ≡ true → text f (v ++ 34 ∷ r) ≡ ok v r
unfolding text one
text-read zero v r l h = absurd (omega arith)
text-read (suc f) [] r l h = refl
text-read (suc f) (c ∷ v) r l h =
    let (i, g) = every_true is_bare c v h in
    rw ((bare c i).no_quote, char-read c (v ++ 34 ∷ r) i, text-read f v r (omega arith) g)

pub value_read : (v r : List ℕ) → every is_bare v ≡ true → value (34 ∷ v ++ 34 ∷ r) ≡ ok v r
unfolding value one
value_read v r h = text-read _ v r (omega (arith, length-append v (34 ∷ r))) h

-- a name begins with no white space
start-high : (c : ℕ) → is_name_start c ≡ true → 65 ≤ c
start-high c h = go _ _ _ refl refl refl h
  where
    go : (a b d : Bool) → is_from 65 90 c ≡ a → is_from 97 122 c ≡ b → eqb c 95 ≡ d → (a || b || d) ≡ true → 65 ≤ c
    go true b d e f g h = (is_from-true 65 90 c e).0
    go false true d e f g h = omega (arith, is_from-true 97 122 c f)
    go false false true e f g h = omega (arith, eqb-true c 95 g)
    go false false false e f g h = clash (cc)

no_space : (c : ℕ) → 33 ≤ c → is_space c ≡ false
no_space c h = rw (ne_eqb c 32 (λ z. omega arith), ne_eqb c 9 (λ z. omega arith), ne_eqb c 13 (λ z. omega arith), ne_eqb c 10 (λ z. omega arith))

name-start : (n r : List ℕ) → is_name n ≡ true → Stops is_space (n ++ r)
unfolding is_name
name-start [] r h = clash (cc)
name-start (c ∷ n) r h = no_space c (omega (arith, start-high c (both_true (is_name_start c) (every is_name_byte n) h).0))

attribute-read : (a : Attribute) (r : List ℕ) → is_bare_attribute a ≡ true → attribute (a.name ++ (61 ∷ 34 ∷ a.value ++ 34 ∷ r)) ≡ ok a r
unfolding attribute many front after one
attribute-read a r h =
    let (f, g) = both_true (is_name a.name) (every is_bare a.value) h in
    rw (name-read a.name (61 ∷ 34 ∷ a.value ++ 34 ∷ r) f refl, value_read a.value r g)

attribute-text : (a : Attribute) (as' : List Attribute) (r : List ℕ)
    → flat_map attribute_text (a ∷ as') ++ r ≡ 32 ∷ a.name ++ (61 ∷ 34 ∷ a.value ++ 34 ∷ (flat_map attribute_text as' ++ r))
unfolding flat_map
attribute-text a as' r = simp append_assoc

attributes-read : (f : ℕ) (as' : List Attribute) (r : List ℕ) → length as' ≤ f → every is_bare_attribute as' ≡ true → Stops is_space r
    → attributes f (flat_map attribute_text as' ++ r) ≡ ok as' r
unfolding attributes some_space one flat_map every
attributes-read zero [] r l h k = refl
attributes-read zero (a ∷ as') r l h k = absurd (omega arith)
attributes-read (suc f) [] [] l h k = refl
attributes-read (suc f) [] (c ∷ r) l h k = rw k
attributes-read (suc f) (a ∷ as') r l h k =
    let (i, g) = every_true is_bare_attribute a as' h in
    let rest = flat_map attribute_text as' ++ r in
    let tail = 61 ∷ 34 ∷ a.value ++ 34 ∷ rest in
    let j : is_name a.name ≡ true = (both_true (is_name a.name) (every is_bare a.value) i).0 in
    ap (attributes (suc f)) (attribute-text a as' r)
    ∙ rw (many_read is_space [] (a.name ++ tail) refl (name-start a.name tail j), attribute-read a rest i, attributes-read f as' r (omega arith) g k)

attributes-length : (as' : List Attribute) (r : List ℕ) → length as' ≤ length (flat_map attribute_text as' ++ r)
unfolding flat_map
attributes-length [] r = omega arith
attributes-length (a ∷ as') r =
    (omega (arith, ap length (attribute-text a as' r), attributes-length as' r, length-append a.name (61 ∷ 34 ∷ a.value ++ 34 ∷ (flat_map attribute_text as' ++ r)), length-append a.value (34 ∷ (flat_map attribute_text as' ++ r))))

tag_attributes-read : (as' : List Attribute) (r : List ℕ) → every is_bare_attribute as' ≡ true → is_distinct as' ≡ true → Stops is_space r
    → tag_attributes (flat_map attribute_text as' ++ r) ≡ ok as' r
unfolding tag_attributes
tag_attributes-read as' r h d k = rw (attributes-read _ as' r (attributes-length as' r) h k, d)

-- attributes begin with white space, or what follows them begins
attributes-stop : (p : ℕ → Bool) (as' : List Attribute) (r : List ℕ) → p 32 ≡ false → Stops p r → Stops p (flat_map attribute_text as' ++ r)
unfolding flat_map
attributes-stop p [] r h k = k
attributes-stop p (a ∷ as') r h k = h

end_tag-read : (n r : List ℕ) → end_tag n (60 ∷ 47 ∷ n ++ 62 ∷ r) ≡ ok 62 r
unfolding end_tag literal one many front after
end_tag-read n r = rw (literal-read n (62 ∷ r))

body_stops : (p : ℕ → Bool) (n : List ℕ) (kids : Nodes) (inner r : List ℕ) → p 47 ≡ false → p 62 ≡ false → Stops p (body_text n kids inner ++ r)
body_stops p n end inner r h k = h
body_stops p n (node m attrs kids rest) inner r h k = k

-- a start tag is read up to what follows its attributes
start-read : (n : List ℕ) (as' : List Attribute) (kids : Nodes) (inner r : List ℕ) → is_bare_tag n as' ≡ true
    → (name (n ++ (flat_map attribute_text as' ++ (body_text n kids inner ++ r))) ≡ ok n (flat_map attribute_text as' ++ (body_text n kids inner ++ r)))
    × (tag_attributes (flat_map attribute_text as' ++ (body_text n kids inner ++ r)) ≡ ok as' (body_text n kids inner ++ r))
    × (space (body_text n kids inner ++ r) ≡ ok [] (body_text n kids inner ++ r))
unfolding every
start-read n as' kids inner r h =
    let (f, d) = both_true _ _ h in
    let (g, a) = both_true _ _ f in
    let tail = body_text n kids inner ++ r in (
      name-read n (flat_map attribute_text as' ++ tail) g (attributes-stop is_name_byte as' tail refl (body_stops is_name_byte n kids inner r refl refl)),
      tag_attributes-read as' tail a d (body_stops is_space n kids inner r refl refl),
      many_read is_space [] tail refl (body_stops is_space n kids inner r refl refl),
    )

-- elements side by side are read up to an end tag, with fuel f, where d may be open at once
abbrev ContentReads : Nodes → (f d : ℕ) → Type 0
ContentReads ns f d = (r : List ℕ) → content f d (nodes_text ns ++ 60 ∷ 47 ∷ r) ≡ ok ns (60 ∷ 47 ∷ r)

body-read : (n : List ℕ) (kids : Nodes) (f d : ℕ) (r : List ℕ) → ContentReads kids f d → body n (content f d) (body_text n kids (nodes_text kids) ++ r) ≡ ok kids r
unfolding literal one
body-read n end f d r h = refl
body-read n (node m attrs kids rest) f d r h =
    let inner = nodes_text (node m attrs kids rest) in
    let e : inner ++ bytes "</" ++ n ++ 62 ∷ [] ++ r ≡ inner ++ 60 ∷ 47 ∷ (n ++ 62 ∷ r) = simp append_assoc in
    ap (λ s. body n (content f d) (62 ∷ s)) e ∙ rw (h (n ++ 62 ∷ r), end_tag-read n r)

element-text : (n : List ℕ) (as' : List Attribute) (kids : Nodes) (inner r : List ℕ)
    → element_text n as' kids inner ++ r ≡ 60 ∷ n ++ (flat_map attribute_text as' ++ (body_text n kids inner ++ r))
element-text n as' kids inner r = simp append_assoc

pub element-length : (n : List ℕ) (as' : List Attribute) (kids : Nodes) (inner : List ℕ)
    → length (element_text n as' kids inner) ≡ 1 + length n + length (flat_map attribute_text as') + length (body_text n kids inner)
element-length n as' kids inner = simp length-append (omega arith)

pub body-length : (n : List ℕ) (m : List ℕ) (attrs : List Attribute) (kids rest : Nodes) (inner : List ℕ)
    → length (body_text n (node m attrs kids rest) inner) ≡ length inner + length n + 4
body-length n m attrs kids rest inner = simp length-append (omega arith)

-- with the fuel that an element has, its content has enough
content-fuel : (n : List ℕ) (as' : List Attribute) (kids : Nodes) (f : ℕ) → length (element_text n as' kids (nodes_text kids)) ≤ suc f → length (nodes_text kids) < f
content-fuel n as' kids f h = go kids (nodes_text kids) (unfold nodes_text in λ z. ap (λ ns. length (nodes_text ns)) z) h
  where
    go : (kids : Nodes) (inner : List ℕ) → (kids ≡ end → length inner ≡ 0) → length (element_text n as' kids inner) ≤ suc f → length inner < f
    go end inner z h = omega (arith, z refl, element-length n as' end inner)
    go (node m attrs kids rest) inner z h = omega (arith, element-length n as' (node m attrs kids rest) inner, body-length n m attrs kids rest inner)

element-read : (n : List ℕ) (as' : List Attribute) (kids : Nodes) (f d : ℕ) (r : List ℕ) → is_bare_tag n as' ≡ true → ContentReads kids f d
    → element (suc f) (suc d) (element_text n as' kids (nodes_text kids) ++ r) ≡ ok (record { name = n; attrs = as'; kids = kids }) r
unfolding element one
element-read n as' kids f d r h k =
    let (a, b, c) = start-read n as' kids (nodes_text kids) r h in
    ap (element (suc f) (suc d)) (element-text n as' kids (nodes_text kids) r) ∙ rw (a, b, c, body-read n kids f d r k)

-- no element begins with an end tag
end_no_element : (f d : ℕ) (r : List ℕ) → element f d (60 ∷ 47 ∷ r) ≡ bad
unfolding element one name
end_no_element zero d r = refl
end_no_element (suc f) zero r = refl
end_no_element (suc f) (suc d) r = refl

content-end : (f d : ℕ) (r : List ℕ) → content (suc f) d (60 ∷ 47 ∷ r) ≡ ok end (60 ∷ 47 ∷ r)
unfolding content many front after
content-end f d r = rw (end_no_element f d r)

-- one element, and then others
content_more : (f d : ℕ) (s t u : List ℕ) (e : Element) (ns : Nodes) → Stops is_space s → element f d s ≡ ok e t → content f d t ≡ ok ns u
    → content (suc f) d s ≡ ok (node e.name e.attrs e.kids ns) u
unfolding content every
content_more f d s t u e ns h a b = rw (many_read is_space [] s refl h, a, b)

content-read : (ns : Nodes) (f d : ℕ) → are_bare ns ≡ true → open_in ns ≤ d → length (nodes_text ns) < f → ContentReads ns f d
unfolding are_bare open_in nodes_text
content-read ns zero d h k l r = absurd (omega arith)
content-read end (suc f) d h k l r = content-end f d r
content-read (node n attrs kids rest) (suc zero) d h k l r = absurd (omega arith)
content-read (node n attrs kids rest) (suc (suc f)) zero h k l r = absurd (omega arith)
content-read (node n attrs kids rest) (suc (suc f)) (suc d) h k l r =
    let (i, c) = both_true (is_bare_tag n attrs && are_bare kids) (are_bare rest) h in
    let (a, b) = both_true (is_bare_tag n attrs) (are_bare kids) i in
    let whole = element_text n attrs kids (nodes_text kids) in
    let fits = length-append whole (nodes_text rest) in
    let t = nodes_text rest ++ 60 ∷ 47 ∷ r in
    let inner : length (nodes_text kids) < f = content-fuel n attrs kids f (omega arith) in
    ap (content (suc (suc f)) (suc d)) (append_assoc whole (nodes_text rest) (60 ∷ 47 ∷ r))
    ∙ content_more (suc f) (suc d) (whole ++ t) t _ (record { name = n; attrs = attrs; kids = kids }) rest refl
    (element-read n attrs kids f d t a (content-read kids f d b (omega arith) inner))
    (content-read rest (suc f) (suc d) c (omega arith) (omega (arith, element-length n attrs kids (nodes_text kids))) r)

document-read : (s : List ℕ) (e : Element) → Stops is_space s → element (length s) 8 s ≡ ok e [] → document s ≡ some e
unfolding document finish every
document-read s e h a = rw (many_read is_space [] s refl h, a, many_read is_space [] [] refl tt)

-- a tree of good names, each attribute once, plain values and at most 8 elements open at once is read back as it is
pub document_of_write : (e : Element) → is_bare_tree e ≡ true → depth_of e ≤ 8 → document (write e) ≡ some e
document_of_write e h k =
    let (a, b) = both_true (is_bare_tag e.name e.attrs) (are_bare e.kids) h in
    let f = length (e.name ++ flat_map attribute_text e.attrs ++ body_text e.name e.kids (nodes_text e.kids)) in
    let read : element (suc f) (suc 7) (write e ++ []) ≡ ok e [] =
    element-read e.name e.attrs e.kids f 7 [] a
    (content-read e.kids f 7 b (omega arith) (content-fuel e.name e.attrs e.kids f (omega arith))) in
    document-read (write e) e refl (sym (ap (element (suc f) 8) (append-nil (write e))) ∙ read)

-- It is written in ASCII, so it is whole characters.

abbrev is_ascii : ℕ → Bool
is_ascii c = leb c 127

start-most : (c : ℕ) → is_name_start c ≡ true → c ≤ 122
start-most c h = go _ _ _ refl refl refl h
  where
    go : (a b d : Bool) → is_from 65 90 c ≡ a → is_from 97 122 c ≡ b → eqb c 95 ≡ d → (a || b || d) ≡ true → c ≤ 122
    go true b d e f g h = omega (arith, is_from-true 65 90 c e)
    go false true d e f g h = (is_from-true 97 122 c f).1
    go false false true e f g h = omega (arith, eqb-true c 95 g)
    go false false false e f g h = clash (cc)

name-byte_ascii : (c : ℕ) → is_name_byte c ≡ true → is_ascii c ≡ true
name-byte_ascii c h = le-leb c 127 (go _ _ _ _ _ refl refl refl refl refl h)
  where
    go : (a b d e f : Bool) → is_name_start c ≡ a → is_digit c ≡ b → eqb c 46 ≡ d → eqb c 45 ≡ e → eqb c 58 ≡ f → (a || b || d || e || f) ≡ true → c ≤ 127
    go true b d e f i j k l m h = omega (arith, start-most c i)
    go false true d e f i j k l m h = omega (arith, is_from-true 48 57 c j)
    go false false true e f i j k l m h = omega (arith, eqb-true c 46 k)
    go false false false true f i j k l m h = omega (arith, eqb-true c 45 l)
    go false false false false true i j k l m h = omega (arith, eqb-true c 58 m)
    go false false false false false i j k l m h = clash (cc)

name_ascii : (n : List ℕ) → is_name n ≡ true → every is_ascii n ≡ true
unfolding is_name every
name_ascii [] h = clash (cc)
name_ascii (c ∷ n) h =
    let (f, g) = both_true (is_name_start c) (every is_name_byte n) h in
    rw (le-leb c 127 (omega (arith, start-most c f)), every_map is_name_byte is_ascii name-byte_ascii n g)

attributes_ascii : (as' : List Attribute) → every is_bare_attribute as' ≡ true → every is_ascii (flat_map attribute_text as') ≡ true
unfolding flat_map every
attributes_ascii [] h = refl
attributes_ascii (a ∷ as') h =
    let (i, g) = every_true is_bare_attribute a as' h in
    let (f, v) = both_true (is_name a.name) (every is_bare a.value) i in
    every_append is_ascii (attribute_text a) (flat_map attribute_text as')
    (every_append is_ascii (32 ∷ a.name ++ 61 ∷ 34 ∷ a.value) (34 ∷ [])
    (every_append is_ascii (32 ∷ a.name) (61 ∷ 34 ∷ a.value) (name_ascii a.name f)
    (every_map is_bare is_ascii (λ c b. le-leb c 127 (bare c b).high) a.value v)) refl)
    (attributes_ascii as' g)

body_ascii : (n : List ℕ) (kids : Nodes) (inner : List ℕ) → every is_ascii n ≡ true → every is_ascii inner ≡ true → every is_ascii (body_text n kids inner) ≡ true
unfolding every
body_ascii n end inner h k = refl
body_ascii n (node m attrs kids rest) inner h k =
    every_append is_ascii (inner ++ bytes "</" ++ n) (62 ∷ []) (every_append is_ascii (inner ++ bytes "</") n (every_append is_ascii inner (bytes "</") k refl) h) refl

element_ascii : (n : List ℕ) (as' : List Attribute) (kids : Nodes) (inner : List ℕ) → is_bare_tag n as' ≡ true → every is_ascii inner ≡ true
    → every is_ascii (element_text n as' kids inner) ≡ true
unfolding every
element_ascii n as' kids inner h k =
    let (f, d) = both_true (is_name n && every is_bare_attribute as') (is_distinct as') h in
    let (g, a) = both_true (is_name n) (every is_bare_attribute as') f in
    every_append is_ascii (60 ∷ n ++ flat_map attribute_text as') (body_text n kids inner)
    (every_append is_ascii (60 ∷ n) (flat_map attribute_text as') (name_ascii n g) (attributes_ascii as' a)) (body_ascii n kids inner (name_ascii n g) k)

nodes_ascii : (ns : Nodes) → are_bare ns ≡ true → every is_ascii (nodes_text ns) ≡ true
unfolding are_bare nodes_text every
nodes_ascii end h = refl
nodes_ascii (node n attrs kids rest) h =
    let (i, c) = both_true (is_bare_tag n attrs && are_bare kids) (are_bare rest) h in
    let (a, b) = both_true (is_bare_tag n attrs) (are_bare kids) i in
    every_append is_ascii (element_text n attrs kids (nodes_text kids)) (nodes_text rest) (element_ascii n attrs kids (nodes_text kids) a (nodes_ascii kids b)) (nodes_ascii rest c)

ascii_utf8 : (s : List ℕ) → every is_ascii s ≡ true → is_utf8 s ≡ true
unfolding follows lead_of find
ascii_utf8 [] h = refl
ascii_utf8 (c ∷ s) h = let (f, g) = every_true is_ascii c s h in rw (le-leb 0 c (omega arith), f) (ascii_utf8 s g)

pub write_utf8 : (e : Element) → is_bare_tree e ≡ true → is_utf8 (write e) ≡ true
write_utf8 e h =
    let (a, b) = both_true (is_bare_tag e.name e.attrs) (are_bare e.kids) h in
    ascii_utf8 (write e) (element_ascii e.name e.attrs e.kids (nodes_text e.kids) a (nodes_ascii e.kids b))
