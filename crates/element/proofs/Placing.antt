-- The attributes of a start tag put into their places, one after another.
use Rattle.std.specs.Prelude.{Some}
use Prim.Native.Nat.{ℕ, zero, suc, ◌+◌, ◌-◌, ◌≤◌, ◌<◌}
use mathlib.Core.Path.{◌≡◌, refl, sym, ◌∙◌, ap}
use mathlib.Core.Bool.{Bool, true, false, not, ◌||◌, cond}
use mathlib.Core.List.{List, [], ◌∷◌}
use mathlib.Core.Logic.{inl, inr}
use mathlib.Core.Option.{Option, none, some}
use native.Mathlib.Omega.{arith}
use borrow.Author.Tests.{eqb-true, eqb-false, lt-ltb, le-ltb, not-true}
use lib.Dec.{eqb}
use lib.ListN.{length, take, drop, get_or, set, replicate, length-set}
use lib.Seq.{get_or-set_same, get_or-set_other}
use Rattle.rules.specs.Basics.{bytes, begins}
use Rattle.rules.specs.Parsers.{bad, ok, pure, ◌>>=◌, ◌>>◌, after, one, many}
use Rattle.rules.specs.Markup.{is_space, space, some_space, name, value, Attribute, attribute, attributes, lookup}
use Rattle.rules.proofs.Parsers.{next-ok, cons_ok, else-ok, one_ok}
use Rattle.rules.proofs.Tests.{clash, passes, passed, same_true}
use Rattle.text.specs.Reads.{Good}
use Rattle.markup.proofs.Names.{name_is}
use Rattle.element.specs.Names.{known, name_at, number_of, is_known}
use Rattle.element.specs.Tags.{Place, nowhere, stands, count, is_namespace, is_other}
use Rattle.element.specs.Carried.{PastEquals, AttributesTo, CarriedIn, CarriedAs}
use Rattle.element.specs.Plain.{StartAt}
use Rattle.element.specs.declared.tag.Carried.{Carried}
use Rattle.element.specs.declared.tag.Start.{Start}
use Rattle.element.proofs.Numbers.{number-name, has-number}
use Rattle.element.proofs.Quotes.{value-to}

-- places with that of a number put in, if it has none yet; a number that is not known puts nothing in
pub data Put (l : List ℕ) (n q : ℕ) : List ℕ → Type 0 where
  put : n < known → get_or l n 0 ≡ 0 → Put l n q (set l n q)
  kept : (n < known → get_or l n 0 ≡ 0 → ⊥) → Put l n q l

put-size : {l m : List ℕ} {n q : ℕ} → Put l n q m → length l ≡ known → length m ≡ known
put-size {l} {n = n} {q} (put h z) w = length-set l n q ∙ w
put-size (kept d) w = w

-- places stay below a bound
put_low : {l m : List ℕ} {n q : ℕ} → Put l n q m → length l ≡ known → (b : ℕ) → ((k : ℕ) → get_or l k 0 ≤ b) → q ≤ b → (k : ℕ) → get_or m k 0 ≤ b
put_low {l} {n = n} {q} (put h z) w b f g k = go (eqb k n) refl
  where
    go : (x : Bool) → eqb k n ≡ x → get_or (set l n q) k 0 ≤ b
    go true e = rw (eqb-true k n e, get_or-set_same l n q 0 (omega (arith, h, w))) g
    go false e = rw (get_or-set_other l n k q 0 (eqb-false k n e)) (f k)
put_low (kept d) w b f g k = f k

-- what is known of an attribute after some: the answer of all is that of those that follow, or its value stands at a place
pub data Told (s : List ℕ) (all rest : Option (List ℕ)) : ℕ → Type 0 where
  not_yet : all ≡ rest → Told s all rest 0
  told : (q : ℕ) → 0 < q → Place s all q → Told s all rest q

told_last : {s : List ℕ} {all : Option (List ℕ)} {p : ℕ} → Told s all none p → Place s all p
told_last (not_yet e) = rw e nowhere
told_last (told q h x) = x

-- one more that has the value v, whose place is put in
told_more : {s : List ℕ} {all rest : Option (List ℕ)} {v l m : List ℕ} {n q : ℕ} → 0 < q → Place s (some v) q → length l ≡ known → Put l n q m
    → (k : ℕ) → k < known → (b : Bool) → eqb n k ≡ b → {p : ℕ} → Told s all (cond b (some v) rest) p → p ≡ get_or l k 0 → Told s all rest (get_or m k 0)
told_more {l = l} {n = n} {q} low x w (put h z) k g true e (not_yet f) y = rw (← eqb-true n k e, get_or-set_same l n q 0 (omega (arith, h, w))) (told q low (rw f x))
told_more {l = l} {n = n} low x w (put h z) k g true e (told p f t) y = absurd (omega (arith, f, y, z, ap (λ (i : ℕ). get_or l i 0) (eqb-true n k e)))
told_more {l = l} {n = n} {q} low x w (put h z) k g false e t y = rw (get_or-set_other l n k q 0 (λ f. eqb-false n k e (sym f)), ← y) t
told_more {l = l} {n = n} low x w (kept d) k g true e (not_yet f) y = let i = eqb-true n k e in absurd (d (omega (arith, g, i)) (ap (λ (i : ℕ). get_or l i 0) i ∙ sym y))
told_more low x w (kept d) k g true e (told p f t) y = rw (← y) (told p f t)
told_more low x w (kept d) k g false e t y = rw (← y) t

-- what is counted with one more attribute, of a name: no known name begins with xmlns, so nothing with a known one
abbrev Counted : (t : List ℕ) (others namespaces more-others more-namespaces : ℕ) → Type 0
Counted t o p x y = (x ≡ o + cond (not (is_known t || begins (bytes "xmlns") t)) 1 0) × (y ≡ p + cond (begins (bytes "xmlns") t) 1 0) × (x ≤ o + 1) × (y ≤ p + 1)

pub known-counted : (t : List ℕ) {o p k : ℕ} → k ≡ number_of t → k < known → Counted t o p o p
unfolding begins passes
known-counted t {k = k} e h =
    let g : number_of t < known = omega (arith, e, h) in
    let n : t ≡ name_at (number_of t) = same_true _ _ (number-name t g) in
    let z : begins (bytes "xmlns") t ≡ false = ap (begins (bytes "xmlns")) n ∙ not-true _ (passed known (λ k. not (begins (bytes "xmlns") (name_at k))) (number_of t) refl g) in
    (rw (lt-ltb (number_of t) known g) (omega arith), rw z (omega arith), omega arith, omega arith)

pub other-counted : (t : List ℕ) (o p : ℕ) {k x y : ℕ} {b : Bool} → k ≡ number_of t → known ≤ k → b ≡ begins (bytes "xmlns") t → (x ≡ cond (not b) 1 0) × (x ≤ 1) → (y ≡ cond b 1 0) × (y ≤ 1)
    → Counted t o p (o + x) (p + y)
other-counted t o p e h d (x, u) (y, w) = (rw (x, d, le-ltb (number_of t) known (omega (arith, e, h))), rw (y, d), omega (arith, u), omega (arith, w))

counted : {A : Type 0} (p : A → Bool) (a : A) (l : List A) (o : ℕ) {x t : ℕ} → o + count p (a ∷ l) ≡ t → x ≡ o + cond (p a) 1 0 → x + count p l ≡ t
counted p a l o {x} {t} = go (p a)
  where
    go : (b : Bool) → o + cond b (suc (count p l)) (count p l) ≡ t → x ≡ o + cond b 1 0 → x + count p l ≡ t
    go true e f = omega (arith, e, f)
    go false e f = omega (arith, e, f)

-- what stands where the white space of attributes is past: none of them, or one and others after it
data Following (s : List ℕ) (i j : ℕ) (l : List Attribute) (left : List ℕ) : Type 0 where
  nothing : l ≡ [] → left ≡ drop i s → Following s i j l left
  one_more : (f : ℕ) (a : Attribute) (t : List ℕ) (m : List Attribute) → attribute (drop j s) ≡ ok a t → attributes f t ≡ ok m left → a ∷ m ≡ l → Following s i j l left

same-space : (x : List ℕ) {u w r t : List ℕ} → some_space x ≡ ok u r → space x ≡ ok w t → r ≡ t
unfolding some_space many after
same-space x p q = next-ok (one is_space x) (λ c. space) p (λ c y d z. let (e, h) = one_ok is_space x d in let k = rw (e, h) at q in cc)

following : {s : List ℕ} {i j : ℕ} {l : List Attribute} {left : List ℕ} → Good 0 space s i j → (f : ℕ) → attributes f (drop i s) ≡ ok l left → Following s i j l left
unfolding attributes
following g zero q = nothing (cc) (cc)
following {s} {i} {j} g (suc f) q = elim (else-ok ((some_space >> attribute >>= (λ a. attributes f >>= (λ l. pure (a ∷ l)))) (drop i s)) _ q) [
  | inl x ↦ next-ok (some_space (drop i s)) (λ u. attribute >>= (λ a. attributes f >>= (λ l. pure (a ∷ l)))) x (λ u t y z.
      let (a, r, m, h, k, w) = cons_ok (attribute (drop j s)) (attributes f) (rw (same-space (drop i s) y g.reads) at z) in
      one_more f a r m h k w)
  | inr x ↦ nothing (cc) (cc)
]

-- one turn of the code: white space, a name from j up to n, which has the number k, and its value at q, up to e
pub record Turn (s : List ℕ) (i j k n q e : ℕ) : Type 0 where
  pub gap : Good 0 space s i j
  pub named : Good 1 name s j n
  pub equals : PastEquals s n q
  pub number : k ≡ number_of (take (n - j) (drop j s))
  pub further : q < e
  pub high : e ≤ length s
  pub ends : (v : List ℕ) (k : ℕ) → k ≤ length s → value (drop q s) ≡ ok v (drop k s) → e ≡ k

pub turn : {s : List ℕ} {i j e : ℕ} {t : Start} → Good 0 space s i j → StartAt s j (Some t) → (t.value < length s → t.value < e)
    → (e ≤ length s) × ((v : List ℕ) (k : ℕ) → k ≤ length s → value (drop t.value s) ≡ ok v (drop k s) → e ≡ k) → Turn s i j t.number t.name_end t.value e
turn g (b, p, w) on (high, ends) =
    record { gap = g; named = b; equals = p; number = w; further = on p.high; high = high; ends = ends }

module _ {s : List ℕ} {i j k n q e : ℕ} (x : Turn s i j k n q e) where
  pub further : i < e
  further = omega (arith, x.gap.low, x.named.low, x.equals.low, x.further)

  this_one : {a : Attribute} {t : List ℕ} → attribute (drop j s) ≡ ok a t → (a.name ≡ take (n - j) (drop j s)) × (0 < q) × (value (drop q s) ≡ ok a.value (drop e s)) × (t ≡ drop e s)
  unfolding attribute
  this_one {a} {t} p =
      let g = x.named in
      let (h, w, r) = x.equals.past g.value a t (rw g.reads at p) in
      let (k, l, z) = value-to s q r in
      let y : t ≡ drop e s = z ∙ ap (λ (i : ℕ). drop i s) (sym (x.ends a.value k l (r ∙ ap (ok a.value) z))) in
      (w ∙ name_is s j n g.value g.low g.high g.reads, omega (arith, h), r ∙ ap (ok a.value) y, y)

-- what is carried so far, where all attributes are l: the others follow
pub record Done (s : List ℕ) (c : Carried) (l : List Attribute) (left : List ℕ) : Type 0 where
  pub rest : List Attribute
  pub goes : AttributesTo s c.end rest left
  pub each : (k : ℕ) → k < known → Told s (lookup (name_at k) l) (lookup (name_at k) rest) (get_or c.places k 0)
  pub others : c.others + count is_other rest ≡ count is_other l
  pub namespaces : c.namespaces + count is_namespace rest ≡ count is_namespace l

-- what is known of what was carried so far, from a position on
pub record So (s : List ℕ) (at : ℕ) (c : Carried) : Type 0 where
  pub within : CarriedIn s at c
  pub size : length c.places ≡ known
  pub few : (c.others ≤ c.end) × (c.namespaces ≤ c.end)
  pub done : (l : List Attribute) (left : List ℕ) → AttributesTo s at l left → Done s c l left

-- places of nothing
abbrev pub no_places : List ℕ
no_places = replicate known 0

zeros : (n k : ℕ) → get_or {A = ℕ} (replicate n 0) k 0 ≡ 0
zeros zero k = refl
zeros (suc n) zero = refl
zeros (suc n) (suc k) = zeros n k

pub none_there : (k : ℕ) → get_or no_places k 0 ≡ 0
none_there = zeros known

pub so_none : {s : List ℕ} (at : ℕ) → at ≤ length s → So s at (record { places = no_places; others = 0; namespaces = 0; end = at })
so_none at h = record {
  within = record { placed = λ n. rw (none_there n) (omega arith); low = omega arith; high = h };
  size = refl;
  few = (omega arith, omega arith);
  done = λ l left x. record { rest = l; goes = x; each = λ k g. rw (none_there k) (not_yet refl); others = omega arith; namespaces = omega arith };
}

-- one attribute more
module _ {s : List ℕ} {at j k n q e : ℕ} (c : Carried) (h : So s at c) (x : Turn s c.end j k n q e) where
  abbrev this : List ℕ
  this = take (n - j) (drop j s)

  pub so_step : {l : List ℕ} {o p : ℕ} → Put c.places k q l → Counted this c.others c.namespaces o p → So s at (record { places = l; others = o; namespaces = p; end = e })
  unfolding lookup
  so_step {l} {o} {p} y (f, g, a, b) = record {
    within = record { placed = put_low y h.size (length s - 1) h.within.placed (omega (arith, x.further, x.high)); low = omega (arith, h.within.low, further x); high = x.high };
    size = put-size y h.size;
    few = (omega (arith, h.few.0, further x, a), omega (arith, h.few.1, further x, b));
    done = λ m left z. more m left (h.done m left z);
  }
    where
      more : (m : List Attribute) (left : List ℕ) → Done s c m left → Done s (record { places = l; others = o; namespaces = p; end = e }) m left
      more m left d = elim (following x.gap d.goes.fuel d.goes.reads) [
        | nothing r w ↦ let z = rw (w, x.gap.reads, x.named.reads) at d.goes.all in clash (cc)
        | one_more i a t rest r w z ↦
            let (u, low, v, b) = this_one x r in
            record {
              rest = rest;
              goes = record { fuel = i; reads = rw (← b) w; all = d.goes.all };
              each = λ j h'. told_more low (stands q e a.value low x.further x.high v) h.size y j h' (eqb k j) refl (rw (← z, has-number a.name j h', u, ← x.number) at (d.each j h')) refl;
              others = counted is_other a rest c.others (rw (← z) at d.others) (rw u f);
              namespaces = counted is_namespace a rest c.namespaces (rw (← z) at d.namespaces) (rw u g);
            }
      ]

-- no name is left, and so no attribute
pub so_done : {s : List ℕ} {at j : ℕ} (c : Carried) → So s at c → Good 0 space s c.end j → name (drop j s) ≡ bad
    → CarriedIn s at c × ((l : List Attribute) (left : List ℕ) → AttributesTo s at l left → CarriedAs s l left c)
unfolding attribute lookup
so_done {s} {at} {j} c h g b = (h.within, λ l left x. all l left (h.done l left x))
  where
    all : (l : List Attribute) (left : List ℕ) → Done s c l left → CarriedAs s l left c
    all l left d = elim (following g d.goes.fuel d.goes.reads) [
      | nothing r w ↦ record {
        tells = record { size = h.size; placed = λ k k-low. told_last (rw r at (d.each k k-low)) };
        others = let e = rw r at d.others in omega (arith, e);
        namespaces = let e = rw r at d.namespaces in omega (arith, e);
        ends = w;
      }
      | one_more i a t k r w z ↦ let y = rw b at r in clash (cc)
    ]
