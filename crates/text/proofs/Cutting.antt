-- Where a text may be cut: before the bytes that lead a character.
use Prim.Native.Nat.{ℕ, zero, suc, ◌-◌, ◌<◌}
use mathlib.Core.Path.{◌≡◌, refl, sym, ◌∙◌, ap}
use mathlib.Core.Bool.{Bool, true, false, not, ◌&&◌, ◌||◌, cond, false≢true}
use mathlib.Core.List.{List, [], ◌∷◌}
use mathlib.Core.Option.{Option, none, some, none-ne-some}
use lib.Dec.{leb, ltb}
use lib.ListN.{length, get_or, take}
use native.Mathlib.Omega.{arith}
use borrow.Author.Tests.{leb-true, ltb-true}
use Rattle.rules.specs.Basics.{if_some, every, find}
use Rattle.rules.specs.Utf8.{Range, in_range, Lead, tail, leads, lead_of, follows, is_utf8, longest, cut_length}
use Rattle.rules.proofs.Tests.{both_true, is_from-true}
use Rattle.text.proofs.Leads.{inside, below, above}

abbrev is_tail : ℕ → Bool
is_tail c = in_range c tail

-- a range of bytes that lead nothing
abbrev is_tail_range : Range → Bool
is_tail_range r = leb 0x80 r.low && leb r.high 0xBF

-- a line of the table: its lead bytes are no tails, and tails follow
abbrev is_line : Lead → Bool
is_line l = every is_tail_range l.next && (ltb l.lead.high 0x80 || ltb 0xBF l.lead.low)

all_lines : every is_line leads ≡ true
unfolding every
all_lines = refl

find-every : {A : Type 0} (p q : A → Bool) (l : List A) (a : A) → every q l ≡ true → find p l ≡ some a → (p a ≡ true) × (q a ≡ true)
unfolding find every
find-every p q [] a e f = absurd (none-ne-some a f)
find-every p q (b ∷ l) a e f = go (p b) refl f (both_true (q b) (every q l) e) (find-every p q l a)
  where
    go : (t : Bool) → p b ≡ t → cond t (some b) (find p l) ≡ some a → (q b ≡ true) × (every q l ≡ true)
        → (every q l ≡ true → find p l ≡ some a → (p a ≡ true) × (q a ≡ true)) → (p a ≡ true) × (q a ≡ true)
    go true d g h k = let s : b ≡ a = cc in (rw (← s) d, rw (← s) h.0)
    go false d g h k = k h.1 g

in_tail : (r : Range) (c : ℕ) → is_tail_range r ≡ true → in_range c r ≡ true → is_tail c ≡ true
in_tail r c e f =
    let h = both_true (leb 0x80 r.low) (leb r.high 0xBF) e in
    let k = is_from-true r.low r.high c f in
    inside 0x80 0xBF c (omega (arith, leb-true 0x80 r.low h.0)) (omega (arith, leb-true r.high 0xBF h.1))

no_tail : (r : Range) (c : ℕ) (a b : Bool) → ltb r.high 0x80 ≡ a → ltb 0xBF r.low ≡ b → a || b ≡ true → in_range c r ≡ true → is_tail c ≡ false
no_tail r c true b p q e f = let k = is_from-true r.low r.high c f in below 0x80 0xBF c (omega (arith, ltb-true r.high 0x80 p))
no_tail r c false true p q e f = let k = is_from-true r.low r.high c f in above 0x80 0xBF c (omega (arith, ltb-true 0xBF r.low q))
no_tail r c false false p q e f = absurd (false≢true e)

boundary_from : (l : List Range) (s : List ℕ) (n : ℕ) → every is_tail_range l ≡ true → follows l s ≡ true → n < length s
    → follows l (take n s) ≡ not (is_tail (get_or s n 0))
unfolding follows every lead_of
boundary_from [] [] n t e h = absurd (omega arith)
boundary_from [] (c ∷ s) zero t e h = ap not (sym (by_lead (lead_of c) refl e))
  where
    by_lead : (o : Option Lead) → lead_of c ≡ o → if_some o (λ l. follows l.next s) false ≡ true → is_tail c ≡ false
    by_lead none d f = absurd (false≢true f)
    by_lead (some l) d f =
        let k : (in_range c l.lead ≡ true) × (is_line l ≡ true) = find-every (λ m. in_range c m.lead) is_line leads l all_lines d in
        no_tail l.lead c _ _ refl refl (both_true (every is_tail_range l.next) _ k.1).1 k.0
boundary_from [] (c ∷ s) (suc n) t e h = by_lead (lead_of c) refl e (λ l. boundary_from l s n)
  where
    by_lead : (o : Option Lead) → lead_of c ≡ o → if_some o (λ l. follows l.next s) false ≡ true
        → ((l : List Range) → every is_tail_range l ≡ true → follows l s ≡ true → n < length s → follows l (take n s) ≡ not (is_tail (get_or s n 0)))
        → if_some o (λ l. follows l.next (take n s)) false ≡ not (is_tail (get_or s n 0))
    by_lead none d f k = absurd (false≢true f)
    by_lead (some l) d f k =
        let q : (in_range c l.lead ≡ true) × (is_line l ≡ true) = find-every (λ m. in_range c m.lead) is_line leads l all_lines d in
        k l.next (both_true (every is_tail_range l.next) _ q.1).0 f (omega arith)
boundary_from (r ∷ l) [] n t e h = absurd (omega arith)
boundary_from (r ∷ l) (c ∷ s) zero t e h = ap not (sym (in_tail r c (both_true (is_tail_range r) _ t).0 (both_true (in_range c r) _ e).0))
boundary_from (r ∷ l) (c ∷ s) (suc n) t e h =
    rw (both_true (in_range c r) _ e).0
    (boundary_from l s n (both_true (is_tail_range r) _ t).1 (both_true (in_range c r) _ e).1 (omega arith))

-- in a UTF-8 text the beginnings that are UTF-8 end before a byte that is no tail
pub boundary : (s : List ℕ) (n : ℕ) → is_utf8 s ≡ true → n < length s → is_utf8 (take n s) ≡ not (is_tail (get_or s n 0))
unfolding every
boundary s n e h = boundary_from [] s n refl e h

longest_here : (n : ℕ) (s : List ℕ) → is_utf8 (take n s) ≡ true → longest n s ≡ n
unfolding longest
longest_here zero s e = refl
longest_here (suc n) s e = rw e refl

-- the cut of a text, by going back from the room to a byte that is no tail
pub cut-from : (room : ℕ) (s : List ℕ) → room < length s → cut_length room s ≡ longest room s
cut-from room s h = ap (λ (n : ℕ). longest n s) (omega arith)

pub longest_boundary : (n : ℕ) (s : List ℕ) → is_utf8 s ≡ true → n < length s → is_tail (get_or s n 0) ≡ false → longest n s ≡ n
longest_boundary n s e h t = longest_here n s (boundary s n e h ∙ ap not t)

pub longest-tail : (n : ℕ) (s : List ℕ) → is_utf8 s ≡ true → 0 < n → n < length s → is_tail (get_or s n 0) ≡ true → longest n s ≡ longest (n - 1) s
unfolding longest
longest-tail zero s e p h t = absurd (omega arith)
longest-tail (suc n) s e p h t =
    let d : suc n - 1 ≡ n = omega arith in
    rw (boundary s (suc n) e h, t, d) refl
