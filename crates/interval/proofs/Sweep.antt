-- The merge of two lists of edges: what is settled below a frontier, and how one step moves it on.
use Rattle.std.proofs.Common.{◌≡◌, ℕ, zero, suc, ◌+◌, ◌-◌, ◌<◌, ◌≤◌, min, Bool, true, false, cond, not, List, [], ◌∷◌, ◌++◌, length, get_or, set, replicate, sym, refl, ap, ◌∙◌, ⊎_elim, append_assoc, zero-le, arith, length-append, eq-eqb, ne_eqb}
use mathlib.Core.Bool.{not-not}
use lib.ListN.{length-replicate}
use lib.Seq.{set-append_seam}
use Rattle.interval.specs.Edges.{top, Rising, Climbs, Below, rank, odd, passed_at, within, padded, Inputs, Merged}
use Rattle.interval.proofs.Ranks.{le-or-lt, rank-start, rank_keep, rank_step, next-from, rank_more, rank_below, rank-append, rank-snoc, below_more, below-snoc, rising_snoc}

-- ---- storing at the end of padded edges
pub length-snoc : (l : List ℕ) (m : ℕ) → length (l ++ m ∷ []) ≡ suc (length l)
length-snoc l m = omega (arith, length-append l (m ∷ []))

pub store : (l : List ℕ) (n m : ℕ) → length l ≡ n → n < 65 → set (padded l) n m ≡ padded (l ++ m ∷ [])
store l n m e h =
    let d : 65 - length l ≡ suc (64 - length l) = omega arith in
    let r : 65 - length (l ++ m ∷ []) ≡ 64 - length l = omega (arith, length-snoc l m) in
    rw (d, r, ← e, append_assoc) (set-append_seam l top (replicate (64 - length l) top) m)

pub padded-length : (l : List ℕ) → length l ≤ 65 → length (padded l) ≡ 65
padded-length l h = omega (arith, length-append l (replicate (65 - length l) top), length-replicate (65 - length l) top)

-- ---- the frontier
pub record Swept (h : Bool → Bool → Bool) (a b es : List ℕ) (f i j : ℕ) : Type 0 where
  pub at_a : i ≡ rank a f
  pub at_b : j ≡ rank b f
  pub rises : Rising 0 es
  pub below : Below f es
  pub state : odd (length es) ≡ h (odd i) (odd j)
  pub agrees : (x : ℕ) → x < f → within es x ≡ h (within a x) (within b x)
  pub short : length es ≤ i + j

module _ (h : Bool → Bool → Bool) (a b : List ℕ) where
  sweep_start : Climbs 0 a → Climbs 0 b → h false false ≡ false → Swept h a b [] 0 0 0
  sweep_start ca cb e = record {
    at_a = sym (rank-start a ca);
    at_b = sym (rank-start b cb);
    rises = tt;
    below = tt;
    state = sym e;
    agrees = λ x k. absurd (omega arith);
    short = zero-le;
  }

  module _ (es : List ℕ) (f i j m : ℕ) (s : Swept h a b es f i j) (low : f ≤ m) (na : m ≤ get_or a i top) (nb : m ≤ get_or b j top) where
    -- nothing changes from f up to m
    sweep_between : (x : ℕ) → x < m → within es x ≡ h (within a x) (within b x)
    sweep_between x k =
        ⊎_elim
        (λ (p : f ≤ x).
        let e1 : rank es (suc x) ≡ length es = rank_below es (suc x) (below_more es f (suc x) (omega arith) s.below) in
        let e2 : rank a (suc x) ≡ rank a f = rank_keep a f (suc x) top (omega arith) (rw (← s.at_a) (omega arith)) in
        let e3 : rank b (suc x) ≡ rank b f = rank_keep b f (suc x) top (omega arith) (rw (← s.at_b) (omega arith)) in
        cc (s.state, s.at_a, s.at_b))
        (λ (q : x < f). s.agrees x q)
        (le-or-lt f x)

    module _ (i' j' : ℕ) (ia : i' ≡ rank a (suc m)) (jb : j' ≡ rank b (suc m)) where
      -- up to m as before, and at m itself the edges es' are all at or below it
      sweep_at : (es' : List ℕ) → Below (suc m) es' → odd (length es') ≡ h (odd i') (odd j') → ((x : ℕ) → x < m → within es' x ≡ within es x)
          → (x : ℕ) → x < suc m → within es' x ≡ h (within a x) (within b x)
      sweep_at es' bs st same x k =
          ⊎_elim
          (λ (p : m ≤ x).
          let e0 : x ≡ m = omega arith in
          let e1 : rank es' (suc m) ≡ length es' = rank_below es' (suc m) bs in
          cc)
          (λ (q : x < m). same x q ∙ sweep_between x q)
          (le-or-lt m x)

      sweep_keep : odd (length es) ≡ h (odd i') (odd j') → i + j ≤ i' + j' → Swept h a b es (suc m) i' j'
      sweep_keep st le =
          let bs : Below (suc m) es = below_more es f (suc m) (omega arith) s.below in
          record {
            at_a = ia;
            at_b = jb;
            rises = s.rises;
            below = bs;
            state = st;
            agrees = sweep_at es bs st (λ x q. refl);
            short = omega (arith, s.short);
          }

      sweep_emit : odd (length es) ≡ not (h (odd i') (odd j')) → i + j < i' + j' → Swept h a b (es ++ m ∷ []) (suc m) i' j'
      sweep_emit st lt =
          let bs : Below (suc m) (es ++ m ∷ []) = below-snoc es (suc m) m (below_more es f (suc m) (omega arith) s.below) (omega arith) in
          let now : odd (length (es ++ m ∷ [])) ≡ h (odd i') (odd j') = rw length-snoc (ap not st ∙ not-not _) in
          record {
            at_a = ia;
            at_b = jb;
            rises = rising_snoc es 0 m s.rises (below_more es f m low s.below) zero-le;
            below = bs;
            state = now;
            agrees = sweep_at (es ++ m ∷ []) bs now (λ x q. ap odd (rank-snoc es m (suc x) q));
            short = rw length-snoc (omega (arith, s.short));
          }

-- ---- one cursor
pub advanced : (l : List ℕ) (i m : ℕ) → Climbs 0 l → i ≡ rank l m → m < top → i + passed_at (get_or l i top) m ≡ rank l (suc m)
advanced l i m c e lt =
    let n : m ≤ get_or l (rank l m) top = next-from l m top (omega arith) in
    ⊎_elim
    (λ (p : get_or l (rank l m) top ≤ m).
    let q : get_or l (rank l m) top ≡ m = omega arith in
    rw (e, eq-eqb _ m q) (omega (arith, rank_step l 0 m m c (omega arith) lt q)))
    (λ (p : m < get_or l (rank l m) top).
    rw (e, ne_eqb (get_or l (rank l m) top) m (omega arith)) (omega (arith, rank_keep l m (suc m) top (omega arith) p)))
    (le-or-lt (get_or l (rank l m) top) m)

-- ---- the merge's state: n edges are written, and every place below `done` is settled
pub record Merging (h : Bool → Bool → Bool) (a b out : List ℕ) (i j n : ℕ) : Type 0 where
  pub written : List ℕ
  pub done : ℕ
  pub small : done ≤ top
  pub rest : out ≡ padded written
  pub count : length written ≡ n
  pub swept : Swept h a b written done i j

pub merging_start : {h : Bool → Bool → Bool} {a b out : List ℕ} → Climbs 0 a → Climbs 0 b → h false false ≡ false → out ≡ padded [] → Merging h a b out 0 0 0
merging_start {h} {a} {b} ca cb e r = record { written = []; done = 0; small = zero-le; rest = r; count = refl; swept = sweep_start h a b ca cb e }

get_d_any : (l : List ℕ) (i d e : ℕ) → i < length l → get_or l i d ≡ get_or l i e
get_d_any [] i d e h = absurd (omega arith)
get_d_any (x ∷ l) zero d e h = refl
get_d_any (x ∷ l) (suc i) d e h = get_d_any l i d e (omega arith)

module _ {h : Bool → Bool → Bool} {a b out : List ℕ} {i j n : ℕ} (u : Inputs a b) (k : Merging h a b out i j n) where
  pub i_few : i ≤ rank a top
  i_few = omega (arith, k.swept.at_a, rank_more a k.done top k.small)

  pub j_few : j ≤ rank b top
  j_few = omega (arith, k.swept.at_b, rank_more b k.done top k.small)

  pub n_few : n ≤ i + j
  n_few = omega (arith, k.swept.short, k.count)

  next_a : get_or a i 0 ≡ get_or a i top
  next_a = get_d_any a i 0 top (omega (arith, u.few, u.long_a, i_few))

  next_b : get_or b j 0 ≡ get_or b j top
  next_b = get_d_any b j 0 top (omega (arith, u.few, u.long_b, j_few))

  low_a : k.done ≤ get_or a i top
  low_a = rw k.swept.at_a (next-from a k.done top k.small)

  low_b : k.done ≤ get_or b j top
  low_b = rw k.swept.at_b (next-from b k.done top k.small)

  module _ {m : ℕ} (e : m ≡ min (get_or a i 0) (get_or b j 0)) where
    low_m : k.done ≤ m
    low_m = omega (arith, low_a, low_b, next_a, next_b)

    m_a : m ≤ get_or a i top
    m_a = omega (arith, next_a)

    m_b : m ≤ get_or b j top
    m_b = omega (arith, next_b)

    pub merged : top ≤ m → Merged h a b n out
    merged past = record {
      edged = record {
        list = k.written;
        rest = k.rest;
        count = k.count;
        rises = k.swept.rises;
        below = below_more k.written k.done top k.small k.swept.below;
      };
      agrees = λ x q.
          rw (k.rest, rank-append k.written (65 - length k.written) (suc x) q)
          (sweep_between h a b k.written k.done i j m k.swept low_m m_a m_b x (omega arith));
      short = omega (arith, n_few, i_few, j_few);
    }

    module _ (lt : m < top) {i' j' : ℕ} (ia : i' ≡ i + passed_at (get_or a i 0) m) (jb : j' ≡ j + passed_at (get_or b j 0) m) where
      at_a' : i' ≡ rank a (suc m)
      at_a' =
          ia ∙ ap (λ (e : ℕ). i + passed_at e m) next_a
          ∙ advanced a i m u.climbs_a (k.swept.at_a ∙ sym (rank_keep a k.done m top low_m (rw (← k.swept.at_a) m_a))) lt

      at_b' : j' ≡ rank b (suc m)
      at_b' =
          jb ∙ ap (λ (e : ℕ). j + passed_at e m) next_b
          ∙ advanced b j m u.climbs_b (k.swept.at_b ∙ sym (rank_keep b k.done m top low_m (rw (← k.swept.at_b) m_b))) lt

      pub more : i + j < i' + j'
      more =
          ⊎_elim
          (λ (p : get_or a i 0 ≤ get_or b j 0). omega (arith, simp (eq-eqb (get_or a i 0) m (omega arith)) at ia))
          (λ (p : get_or b j 0 < get_or a i 0). omega (arith, simp (eq-eqb (get_or b j 0) m (omega arith)) at jb))
          (le-or-lt (get_or a i 0) (get_or b j 0))

      pub i_next : i' ≤ rank a top
      i_next = omega (arith, at_a', rank_more a (suc m) top lt)

      pub j_next : j' ≤ rank b top
      j_next = omega (arith, at_b', rank_more b (suc m) top lt)

      pub merging_keep : {r : Bool} → h (odd i') (odd j') ≡ cond r (not (odd n)) (odd n) → r ≡ false → Merging h a b out i' j' n
      merging_keep {r} st e = record {
        written = k.written;
        done = suc m;
        small = lt;
        rest = k.rest;
        count = k.count;
        swept = sweep_keep h a b k.written k.done i j m k.swept low_m m_a m_b i' j' at_a' at_b' (ap odd k.count ∙ sym (rw e at st)) (omega (arith, more));
      }

      pub merging_emit : {r : Bool} → h (odd i') (odd j') ≡ cond r (not (odd n)) (odd n) → r ≡ true → Merging h a b (set out n m) i' j' (n + 1)
      merging_emit {r} st e = record {
        written = k.written ++ m ∷ [];
        done = suc m;
        small = lt;
        rest = rw k.rest (store k.written n m k.count (omega (arith, n_few, i_few, j_few, u.few)));
        count = omega (arith, length-snoc k.written m, k.count);
        swept =
            sweep_emit h a b k.written k.done i j m k.swept low_m m_a m_b i' j' at_a' at_b'
            (ap odd k.count ∙ sym (not-not (odd n)) ∙ ap not (sym (rw e at st))) more;
      }
