-- The record printed of stretches: it is read back as the tree that was written, passes the check under every offset agreed, and writes
-- the union of the stretches.
use Prim.Native.Nat.{ℕ, ◌+◌, ◌≤◌}
use mathlib.Core.Path.{◌≡◌, refl, sym, ◌∙◌, ap}
use mathlib.Core.Bool.{Bool, true, false, not, ◌&&◌, ◌||◌, and-false, or-false, or_assoc}
use mathlib.Core.List.{List, [], ◌∷◌, ◌++◌, flat_map}
use mathlib.Core.Option.{Option, none, some}
use native.Mathlib.Omega.{arith}
use borrow.Author.Tests.{leb-true, ltb-true, lt-ltb, le-ltb, le-leb, ne_eqb}
use lib.ListN.{length, length-append}
use lib.IntN.{ℤ, pos, negsuc}
use Rattle.rules.specs.Basics.{find, exists, every, same, begins, split, one_of, bytes, is_digit, digits_of}
use Rattle.rules.specs.Refusal.{SHAPE, Outcome, answered, ◌when◌, both}
use Rattle.rules.specs.Markup.{Attribute, lookup, is_distinct, Nodes, end, node, document}
use Rattle.rules.specs.Timestamp.{Moment, before_start, read_timestamp}
use Rattle.rules.specs.Forms.{is_flavor, is_flag, form_faults}
use Rattle.rules.specs.Invariants.{is_null, breaks_interval, child_named, Side, low, high, valued, endpoint_of, is_crossed}
use Rattle.rules.specs.Types.{TS, IVL_TS, QSU_TS, always, typed, line_of}
use Rattle.rules.specs.Judge.{member, inside, attribute_faults, element_faults, child_faults, top_faults}
use Rattle.rules.specs.Sets.{Place, at, gap_after, ◌is_before◌, Bound, unbounded, open_at, closed_at, Interval, ◌upto◌, first_place, holds, is_in, Op, union, Expression, interval, combine, meant, intervals}
use Rattle.rules.specs.Stretches.{stretches}
use Rattle.rules.specs.Check.{is_offset, shift_by, record_faults, check}
use Rattle.rules.specs.Utf8.{is_utf8}
use Rattle.rules.specs.Services.{listing}
use Rattle.rules.specs.ListingPromise.{is_listed}
use Rattle.rules.specs.Listing.{set_from, members_of, joined, set_of}
use Rattle.rules.specs.Dates.{years_end, date_text, clock_text, timestamp_text}
use Rattle.rules.specs.Printing.{written, record_text, is_writable_bound, is_writable_stretch}
use Rattle.rules.proofs.Tests.{clash, both_true, is_from-true, every_true, every_append, every_map}
use Rattle.rules.proofs.Depth.{open_in}
use Rattle.rules.proofs.Writing.{is_name, is_bare, is_bare_tag, are_bare, is_bare_tree, document_of_write, write_utf8}
use Rattle.rules.proofs.Stay.{said_of, term_attributes, bound_nodes, term_nodes, stay_of, record_written}
use Rattle.rules.proofs.Digits.{digits_of-digits}
use Rattle.rules.proofs.Pieces.{written-length, record_short}
use Rattle.rules.proofs.Dates.{years-end, timestamp_of_tick}
use Rattle.rules.proofs.Children.{faults_as}
use Rattle.rules.proofs.Precedence.{check-answered}
use Rattle.rules.proofs.Order.{places, next-number}
use Rattle.rules.proofs.TickOrder.{tick-from-start, uncrossed}
use Rattle.rules.proofs.Edges.{end_place, half_open}
use Rattle.rules.proofs.Canonical.{Opens, Canonical, canonical-stretches}
use Rattle.rules.proofs.Drawing.{is-stretches}
use Rattle.rules.proofs.Members.{set-intervals}
use Rattle.rules.proofs.ListingCases.{listing-answered}

-- a timestamp holds no byte that has to be referred to
digit_bare : (c : ℕ) → is_digit c ≡ true → is_bare c ≡ true
digit_bare c h =
    let (l, m) = is_from-true 48 57 c h in
    rw (le-leb 32 c (omega arith), le-leb c 127 (omega arith), ne_eqb c 34 (λ z. omega arith), ne_eqb c 38 (λ z. omega arith), ne_eqb c 60 (λ z. omega arith))

digits_bare : (n k : ℕ) → every is_bare (digits_of n k) ≡ true
digits_bare n k = every_map is_digit is_bare digit_bare (digits_of n k) (digits_of-digits n k)

date_bare : (days : ℕ) → every is_bare (date_text days) ≡ true
unfolding date_text
date_bare days = every_append is_bare (digits_of 4 _ ++ digits_of 2 _) (digits_of 2 _) (every_append is_bare (digits_of 4 _) (digits_of 2 _) (digits_bare 4 _) (digits_bare 2 _)) (digits_bare 2 _)

clock_bare : (t : ℕ) → every is_bare (clock_text t) ≡ true
unfolding clock_text every
clock_bare t =
    every_append is_bare (digits_of 2 _ ++ digits_of 2 _ ++ digits_of 2 _) (46 ∷ digits_of 4 _)
    (every_append is_bare (digits_of 2 _ ++ digits_of 2 _) (digits_of 2 _) (every_append is_bare (digits_of 2 _) (digits_of 2 _) (digits_bare 2 _) (digits_bare 2 _)) (digits_bare 2 _))
    (digits_bare 4 _)

timestamp_bare : (t : ℤ) → every is_bare (timestamp_text t) ≡ true
unfolding every
timestamp_bare (pos t) = every_append is_bare (date_text _ ++ clock_text _) (bytes "+0000") (every_append is_bare (date_text _) (clock_text _) (date_bare _) (clock_bare _)) refl
timestamp_bare (negsuc t) = refl

-- the tree can be written
bound_bare : (side : Side) → is_name side.child ≡ true → every is_bare side.infinity ≡ true → (b : Bound) → is_bare_tag side.child (said_of side b ∷ []) ≡ true
unfolding is_name every is_distinct lookup
bound_bare side h k unbounded = rw (h, k)
bound_bare side h k (open_at t) = rw (h, timestamp_bare t)
bound_bare side h k (closed_at t) = rw (h, timestamp_bare t)

term_bare : (l h : Bound) → is_bare_tag (bytes "term") (term_attributes (l upto h)) ≡ true
unfolding is_name every is_distinct lookup same
term_bare unbounded unbounded = refl
term_bare unbounded (open_at t) = refl
term_bare unbounded (closed_at t) = refl
term_bare (open_at s) unbounded = refl
term_bare (open_at s) (open_at t) = refl
term_bare (open_at s) (closed_at t) = refl
term_bare (closed_at s) unbounded = refl
term_bare (closed_at s) (open_at t) = refl
term_bare (closed_at s) (closed_at t) = refl

bounds_bare : (s : Interval) → are_bare (bound_nodes s) ≡ true
unfolding are_bare is_name every
bounds_bare s = rw (bound_bare low refl refl s.low, bound_bare high refl refl s.high)

terms_bare : (ss : List Interval) → are_bare (term_nodes ss) ≡ true
unfolding are_bare term_nodes
terms_bare [] = refl
terms_bare (s ∷ ss) = rw (term_bare s.low s.high, bounds_bare s, terms_bare ss)

terms_depth : (ss : List Interval) → open_in (term_nodes ss) ≤ 2
unfolding open_in term_nodes
terms_depth [] = omega arith
terms_depth (s ∷ ss) = omega (arith, terms_depth ss)

pub stay_bare : (ss : List Interval) → is_bare_tree (stay_of ss) ≡ true
unfolding is_name every is_distinct lookup
stay_bare ss = rw (terms_bare (written ss))

-- the record is read back as the tree
pub record_read : (ss : List Interval) → document (record_text ss) ≡ some (stay_of ss)
record_read ss = ap document (sym (record_written ss)) ∙ document_of_write (stay_of ss) (stay_bare ss) (omega (arith, terms_depth (written ss)))

-- the moment of a tick
abbrev moment_at : ℕ → Moment
moment_at n = record { start = n + before_start; precision = 18; next = n + before_start + 1 }

in_order : (closed : Bool) {m n : ℕ} → m ≤ n → is_crossed closed (valued (moment_at m)) (valued (moment_at n)) ≡ false
in_order closed {m} {n} h = uncrossed closed (moment_at m) (moment_at n) (omega arith) (omega arith)

-- what a bound that can be written says under a shift
data Says (shift : ℕ) : Bound → Type 0 where
  nothing : Says shift unbounded
  an_open : {t : ℤ} (n : ℕ) → t ≡ pos n → read_timestamp shift (timestamp_text t) ≡ answered (moment_at n) → Says shift (open_at t)
  a_closed : {t : ℤ} (n : ℕ) → t ≡ pos n → read_timestamp shift (timestamp_text t) ≡ answered (moment_at n) → Says shift (closed_at t)

says : (shift : ℕ) (b : Bound) → is_writable_bound b ≡ true → Says shift b
says shift unbounded h = nothing
says shift (open_at (pos n)) h = an_open n refl (timestamp_of_tick shift n (ltb-true n years_end h))
says shift (open_at (negsuc n)) h = clash (cc)
says shift (closed_at (pos n)) h = a_closed n refl (timestamp_of_tick shift n (ltb-true n years_end h))
says shift (closed_at (negsuc n)) h = clash (cc)

-- the low's tick is not after the high's, where there are both
tick_in : Bound → Option ℤ
tick_in unbounded = none
tick_in (open_at t) = some t
tick_in (closed_at t) = some t

abbrev Ordered : Bound → Bound → Type 0
Ordered l h = (a b : ℕ) → tick_in l ≡ some (pos a) → tick_in h ≡ some (pos b) → a ≤ b

-- one interval and then others, joined from the first on
union_from : Expression → List Interval → Expression
union_from e [] = e
union_from e (s ∷ ss) = union_from (combine union e (interval s)) ss

infinity-form : (is_flavor low.infinity ≡ true) × (is_flavor high.infinity ≡ true)
unfolding one_of split exists same
infinity-form = (refl, refl)

flag-form : (is_flag (bytes "true") ≡ true) × (is_flag (bytes "false") ≡ true)
unfolding one_of split exists same
flag-form = (refl, refl)

module _ (shift : ℕ) where
  -- each attribute is of its form
  said_faultless : (side : Side) → is_flavor side.infinity ≡ true → (b : Bound) → Says shift b → attribute_faults shift inside TS (said_of side b) ≡ []
  unfolding attribute_faults line_of find same form_faults
  said_faultless side h b nothing = rw h
  said_faultless side h b (an_open n e r) = rw r
  said_faultless side h b (a_closed n e r) = rw r

  flags_faultless : (l h : Bound) → flat_map (attribute_faults shift member IVL_TS) (term_attributes (l upto h)) ≡ []
  unfolding flat_map attribute_faults line_of find same form_faults
  flags_faultless unbounded unbounded = refl
  flags_faultless unbounded (open_at t) = rw flag-form.1
  flags_faultless unbounded (closed_at t) = rw flag-form.0
  flags_faultless (open_at s) unbounded = rw flag-form.1
  flags_faultless (open_at s) (open_at t) = rw flag-form.1
  flags_faultless (open_at s) (closed_at t) = rw (flag-form.0, flag-form.1)
  flags_faultless (closed_at s) unbounded = rw flag-form.0
  flags_faultless (closed_at s) (open_at t) = rw (flag-form.0, flag-form.1)
  flags_faultless (closed_at s) (closed_at t) = rw flag-form.0

  -- a bound is a TS without fault
  bound_faultless : (side : Side) → is_flavor side.infinity ≡ true → (b : Bound) → Says shift b → faults_as shift (said_of side b ∷ []) end (always TS) ≡ []
  unfolding element_faults child_faults line_of exists flat_map lookup same
  bound_faultless side h b nothing = rw (said_faultless side h b nothing)
  bound_faultless side h b (an_open n e r) = rw (said_faultless side h b (an_open n e r))
  bound_faultless side h b (a_closed n e r) = rw (said_faultless side h b (a_closed n e r))

  bounds_faultless : (null : Bool) (l h : Bound) → Says shift l → Says shift h → child_faults shift IVL_TS null 0 (bound_nodes (l upto h)) ≡ []
  unfolding child_faults line_of find same
  bounds_faultless null l h a b = rw (bound_faultless low infinity-form.0 l a, bound_faultless high infinity-form.1 h b) (none_missing null)
    where
      none_missing : (b : Bool) → (SHAPE when (not b && false)) ≡ []
      none_missing true = refl
      none_missing false = refl

  -- no invariant is broken
  unbroken : (l h : Bound) → Says shift l → Says shift h → Ordered l h → breaks_interval shift (term_attributes (l upto h)) (bound_nodes (l upto h)) ≡ false
  unfolding lookup same endpoint_of child_named tick_in
  unbroken l h nothing nothing o = refl
  unbroken l h nothing (an_open n e r) o = rw r
  unbroken l h nothing (a_closed n e r) o = rw r
  unbroken l h (an_open m d q) nothing o = rw q
  unbroken l h (an_open m d q) (an_open n e r) o = rw (q, r) (in_order false (o m n (ap some d) (ap some e)))
  unbroken l h (an_open m d q) (a_closed n e r) o = rw (q, r) (in_order true (o m n (ap some d) (ap some e)))
  unbroken l h (a_closed m d q) nothing o = rw q
  unbroken l h (a_closed m d q) (an_open n e r) o = rw (q, r) (in_order false (o m n (ap some d) (ap some e)))
  unbroken l h (a_closed m d q) (a_closed n e r) o = rw (q, r) (in_order true (o m n (ap some d) (ap some e)))

  not_null : (l h : Bound) → is_null (term_attributes (l upto h)) ≡ false
  unfolding lookup same
  not_null unbounded unbounded = refl
  not_null unbounded (open_at t) = refl
  not_null unbounded (closed_at t) = refl
  not_null (open_at s) unbounded = refl
  not_null (open_at s) (open_at t) = refl
  not_null (open_at s) (closed_at t) = refl
  not_null (closed_at s) unbounded = refl
  not_null (closed_at s) (open_at t) = refl
  not_null (closed_at s) (closed_at t) = refl

  -- a term is an IVL_TS without fault
  term_faultless : (l h : Bound) → Says shift l → Says shift h → Ordered l h → faults_as shift (term_attributes (l upto h)) (bound_nodes (l upto h)) typed ≡ []
  unfolding element_faults line_of find same exists lookup
  term_faultless l h a b o = rw (flags_faultless l h, bounds_faultless _ l h a b, unbroken l h a b o, not_null l h)

  term_set : (l h : Bound) → Says shift l → Says shift h → (members : Op → Outcome Expression)
      → set_from shift (term_attributes (l upto h)) (bound_nodes (l upto h)) members ≡ answered (interval (l upto h))
  unfolding set_from lookup same find endpoint_of child_named
  term_set l h nothing nothing members = refl
  term_set l h nothing (an_open n e r) members = rw (r, tick-from-start n, e)
  term_set l h nothing (a_closed n e r) members = rw (r, tick-from-start n, e)
  term_set l h (an_open m d q) nothing members = rw (q, tick-from-start m, d)
  term_set l h (an_open m d q) (an_open n e r) members = rw (q, r, tick-from-start m, tick-from-start n, d, e)
  term_set l h (an_open m d q) (a_closed n e r) members = rw (q, r, tick-from-start m, tick-from-start n, d, e)
  term_set l h (a_closed m d q) nothing members = rw (q, tick-from-start m, d)
  term_set l h (a_closed m d q) (an_open n e r) members = rw (q, r, tick-from-start m, tick-from-start n, d, e)
  term_set l h (a_closed m d q) (a_closed n e r) members = rw (q, r, tick-from-start m, tick-from-start n, d, e)

  -- stretches that can be written, each with its low not after its high
  abbrev Printable : List Interval → Type 0
  Printable [] = Unit {0}
  Printable (s ∷ ss) = Says shift s.low × Says shift s.high × Ordered s.low s.high × Printable ss

  -- the terms after the first one
  more_faultless : (ss : List Interval) → Printable ss → child_faults shift QSU_TS false 1 (term_nodes ss) ≡ []
  unfolding child_faults line_of find same term_nodes lookup
  more_faultless [] h = refl
  more_faultless (s ∷ ss) h = rw (term_faultless s.low s.high h.0 h.1 h.2, more_faultless ss h.3)

  terms_faultless : (s : Interval) (ss : List Interval) → Printable (s ∷ ss) → child_faults shift QSU_TS false 0 (term_nodes (s ∷ ss)) ≡ []
  unfolding child_faults line_of find same term_nodes lookup
  terms_faultless s ss h = rw (term_faultless s.low s.high h.0 h.1 h.2, more_faultless ss h.3)

  top_faultless : (s : Interval) (ss : List Interval) → Printable (s ∷ ss) → top_faults shift (stay_of (s ∷ ss)) ≡ []
  unfolding element_faults attribute_faults line_of find same begins exists flat_map lookup form_faults
  top_faultless s ss h = rw (terms_faultless s ss h)

  -- the set that is written
  joined_step : (o : Op) (so_far : Outcome Expression) (n : List ℕ) (attrs : List Attribute) (kids rest : Nodes)
      → joined shift o so_far (node n attrs kids rest) ≡ joined shift o (both (combine o) so_far (set_from shift attrs kids (λ j. members_of shift j kids))) rest
  unfolding joined
  joined_step o so_far n attrs kids rest = refl

  members_step : (o : Op) (n : List ℕ) (attrs : List Attribute) (kids rest : Nodes)
      → members_of shift o (node n attrs kids rest) ≡ joined shift o (set_from shift attrs kids (λ j. members_of shift j kids)) rest
  unfolding joined
  members_step o n attrs kids rest = refl

  joined_end : (o : Op) (so_far : Outcome Expression) → joined shift o so_far end ≡ so_far
  unfolding joined
  joined_end o so_far = refl

  joined_terms : (e : Expression) (ss : List Interval) → Printable ss → joined shift union (answered e) (term_nodes ss) ≡ answered (union_from e ss)
  unfolding term_nodes union_from
  joined_terms e [] h = joined_end union (answered e)
  joined_terms e (s ∷ ss) h =
      joined_step union (answered e) (bytes "term") (term_attributes s) (bound_nodes s) (term_nodes ss)
      ∙ ap (λ x. joined shift union (both (combine union) (answered e) x) (term_nodes ss)) (term_set s.low s.high h.0 h.1 _)
      ∙ joined_terms (combine union e (interval s)) ss h.3

  members_terms : (s : Interval) (ss : List Interval) → Printable (s ∷ ss) → members_of shift union (term_nodes (s ∷ ss)) ≡ answered (union_from (interval s) ss)
  unfolding term_nodes
  members_terms s ss h =
      members_step union (bytes "term") (term_attributes s) (bound_nodes s) (term_nodes ss)
      ∙ ap (λ x. joined shift union x (term_nodes ss)) (term_set s.low s.high h.0 h.1 _)
      ∙ joined_terms (interval s) ss h.3

  top_set : (s : Interval) (ss : List Interval) → Printable (s ∷ ss) → set_of shift (stay_of (s ∷ ss)) ≡ answered (union_from (interval s) ss)
  unfolding set_from lookup same find
  top_set s ss h = members_terms s ss h

-- A canonical list of at most 32 stretches that can be written: its record is accepted, and listing it gives the list.

pub record IsPrintable (ss : List Interval) : Type 0 where
  pub few : length ss ≤ 32
  pub canonical : Canonical ss
  pub writable : every is_writable_stretch ss ≡ true

ordered : (l h : Bound) → Opens (first_place l) (end_place h) → Ordered l h
unfolding tick_in
ordered unbounded h o a b e f = clash (cc)
ordered (open_at s) unbounded o a b e f = clash (cc)
ordered (closed_at s) unbounded o a b e f = clash (cc)
ordered (open_at s) (open_at t) o a b e f =
    let y : s ≡ pos a = cc in let z : t ≡ pos b = cc in omega (arith, ltb-true a b (rw (y, z) at o))
ordered (open_at s) (closed_at t) o a b e f =
    let y : s ≡ pos a = cc in let z : t ≡ pos b = cc in omega (arith, ltb-true a b (rw (y, z) at o))
ordered (closed_at s) (open_at t) o a b e f =
    let y : s ≡ pos a = cc in let z : t ≡ pos b = cc in omega (arith, ltb-true a b (rw (y, z) at o))
ordered (closed_at s) (closed_at t) o a b e f =
    let y : s ≡ pos a = cc in let z : t ≡ pos b = cc in leb-true a b (rw (y, z) at o)

printable : (shift : ℕ) (ss : List Interval) → Canonical ss → every is_writable_stretch ss ≡ true → Printable shift ss
printable shift [] c w = tt
printable shift (s ∷ ss) c w =
    let (v, u) = every_true is_writable_stretch s ss w in
    let (l, h) = both_true (is_writable_bound s.low) (is_writable_bound s.high) v in
    (says shift s.low l, says shift s.high h, ordered s.low s.high c.0, printable shift ss c.2 u)

-- the term that stands for no stretch
abbrev empty : Interval
empty = open_at (pos 0) upto open_at (pos 0)

empty_printable : (shift : ℕ) → Printable shift (empty ∷ [])
unfolding tick_in
empty_printable shift =
    let first = says shift (open_at (pos 0)) (lt-ltb 0 years_end (omega (arith, years-end))) in
    (first, first, λ a b e f. let z : ◌≡◌ {A = ℕ} 0 a = cc in omega arith, tt)

empty_holds : (x : Place) → holds empty x ≡ false
empty_holds x = half_open empty x ∙ go (x is_before at (pos 0)) refl
  where
    go : (b : Bool) → x is_before at (pos 0) ≡ b → (not (x is_before gap_after (pos 0)) && b) ≡ false
    go true e = let k : x is_before gap_after (pos 0) ≡ true = omega (places, next-number (at (pos 0))) in rw k
    go false e = and-false (not (x is_before gap_after (pos 0)))

-- the set that the record writes, and its places
pub union_of : List Interval → Expression
union_of [] = interval empty
union_of (s ∷ ss) = union_from (interval s) ss

union_from_meant : (e : Expression) (ss : List Interval) (x : Place) → meant (union_from e ss) x ≡ (meant e x || is_in ss x)
unfolding union_from meant exists
union_from_meant e [] x = sym (or-false (meant e x))
union_from_meant e (s ∷ ss) x = union_from_meant (combine union e (interval s)) ss x ∙ or_assoc (meant e x) (holds s x) (is_in ss x)

union_of_meant : (ss : List Interval) (x : Place) → is_in ss x ≡ meant (union_of ss) x
unfolding union_of meant exists
union_of_meant [] x = sym (empty_holds x)
union_of_meant (s ∷ ss) x = sym (union_from_meant (interval s) ss x)

union_from_intervals : (e : Expression) (ss : List Interval) → length (intervals (union_from e ss)) ≡ length (intervals e) + length ss
unfolding union_from intervals
union_from_intervals e [] = omega arith
union_from_intervals e (s ∷ ss) = omega (arith, union_from_intervals (combine union e (interval s)) ss, length-append (intervals e) (s ∷ []))

union-intervals : (ss : List Interval) → length (intervals (union_of ss)) ≡ length (written ss)
unfolding union_of intervals
union-intervals [] = refl
union-intervals (s ∷ ss) = omega (arith, union_from_intervals (interval s) ss)

record_utf8 : (ss : List Interval) → is_utf8 (record_text ss) ≡ true
record_utf8 ss = ap is_utf8 (sym (record_written ss)) ∙ write_utf8 (stay_of ss) (stay_bare ss)

module _ (ss : List Interval) (h : IsPrintable ss) where
  record_faultless : (shift : ℕ) → top_faults shift (stay_of ss) ≡ []
  record_faultless shift = go ss (printable shift ss h.canonical h.writable)
    where
      go : (ss : List Interval) → Printable shift ss → top_faults shift (stay_of ss) ≡ []
      go [] p = top_faultless shift empty [] (empty_printable shift)
      go (s ∷ ss) p = top_faultless shift s ss p

  pub record_set : (shift : ℕ) → set_of shift (stay_of ss) ≡ answered (union_of ss)
  unfolding union_of union_from
  record_set shift = go ss (printable shift ss h.canonical h.writable)
    where
      go : (ss : List Interval) → Printable shift ss → set_of shift (stay_of ss) ≡ answered (union_of ss)
      go [] p = top_set shift empty [] (empty_printable shift)
      go (s ∷ ss) p = top_set shift s ss p

  -- the record passes the check under every offset allowed
  pub record_accepted : (offset : ℤ) → is_offset offset ≡ true → check offset (record_text ss) ≡ answered (stay_of ss)
  unfolding record_faults
  record_accepted offset o =
      (check-answered offset (record_text ss) (stay_of ss)).1
      (record_read ss, rw (o, le-ltb 16_384 (length (record_text ss)) (omega (arith, record_short ss h.few h.writable)), record_utf8 ss, record_read ss) (record_faultless (shift_by offset)))

  -- its stretches are the list
  pub union-stretches : stretches (union_of ss) ≡ ss
  union-stretches = sym (is-stretches (union_of ss) (canonical-stretches h.canonical (union_of_meant ss)))

  stay-listed : is_listed (stay_of ss) ≡ true
  unfolding find lookup same
  stay-listed = refl

  pub record_listed : (offset : ℤ) (room : ℕ) → is_offset offset ≡ true → length ss ≤ room → listing offset room (record_text ss) ≡ answered ss
  record_listed offset room o l =
      let known = record_set (shift_by offset) in
      let as_many = set-intervals (shift_by offset) (stay_of ss) (record_faultless (shift_by offset)) stay-listed known in
      listing-answered offset room (record_text ss) (stay_of ss) (record_accepted offset o) stay-listed (union_of ss) known
      (omega (arith, union-intervals ss, written-length ss h.few)) (rw union-stretches l)
      ∙ ap answered union-stretches
