-- Request A4: how bounds read, and when they are crossed, by what is written.
use Prim.Native.Nat.{ℕ}
use Prim.Native.String.{String}
use mathlib.Core.Path.{◌≡◌, refl, sym, ◌∙◌, ap, subst}
use mathlib.Core.Logic.{◌↔◌}
use mathlib.Core.Bool.{Bool, true, false, not, ◌&&◌, cond}
use mathlib.Core.List.{List, [], append-eq-nil_iff}
use mathlib.Core.Option.{Option, none, some}
use native.Mathlib.Decide.{dec_lt}
use native.Mathlib.Omega.{arith}
use borrow.Author.Tests.{lt-ltb, le-ltb, not-false}
use lib.ListN.{length}
use lib.IntN.{ℤ}
use lib.Signed.{lt_z}
use Rattle.rules.specs.Basics.{is_some, if_some, bytes, same}
use Rattle.rules.specs.Refusal.{Outcome, answered, refused, both, DATE, CLOCK, ZONE}
use Rattle.rules.specs.Markup.{Attribute, Nodes, lookup}
use Rattle.rules.specs.Timestamp.{Written, is_date, is_clock, is_zone, written_faults, Moment, moment_of, tick_at, is_coarse, read_timestamp}
use Rattle.rules.specs.Invariants.{is_null, has_flavor, child_named, Side, low, high, is_closed, Endpoint, valued, infinite, unknown, endpoint_read, endpoint_in, endpoint_of, last_taken, breaks_interval}
use Rattle.rules.specs.Check.{shift_by}
use Rattle.rules.specs.Sets.{Bound, unbounded, Interval, ◌upto◌}
use Rattle.rules.specs.Listing.{value_read, bound_read, bound_of, interval_of}
use Rattle.rules.proofs.Tests.{clash}
use Rattle.rules.proofs.Precedence.{when_none}
use Rattle.rules.proofs.Ticks.{read-answered, read_right_form, coarse_parts}
use Rattle.demands.specs.WrongTimes.{Spells}
use Rattle.demands.specs.LastDay.{IsCoarse, IsFine, IsPossible, tick_on, next_tick, Writes, Unbounds, HighReads, LowReads, LowIs, HighIs, LastTick, IsBounded}
use Rattle.demands.proofs.Spelling.{spells}
use Rattle.demands.proofs.NextUnits.{starts-next}

-- a text is read exactly if it spells what is possible
is-possible : (w : Written) → written_faults w ≡ [] → IsPossible w
unfolding written_faults
is-possible w e =
    let (f, zone) = append-eq-nil_iff.0 e in
    let (date, clock) = append-eq-nil_iff.0 f in
    record {
      date = not-false _ (when_none DATE (not (is_date w)) date);
      clock = not-false _ (when_none CLOCK (not (is_clock w)) clock);
      zone = not-false _ (when_none ZONE (not (is_zone w.zone)) zone);
    }

module _ (shift : ℕ) where
  pub spelled-read : (text : List ℕ) (w : Written) → Spells text w → IsPossible w → read_timestamp shift text ≡ answered (moment_of shift w)
  spelled-read text w s p = read_right_form shift text w ((spells text w).1 s) ∙ rw (p.date, p.clock, p.zone)

  read-spelled : (text : List ℕ) (m : Moment) → read_timestamp shift text ≡ answered m → (w : Written) × Spells text w × IsPossible w × (moment_of shift w ≡ m)
  read-spelled text m e = let (w, f, g, h) = (read-answered shift text m).0 e in (w, (spells text w).0 f, is-possible w g, h)

-- a flavor is that of a null element
null_by : (flavor : List ℕ) (attrs : List Attribute) → has_flavor flavor attrs ≡ true → is_null attrs ≡ true
null_by flavor attrs = go (lookup (bytes "nullFlavor") attrs)
  where
    go : (o : Option (List ℕ)) → if_some o (same flavor) false ≡ true → is_some o ≡ true
    go none h = clash (cc)
    go (some text) h = refl

no_flavor : (flavor : List ℕ) (attrs : List Attribute) → is_null attrs ≡ false → has_flavor flavor attrs ≡ false
no_flavor flavor attrs = go (lookup (bytes "nullFlavor") attrs)
  where
    go : (o : Option (List ℕ)) → is_some o ≡ false → if_some o (same flavor) false ≡ false
    go none h = refl
    go (some text) h = clash (cc)

-- what a side says, by what its child writes
module _ (shift : ℕ) (side : Side) (child : String) (c : side.child ≡ bytes child) (kids : Nodes) where
  named : {o : Option (List Attribute)} → child_named (bytes child) kids ≡ o → child_named side.child kids ≡ o
  named e = ap (λ (n : List ℕ). child_named n kids) c ∙ e

  writes_valued : {w : Written} → Writes kids child w → endpoint_of shift side kids ≡ valued (moment_of shift w)
  unfolding endpoint_of
  writes_valued {w} x = rw (named x.stands, x.not_null, x.value, spelled-read shift x.text w x.spelled x.possible)

  unbounds_infinite : (flavor : String) → side.infinity ≡ bytes flavor → Unbounds kids child flavor → endpoint_of shift side kids ≡ infinite
  unfolding endpoint_of
  unbounds_infinite flavor f x = rw (named x.stands, null_by (bytes flavor) x.attrs x.flavored, f, x.flavored)

  -- and the other way
  abbrev Said : (flavor : String) → Endpoint → Type 0
  Said flavor (valued m) = (w : Written) × Writes kids child w × (moment_of shift w ≡ m)
  Said flavor infinite = Unbounds kids child flavor
  Said flavor unknown = Unit {0}

  said : (flavor : String) → side.infinity ≡ bytes flavor → Said flavor (endpoint_of shift side kids)
  unfolding endpoint_of
  said flavor f = go (child_named side.child kids) refl
    where
      by_text : (attrs : List Attribute) → child_named (bytes child) kids ≡ some attrs → is_null attrs ≡ false → (text : List ℕ) → lookup (bytes "value") attrs ≡ some text
          → (o : Outcome Moment) → read_timestamp shift text ≡ o → Said flavor (endpoint_read o)
      by_text attrs e n text t (refused r) h = tt
      by_text attrs e n text t (answered m) h =
          let (w, s, p, q) = read-spelled shift text m h in
          (w, record { attrs = attrs; stands = e; not_null = n; text = text; value = t; spelled = s; possible = p }, q)

      by_value : (attrs : List Attribute) → child_named (bytes child) kids ≡ some attrs → is_null attrs ≡ false → (o : Option (List ℕ)) → lookup (bytes "value") attrs ≡ o
          → Said flavor (if_some o (λ text. endpoint_read (read_timestamp shift text)) unknown)
      by_value attrs e n none t = tt
      by_value attrs e n (some text) t = by_text attrs e n text t _ refl

      by_flavor : (attrs : List Attribute) → child_named (bytes child) kids ≡ some attrs → (b : Bool) → has_flavor side.infinity attrs ≡ b → Said flavor (cond b infinite unknown)
      by_flavor attrs e true h = record { attrs = attrs; stands = e; flavored = rw f at h }
      by_flavor attrs e false h = tt

      by_null : (attrs : List Attribute) → child_named (bytes child) kids ≡ some attrs → (b : Bool) → is_null attrs ≡ b
          → Said flavor (cond b (cond (has_flavor side.infinity attrs) infinite unknown) (if_some (lookup (bytes "value") attrs) (λ text. endpoint_read (read_timestamp shift text)) unknown))
      by_null attrs e true n = by_flavor attrs e _ refl
      by_null attrs e false n = by_value attrs e n _ refl

      go : (o : Option (List Attribute)) → child_named side.child kids ≡ o → Said flavor (if_some o (endpoint_in shift side) unknown)
      go none e = tt
      go (some attrs) e = by_null attrs (sym (ap (λ (n : List ℕ). child_named n kids) c) ∙ e) _ refl

-- how a value reads as a bound
module _ (offset : ℤ) {text : List ℕ} {w : Written} (s : Spells text w) (p : IsPossible w) where
  abbrev moment : Moment
  moment = moment_of (shift_by offset) w

  coarse : IsCoarse w → is_coarse moment ≡ true
  coarse l = coarse_parts (shift_by offset) text w ((spells text w).1 s) ∙ lt-ltb (length w.parts) 5 l

  fine : IsFine w → is_coarse moment ≡ false
  fine l = coarse_parts (shift_by offset) text w ((spells text w).1 s) ∙ le-ltb (length w.parts) 5 l

  next : IsCoarse w → tick_at moment.next ≡ next_tick offset w
  next l = ap tick_at (sym (starts-next (shift_by offset) w p.date p.clock l))

  never : (b : Bool) → (b && false) ≡ false
  never true = refl
  never false = refl

  low-one : {closed : Bool} {b : Bound} → LowReads offset w closed b → value_read low closed moment ≡ b
  low-one (LowReads.open_coarse l) = rw (coarse l, next l)
  low-one (LowReads.open_fine l) = rw (fine l)
  low-one LowReads.a_closed = rw (never (is_coarse moment))

  high_one : {closed : Bool} {b : Bound} → HighReads offset w closed b → value_read high closed moment ≡ b
  high_one (HighReads.closed_coarse l) = rw (coarse l, next l)
  high_one (HighReads.closed_fine l) = rw (fine l)
  high_one HighReads.an_open = rw (never (is_coarse moment))

  low_reads : (closed : Bool) → LowReads offset w closed (value_read low closed moment)
  low_reads true = subst (LowReads offset w true) (sym (low-one LowReads.a_closed)) LowReads.a_closed
  low_reads false = elim (dec_lt (length w.parts) 5) [
    | yes l ↦ subst (LowReads offset w false) (sym (low-one (LowReads.open_coarse l))) (LowReads.open_coarse l)
    | no l ↦ subst (LowReads offset w false) (sym (low-one (LowReads.open_fine (omega arith)))) (LowReads.open_fine (omega arith))
  ]

  high-reads : (closed : Bool) → HighReads offset w closed (value_read high closed moment)
  high-reads false = subst (HighReads offset w false) (sym (high_one HighReads.an_open)) HighReads.an_open
  high-reads true = elim (dec_lt (length w.parts) 5) [
    | yes l ↦ subst (HighReads offset w true) (sym (high_one (HighReads.closed_coarse l))) (HighReads.closed_coarse l)
    | no l ↦ subst (HighReads offset w true) (sym (high_one (HighReads.closed_fine (omega arith)))) (HighReads.closed_fine (omega arith))
  ]

  last_one : {closed : Bool} {t : ℤ} → LastTick offset w closed t → last_taken closed moment ≡ t
  last_one (LastTick.closed_coarse l) = rw (coarse l, next l)
  last_one (LastTick.closed_fine l) = rw (fine l)
  last_one LastTick.an_open = rw (never (is_coarse moment))

module _ (offset : ℤ) (attrs : List Attribute) (kids : Nodes) where
  -- the bound of a side is that of a value that its child writes, or there is none
  side_is : (side : Side) (child flavor : String) → side.child ≡ bytes child → side.infinity ≡ bytes flavor → (Is : Bound → Type 0)
      → ((w : Written) (x : Writes kids child w) → Is (value_read side (is_closed side attrs) (moment_of (shift_by offset) w))) → (Unbounds kids child flavor → Is unbounded)
      → (b : Bound) → bound_of (shift_by offset) side attrs kids ≡ answered b → Is b
  side_is side child flavor c f Is written without b = go (endpoint_of (shift_by offset) side kids) (said (shift_by offset) side child c kids flavor f)
    where
      go : (x : Endpoint) → Said (shift_by offset) side child c kids flavor x → bound_read side (is_closed side attrs) x ≡ answered b → Is b
      go (valued m) (w, x, q) h =
          let e : value_read side (is_closed side attrs) (moment_of (shift_by offset) w) ≡ b = cc (h, q) in
          subst Is e (written w x)
      go infinite x h = subst Is (cc h) (without x)
      go unknown x h = clash (cc)

  low-is : (b : Bound) → bound_of (shift_by offset) low attrs kids ≡ answered b ↔ LowIs offset attrs kids b
  low-is b = (
    side_is low "low" "NINF" refl refl (LowIs offset attrs kids) (λ w x. LowIs.written_low x (low_reads offset x.spelled x.possible (is_closed low attrs))) LowIs.no_low b,
    back,
  )
    where
      back : {d : Bound} → LowIs offset attrs kids d → bound_of (shift_by offset) low attrs kids ≡ answered d
      back (LowIs.written_low x r) = rw (writes_valued (shift_by offset) low "low" refl kids x) (ap answered (low-one offset x.spelled x.possible r))
      back (LowIs.no_low x) = rw (unbounds_infinite (shift_by offset) low "low" refl kids "NINF" refl x)

  high_is : (b : Bound) → bound_of (shift_by offset) high attrs kids ≡ answered b ↔ HighIs offset attrs kids b
  high_is b = (
    side_is high "high" "PINF" refl refl (HighIs offset attrs kids) (λ w x. HighIs.written_high x (high-reads offset x.spelled x.possible (is_closed high attrs))) HighIs.no_high b,
    back,
  )
    where
      back : {d : Bound} → HighIs offset attrs kids d → bound_of (shift_by offset) high attrs kids ≡ answered d
      back (HighIs.written_high x r) = rw (writes_valued (shift_by offset) high "high" refl kids x) (ap answered (high_one offset x.spelled x.possible r))
      back (HighIs.no_high x) = rw (unbounds_infinite (shift_by offset) high "high" refl kids "PINF" refl x)

  pub bounds-read : (v : Interval) → interval_of (shift_by offset) attrs kids ≡ answered v ↔ LowIs offset attrs kids v.low × HighIs offset attrs kids v.high
  bounds-read v = (
    λ h. let (l, r) = parts _ _ h in ((low-is v.low).0 l, (high_is v.high).0 r),
    λ (l, r). rw ((low-is v.low).1 l, (high_is v.high).1 r),
  )
    where
      parts : (a b : Outcome Bound) → both ◌upto◌ a b ≡ answered v → (a ≡ answered v.low) × (b ≡ answered v.high)
      parts (answered a) (answered b) h = (cc h, cc h)
      parts (answered a) (refused r) h = clash (cc)
      parts (refused r) b h = clash (cc)

  pub bounds-crossed : (l h : Written) (last : ℤ) → IsBounded attrs kids l h → LastTick offset h (is_closed high attrs) last
      → breaks_interval (shift_by offset) attrs kids ≡ lt_z last (tick_on offset l)
  bounds-crossed l h last x t =
      rw (
        writes_valued (shift_by offset) low "low" refl kids x.low_written,
        writes_valued (shift_by offset) high "high" refl kids x.high_written,
        x.low_flagged,
        x.high_flagged,
        x.low_written.stands,
        x.high_written.stands,
        no_flavor (bytes "PINF") x.low_written.attrs x.low_written.not_null,
        no_flavor (bytes "NINF") x.high_written.attrs x.high_written.not_null,
      )
      (ap (λ (z : ℤ). lt_z z (tick_on offset l)) (last_one offset x.high_written.spelled x.high_written.possible t))
