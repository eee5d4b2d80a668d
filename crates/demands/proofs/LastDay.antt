-- Request A4 is kept, by whatever meets the user's demands.
use Prim.Native.Nat.{ℕ, suc, ◌*◌, ◌≤◌}
use Prim.Native.String.{String}
use mathlib.Core.Path.{◌≡◌, refl, sym, ◌∙◌, ap, subst}
use mathlib.Core.Logic.{◌↔◌, inl, inr}
use mathlib.Core.Bool.{Bool, true, false, not, ◌&&◌, ◌||◌, or-false}
use mathlib.Core.List.Memᴰ
use mathlib.Core.List.{List, [], ◌∷◌, ◌++◌, flat_map, Memᴰ}
use mathlib.Core.Option.{Option, none, some}
use native.Mathlib.Omega.{arith}
use borrow.Author.Tests.{le-ltb, ltb-true}
use lib.Dec.{ltb}
use lib.ListN.{length}
use lib.IntN.{ℤ, pos, suc_ℤ}
use lib.Signed.{lt_z}
use Rattle.rules.specs.Basics.{is_some, if_some, find, exists, same, bytes, decimal_from}
use Rattle.rules.specs.Refusal.{Refusal, RULE, SHAPE, number, rank_in, rank, ◌when◌, answered}
use Rattle.rules.specs.Markup.{Attribute, Nodes, end, node, Element, lookup, document}
use Rattle.rules.specs.Calendar.{month_length, days_of_years, days_of_months}
use Rattle.rules.specs.Timestamp.{Zone, Written, start_of, moment_of, tick_at}
use Rattle.rules.specs.Invariants.{has_such, is_null, child_named, high, is_closed}
use Rattle.rules.specs.Types.{Kind, IVL_TS, TS, member_types, always, has_type, type_among, line_of}
use Rattle.rules.specs.Judge.{Standing, top, inside, lacks, breaks_null, attribute_faults, element_faults, child_faults, top_faults}
use Rattle.rules.specs.Check.{is_offset, shift_by, record_faults, check}
use Rattle.rules.specs.Sets.{Place, at, next_place, previous_place, ◌is_before◌, open_at, closed_at, Interval, ◌upto◌, holds, Expression, interval, meant, intervals, AreStretches}
use Rattle.rules.specs.Stretches.{stretches}
use Rattle.rules.specs.Listing.{bound_at, set_from, set_of}
use Rattle.rules.specs.Comparison.{No, Unknown, compare_intervals}
use Rattle.rules.specs.ListingPromise.{number_in, is_listed}
use Rattle.rules.specs.ComparisonPromise.{Says}
use Rattle.rules.proofs.Tests.{clash, same_true, same_refl}
use Rattle.rules.proofs.Opened.{opened}
use Rattle.rules.proofs.Children.{faults_as}
use Rattle.rules.proofs.Precedence.{check-answered}
use Rattle.rules.proofs.CheckRefusals.{Pass, none_left, one_more, pass-append, pass_when, pass-member, attributes-pass}
use Rattle.rules.proofs.TickOrder.{tick-next}
use Rattle.rules.proofs.Order.{places, next-number, previous_number}
use Rattle.rules.proofs.Edges.{first_edge, end_edge, since, until, inside as between}
use Rattle.rules.proofs.Canonical.{Opens, canonical-stretches}
use Rattle.rules.proofs.Drawing.{stretches_are}
use Rattle.rules.proofs.Members.{type-is, set-intervals, set-clear}
use Rattle.rules.proofs.ListingCases.{check_faultless}
use Rattle.demands.specs.Services.{Services}
use Rattle.demands.specs.WrongTimes.{Spells}
use Rattle.demands.specs.NextUnits.{unit_after, written_after}
use Rattle.demands.specs.LastDay.{IsCoarse, IsPossible, tick_on, next_tick, Writes, LowIs, HighIs, LastTick, IsBounded, IsPass, ListsAs, stay, stay_stretches, pass, late_term, last_units, last_written, LastDayPromise}
use Rattle.demands.specs.Demands.{IsFirst, Demand2, Demand3}
use Rattle.demands.proofs.Answers.{iff_trans}
use Rattle.demands.proofs.NextUnits.{date-after, clock-after, as_many, two_digits}
use Rattle.demands.proofs.TimesWithin.{in_when}
use Rattle.demands.proofs.WrongTimes.{type_timed}
use Rattle.demands.proofs.LastDayBounds.{spelled-read, bounds-read, bounds-crossed}

-- the next unit is a time that can be written
next-possible : (w : Written) → IsPossible w → IsCoarse w → (written_after w).year ≤ 9999 → IsPossible (written_after w)
next-possible w p c y = record { date = date-after w p.date c y; clock = clock-after w p.clock c; zone = p.zone }

next_spelled : (text : List ℕ) (w : Written) → Spells text w → IsPossible w → IsCoarse w → (written_after w).year ≤ 9999
    → (next : List ℕ) × Spells next (written_after w) × IsPossible (written_after w)
next_spelled text w s p c y =
    let q = next-possible w p c y in
    let n = as_many w c in (
      _,
      record {
        offset = s.offset;
        spelled = refl;
        year_digits = omega arith;
        part_digits = two_digits (written_after w) q.date q.clock (omega arith);
        parts_most = omega arith;
        fraction_digits = s.fraction_digits;
        after_seconds = elim s.after_seconds [ inl e ↦ inl e | inr e ↦ absurd (omega arith) ];
        zone_spelled = s.zone_spelled;
        after_hours = elim s.after_hours [ inl e ↦ inl e | inr e ↦ inr (omega arith) ];
      },
      q,
    )

-- no place is from f on and up to z, if z is before f
none_between : (f z x : Place) → z is_before f ≡ true → (not (x is_before f) && not (z is_before x)) ≡ false
none_between f z x h = go (x is_before f) refl (z is_before x) refl
  where
    go : (a : Bool) → x is_before f ≡ a → (b : Bool) → z is_before x ≡ b → (not a && not b) ≡ false
    go true e b k = refl
    go false e true k = refl
    go false e false k = absurd (omega places)

pushed_past : (c d : Bool) (l h : ℤ) → lt_z h l ≡ true → (x : Place) → holds (bound_at c l upto bound_at d h) x ≡ false
pushed_past c d l h k x = go c d
  where
    before : at h is_before at l ≡ true
    before = k

    go : (c d : Bool) → holds (bound_at c l upto bound_at d h) x ≡ false
    go true true = none_between (at l) (at h) x before
    go true false = none_between (at l) (previous_place (at h)) x (omega (places, before, previous_number (at h)))
    go false true = none_between (next_place (at l)) (at h) x (omega (places, before, next-number (at l)))
    go false false = none_between (next_place (at l)) (previous_place (at h)) x (omega (places, before, previous_number (at h), next-number (at l)))

-- an interval is the one stretch of its places, or it has none
one_stretch : (v : Interval) (x : Place) → holds v x ≡ true → AreStretches (meant (interval v)) (v ∷ [])
unfolding meant exists
one_stretch v x h = canonical-stretches (opens (first_edge v) (end_edge v) (between v x h).0 (between v x h).1, tt, tt) (λ y. or-false (holds v y))
  where
    opens : (f e : Option Place) → since f x ≡ true → until e x ≡ true → Opens f e
    opens none e s u = refl
    opens (some f) none s u = refl
    opens (some f) (some n) s u = omega places

no_stretch : (v : Interval) → ((x : Place) → holds v x ≡ false) → AreStretches (meant (interval v)) []
unfolding meant exists
no_stretch v h = canonical-stretches tt (λ x. sym (h x))

-- Faults that stand before RULE, and those of an interval and of its bounds without it.
abbrev early : Refusal → Bool
early r = ltb (rank r) (rank RULE)

not_rule : {l : List Refusal} → Pass early l → Memᴰ RULE l → ⊥
not_rule h m = omega (arith, ltb-true (rank RULE) (rank RULE) (pass-member early h m))

in_rule : (b : Bool) → Memᴰ RULE (RULE when b) ↔ b ≡ true
in_rule true = (λ m. refl, λ e. Memᴰ.head refl)
in_rule false = (λ m. absurd (Memᴰ.not-nil m), λ e. clash (cc))

-- its own faults before RULE
module _ (shift : ℕ) (p : Standing) (k : Kind) (attrs : List Attribute) where
  own : List Refusal
  own = flat_map (attribute_faults shift p k) attrs ++ SHAPE when exists (lacks attrs) (line_of k).columns

  own_before : Pass early own
  unfolding own rank_in
  own_before =
      pass-append early (attributes-pass early refl refl refl refl refl shift p k attrs) (pass_when early SHAPE (exists (lacks attrs) (line_of k).columns) refl)

module _ (offset : ℤ) (attrs : List Attribute) (kids : Nodes) (l h : Written) (last : ℤ) (n : is_null attrs ≡ false) (x : IsBounded attrs kids l h)
    (t : LastTick offset h (is_closed high attrs) last) where
  own_rule : ((line_of IVL_TS).invariant (shift_by offset) attrs kids || breaks_null IVL_TS attrs kids) ≡ lt_z last (tick_on offset l)
  unfolding line_of
  own_rule = rw (n, bounds-crossed offset attrs kids l h last x t) (or-false (lt_z last (tick_on offset l)))

  crossed : (p : Standing) → Memᴰ RULE (element_faults (shift_by offset) p (some IVL_TS) attrs kids (λ k. [])) ↔ lt_z last (tick_on offset l) ≡ true
  unfolding element_faults own
  crossed p = iff_trans (
    λ m. elim (Memᴰ.append_cases (own (shift_by offset) p IVL_TS attrs ++ []) m) [
      | inl i ↦ absurd (not_rule (pass-append early (own_before (shift_by offset) p IVL_TS attrs) none_left) i)
      | inr i ↦ i
    ],
    λ i. Memᴰ.append_right (own (shift_by offset) p IVL_TS attrs ++ []) i,
  ) (rw own_rule (in_rule (lt_z last (tick_on offset l))))

-- a bound that is written has no fault but of its attributes
time_early : (shift : ℕ) {kids : Nodes} {child : String} {w : Written} (x : Writes kids child w) → Pass early (faults_as shift x.attrs end (always TS))
unfolding element_faults child_faults line_of exists rank_in own
time_early shift x =
    rw (x.value, x.not_null)
    (pass-append early (pass-append early (own_before shift inside TS x.attrs) none_left) none_left)

-- nothing stands before RULE if nothing that applies does
nothing_early : {l : List Refusal} → Pass early l → ((q : Refusal) → Memᴰ q l → rank RULE ≤ rank q) → l ≡ []
nothing_early none_left f = refl
nothing_early (one_more {r = r} h t) f = absurd (omega (arith, f r (Memᴰ.head refl), ltb-true (rank r) (rank RULE) h))

module _ (offset : ℤ) (input : List ℕ) (e : Element) (l h : Written) (last : ℤ) (x : IsPass offset input e l h) (t : LastTick offset h (is_closed high e.attrs) last) where
  abbrev shift : ℕ
  shift = shift_by offset

  abbrev within : List Refusal
  within = child_faults shift IVL_TS (is_null e.attrs) 0 e.kids

  within_early : Pass early within
  unfolding child_faults child_named line_of find same rank_in
  within_early =
      let (a, b, k) = x.two in
      let u = x.bounded.low_written in
      let v = x.bounded.high_written in
      let f : some a ≡ some u.attrs = subst (λ (n : Nodes). child_named (bytes "low") n ≡ some u.attrs) k u.stands in
      let g : some b ≡ some v.attrs = subst (λ (n : Nodes). child_named (bytes "high") n ≡ some v.attrs) k v.stands in
      subst (λ (n : Nodes). Pass early (child_faults shift IVL_TS (is_null e.attrs) 0 n)) (sym k)
      (subst (λ (c : List Attribute). Pass early (child_faults shift IVL_TS (is_null e.attrs) 0 (node (bytes "low") c end (node (bytes "high") b end end)))) (cc f)
      (subst (λ (c : List Attribute). Pass early (child_faults shift IVL_TS (is_null e.attrs) 0 (node (bytes "low") u.attrs end (node (bytes "high") c end end)))) (cc g)
      (pass-append early (time_early shift u) (pass-append early (time_early shift v) (pass_when early SHAPE (not (is_null e.attrs) && false) refl)))))

  faults_are : record_faults offset input ≡ (RULE when lt_z last (tick_on offset l))
  unfolding record_faults element_faults own exists same
  faults_are =
      let y = (type_timed e.attrs IVL_TS refl x.type).0 in
      let z : top_faults shift e ≡ own shift top IVL_TS e.attrs ++ within ++ RULE when lt_z last (tick_on offset l)
      = rw (y, own_rule offset e.attrs e.kids l h last x.not_null x.bounded t) refl in
      let n : own shift top IVL_TS e.attrs ++ within ≡ []
      = nothing_early (pass-append early (own_before shift top IVL_TS e.attrs) within_early) (λ q m. x.shaped q (subst (Memᴰ q) (sym z) (Memᴰ.append_left _ m))) in
      rw (x.offset_allowed, x.not_too_long, x.utf_8, x.read) (z ∙ ap (◌++ (RULE when lt_z last (tick_on offset l))) n)

first_rule : (b : Bool) → IsFirst RULE (RULE when b) ↔ b ≡ true
first_rule b = (
  λ m. (in_rule b).0 m.0,
  λ e. ((in_rule b).1 e, λ q m. rw (in_when b m) (omega arith)),
)

no_rule : (b : Bool) → (RULE when b) ≡ [] ↔ b ≡ false
no_rule true = (λ e. clash (cc), λ e. clash (cc))
no_rule false = (λ e. refl, λ e. refl)

is-closed : (flag : List ℕ) (attrs : List Attribute) → has_such flag (same (bytes "true")) attrs ≡ true ↔ lookup flag attrs ≡ some (bytes "true")
is-closed flag attrs = (go (lookup flag attrs), λ e. rw e (same_refl (bytes "true")))
  where
    go : (o : Option (List ℕ)) → if_some o (same (bytes "true")) false ≡ true → o ≡ some (bytes "true")
    go none h = clash (cc)
    go (some text) h = ap some (sym (same_true (bytes "true") text h))

-- the next unit after the last ones of year 9999
year_10000 : (offset : ℤ) (zone : Zone) (parts : List ℕ) → Memᴰ parts last_units
    → next_tick offset (record { year = 9999; parts = parts; fraction = []; zone = zone }) ≡ suc_ℤ (tick_on offset (last_written zone))
unfolding start_of unit_after days_of_years days_of_months month_length decimal_from
year_10000 offset zone parts m = ap tick_at (go parts m) ∙ tick-next (start_of (shift_by offset) (last_written zone))
  where
    next : List ℕ → ℕ
    next ps = start_of (shift_by offset) (written_after (record { year = 9999; parts = ps; fraction = []; zone = zone }))

    go : (ps : List ℕ) → Memᴰ ps last_units → next ps ≡ suc (start_of (shift_by offset) (last_written zone))
    go ps m = elim (Memᴰ.cases_cons m) [
      | inl e ↦ rw e (omega arith)
      | inr m ↦ elim (Memᴰ.cases_cons m) [
        | inl e ↦ rw e (omega arith)
        | inr m ↦ elim (Memᴰ.cases_cons m) [
          | inl e ↦ rw e (omega arith)
          | inr m ↦ elim (Memᴰ.cases_cons m) [ inl e ↦ rw e (omega arith) | inr m ↦ rw (Memᴰ.eq_of_singleton m) (omega arith) ]
        ]
      ]
    ]

interval-listed : (attrs : List Attribute) → has_type attrs IVL_TS ≡ true → is_some (type_among member_types attrs) ≡ true
unfolding find same exists
interval-listed attrs t = rw (type-is attrs IVL_TS t)

module _ (s : Services) (two : Demand2 s) (three : Demand3 s) where
  ticks : (offset : ℤ) (text : List ℕ) (w : Written) (tick : ℤ) → is_offset offset ≡ true → length text ≤ 16_384 → Spells text w → IsPossible w
      → s.tick_leaves offset text tick ≡ tick_on offset w
  ticks offset text w tick o n d p =
      let r = spelled-read (shift_by offset) text w d p in
      (two.time offset text tick (moment_of (shift_by offset) w) r (rw (r, o, le-ltb 16_384 (length text) n) refl)).2

  checks : (offset : ℤ) (input : List ℕ) (e : Element) (l h : Written) (last : ℤ) → IsPass offset input e l h → LastTick offset h (is_closed high e.attrs) last
      → (number_in (s.check_says offset input) ≡ number RULE ↔ lt_z last (tick_on offset l) ≡ true)
      × (number_in (s.check_says offset input) ≡ 0 ↔ lt_z last (tick_on offset l) ≡ false)
  checks offset input e l h last x t =
      let f = faults_are offset input e l h last x t in (
        iff_trans (two.refused offset input RULE) (rw f (first_rule (lt_z last (tick_on offset l)))),
        iff_trans (two.accepted offset input) (rw f (no_rule (lt_z last (tick_on offset l)))),
      )

  -- an accepted record is listed as the stretches of the set that it writes
  listed_as : (offset : ℤ) (input list : List ℕ) (e : Element) (x : Expression) (ss : List Interval) → check offset input ≡ answered e → is_listed e ≡ true
      → set_of (shift_by offset) e ≡ answered x → length (intervals x) ≤ 32 → AreStretches (meant x) ss → 32 * length ss ≤ length list → ListsAs s offset input list ss
  listed_as offset input list e x ss c l w n a r =
      let f = check_faultless offset input c in
      let p = (three.listing_promise offset input list).sets e
      (record { accepted = c; listed = l; clear = set-clear (shift_by offset) e f l w; few = omega (arith, set-intervals (shift_by offset) e f l w) }) in
      let y : x ≡ p.set = cc (w, p.written) in
      let z : ss ≡ p.stretches = p.no_other ss (subst (λ (y : Expression). AreStretches (meant y) ss) y a) in
      subst (ListsAs s offset input list) (sym z) (p.room (rw (← z) (omega arith)))

  lists : (offset : ℤ) (input list : List ℕ) (e : Element) (v : Interval) → number_in (s.check_says offset input) ≡ 0 → document input ≡ some e
      → has_type e.attrs IVL_TS ≡ true → is_null e.attrs ≡ false → LowIs offset e.attrs e.kids v.low → HighIs offset e.attrs e.kids v.high
      → ((x : Place) → holds v x ≡ true → 32 ≤ length list → ListsAs s offset input list (v ∷ []))
      × (((x : Place) → holds v x ≡ false) → ListsAs s offset input list [])
  unfolding set_from intervals
  lists offset input list e v a d t n l h =
      let c = (check-answered offset input e).1 (d, (two.accepted offset input).0 a) in
      let i = interval-listed e.attrs t in
      let w : set_of (shift_by offset) e ≡ answered (interval v) = rw (n, t, (bounds-read offset e.attrs e.kids v).1 (l, h)) in (
        λ x k r. listed_as offset input list e (interval v) (v ∷ []) c i w (omega arith) (one_stretch v x k) r,
        λ k. listed_as offset input list e (interval v) [] c i w (omega arith) (no_stretch v k) (omega arith),
      )

  -- a record that is given, by what it computes to
  given : (input list : List ℕ) (e : Element) (x : Expression) (ss : List Interval) → check (pos 0) input ≡ answered e → is_listed e ≡ true → set_of 840 e ≡ answered x
      → length (intervals x) ≤ 32 → stretches x ≡ ss → 32 * length ss ≤ length list → ListsAs s (pos 0) input list ss
  given input list e x ss c l w n z r = listed_as (pos 0) input list e x ss c l w n (subst (AreStretches (meant x)) z (stretches_are x)) r

  within_set : (list : List ℕ) → 32 ≤ length list → ListsAs s (pos 0) (late_term "true") list (closed_at (pos 638500752000000) upto open_at (pos 638501184000000) ∷ [])
  unfolding opened
  within_set list r = given (late_term "true") list _ _ _ refl refl refl (omega arith) refl r

  rule_within_set : number_in (s.check_says (pos 0) (late_term "false")) ≡ number RULE
  unfolding opened
  rule_within_set = (two.refused (pos 0) (late_term "false") RULE).1 ((first_rule true).1 refl)

  listed_none : (list : List ℕ) → ListsAs s (pos 0) (pass "false" "2024" "true" "202406") list []
  unfolding opened
  listed_none list = given (pass "false" "2024" "true" "202406") list _ _ _ refl refl refl (omega arith) refl (omega arith)

  example : (list : List ℕ) → 64 ≤ length list → ListsAs s (pos 0) stay list stay_stretches
  unfolding opened
  example list r = given stay list _ _ _ refl refl refl (omega arith) refl r

  april : (list : List ℕ) → 32 ≤ length list → (record' : List ℕ) → Memᴰ record' (pass "true" "20240401" "true" "20240430" ∷ pass "true" "20240401" "false" "20240501" ∷ pass "false" "20240331" "true" "20240430" ∷ [])
      → ListsAs s (pos 0) record' list (closed_at (pos 638475264000000) upto open_at (pos 638501184000000) ∷ [])
  unfolding opened
  april list r record' m = elim (Memᴰ.cases_cons m) [
    | inl e ↦ rw e (given (pass "true" "20240401" "true" "20240430") list _ _ _ refl refl refl (omega arith) refl r)
    | inr m ↦ elim (Memᴰ.cases_cons m) [
      | inl e ↦ rw e (given (pass "true" "20240401" "false" "20240501") list _ _ _ refl refl refl (omega arith) refl r)
      | inr m ↦ rw (Memᴰ.eq_of_singleton m) (given (pass "false" "20240331" "true" "20240430") list _ _ _ refl refl refl (omega arith) refl r)
    ]
  ]

  compared : Says No (s.compare_says (pos 0) (pass "true" "20240401" "true" "20240430") (pass "true" "20240401" "false" "20240501"))
      × Says No (s.compare_says (pos 0) (pass "true" "20240401" "true" "20240430") (pass "false" "20240331" "true" "20240430"))
      × Says Unknown (s.compare_says (pos 0) (pass "true" "20240401" "true" "20240430") (pass "true" "20240401" "true" "20240430120000"))
  unfolding opened
  compared = (
    two.comparison (pos 0) (pass "true" "20240401" "true" "20240430") (pass "true" "20240401" "false" "20240501") _ _ compare_intervals refl refl refl,
    two.comparison (pos 0) (pass "true" "20240401" "true" "20240430") (pass "false" "20240331" "true" "20240430") _ _ compare_intervals refl refl refl,
    two.comparison (pos 0) (pass "true" "20240401" "true" "20240430") (pass "true" "20240401" "true" "20240430120000") _ _ compare_intervals refl refl refl,
  )

pub last_day_kept : (s : Services) → Demand2 s → Demand3 s → LastDayPromise s
unfolding flat_map
last_day_kept s two three = record {
  ticks = ticks s two three;
  next_spelled = next_spelled;
  year_10000 = year_10000;
  flags = λ attrs. (is-closed (bytes "lowClosed") attrs, is-closed (bytes "highClosed") attrs);
  bounds = bounds-read;
  lists = lists s two three;
  crossed = λ offset p attrs kids l h last n x t. crossed offset attrs kids l h last n x t p;
  checks = checks s two three;
  within_set = within_set s two three;
  rule_within_set = rule_within_set s two three;
  pushed_past = pushed_past;
  listed_none = listed_none s two three;
  example = example s two three;
  example_numbers = refl;
  april = april s two three;
  compared = compared s two three;
}
