-- The user's demands leave nothing open: whatever meets them does what the services do with every input.
use Prim.Native.Nat.{ℕ, ◌+◌, ◌*◌, ◌/◌, ◌^◌}
use mathlib.Core.Logic.{◌↔◌}
use mathlib.Core.Path.{◌≡◌, refl, sym, ◌∙◌, ap, subst}
use mathlib.Core.List.{List, []}
use mathlib.Core.Option.{Option, none, some}
use native.Mathlib.Decide.{dec_le}
use native.Mathlib.Omega.{arith}
use lib.ListN.{length, replicate, take-append-drop}
use lib.IntN.{ℤ, pos}
use Rattle.rules.specs.Basics.{every}
use Rattle.rules.specs.Refusal.{Refusal, NOT_WRITABLE, NO_ROOM, number, first_of, Outcome, answered, refused}
use Rattle.rules.specs.Markup.{Element}
use Rattle.rules.specs.Check.{record_faults, check}
use Rattle.rules.specs.Comparison.{Answer, Comparer, comparer_for}
use Rattle.rules.specs.Sets.{Interval, meant, AreStretches}
use Rattle.rules.specs.Services.{room_of}
use Rattle.rules.specs.ListingPromise.{number_in, Refuses, Lists, PromiseOfSet, ListingPromise}
use Rattle.rules.specs.TotalNumbers.{Lent}
use Rattle.rules.specs.TotalDays.{Call}
use Rattle.rules.specs.ComparisonPromise.{record_in, answer_in, Names, Says, IsOf}
use Rattle.rules.proofs.Tests.{clash}
use Rattle.rules.proofs.Precedence.{first-is, no_fault}
use Rattle.rules.proofs.ListingCases.{faulty, other_type, unclear, many, a_set, case}
use Rattle.rules.proofs.ListingPromise.{small}
use Rattle.rules.proofs.PrintingCases.{unwritable, full, fitting, printing_case, unwritable_is}
use Rattle.rules.proofs.ComparisonPromise.{Pair, alike, unlike, pair}
use Rattle.demands.specs.Services.{Services, services, result_in, Answers, accepts, refuses, Same}
use Rattle.demands.specs.Printing.{Prints}
use Rattle.demands.specs.Demands.{IsFirst, time_faults, cut_faults, IsCut, Demands}
use Rattle.demands.proofs.Answers.{no_number, faultless_read}
use Rattle.demands.proofs.Desks.{starting_only, adding_only, reporting_only}
use Rattle.demands.proofs.Demands.{demands_met}

same_answer : {a b : ℕ} → number_in a ≡ number_in b → result_in a ≡ result_in b → a ≡ b
same_answer e f = omega arith

-- an answer by the faults that apply: none and a result, or the first of them
data Given (faults : List Refusal) (Result : ℕ → Type 0) (Kept : Type 0) (answer : ℕ) : Type 0 where
  faultless : faults ≡ [] → number_in answer ≡ 0 → Result (result_in answer) → Given faults Result Kept answer
  first_given : (r : Refusal) → first_of faults ≡ some r → number_in answer ≡ number r → result_in answer ≡ 0 → Kept → Given faults Result Kept answer

module _ (faults : List Refusal) (answer : ℕ) (first : (r : Refusal) → number_in answer ≡ number r ↔ IsFirst r faults) where
  given : {may : List Refusal} {Result : ℕ → Type 0} {Kept : Type 0} → Answers may Result Kept answer → Given faults Result Kept answer
  given (accepts e h) = faultless (no_number faults answer first e) e h
  given (refuses r m e z k) = first_given r ((first-is faults r).1 ((first r).0 e)) e z k

-- two answers by the same faults have the same number, and are the same if their results are where there is no fault
module _ {faults : List Refusal} {R Q : ℕ → Type 0} {K L : Type 0} {a b : ℕ} where
  same_given : (faults ≡ [] → R (result_in a) → Q (result_in b) → result_in a ≡ result_in b) → Given faults R K a → Given faults Q L b → a ≡ b
  same_given f (faultless e n h) (faultless d m i) = same_answer (n ∙ sym m) (f e h i)
  same_given f (faultless e n h) (first_given r d m z k) = let i = (no_fault faults).1 e in clash (cc)
  same_given f (first_given r d m z k) (faultless e n h) = let i = (no_fault faults).1 e in clash (cc)
  same_given f (first_given r e n y k) (first_given q d m z l) = let i : r ≡ q = cc in same_answer (n ∙ ap number i ∙ sym m) (y ∙ sym z)

-- a report's memory, all numbers 0
blank : Lent 35 (replicate 35 0)
unfolding every
blank = record { long = refl; bits = refl }

-- the bits of a comparison
three-parts : (a : ℕ) → a ≡ number_in a + 2 ^ 8 * record_in a + 2 ^ 16 * answer_in a
three-parts a = let h : a / 2 ^ 16 ≡ a / 2 ^ 8 / 2 ^ 8 = omega arith in omega arith

same_parts : (a b : ℕ) → number_in a ≡ number_in b → record_in a ≡ record_in b → answer_in a ≡ answer_in b → a ≡ b
same_parts a b e f g = three-parts a ∙ rw (e, f, g) (sym (three-parts b))

same_names : {which : ℕ} {r : Refusal} {a b : ℕ} → Names which r a → Names which r b → a ≡ b
same_names {a = a} {b = b} h i =
    same_parts a b (h.number_given ∙ sym i.number_given) (h.record_named ∙ sym i.record_named) (h.no_answer ∙ sym i.no_answer)

same-says : {x : Answer} {a b : ℕ} → Says x a → Says x b → a ≡ b
same-says {a = a} {b = b} h i = same_parts a b (h.no_refusal ∙ sym i.no_refusal) (h.no_record ∙ sym i.no_record) (h.answer_given ∙ sym i.answer_given)

-- the two lists afterwards, and the two answers
module _ (offset : ℤ) (input before : List ℕ) {a b : ℕ} {x y : List ℕ} where
  same_refusal : {r : Refusal} → Refuses offset input a before x r → Refuses offset input b before y r → (a ≡ b) × (x ≡ y)
  same_refusal h i = (same_answer (h.number_given ∙ sym i.number_given) (h.no_count ∙ sym i.no_count), h.unchanged ∙ sym i.unchanged)

  same-listed : {ss : List Interval} → Lists offset input a before x ss → Lists offset input b before y ss → (a ≡ b) × (x ≡ y)
  same-listed {ss} h i = (
    same_answer (h.number_given ∙ sym i.number_given) (h.count ∙ sym i.count),
    sym (take-append-drop (32 * length ss) x) ∙ rw (h.begins ∙ sym i.begins, h.unchanged ∙ sym i.unchanged) (take-append-drop (32 * length ss) y),
  )

  same-stretches : {e : Element} (p : PromiseOfSet offset input a before x e) (q : PromiseOfSet offset input b before y e) → q.stretches ≡ p.stretches
  same-stretches {e} p q =
      let z : q.set ≡ p.set = cc (p.written, q.written) in
      p.no_other q.stretches (subst (λ s. AreStretches (meant s) q.stretches) z q.are_stretches)

  same_set : {e : Element} → PromiseOfSet offset input a before x e → PromiseOfSet offset input b before y e → (a ≡ b) × (x ≡ y)
  same_set p q =
      let z = same-stretches p q in
      elim (dec_le (length p.stretches) (room_of before)) [
        | yes l ↦ same-listed (p.room l) (subst (Lists offset input b before y) z (q.room (rw z l)))
        | no l ↦ same_refusal (p.no_room.1 (omega arith)) (q.no_room.1 (rw z (omega arith)))
      ]

  same_promise : ListingPromise offset input a before x → ListingPromise offset input b before y → (a ≡ b) × (x ≡ y)
  same_promise p q = elim (case offset input) [
    | faulty r t c f ↦ same_refusal (p.faulty r t c f) (q.faulty r t c f)
    | other_type e c l ↦ same_refusal (p.other_type e c l) (q.other_type e c l)
    | unclear e c l u ↦ same_refusal (p.unknown_bound.1 (e, c, l, u)) (q.unknown_bound.1 (e, c, l, u))
    | many e c l u m ↦ same_refusal (p.too_many.1 (e, c, l, u, m)) (q.too_many.1 (e, c, l, u, m))
    | a_set e h ↦ same_set (p.sets e h) (q.sets e h)
  ]

-- the two records afterwards, and the two answers
module _ {before : List ℕ} {a b : ℕ} {x y : List ℕ} where
  same-refused : {may : List Refusal} {R : ℕ → Type 0} (r : Refusal) → number_in a ≡ number r → number_in b ≡ number r
      → Answers may R (x ≡ before) a → Answers may R (y ≡ before) b → (a ≡ b) × (x ≡ y)
  same-refused r e f (accepts g h) i = clash (omega (arith, small r))
  same-refused r e f (refuses q m g h k) (accepts i j) = clash (omega (arith, small r))
  same-refused r e f (refuses q m g h k) (refuses u n i j l) = (same_answer (e ∙ sym f) (h ∙ sym j), k ∙ sym l)

  same-printed : {text : List ℕ} → Prints text a before x → Prints text b before y → (a ≡ b) × (x ≡ y)
  same-printed {text} h i = (
    same_answer (h.accepted ∙ sym i.accepted) (h.length_given ∙ sym i.length_given),
    sym (take-append-drop (length text) x) ∙ rw (h.begins ∙ sym i.begins, h.unchanged ∙ sym i.unchanged) (take-append-drop (length text) y),
  )

module _ {s t : Services} (p : Demands s) (q : Demands t) where
  same_check : (offset : ℤ) (input : List ℕ) → s.check_says offset input ≡ t.check_says offset input
  same_check offset input =
      same_given (λ f h i. h ∙ sym i) (given (record_faults offset input) _ (p.two.refused offset input) (p.one.check_answers offset input))
      (given (record_faults offset input) _ (q.two.refused offset input) (q.one.check_answers offset input))

  same_compare : (offset : ℤ) (first second : List ℕ) → s.compare_says offset first second ≡ t.compare_says offset first second
  same_compare offset first second = go (check offset first) (check offset second) refl refl
    where
      no_comparer : (a b : Element) {o : Option Comparer} → Pair a b o → o ≡ none → (k : _) → IsOf offset k first a → IsOf offset k second b → ⊥
      no_comparer a b (alike k f u v c) e = clash (cc)
      no_comparer a b (unlike h) e = λ k x y. h k x.type y.type

      by_comparer : (a b : Element) (o : Option Comparer) → check offset first ≡ answered a → check offset second ≡ answered b → comparer_for a b ≡ o
          → s.compare_says offset first second ≡ t.compare_says offset first second
      by_comparer a b none e f g =
          same_names ((p.two.comparison_promise offset).type_refused first second a b e f (no_comparer a b (pair a b) g))
          ((q.two.comparison_promise offset).type_refused first second a b e f (no_comparer a b (pair a b) g))
      by_comparer a b (some c) e f g = same-says (p.two.comparison offset first second a b c e f g) (q.two.comparison offset first second a b c e f g)

      go : (o u : Outcome Element) → check offset first ≡ o → check offset second ≡ u → s.compare_says offset first second ≡ t.compare_says offset first second
      go (refused r) u e f = same_names ((p.two.comparison_promise offset).first_refused first second r e) ((q.two.comparison_promise offset).first_refused first second r e)
      go (answered a) (refused r) e f =
          same_names ((p.two.comparison_promise offset).second_refused first second a r e f) ((q.two.comparison_promise offset).second_refused first second a r e f)
      go (answered a) (answered b) e f = by_comparer a b _ e f refl

  same_list : (offset : ℤ) (input list : List ℕ)
      → (s.list_says offset input list ≡ t.list_says offset input list) × (s.list_leaves offset input list ≡ t.list_leaves offset input list)
  same_list offset input list = same_promise offset input list (p.three.listing_promise offset input list) (q.three.listing_promise offset input list)

  same_tick : (offset : ℤ) (text : List ℕ) (tick : ℤ) → s.tick_says offset text ≡ t.tick_says offset text
  same_tick offset text tick =
      same_given (λ f h i. let (m, e) = faultless_read offset text f in (p.two.time offset text tick m e f).1 ∙ sym (q.two.time offset text tick m e f).1)
      (given (time_faults offset text) _ (p.two.time_refused offset text) (p.one.tick_answers offset text tick))
      (given (time_faults offset text) _ (q.two.time_refused offset text) (q.one.tick_answers offset text tick))

  same_tick_left : (offset : ℤ) (text : List ℕ) (tick : ℤ) → s.tick_leaves offset text tick ≡ t.tick_leaves offset text tick
  same_tick_left offset text tick =
      go (given (time_faults offset text) _ (p.two.time_refused offset text) (p.one.tick_answers offset text tick))
      (given (time_faults offset text) _ (q.two.time_refused offset text) (q.one.tick_answers offset text tick))
    where
      go : {R Q : ℕ → Type 0} {a b : ℕ} → Given (time_faults offset text) R (s.tick_leaves offset text tick ≡ tick) a
          → Given (time_faults offset text) Q (t.tick_leaves offset text tick ≡ tick) b → s.tick_leaves offset text tick ≡ t.tick_leaves offset text tick
      go (faultless f n h) g = let (m, e) = faultless_read offset text f in (p.two.time offset text tick m e f).2 ∙ sym (q.two.time offset text tick m e f).2
      go (first_given r d m z k) (faultless f n h) = let i = (no_fault (time_faults offset text)).1 f in clash (cc)
      go (first_given r d m z k) (first_given u e n y l) = k ∙ sym l

  same_cut : (text : List ℕ) (room : ℕ) → s.cut_says text room ≡ t.cut_says text room
  same_cut text room =
      same_given (λ f h i. longest (p.two.cut text room f).1 (q.two.cut text room f).1)
      (given (cut_faults text) _ (p.two.cut_refused text room) (p.one.cut_answers text room))
      (given (cut_faults text) _ (q.two.cut_refused text room) (q.one.cut_answers text room))
    where
      longest : {m n : ℕ} → IsCut text room m → IsCut text room n → m ≡ n
      longest {m} {n} a b = omega (arith, a.most n b.within b.fits b.whole, b.most m a.within a.fits a.whole)

  -- by the case that a list and a lent record are
  same_print : (list record' : List ℕ) → (s.print_says list record' ≡ t.print_says list record') × (s.print_leaves list record' ≡ t.print_leaves list record')
  same_print list record' =
      let a = p.one.print_answers list record' in
      let b = q.one.print_answers list record' in
      elim (printing_case list (length record')) [
        | unwritable h ↦
            let w = (unwritable_is list).0 h in
            same-refused NOT_WRITABLE ((p.print.not_writable list record').1 w) ((q.print.not_writable list record').1 w) a b
        | full w l ↦ same-refused NO_ROOM ((p.print.no_room list record').1 (w, l)) ((q.print.no_room list record').1 (w, l)) a b
        | fitting w l ↦ same-printed (p.print.printed list record' w l) (q.print.printed list record' w l)
      ]

  -- a table afterwards, and the answer, are the rules' of either
  same_start : (n : ℕ) (numbers : List ℕ) → Lent 103 numbers
      → (s.start_says n numbers ≡ t.start_says n numbers) × (s.start_leaves n numbers ≡ t.start_leaves n numbers)
  same_start n numbers l =
      let (e, f) = starting_only numbers l n (p.desks.starts numbers l n) in
      let (g, h) = starting_only numbers l n (q.desks.starts numbers l n) in
      (e ∙ sym g, f ∙ sym h)

  same_add : (n : ℕ) (offset : ℤ) (record' numbers : List ℕ) → Lent 103 numbers
      → (s.add_says n offset record' numbers ≡ t.add_says n offset record' numbers) × (s.add_leaves n offset record' numbers ≡ t.add_leaves n offset record' numbers)
  same_add n offset record' numbers l =
      let k : Call = record { offset = offset; record' = record' } in
      let (e, f) = adding_only numbers l n k (p.desks.adds numbers l n k) in
      let (g, h) = adding_only numbers l n k (q.desks.adds numbers l n k) in
      (e ∙ sym g, f ∙ sym h)

  same_report : (n : ℕ) (numbers report : List ℕ) → Lent 103 numbers → Lent 35 report
      → (s.report_says n numbers ≡ t.report_says n numbers) × (s.report_leaves n numbers report ≡ t.report_leaves n numbers report)
  same_report n numbers report l m =
      let (e, f) = reporting_only numbers l n report (p.desks.reports numbers report l m n) in
      let (g, h) = reporting_only numbers l n report (q.desks.reports numbers report l m n) in
      (e ∙ sym g, f ∙ sym h)

  pub demands_agree : Same s t
  demands_agree = record {
    same_check = same_check;
    same_compare = same_compare;
    same_list = λ offset input list. (same_list offset input list).0;
    same_list_left = λ offset input list. (same_list offset input list).1;
    same_tick = λ offset text. same_tick offset text (pos 0);
    same_tick_left = same_tick_left;
    same_cut = same_cut;
    same_print = λ list record'. (same_print list record').0;
    same_print_left = λ list record'. (same_print list record').1;
    same_open = λ numbers l. (p.desks.opens numbers l).0 ∙ sym (q.desks.opens numbers l).0;
    same_open_left = λ numbers l. (p.desks.opens numbers l).1 ∙ sym (q.desks.opens numbers l).1;
    same_start = λ n numbers l. (same_start n numbers l).0;
    same_start_left = λ n numbers l. (same_start n numbers l).1;
    same_add = λ n offset record' numbers l. (same_add n offset record' numbers l).0;
    same_add_left = λ n offset record' numbers l. (same_add n offset record' numbers l).1;
    same_report = λ n numbers l. (same_report n numbers (replicate 35 0) l blank).0;
    same_report_left = λ n numbers report l m. (same_report n numbers report l m).1;
  }

pub demands_determine : (s : Services) → Demands s → Same s services
demands_determine s p = demands_agree p demands_met
