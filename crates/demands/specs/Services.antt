-- The services as the demands see them: what they say and leave, the parts of an answer, and what it is to do the same.
use Rattle.std.specs.Prelude.{ℕ, ◌/◌, ◌^◌, ◌≡◌, ◌⊎◌, Bool, true, List, ℤ}
use Rattle.rules.specs.Basics.{exists}
use Rattle.rules.specs.Refusal.{Refusal, number, is_same}
use Rattle.rules.specs.Comparison.{Answer}
use Rattle.rules.specs.Services.{check_answer, compare_answer, list_answer, list_after, tick_answer, tick_after, cut_answer}
use Rattle.rules.specs.Printing.{print_answer, print_after}
use Rattle.rules.specs.TotalNumbers.{Lent}
use Rattle.rules.specs.DeskNumbers.{opened_table, start_answer, start_after, add_answer, add_after, report_answer, report_after}
use Rattle.rules.specs.ListingPromise.{number_in}
use Rattle.rules.specs.ComparisonPromise.{Names, Says}

-- what ten functions do with each input: what they say, and what they leave in lent memory
pub record Services : Type 0 where
  pub check_says : (offset : ℤ) → (record' : List ℕ) → ℕ
  pub compare_says : (offset : ℤ) → (first second : List ℕ) → ℕ
  pub list_says : (offset : ℤ) → (record' list : List ℕ) → ℕ
  pub list_leaves : (offset : ℤ) → (record' list : List ℕ) → List ℕ
  pub tick_says : (offset : ℤ) → (text : List ℕ) → ℕ
  pub tick_leaves : (offset : ℤ) → (text : List ℕ) → (tick : ℤ) → ℤ
  pub cut_says : (text : List ℕ) → (room : ℕ) → ℕ
  pub print_says : (list record' : List ℕ) → ℕ
  pub print_leaves : (list record' : List ℕ) → List ℕ
  pub open_says : (numbers : List ℕ) → ℕ
  pub open_leaves : (numbers : List ℕ) → List ℕ
  pub start_says : (desk : ℕ) → (numbers : List ℕ) → ℕ
  pub start_leaves : (desk : ℕ) → (numbers : List ℕ) → List ℕ
  pub add_says : (desk : ℕ) → (offset : ℤ) → (record' numbers : List ℕ) → ℕ
  pub add_leaves : (desk : ℕ) → (offset : ℤ) → (record' numbers : List ℕ) → List ℕ
  pub report_says : (desk : ℕ) → (numbers : List ℕ) → ℕ
  pub report_leaves : (desk : ℕ) → (numbers report : List ℕ) → List ℕ

-- the exported functions, each by its contract
abbrev pub services : Services
services = record {
  check_says = check_answer;
  compare_says = compare_answer;
  list_says = list_answer;
  list_leaves = list_after;
  tick_says = tick_answer;
  tick_leaves = tick_after;
  cut_says = cut_answer;
  print_says = print_answer;
  print_leaves = print_after;
  open_says = λ numbers. 0;
  open_leaves = λ numbers. opened_table;
  start_says = start_answer;
  start_leaves = start_after;
  add_says = add_answer;
  add_leaves = add_after;
  report_says = report_answer;
  report_leaves = report_after;
}

-- an answer: its number in bits 0 to 7, `number_in`, and its result in those above
abbrev pub result_in : ℕ → ℕ
result_in answer = answer / 2 ^ 8

abbrev pub is_among : List Refusal → Refusal → Bool
is_among rs r = exists (is_same r) rs

-- an answer is a result with no number, or a number with no result, and then lent memory is kept
pub data Answers (may : List Refusal) (Result : ℕ → Type 0) (Kept : Type 0) (answer : ℕ) : Type 0 where
  accepts : number_in answer ≡ 0 → Result (result_in answer) → Answers may Result Kept answer
  refuses : (r : Refusal) → is_among may r ≡ true → number_in answer ≡ number r → result_in answer ≡ 0 → Kept → Answers may Result Kept answer

-- of a comparison: it says yes, no or unknown, or it names the record that it refuses, and the number
pub data Compares (may : List Refusal) (answer : ℕ) : Type 0 where
  says : (x : Answer) → Says x answer → Compares may answer
  names : (which : ℕ) (r : Refusal) → (which ≡ 1) ⊎ (which ≡ 2) → is_among may r ≡ true → Names which r answer → Compares may answer

-- two that do the same with every input; a table is 103 numbers of 64 bits, and a report 35
pub record Same (s t : Services) : Type 0 where
  pub same_check : (offset : ℤ) (record' : List ℕ) → s.check_says offset record' ≡ t.check_says offset record'
  pub same_compare : (offset : ℤ) (first second : List ℕ) → s.compare_says offset first second ≡ t.compare_says offset first second
  pub same_list : (offset : ℤ) (record' list : List ℕ) → s.list_says offset record' list ≡ t.list_says offset record' list
  pub same_list_left : (offset : ℤ) (record' list : List ℕ) → s.list_leaves offset record' list ≡ t.list_leaves offset record' list
  pub same_tick : (offset : ℤ) (text : List ℕ) → s.tick_says offset text ≡ t.tick_says offset text
  pub same_tick_left : (offset : ℤ) (text : List ℕ) (tick : ℤ) → s.tick_leaves offset text tick ≡ t.tick_leaves offset text tick
  pub same_cut : (text : List ℕ) (room : ℕ) → s.cut_says text room ≡ t.cut_says text room
  pub same_print : (list record' : List ℕ) → s.print_says list record' ≡ t.print_says list record'
  pub same_print_left : (list record' : List ℕ) → s.print_leaves list record' ≡ t.print_leaves list record'
  pub same_open : (numbers : List ℕ) → Lent 103 numbers → s.open_says numbers ≡ t.open_says numbers
  pub same_open_left : (numbers : List ℕ) → Lent 103 numbers → s.open_leaves numbers ≡ t.open_leaves numbers
  pub same_start : (desk : ℕ) (numbers : List ℕ) → Lent 103 numbers → s.start_says desk numbers ≡ t.start_says desk numbers
  pub same_start_left : (desk : ℕ) (numbers : List ℕ) → Lent 103 numbers → s.start_leaves desk numbers ≡ t.start_leaves desk numbers
  pub same_add : (desk : ℕ) (offset : ℤ) (record' numbers : List ℕ) → Lent 103 numbers → s.add_says desk offset record' numbers ≡ t.add_says desk offset record' numbers
  pub same_add_left : (desk : ℕ) (offset : ℤ) (record' numbers : List ℕ) → Lent 103 numbers
      → s.add_leaves desk offset record' numbers ≡ t.add_leaves desk offset record' numbers
  pub same_report : (desk : ℕ) (numbers : List ℕ) → Lent 103 numbers → s.report_says desk numbers ≡ t.report_says desk numbers
  pub same_report_left : (desk : ℕ) (numbers report : List ℕ) → Lent 103 numbers → Lent 35 report → s.report_leaves desk numbers report ≡ t.report_leaves desk numbers report
