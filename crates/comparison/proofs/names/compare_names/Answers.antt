use native.Mathlib.Omega.{arith}
use Rattle.element.proofs.Walks.{walk_less}
use Rattle.comparison.proofs.Parts.{parts_begin, part, parts_more, parts-end, parts_over, parts_under}
use Rattle.comparison.proofs.names.compare_names.Goals as goal

pub loop-p-init : goal.loop-p-init
loop-p-init c = parts_begin c.requires.fact_1.end c.requires.fact_2.end

pub next_inside-first-requires : goal.next_inside-first-requires
next_inside-first-requires c = let tag = c.requires.fact_1 in record { fact_1 = tag.name; fact_2 = tag.past; fact_3 = c.loop-p.invariant.first }

pub next_inside-second-requires : goal.next_inside-second-requires
next_inside-second-requires c = let tag = c.requires.fact_2 in record { fact_1 = tag.name; fact_2 = tag.past; fact_3 = c.loop-p.invariant.second }

pub returns-in_default : goal.returns-in_default
returns-in_default c = λ n v w after rest g k.
    parts_over c.loop-p.invariant g k (rw c.in-Child.is at c.next_inside-first.ensures)
    (rw c.in_default.is at c.next_inside-second.ensures)

pub read-part-requires : goal.read-part-requires
read-part-requires c = omega (arith, (rw c.in-Child.is at c.next_inside-first.ensures).high)

pub read-other-requires : goal.read-other-requires
read-other-requires c = omega (arith, (rw c.in-Child-second.is at c.next_inside-second.ensures).high)

pub compare_parts-requires : goal.compare_parts-requires
compare_parts-requires c = record { fact_1 = c.read-part.ensures.within.0; fact_2 = c.read-other.ensures.within.0 }

pub overflow_sub-depth : goal.overflow_sub-depth
overflow_sub-depth c = c.requires.fact_3

pub past_element-i-requires : goal.past_element-i-requires
past_element-i-requires c = c.read-part.ensures.within.0

pub overflow_sub-depth-in-Child : goal.overflow_sub-depth-in-Child
overflow_sub-depth-in-Child c = c.requires.fact_3

pub past_element-j-requires : goal.past_element-j-requires
past_element-j-requires c = c.read-other.ensures.within.0

pub loop-p-smaller : goal.loop-p-smaller
loop-p-smaller c =
    walk_less (rw c.in-Child.is at c.next_inside-first.ensures) (c.read-part.ensures.within, c.read-part.ensures.tells) c.past_element-i.ensures.within

pub loop-p-preserved : goal.loop-p-preserved
loop-p-preserved c =
    let p = part (rw c.in-Child.is at c.next_inside-first.ensures) (c.read-part.ensures.within, c.read-part.ensures.tells) (c.past_element-i.ensures.within, c.past_element-i.ensures.tells) in
    let q = part (rw c.in-Child-second.is at c.next_inside-second.ensures) (c.read-other.ensures.within, c.read-other.ensures.tells) (c.past_element-j.ensures.within, c.past_element-j.ensures.tells) in
    parts_more c.loop-p.invariant p q c.compare_parts.ensures c.also-answer.ensures

pub returns-in_default-second : goal.returns-in_default-second
returns-in_default-second c = λ n v w after rest g k.
    parts_under c.loop-p.invariant g k (rw c.in-Past.is at c.next_inside-first.ensures)
    (rw c.in_default-second.is at c.next_inside-second.ensures)

pub returns-in-Past : goal.returns-in-Past
returns-in-Past c = λ n v w after rest g k.
    parts-end c.loop-p.invariant g k (rw c.in-Past.is at c.next_inside-first.ensures)
    (rw c.in-Past-second.is at c.next_inside-second.ensures)
