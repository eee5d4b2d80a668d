use Rattle.std.proofs.Common.{arith}
use Rattle.library_examples.proofs.outline.+outline_outline_all.Goals as goal

pub outline-overflow_sub-depth : goal.outline-overflow_sub-depth
outline-overflow_sub-depth t c = omega (arith, c.requires.1)

pub outline-write_element-requires : goal.outline-write_element-requires
outline-write_element-requires t c = c.requires.0

pub outline-overflow_sub-depth-then-depth-gt0 : goal.outline-overflow_sub-depth-then-depth-gt0
outline-overflow_sub-depth-then-depth-gt0 t c = omega (arith, c.if-depth-gt0.true)

pub outline-outline_all-requires : goal.outline-outline_all-requires
outline-outline_all-requires t c = (omega (arith, c.if-depth-gt0.true), (c.requires.0.end, omega (arith, c.requires.1)))

pub outline-returns-then-depth-gt0 : goal.outline-returns-then-depth-gt0
outline-returns-then-depth-gt0 t c = tt

pub outline-returns-else-depth-gt0 : goal.outline-returns-else-depth-gt0
outline-returns-else-depth-gt0 t c = tt

pub outline-returns-else-tag : goal.outline-returns-else-tag
outline-returns-else-tag t c = tt

pub outline_all-loop-at-init : goal.outline_all-loop-at-init
outline_all-loop-at-init t c = c.requires.0

pub outline_all-skip_space-j-requires : goal.outline_all-skip_space-j-requires
outline_all-skip_space-j-requires t c = c.loop-at.invariant

pub outline_all-is_child-requires : goal.outline_all-is_child-requires
outline_all-is_child-requires t c = c.skip_space-j.ensures.high

pub outline_all-returns-then-not-is_child : goal.outline_all-returns-then-not-is_child
outline_all-returns-then-not-is_child t c = tt

pub outline_all-read-tag-requires : goal.outline_all-read-tag-requires
outline_all-read-tag-requires t c = c.skip_space-j.ensures.high

pub outline_all-outline-requires : goal.outline_all-outline-requires
outline_all-outline-requires t c = (omega (arith), (c.read-tag.ensures.within.0, c.requires.1))

pub outline_all-past_element-i-requires : goal.outline_all-past_element-i-requires
outline_all-past_element-i-requires t c = c.read-tag.ensures.within.0

pub outline_all-loop-at-smaller : goal.outline_all-loop-at-smaller
outline_all-loop-at-smaller t c =
    let i = c.read-tag.ensures.within.1 (c.is_child.ensures.1 c.if-not-is_child.false) in
    omega (arith, c.skip_space-j.ensures.low, i, c.past_element-i.ensures.within.0, c.past_element-i.ensures.within.1)

pub outline_all-loop-at-preserved : goal.outline_all-loop-at-preserved
outline_all-loop-at-preserved t c = c.past_element-i.ensures.within.1
