use native.Mathlib.Omega.{arith}
use Rattle.element.proofs.Placing.{put, kept, known-counted, other-counted, turn, so_none, so_step, so_done, further}
use Rattle.element.proofs.tag.read_carried.Goals as goal

pub loop-start-init : goal.loop-start-init
loop-start-init c = so_none c.args.at c.requires

pub skip_space-i-requires : goal.skip_space-i-requires
skip_space-i-requires c = c.loop-start.invariant.within.high

pub start_at-requires : goal.start_at-requires
start_at-requires c = c.skip_space-i.ensures.high

pub returns-in_default : goal.returns-in_default
returns-in_default c =
    let all = so_done _ c.loop-start.invariant c.skip_space-i.ensures c.in_default.ensures in record { within = all.0; tells = all.1 }

pub end-end-requires : goal.end-end-requires
end-end-requires c = omega (arith, c.in-Some.ensures.1.high)

pub loop-start-smaller-then-places-number-eq0 : goal.loop-start-smaller-then-places-number-eq0
loop-start-smaller-then-places-number-eq0 c =
    let t = turn c.skip_space-i.ensures c.in-Some.ensures c.end-end.ensures.on_1 (c.end-end.ensures.on_2, c.end-end.ensures.tells) in
    omega (arith, further t)

pub loop-start-preserved-then-places-number-eq0 : goal.loop-start-preserved-then-places-number-eq0
loop-start-preserved-then-places-number-eq0 c =
    let t = turn c.skip_space-i.ensures c.in-Some.ensures c.end-end.ensures.on_1 (c.end-end.ensures.on_2, c.end-end.ensures.tells) in
    so_step _ c.loop-start.invariant t (put (omega arith) c.if-places-number-eq0.true) (known-counted _ t.number (omega arith))

pub loop-start-smaller-else-places-number-eq0 : goal.loop-start-smaller-else-places-number-eq0
loop-start-smaller-else-places-number-eq0 c =
    let t = turn c.skip_space-i.ensures c.in-Some.ensures c.end-end.ensures.on_1 (c.end-end.ensures.on_2, c.end-end.ensures.tells) in
    omega (arith, further t)

pub loop-start-preserved-else-places-number-eq0 : goal.loop-start-preserved-else-places-number-eq0
loop-start-preserved-else-places-number-eq0 c =
    let t = turn c.skip_space-i.ensures c.in-Some.ensures c.end-end.ensures.on_1 (c.end-end.ensures.on_2, c.end-end.ensures.tells) in
    so_step _ c.loop-start.invariant t (kept (λ h. c.if-places-number-eq0.false)) (known-counted _ t.number (omega arith))

pub slice_bounds-begins_with-count : goal.slice_bounds-begins_with-count
slice_bounds-begins_with-count c = omega (arith, c.in-Some.ensures.0.low)

pub slice_bounds-begins_with-start : goal.slice_bounds-begins_with-start
slice_bounds-begins_with-start c = omega (arith, c.in-Some.ensures.0.low)

pub slice_bounds-begins_with-end : goal.slice_bounds-begins_with-end
slice_bounds-begins_with-end c = c.in-Some.ensures.0.high

pub overflow_add-others : goal.overflow_add-others
overflow_add-others c =
    let t = turn c.skip_space-i.ensures c.in-Some.ensures c.end-end.ensures.on_1 (c.end-end.ensures.on_2, c.end-end.ensures.tells) in
    omega (arith, c.loop-start.invariant.few.0, further t, c.one_if-others.ensures.1)

pub overflow_add-namespaces : goal.overflow_add-namespaces
overflow_add-namespaces c =
    let t = turn c.skip_space-i.ensures c.in-Some.ensures c.end-end.ensures.on_1 (c.end-end.ensures.on_2, c.end-end.ensures.tells) in
    omega (arith, c.loop-start.invariant.few.1, further t, c.one_if-namespaces.ensures.1)

pub loop-start-smaller : goal.loop-start-smaller
loop-start-smaller c =
    let t = turn c.skip_space-i.ensures c.in-Some.ensures c.end-end.ensures.on_1 (c.end-end.ensures.on_2, c.end-end.ensures.tells) in
    omega (arith, further t)

pub loop-start-preserved : goal.loop-start-preserved
loop-start-preserved c =
    let t = turn c.skip_space-i.ensures c.in-Some.ensures c.end-end.ensures.on_1 (c.end-end.ensures.on_2, c.end-end.ensures.tells) in
    so_step _ c.loop-start.invariant t (kept (λ h. absurd (omega arith)))
    (other-counted _ _ _ t.number (omega arith) c.begins_with-space.ensures c.one_if-others.ensures c.one_if-namespaces.ensures)
