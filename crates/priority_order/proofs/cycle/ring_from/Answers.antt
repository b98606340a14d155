use Rattle.std.proofs.Common.{◌≡◌, ◌-◌, ◌<◌, ◌≤◌, [], ◌∷◌, ◌++◌, length, get_or, take, drop, vec_len, arith, length-append}
use Rattle.std.specs.Prelude.{IfOk}
use Rattle.std.proofs.lemmas.List.{take_rest}
use Rattle.std.proofs.lemmas.Result.{IfOk-weaker}
use Rattle.priority_order.specs.Cycle.{IsRing}
use Rattle.priority_order.proofs.Rings.{IsWalked, walked_more, ring_from_walk, length-le_from_distinct}
use Rattle.priority_order.proofs.cycle.ring_from.Goals as goal

pub returns-in-Some-clause-ring : goal.returns-in-Some-clause-ring
returns-in-Some-clause-ring c =
    let pairs = c.args.pairs.now in
    let walk = c.loop-first.walk.items in
    let found : (c.in-Some.first < length walk) × (get_or walk c.in-Some.first 0 ≡ c.loop-first.current) = rw (← c.deref.ensures.value) c.in-Some.ensures in
    let ring : IsRing pairs (drop c.in-Some.first walk) = ring_from_walk pairs walk c.loop-first.current c.in-Some.first c.loop-first.invariant.linked found.0 found.1 in
    let same : IfOk c.from_slice.result (λ v. v.items ≡ take (length c.deref-in-Some.result.now - c.in-Some.first) (drop c.in-Some.first c.deref-in-Some.result.now)) = c.from_slice.ensures.items in
    IfOk-weaker c.from_slice.result (λ v. v.items ≡ take (length c.deref-in-Some.result.now - c.in-Some.first) (drop c.in-Some.first c.deref-in-Some.result.now)) (λ v. IsRing pairs v.items)
    (λ v e. rw (e, take_rest c.deref-in-Some.result.now c.in-Some.first, c.deref-in-Some.ensures.value) ring) same

-- the walk after this turn
walked : (c : goal.After-next_on_cycle-current) → IsWalked c.args.pairs.now c.args.n (c.loop-first.walk.items ++ c.loop-first.current ∷ []) c.next_on_cycle-current.result
walked c =
    walked_more c.args.pairs.now c.args.n c.loop-first.walk.items c.loop-first.current c.next_on_cycle-current.result c.loop-first.invariant
    (rw (← c.deref.ensures.value) c.in-None.ensures) c.next_on_cycle-current.ensures.paired c.next_on_cycle-current.ensures.in_range c.next_on_cycle-current.ensures.on_cycle

pub loop-first-preserved : goal.loop-first-preserved
loop-first-preserved c = rw c.in_ok-push-in-None.ensures.items (walked c)

pub loop-first-smaller : goal.loop-first-smaller
loop-first-smaller c =
    let longer : length (c.loop-first.walk.items ++ c.loop-first.current ∷ []) ≤ c.args.n = length-le_from_distinct _ c.args.n (walked c).distinct (walked c).in_range in
    let less : c.args.n - vec_len c.push.new.self < c.args.n - vec_len c.loop-first.walk = omega (arith, c.in_ok-push-in-None.ensures.len, length-append c.loop-first.walk.items (c.loop-first.current ∷ []), c.loop-first.walk.ok.0) in
    less
