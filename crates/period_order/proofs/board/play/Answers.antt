use Rattle.std.proofs.Common.{◌≡◌, ℕ, ◌-◌, ◌<◌, List, length, set, sym, ◌∙◌, subst, arith, get_or-set_same, get_or-set_other}
use Rattle.balanced_rates.specs.Split.{at}
use Rattle.period_order.specs.Board.{IsPlayed}
use Rattle.period_order.proofs.Sums.{sum_falls}
use Rattle.period_order.proofs.Taking.{room_for, takes_enough, within_peak, played_more, not_may}
use Rattle.period_order.proofs.board.play.Goals as goal

pub fire-requires-clause-touching : goal.fire-requires-clause-touching
fire-requires-clause-touching c =
    let leaf_in : c.in-Some.leaf < length c.args.left.now = omega (arith, c.in-Some.ensures.0) in
    rw c.row_of.ensures (c.requires.rows c.in-Some.leaf leaf_in)

pub fire-requires-clause-room : goal.fire-requires-clause-room
fire-requires-clause-room c l inside =
    let leaf_in : c.in-Some.leaf < length c.args.left.now = omega (arith, c.in-Some.ensures.0) in
    room_for (length c.args.left.now) c.args.links.now (at c.args.left.now) c.loop-leaf.order.items (at c.loop-leaf.left) (at c.loop-leaf.unmet) (at c.loop-leaf.tokens) (at c.loop-leaf.peaks) c.loop-leaf.invariant 4294967295 c.in-Some.leaf c.requires.small c.requires.among leaf_in c.in-Some.ensures.1 l inside

pub fire-requires-clause-enough : goal.fire-requires-clause-enough
fire-requires-clause-enough c l inside =
    let leaf_in : c.in-Some.leaf < length c.args.left.now = omega (arith, c.in-Some.ensures.0) in
    takes_enough c.args.links.now (at c.loop-leaf.tokens) c.in-Some.leaf (sym (c.loop-leaf.invariant.unmet_is c.in-Some.leaf leaf_in) ∙ c.in-Some.ensures.2) l inside

pub fire-requires-clause-peaks : goal.fire-requires-clause-peaks
fire-requires-clause-peaks c l inside =
    within_peak (length c.args.left.now) c.args.links.now (at c.args.left.now) c.loop-leaf.order.items (at c.loop-leaf.left) (at c.loop-leaf.unmet) (at c.loop-leaf.tokens) (at c.loop-leaf.peaks) c.loop-leaf.invariant l inside

pub loop-leaf-smaller : goal.loop-leaf-smaller
loop-leaf-smaller c = sum_falls c.loop-leaf.left c.in-Some.leaf c.in-Some.ensures.0 c.in-Some.ensures.1

pub loop-leaf-preserved : goal.loop-leaf-preserved
loop-leaf-preserved c =
    let n = length c.args.left.now in
    let links = c.args.links.now in
    let leaf = c.in-Some.leaf in
    let left = c.loop-leaf.left in
    let leaf_in : leaf < n = omega (arith, c.in-Some.ensures.0) in
    let some : 0 < at left leaf = c.in-Some.ensures.1 in
    let less : List ℕ = set left leaf (at left leaf - 1) in
    let here : at less leaf ≡ at left leaf - 1 = get_or-set_same left leaf (at left leaf - 1) 0 c.in-Some.ensures.0 in
    subst (λ order. IsPlayed n links (at c.args.left.now) order (at less) (at c.fire.new.unmet) (at c.fire.new.tokens) (at c.fire.new.peaks)) (sym c.in_ok-push.ensures.items)
    (played_more n links (at c.args.left.now) c.loop-leaf.order.items (at left) (at c.loop-leaf.unmet) (at c.loop-leaf.tokens) (at c.loop-leaf.peaks) (at less) (at c.fire.new.unmet) (at c.fire.new.tokens) (at c.fire.new.peaks) leaf c.loop-leaf.invariant leaf_in some c.in-Some.ensures.2 c.in-Some.ensures.3 (omega arith)
    (λ k apart. get_or-set_other left leaf k (at left leaf - 1) 0 apart) (λ k k_in. c.fire.ensures.unmet k (let same = c.requires.sizes.0 in omega (arith, k_in))) c.fire.ensures.tokens c.fire.ensures.peaks)

pub returns-clause-ended : goal.returns-clause-ended
returns-clause-ended c leaf =
    not_may (length c.args.left.now) c.args.links.now (at c.args.left.now) c.loop-leaf.order.items (at c.loop-leaf.left) (at c.loop-leaf.unmet) (at c.loop-leaf.tokens) (at c.loop-leaf.peaks) c.loop-leaf.invariant leaf
    (λ leaf_in some. c.in_default.ensures leaf (omega (arith, leaf_in)) some)
