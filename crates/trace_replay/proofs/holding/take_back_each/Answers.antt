use Rattle.std.proofs.Common.{◌≡◌, ◌-◌, ◌<◌, ◌≤◌, true, suc, length, subst, sym, ap, ◌∙◌, arith}
use Rattle.std.specs.Prelude.{None, Some, slice_get, slice_index_or}
use Rattle.std.proofs.lemmas.Option.{slice_get-get_or}
use Rattle.rvc_base.specs.declared.scalar.Scalar.TheVariants.{Bool as Truth}
use Rattle.token_ring.specs.Queue.{Queue}
use Rattle.net_model.specs.declared.wiring.End.TheVariants.{Leaf as AtLeaf}
use Rattle.net_model.specs.declared.wiring.Link.{Link}
use Rattle.net_state.specs.declared.filling.Filled.{Filled}
use Rattle.net_state.specs.Held.{seen}
use Rattle.network_runner.proofs.Begun.{map_at}
use Rattle.trace_replay.specs.Holding.{came_counts}
use Rattle.trace_replay.proofs.Stacks.{IsTakingEach, empty_at, takes_each, taking_more}
use Rattle.trace_replay.proofs.holding.take_back_each.Goals as goal

no_link : Link
no_link = record { from = AtLeaf (record { 0 = 0 }) 0; to = AtLeaf (record { 0 = 0 }) 0; capacity = 0; kind = Truth }

pub take_back_one-requires-clause-empty : goal.take_back_one-requires-clause-empty
take_back_one-requires-clause-empty g c =
    let k = c.links.l - 1 in
    let links : length c.args.state.now.links ≡ length c.args.links.now = ap (λ ls. length ls) c.requires.links in
    let low : k < length c.links.stacks = omega (arith, c.links-test.true, c.links.invariant.low, c.links.auto.stacks, c.requires.fit.count, links) in
    let stack : Queue = slice_index_or c.links.stacks k c.index-stacks-l.result in
    let at_stack : slice_get c.links.stacks k ≡ Some stack = slice_get-get_or c.links.stacks k c.index-stacks-l.result low in
    empty_at c.args.stacks.now k stack c.requires.empty (sym (c.links.invariant.so_far.same k (omega (arith, c.links-test.true))) ∙ at_stack)

pub take_back_one-requires-clause-holds : goal.take_back_one-requires-clause-holds
unfolding no_link
take_back_one-requires-clause-holds g c =
    let k = c.links.l - 1 in
    let links : length c.args.state.now.links ≡ length c.args.links.now = ap (λ ls. length ls) c.requires.links in
    let low : k < length c.links.stacks = omega (arith, c.links-test.true, c.links.invariant.low, c.links.auto.stacks, c.requires.fit.count, links) in
    let stack : Queue = slice_index_or c.links.stacks k c.index-stacks-l.result in
    let at_stack : slice_get c.links.stacks k ≡ Some stack = slice_get-get_or c.links.stacks k c.index-stacks-l.result low in
    let link : Link = slice_index_or c.args.links.now k no_link in
    let at_link : slice_get c.args.state.now.links k ≡ Some link = ap (λ ls. slice_get ls k) c.requires.links ∙ slice_get-get_or c.args.links.now k no_link (omega (arith, c.links-test.true, c.links.invariant.low)) in
    let fits = c.requires.fit.each k link stack at_link (sym (c.links.invariant.so_far.same k (omega (arith, c.links-test.true))) ∙ at_stack) in
    λ input. subst (λ cs. slice_index_or cs k 0 ≤ stack.capacity) (sym c.links.invariant.so_far.keeps.capacities) (fits.holds input)

pub links-preserved : goal.links-preserved
unfolding no_link
links-preserved g c =
    let k = c.links.l - 1 in
    let links : length c.args.state.now.links ≡ length c.args.links.now = ap (λ ls. length ls) c.requires.links in
    let low : k < length c.links.stacks = omega (arith, c.links-test.true, c.links.invariant.low, c.links.auto.stacks, c.requires.fit.count, links) in
    let stack : Queue = slice_index_or c.links.stacks k c.index-stacks-l.result in
    let at_stack : slice_get c.links.stacks k ≡ Some stack = slice_get-get_or c.links.stacks k c.index-stacks-l.result low in
    let link : Link = slice_index_or c.args.links.now k no_link in
    let at_old : slice_get c.args.state.now.links k ≡ Some link = ap (λ ls. slice_get ls k) c.requires.links ∙ slice_get-get_or c.args.links.now k no_link (omega (arith, c.links-test.true, c.links.invariant.low)) in
    let at_link : slice_get c.links.state.links k ≡ Some link = ap (λ ls. slice_get ls k) c.links.invariant.so_far.keeps.links ∙ at_old in
    let none : Filled = record { tokens = 0; rest = None } in
    let filled : Filled = slice_index_or c.args.came.now k none in
    let at_came : slice_get c.args.came.now k ≡ Some filled = slice_get-get_or c.args.came.now k none (omega (arith, c.links-test.true, c.links.invariant.low, c.requires.as_many)) in
    let fits = c.requires.fit.each k link stack at_old (sym (c.links.invariant.so_far.same k (omega (arith, c.links-test.true))) ∙ at_stack) in
    let next : c.links.l ≡ suc k = omega (arith, c.links-test.true) in
    record {
      so_far = taking_more k (came_counts c.args.came.now) (seen g.A.Firing.cell c.args.state.now) (seen g.A.Firing.cell c.links.state) (seen g.A.Firing.cell c.take_back_one.new.state) c.args.stacks.now c.links.stacks
          link filled.tokens stack c.take_back_one.new.stack
          (subst (λ m. IsTakingEach m (came_counts c.args.came.now) (seen g.A.Firing.cell c.args.state.now) (seen g.A.Firing.cell c.links.state) c.args.stacks.now c.links.stacks) next c.links.invariant.so_far)
          at_link (map_at (λ (f : Filled). f.tokens) c.args.came.now k filled at_came) at_stack c.take_back_one.ensures.takes
          (λ input.
          let holds : slice_index_or c.links.state.capacities k 0 ≤ stack.capacity = subst (λ cs. slice_index_or cs k 0 ≤ stack.capacity) (sym c.links.invariant.so_far.keeps.capacities) (fits.holds input) in
          let same : c.take_back_one.new.stack.capacity ≡ stack.capacity = c.take_back_one.ensures.as_much in
          omega (arith, holds, same))
          c.take_back_one.ensures.room c.take_back_one.ensures.outside;
      low = (let below = c.links.invariant.low in omega (arith, below));
    }

pub returns-clause-takes : goal.returns-clause-takes
returns-clause-takes g c =
    let none : c.links.l ≡ 0 = omega (arith, c.links-test.false) in
    takes_each (came_counts c.args.came.now) (seen g.A.Firing.cell c.args.state.now) (seen g.A.Firing.cell c.links.state) c.args.stacks.now c.links.stacks
    (subst (λ m. IsTakingEach m (came_counts c.args.came.now) (seen g.A.Firing.cell c.args.state.now) (seen g.A.Firing.cell c.links.state) c.args.stacks.now c.links.stacks) none c.links.invariant.so_far)
    c.requires.fit.count
