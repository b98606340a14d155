use Rattle.std.proofs.Common.{◌≡◌, ◌+◌, suc, take, ap, ◌∙◌, refl, arith}
use Rattle.std.specs.Prelude.{None, slice_index_or, slice_set}
use Rattle.net_state.specs.declared.filling.Filled.{Filled}
use Rattle.network_runner.specs.Counting.{arrived_with, capped_sum, rests_with, told_or}
use Rattle.network_runner.proofs.Filling.{at_place}
use Rattle.network_runner.proofs.Loops.{arrived_more, rests_more}
use Rattle.network_runner.proofs.counting.count_arrived.Goals as goal

pub loop-l-preserved : goal.loop-l-preserved
loop-l-preserved c =
    let came = c.args.came.now in
    let d : Filled = record { tokens = 0; rest = None } in
    let filled : Filled = slice_index_or came c.loop-l.l d in
    let at = at_place came c.loop-l.l d filled c.loop-l-test.true refl in
    let next : suc c.loop-l.l ≡ c.loop-l.l + 1 = omega arith in (
      (ap (λ a. slice_set a c.loop-l.l c.capped_sum.result) c.loop-l.invariant.0
          ∙ (ap (slice_set (arrived_with (take c.loop-l.l came) c.args.arrived.now) c.loop-l.l) (c.capped_sum.ensures ∙ ap (λ a. capped_sum (slice_index_or a c.loop-l.l 0) filled.tokens) c.loop-l.invariant.0)
          ∙ (arrived_more came c.args.arrived.now c.loop-l.l filled at (omega (arith, c.loop-l-test.true, c.requires.arrived)) ∙ ap (λ n. arrived_with (take n came) c.args.arrived.now) next))),
      (ap (λ a. slice_set a c.loop-l.l c.told_or.result) c.loop-l.invariant.1
          ∙ (ap (slice_set (rests_with (take c.loop-l.l came) c.args.rests.now) c.loop-l.l) (c.told_or.ensures ∙ ap (λ a. told_or filled.rest (slice_index_or a c.loop-l.l 0)) c.loop-l.invariant.1)
          ∙ (rests_more came c.args.rests.now c.loop-l.l filled at (omega (arith, c.loop-l-test.true, c.requires.rests)) ∙ ap (λ n. rests_with (take n came) c.args.rests.now) next))),
    )
