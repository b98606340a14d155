use Rattle.std.proofs.Common.{◌+◌, subst, sym}
use Rattle.lowered_actor.specs.Candidates.{AreRows}
use Rattle.lowered_actor.proofs.Rows.{rows-more}
use Rattle.lowered_actor.proofs.candidates.rows.Goals as goal

pub loop-state-preserved : goal.loop-state-preserved
loop-state-preserved c =
    subst (AreRows c.args.fsm.now c.args.line.now (c.loop-state.state + 1)) (sym c.in_ok-push.ensures.items)
    (rows-more c.args.fsm.now c.args.line.now c.loop-state.state c.loop-state.rows.items (record { actions = c.in_ok-actions.actions }) c.loop-state.invariant c.in_ok-actions.ensures)
