use Rattle.std.proofs.Common.{length, map}
use Rattle.std.proofs.lemmas.List.{length-map}
use Rattle.schedule_fsm.specs.Free.{stay}
use Rattle.schedule_fsm.proofs.Rows.{size_more, stays_more}
use Rattle.schedule_fsm.proofs.table.free_moves.Goals as goal

pub loop-state-preserved : goal.loop-state-preserved
loop-state-preserved c =
    let free = c.args.free.now in
    let before = c.loop-state.table.items in
    let rows = c.loop-state.state in
    record {
      size = rw c.in_ok-push_row.ensures (size_more (length free) rows before (map (stay rows) free) c.loop-state.invariant.size (length-map free (stay rows)));
      stays = rw c.in_ok-push_row.ensures (stays_more free rows before c.loop-state.invariant.size c.loop-state.invariant.stays);
    }
