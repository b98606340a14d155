use Rattle.std.proofs.Common.{ap, arith}
use Rattle.net_model.specs.declared.firing.BurstEnd.TheVariants as burst
use Rattle.net_model.specs.TableActor.{table_cell}
use Rattle.net_model.proofs.Bursts.{burst_more, burst_ends, ends_by_trap, tried_done, fires_choice}
use Rattle.net_model.proofs.TableActor.{table_is_lawful}
use Rattle.net_model.proofs.firing.tests.TableCellFiring.burst.Goals as goal

pub returns-in-Trap : goal.returns-in-Trap
returns-in-Trap c = record {
  bursts = burst_ends c.args.rooms.now c.args.limit c.loop.counter
      (table_cell c.args.self.now.rows c.args.self.now.inbox.items c.args.self.now.outbox.items c.args.self.now.journal.items c.args.self.now.trapped)
      (table_cell c.loop.self.rows c.loop.self.inbox.items c.loop.self.outbox.items c.loop.self.journal.items c.loop.self.trapped)
      (table_cell c.try_fire.new.self.rows c.try_fire.new.self.inbox.items c.try_fire.new.self.outbox.items c.try_fire.new.self.journal.items c.try_fire.new.self.trapped)
      (burst.Trap c.in-Ready.action c.in-Trap.trap) c.loop.invariant (omega arith)
      (ends_by_trap c.args.rooms.now c.args.limit c.loop.counter
      (table_cell c.loop.self.rows c.loop.self.inbox.items c.loop.self.outbox.items c.loop.self.journal.items c.loop.self.trapped)
      (table_cell c.try_fire.new.self.rows c.try_fire.new.self.inbox.items c.try_fire.new.self.outbox.items c.try_fire.new.self.journal.items c.try_fire.new.self.trapped)
      c.in-Ready.action c.in-Trap.trap (table_is_lawful _) c.loop-test.true c.in-Ready.ensures.0 c.in-Ready.ensures.1 c.in-Trap.ensures.tries);
}

pub unreachable-requires : goal.unreachable-requires
unreachable-requires c =
    tried_done c.args.rooms.now
    (table_cell c.loop.self.rows c.loop.self.inbox.items c.loop.self.outbox.items c.loop.self.journal.items c.loop.self.trapped)
    (table_cell c.try_fire.new.self.rows c.try_fire.new.self.inbox.items c.try_fire.new.self.outbox.items c.try_fire.new.self.journal.items c.try_fire.new.self.trapped)
    c.in-Ready.action.0 c.try_fire.result (table_is_lawful _) c.in-Ready.ensures.0 c.in-Ready.ensures.1 c.try_fire.ensures.tries
    c.in_default.not-Fired c.in_default.not-Trap

pub loop-preserved : goal.loop-preserved
loop-preserved c =
    burst_more c.args.rooms.now
    (table_cell c.args.self.now.rows c.args.self.now.inbox.items c.args.self.now.outbox.items c.args.self.now.journal.items c.args.self.now.trapped)
    (table_cell c.loop.self.rows c.loop.self.inbox.items c.loop.self.outbox.items c.loop.self.journal.items c.loop.self.trapped)
    (table_cell c.try_fire.new.self.rows c.try_fire.new.self.inbox.items c.try_fire.new.self.outbox.items c.push.new.self.items c.try_fire.new.self.trapped)
    c.loop.counter c.in-Ready.action.0 c.loop.invariant
    (fires_choice c.args.rooms.now
    (table_cell c.loop.self.rows c.loop.self.inbox.items c.loop.self.outbox.items c.loop.self.journal.items c.loop.self.trapped)
    (table_cell c.try_fire.new.self.rows c.try_fire.new.self.inbox.items c.try_fire.new.self.outbox.items c.try_fire.new.self.journal.items c.try_fire.new.self.trapped)
    (table_cell c.try_fire.new.self.rows c.try_fire.new.self.inbox.items c.try_fire.new.self.outbox.items c.push.new.self.items c.try_fire.new.self.trapped)
    c.in-Ready.action.0 c.in-Ready.ensures.0 c.in-Ready.ensures.1 c.in-Fired.ensures.tries
    (ap (λ js. table_cell c.try_fire.new.self.rows c.try_fire.new.self.inbox.items c.try_fire.new.self.outbox.items js c.try_fire.new.self.trapped) c.push.ensures.items))
