use Rattle.net_model.specs.TableActor.{table_cell}
use Rattle.net_model.proofs.Bursts.{BurstSoFar}
use Rattle.net_model.proofs.firing.tests.TableCellFiring.burst.Given as goal

-- as many firings were made as turns
abbrev pub invariant-loop : goal.invariant-loop
invariant-loop l = BurstSoFar l.rooms
    (table_cell l.initial.self.rows l.initial.self.inbox.items l.initial.self.outbox.items l.initial.self.journal.items l.initial.self.trapped)
    l.counter
    (table_cell l.self.rows l.self.inbox.items l.self.outbox.items l.self.journal.items l.self.trapped)
