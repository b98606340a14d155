use Rattle.std.proofs.Common.{◌≡◌, ◌≤◌, drop, length}
use Rattle.net_model.proofs.firing.tests.TableCell.take.Given as goal

-- so many tokens are off the front
abbrev pub invariant-loop : goal.invariant-loop
invariant-loop l = record {
  inbox : l.self.inbox.items ≡ drop l.counter l.initial.self.inbox.items;
  enough : l.count ≤ length l.initial.self.inbox.items;
  rows : l.self.rows ≡ l.initial.self.rows;
  outbox : l.self.outbox ≡ l.initial.self.outbox;
  journal : l.self.journal ≡ l.initial.self.journal;
  trapped : l.self.trapped ≡ l.initial.self.trapped;
}
