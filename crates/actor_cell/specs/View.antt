-- A cell in memory, as contracts see it.
-- Trusted: part of what a promise means.
use Rattle.std.specs.Prelude.{vec_capacity}
use Rattle.std.specs.Arc.{arc_value}
use Rattle.actor_cell.specs.declared.cell.Cell.TheInside.{Inside}
use Rattle.actor_cell.specs.Core.{Core}

abbrev pub core_of : Inside → Core
core_of c = record {
  actor = arc_value c.code;
  at = c.state;
  cells = c.cells;
  inboxes = c.inboxes.items;
  outboxes = c.outboxes.items;
  journal = c.journal.items;
  journal_room = vec_capacity c.journal;
  trapped = c.trapped;
}
