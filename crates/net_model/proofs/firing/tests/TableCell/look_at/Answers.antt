use Rattle.std.proofs.Common.{◌<◌, length, inl, inr, arith}
use Rattle.std.specs.Prelude.{None, false, slice_index_or}
use Rattle.net_model.specs.Cell.{number_on}
use Rattle.net_model.proofs.TableActor.{none_chosen, faults_at, picks_at, room_at, lacks_at, IsFree}
use Rattle.net_model.proofs.firing.tests.TableCell.look_at.Goals.{then-in_guard+in_default-trap, else-in_guard}
use Rattle.net_model.proofs.firing.tests.TableCell.look_at.Goals as goal

pub returns-in_default : goal.returns-in_default
returns-in_default c = none_chosen _ 0 _ c.in_default.ensures.none

pub returns-in-Some-trap : goal.returns-in-Some-trap
returns-in-Some-trap c =
    faults_at c.args.self.now.rows c.args.self.now.inbox.items c.args.self.now.outbox.items c.args.self.now.journal.items
    c.args.self.now.trapped c.args.rooms.now c.in-Some.a _ c.in-Some.ensures.low c.in-Some.ensures.has c.in-Some.ensures.earlier
    c.in-Some-trap.trap c.if-in_guard.true c.in-Some-trap.is

pub returns-then-rooms-len : goal.returns-then-rooms-len
returns-then-rooms-len c =
    let free : IsFree (slice_index_or c.args.self.now.rows c.in-Some.a (0, false, None)).1 (slice_index_or c.args.self.now.rows c.in-Some.a (0, false, None)).2 =
    elim c.if-in_guard.branch [
      | then-in_guard+in_default-trap w ↦ inr w.in_default-trap.is
      | else-in_guard w ↦ inl w.if-in_guard.false
    ] in (
      picks_at c.args.self.now.rows c.args.self.now.inbox.items c.args.self.now.outbox.items c.args.self.now.journal.items
          c.args.self.now.trapped c.args.rooms.now c.in-Some.a _ c.in-Some.ensures.low c.in-Some.ensures.has c.in-Some.ensures.earlier free,
      lacks_at c.args.self.now.rows c.args.self.now.inbox.items c.args.self.now.outbox.items c.args.self.now.journal.items
          c.args.self.now.trapped c.args.rooms.now c.in-Some.a (0, false, None) c.in-Some.ensures.low c.in-Some.ensures.has c.in-Some.ensures.earlier (omega arith),
    )

pub returns-else-rooms-len : goal.returns-else-rooms-len
returns-else-rooms-len c =
    let free : IsFree (slice_index_or c.args.self.now.rows c.in-Some.a (0, false, None)).1 (slice_index_or c.args.self.now.rows c.in-Some.a (0, false, None)).2 =
    elim c.if-in_guard.branch [
      | then-in_guard+in_default-trap w ↦ inr w.in_default-trap.is
      | else-in_guard w ↦ inl w.if-in_guard.false
    ] in (
      picks_at c.args.self.now.rows c.args.self.now.inbox.items c.args.self.now.outbox.items c.args.self.now.journal.items
          c.args.self.now.trapped c.args.rooms.now c.in-Some.a _ c.in-Some.ensures.low c.in-Some.ensures.has c.in-Some.ensures.earlier free,
      room_at c.args.self.now.rows c.args.self.now.inbox.items c.args.self.now.outbox.items c.args.self.now.journal.items
          c.args.self.now.trapped c.args.rooms.now c.in-Some.a (0, false, None) c.in-Some.ensures.low c.in-Some.ensures.has c.in-Some.ensures.earlier (omega arith),
    )
