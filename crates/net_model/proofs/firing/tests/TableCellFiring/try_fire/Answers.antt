use Rattle.std.proofs.Common.{◌≡◌, ◌≤◌, ◌∙◌, ◌++◌, [], ◌∷◌, pos, ℕ, length, map, inl, inr, sym, ap, subst, arith}
use Rattle.std.specs.Prelude.{None, Some, false, slice_index_or}
use Rattle.rvc_base.specs.Behaviour.{TrapsInGuard, TrapsInBody}
use Rattle.net_model.specs.Cell.{HasRoom, LacksRoomOn, IsEnabled, FiresTo}
use Rattle.net_model.specs.TableActor.{row_of, takes_of, effect_in, table_cell}
use Rattle.net_model.proofs.Bursts.{same_cell}
use Rattle.net_model.proofs.TableActor.{row_at, first_of, none_does, other_none, effect_at_guard, effect_at_body, room_at, lacks_at, enabled_at, fires_so_far, left_by_trap, IsFree}
use Rattle.net_model.proofs.firing.tests.TableCellFiring.try_fire.Goals.{then-in_guard+in_default-trap, else-in_guard}
use Rattle.net_model.proofs.firing.tests.TableCellFiring.try_fire.Goals as goal

pub returns-in_default : goal.returns-in_default
returns-in_default c = record { tries = (none_does (map row_of c.args.self.now.rows) (length c.args.self.now.inbox.items) c.args.action.0 c.in_default.ensures.none, same_cell _) }

pub returns-then-from-a : goal.returns-then-from-a
returns-then-from-a c = record {
  tries = (
    other_none (map row_of c.args.self.now.rows) (length c.args.self.now.inbox.items) c.args.action.0 c.in-Some.a _
        (first_of c.args.self.now.rows (length c.args.self.now.inbox.items) c.in-Some.a (0, false, None) c.in-Some.ensures.low c.in-Some.ensures.has c.in-Some.ensures.earlier)
        (λ same. c.if-from-a.true (c.from.ensures ∙ same)),
    same_cell _,
  );
}

pub returns-in-Some-trap : goal.returns-in-Some-trap
returns-in-Some-trap c =
    let here : c.in-Some.a ≡ c.args.action.0 = omega (arith, c.from.ensures) in
    record {
      tries = (
        inl (subst (λ (n : ℕ). effect_in (map row_of c.args.self.now.rows) (length c.args.self.now.inbox.items) n ≡ Some (TrapsInGuard c.in-Some-trap.trap)) here
            (effect_at_guard c.args.self.now.rows c.args.self.now.inbox.items c.args.self.now.outbox.items c.args.self.now.journal.items c.args.self.now.trapped c.args.rooms.now c.in-Some.a (0, false, None) c.in-Some.ensures.low c.in-Some.ensures.has c.in-Some.ensures.earlier c.in-Some-trap.trap c.if-in_guard.true c.in-Some-trap.is)),
        left_by_trap c.args.self.now.rows c.args.self.now.inbox.items c.args.self.now.outbox.items c.args.self.now.journal.items c.args.self.now.trapped,
      );
    }

pub returns-then-rooms-len : goal.returns-then-rooms-len
returns-then-rooms-len c =
    let here : c.in-Some.a ≡ c.args.action.0 = omega (arith, c.from.ensures) in
    let free : IsFree (slice_index_or c.args.self.now.rows c.in-Some.a (0, false, None)).1 (slice_index_or c.args.self.now.rows c.in-Some.a (0, false, None)).2 =
    elim c.if-in_guard.branch [
      | then-in_guard+in_default-trap w ↦ inr w.in_default-trap.is
      | else-in_guard w ↦ inl w.if-in_guard.false
    ] in
    record {
      tries = (
        subst (λ (n : ℕ). IsEnabled (effect_in (map row_of c.args.self.now.rows) (length c.args.self.now.inbox.items) n)) here
            (enabled_at c.args.self.now.rows c.args.self.now.inbox.items c.in-Some.a (0, false, None) c.in-Some.ensures.low c.in-Some.ensures.has c.in-Some.ensures.earlier free),
        subst (λ (n : ℕ). LacksRoomOn (table_cell c.args.self.now.rows c.args.self.now.inbox.items c.args.self.now.outbox.items c.args.self.now.journal.items c.args.self.now.trapped) c.args.rooms.now n 0) here (lacks_at c.args.self.now.rows c.args.self.now.inbox.items c.args.self.now.outbox.items c.args.self.now.journal.items c.args.self.now.trapped c.args.rooms.now c.in-Some.a (0, false, None) c.in-Some.ensures.low c.in-Some.ensures.has c.in-Some.ensures.earlier (omega arith)),
        same_cell _,
      );
    }

pub returns-in-Some-trap-2 : goal.returns-in-Some-trap-2
returns-in-Some-trap-2 c =
    let here : c.in-Some.a ≡ c.args.action.0 = omega (arith, c.from.ensures) in
    record {
      tries = (
        inr (
          subst (λ (n : ℕ). HasRoom (table_cell c.args.self.now.rows c.args.self.now.inbox.items c.args.self.now.outbox.items c.args.self.now.journal.items c.args.self.now.trapped) c.args.rooms.now n) here (room_at c.args.self.now.rows c.args.self.now.inbox.items c.args.self.now.outbox.items c.args.self.now.journal.items c.args.self.now.trapped c.args.rooms.now c.in-Some.a (0, false, None) c.in-Some.ensures.low c.in-Some.ensures.has c.in-Some.ensures.earlier (omega arith)),
          subst (λ (n : ℕ). effect_in (map row_of c.args.self.now.rows) (length c.args.self.now.inbox.items) n ≡ Some (TrapsInBody c.in-Some-trap-2.trap)) here
              (effect_at_body c.args.self.now.rows c.args.self.now.inbox.items c.args.self.now.outbox.items c.args.self.now.journal.items c.args.self.now.trapped c.args.rooms.now c.in-Some.a (0, false, None) c.in-Some.ensures.low c.in-Some.ensures.has c.in-Some.ensures.earlier c.in-Some-trap-2.trap (elim c.if-in_guard.branch [
                | then-in_guard+in_default-trap w ↦ absurd (w.in_default-trap.not-Some c.in-Some-trap-2.trap c.in-Some-trap-2.is)
                | else-in_guard w ↦ w.if-in_guard.false
              ]) c.in-Some-trap-2.is),
        ),
        left_by_trap c.args.self.now.rows c.args.self.now.inbox.items c.args.self.now.outbox.items c.args.self.now.journal.items c.args.self.now.trapped,
      );
    }

pub take-requires : goal.take-requires
take-requires c =
    let row = ap takes_of (row_at c.args.self.now.rows c.in-Some.a (0, false, None) c.in-Some.ensures.low) in
    subst (λ (n : ℕ). n ≤ (length c.args.self.now.inbox.items)) row c.in-Some.ensures.has

pub returns : goal.returns
returns c =
    let here : c.in-Some.a ≡ c.args.action.0 = omega (arith, c.from.ensures) in
    record {
      tries = (
        subst (λ (n : ℕ). HasRoom (table_cell c.args.self.now.rows c.args.self.now.inbox.items c.args.self.now.outbox.items c.args.self.now.journal.items c.args.self.now.trapped) c.args.rooms.now n) here (room_at c.args.self.now.rows c.args.self.now.inbox.items c.args.self.now.outbox.items c.args.self.now.journal.items c.args.self.now.trapped c.args.rooms.now c.in-Some.a (0, false, None) c.in-Some.ensures.low c.in-Some.ensures.has c.in-Some.ensures.earlier (omega arith)),
        subst (λ (n : ℕ). FiresTo (table_cell c.args.self.now.rows c.args.self.now.inbox.items c.args.self.now.outbox.items c.args.self.now.journal.items c.args.self.now.trapped) n (table_cell c.take.new.self.rows c.take.new.self.inbox.items c.push.new.self.items c.take.new.self.journal.items c.take.new.self.trapped)) here
            (fires_so_far c.args.self.now.rows c.take.new.self.rows c.args.self.now.inbox.items c.take.new.self.inbox.items
            c.args.self.now.outbox.items c.push.new.self.items c.args.self.now.journal.items c.take.new.self.journal.items
            c.args.self.now.trapped c.take.new.self.trapped c.in-Some.a (0, false, None) c.in-Some.ensures.low c.in-Some.ensures.has c.in-Some.ensures.earlier
            c.in_default-trap-2.is c.take.ensures.rows c.take.ensures.inbox
            (c.push.ensures.items ∙ ap (λ q. q.items ++ pos 1 ∷ []) c.take.ensures.outbox)
            (ap (λ q. q.items) c.take.ensures.journal) c.take.ensures.trapped),
        ap (λ q. q.items) c.take.ensures.journal,
      );
    }
