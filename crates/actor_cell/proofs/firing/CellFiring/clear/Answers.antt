use Rattle.std.proofs.Common.{◌≡◌, ◌++◌, arith, sym, subst, length, take, drop}
use Rattle.std.specs.Prelude.{vec_capacity}
use Rattle.net_model.specs.Cell.{Clears}
use Rattle.actor_cell.specs.Queues.{AreEmptied}
use Rattle.actor_cell.specs.View.{core_of}
use Rattle.actor_cell.specs.Core.{Core, seen}
use Rattle.actor_cell.proofs.Fired.{written-back}
use Rattle.actor_cell.proofs.Moved.{clears-of}
use Rattle.actor_cell.proofs.firing.CellFiring.clear.Goals as goal

pub returns : goal.returns
returns c =
    let old : Core = core_of c.self.inside in
    let out_len : length c.clear_each.new.outboxes ≡ c.self.inside.outboxes.len = omega (arith, c.clear_each.auto.outboxes, c.deref_mut.ensures.len) in
    let outs = written-back c.self.inside.outboxes.items c.clear_each.new.outboxes c.self.inside.outboxes.len out_len in
    let cleared = clears-of old c.clear_each.new.outboxes c.clear.new.self.items (vec_capacity c.clear.new.self)
    (subst (λ qs. AreEmptied qs c.clear_each.new.outboxes) c.deref_mut.ensures.value c.clear_each.ensures) c.self.invariant.outs c.clear.ensures.items c.clear.ensures.capacity in
    record {
      clears = subst (λ core. Clears (seen core) (seen (record old {
        outboxes = take c.self.inside.outboxes.len (c.clear_each.new.outboxes ++ drop (length c.clear_each.new.outboxes) c.self.inside.outboxes.items);
        journal = c.clear.new.self.items;
        journal_room = vec_capacity c.clear.new.self;
      }))) c.self.view_is
          (subst (λ qs. Clears (seen old) (seen (record old { outboxes = qs; journal = c.clear.new.self.items; journal_room = vec_capacity c.clear.new.self }))) (sym outs) cleared);
    }
