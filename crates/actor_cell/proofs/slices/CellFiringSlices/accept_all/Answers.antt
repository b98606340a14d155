use Rattle.std.proofs.Common.{◌≡◌, ◌++◌, ◌<◌, arith, ap, subst, ◌∙◌, length}
use Rattle.std.specs.Prelude.{slice_set}
use Rattle.std.proofs.lemmas.List.{get_or_default}
use Rattle.token_ring.specs.Queue.{Queue}
use Rattle.firing_slices.specs.Slices.{AcceptsAll}
use Rattle.actor_cell.specs.Queues.{no_queue, queue_on}
use Rattle.actor_cell.specs.View.{core_of}
use Rattle.actor_cell.specs.Core.{Core, seen}
use Rattle.actor_cell.proofs.Moved.{accepts-all-of}
use Rattle.actor_cell.proofs.slices.CellFiringSlices.accept_all.Goals as goal

pub returns : goal.returns
returns c =
    let old : Core = core_of c.self.inside in
    let ins = ap (λ (core : Core). core.actor.ins) c.self.view_is in
    let size = c.self.invariant.ins in
    let low : c.args.port < length old.inboxes = omega (arith, ins, size, c.requires.port) in
    let before : c.index_mut.result.now ≡ queue_on old.inboxes c.args.port =
    c.index_mut.ensures.value ∙ get_or_default old.inboxes c.args.port c.index_mut.result.now no_queue low in
    let accepted = accepts-all-of old c.args.port c.args.tokens.now c.push_all.new.self low
    (c.push_all.ensures ∙ ap (λ (q : Queue). record { tokens = q.tokens ++ c.args.tokens.now; capacity = q.capacity }) before) in
    record {
      accepts = subst (λ core. AcceptsAll (seen core) c.args.port c.args.tokens.now (seen (record old { inboxes = slice_set old.inboxes c.args.port c.push_all.new.self })))
          c.self.view_is accepted;
    }
