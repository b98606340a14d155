use Rattle.std.proofs.Common.{◌≡◌, ◌++◌, ◌∷◌, ◌<◌, [], arith, ap, subst, ◌∙◌, length, rules, FitsSigned}
use Rattle.std.specs.Prelude.{slice_set}
use Rattle.std.proofs.lemmas.Int.{to_z-of_z}
use Rattle.std.proofs.lemmas.List.{get_or_default}
use Rattle.rvc_base.specs.Width.{num_width}
use Rattle.token_ring.specs.Queue.{Queue}
use Rattle.net_model.specs.Cell.{Accepts}
use Rattle.actor_cell.specs.Queues.{no_queue, queue_on}
use Rattle.actor_cell.specs.View.{core_of}
use Rattle.actor_cell.specs.Core.{Core, seen}
use Rattle.actor_cell.proofs.Moved.{accepts-of}
use Rattle.actor_cell.proofs.firing.CellFiring.accept.Goals as goal

pub returns : goal.returns
returns c =
    let old : Core = core_of c.self.inside in
    let ins = ap (λ (core : Core). core.actor.ins) c.self.view_is in
    let size = c.self.invariant.ins in
    let low : c.args.port < length old.inboxes = omega (arith, ins, size, c.requires.port) in
    let fits : FitsSigned num_width c.args.token = search rules in
    let before : c.index_mut.result.now ≡ queue_on old.inboxes c.args.port =
    c.index_mut.ensures.value ∙ get_or_default old.inboxes c.args.port c.index_mut.result.now no_queue low in
    let pushed : c.push.new.self ≡ record { tokens = c.index_mut.result.now.tokens ++ c.args.token ∷ []; capacity = c.index_mut.result.now.capacity } =
    subst (λ v. c.push.new.self ≡ record { tokens = c.index_mut.result.now.tokens ++ v ∷ []; capacity = c.index_mut.result.now.capacity }) (to_z-of_z num_width c.args.token fits) c.push.ensures in
    let accepted = accepts-of old c.args.port c.args.token c.push.new.self low
    (pushed ∙ ap (λ (q : Queue). record { tokens = q.tokens ++ c.args.token ∷ []; capacity = q.capacity }) before) in
    record {
      accepts = subst (λ core. Accepts (seen core) c.args.port c.args.token (seen (record old { inboxes = slice_set old.inboxes c.args.port c.push.new.self })))
          c.self.view_is accepted;
    }
