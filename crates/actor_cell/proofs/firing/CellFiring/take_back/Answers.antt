use Rattle.std.proofs.Common.{◌≡◌, ◌++◌, ◌∷◌, ◌<◌, [], arith, ap, sym, subst, ◌∙◌, length, rules, FitsSigned}
use Rattle.std.specs.Prelude.{slice_set}
use Rattle.std.proofs.lemmas.Int.{to_z-of_z}
use Rattle.std.proofs.lemmas.List.{get_or_default}
use Rattle.rvc_base.specs.Width.{num_width}
use Rattle.net_model.specs.Cell.{Accepts}
use Rattle.actor_cell.specs.Queues.{no_queue, queue_on}
use Rattle.actor_cell.specs.View.{core_of}
use Rattle.actor_cell.specs.Core.{Core, seen}
use Rattle.actor_cell.proofs.Moved.{taken-back-of}
use Rattle.actor_cell.proofs.firing.CellFiring.take_back.Goals as goal

pub returns : goal.returns
returns c =
    let old : Core = core_of c.self.inside in
    let ins = ap (λ (core : Core). core.actor.ins) c.self.view_is in
    let size = c.self.invariant.ins in
    let low : c.args.port < length old.inboxes = omega (arith, ins, size, c.requires.port) in
    let before : c.index_mut.result.now ≡ queue_on old.inboxes c.args.port =
    c.index_mut.ensures.value ∙ get_or_default old.inboxes c.args.port c.index_mut.result.now no_queue low in
    let taken : queue_on old.inboxes c.args.port ≡ record { tokens = c.take_back.new.self.tokens ++ c.take_back.result ∷ []; capacity = c.take_back.new.self.capacity } =
    sym before ∙ c.take_back.ensures in
    let back = taken-back-of old c.args.port c.take_back.result c.take_back.new.self low taken in
    let fits : FitsSigned num_width c.take_back.result = search rules in
    record {
      takes_back =
          subst (λ v. Accepts (seen (record old { inboxes = slice_set old.inboxes c.args.port c.take_back.new.self })) c.args.port v (seen c.args.self.now)) (sym (to_z-of_z num_width c.take_back.result fits))
          (subst (λ core. Accepts (seen (record old { inboxes = slice_set old.inboxes c.args.port c.take_back.new.self })) c.args.port c.take_back.result (seen core)) c.self.view_is back);
    }
