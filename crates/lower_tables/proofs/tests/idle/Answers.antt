use Rattle.std.proofs.Common.{◌≡◌, [], ◌∷◌, map, true, false, ap, ◌∙◌}
use Rattle.cal_model.specs.declared.bound.Bound.{Bound}
use Rattle.cal_model.specs.View.{action_view}
use Rattle.lower_tables.proofs.IdleActor.{bare, idle-bound}
use Rattle.lower_tables.proofs.tests.idle.Goals as goal

pub returns : goal.returns
returns c =
    let b : Bound = record {
      class = c.new.result;
      ins = c.new-2.result;
      outs = c.new-3.result;
      vars = c.new-4.result;
      funs = c.new-5.result;
      procs = c.new-6.result;
      actions = c.in_ok-vec.field-0;
      states = c.new-7.result;
      moves = c.new-8.result;
      pairs = c.new-9.result;
    } in
    let acts : map action_view c.in_ok-vec.field-0.items ≡ bare true ∷ bare false ∷ [] =
    ap (map action_view) c.in_ok-vec.ensures.items ∙ ap (λ x. x ∷ action_view c.bare_action-again.result ∷ []) c.bare_action-start.ensures
    ∙ ap (λ y. bare true ∷ y ∷ []) c.bare_action-again.ensures in
    record {
      sound = idle-bound b c.new-2.ensures.items c.new-3.ensures.items c.new-4.ensures.items c.new-5.ensures.items c.new-6.ensures.items acts
          c.new-7.ensures.items c.new-8.ensures.items c.new-9.ensures.items;
    }
