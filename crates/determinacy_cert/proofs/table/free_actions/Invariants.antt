use Rattle.std.proofs.Common.{◌≡◌, map, take}
use Rattle.cal_model.specs.View.{action_view}
use Rattle.determinacy_cert.specs.Judging.{is_free}
use Rattle.determinacy_cert.proofs.table.free_actions.Given as goal

abbrev pub invariant-loop-action : goal.invariant-loop-action
invariant-loop-action l = l.free.items ≡ map (λ act. is_free l.stateless (action_view act)) (take l.action-index l.actions)
