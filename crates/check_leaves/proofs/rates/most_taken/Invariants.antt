use Rattle.std.proofs.Common.{◌≡◌}
use Rattle.cal_model.specs.Rates.{need}
use Rattle.cal_model.specs.View.{actor_of}
use Rattle.fnl_source.specs.Actors.{most}
use Rattle.check_leaves.proofs.rates.most_taken.Given as goal

abbrev pub invariant-loop-action : goal.invariant-loop-action
invariant-loop-action l = l.largest ≡ most (λ a. need (actor_of l.b) a l.port) l.action
