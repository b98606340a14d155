use Rattle.std.proofs.Common.{◌≡◌, length}
use Rattle.cal_model.specs.View.{kind_view}
use Rattle.const_env.specs.Counting.{names_view}
use Rattle.cal_check.specs.Actions.{values_judged}
use Rattle.check_member.specs.Parts.{exprs_tree}
use Rattle.check_action.proofs.outputs.values.Given as goal

abbrev pub invariant-values : goal.invariant-values
invariant-values l = values_judged (kind_view l.k) (exprs_tree l.rest) (names_view l.names) ≡ values_judged (kind_view l.k) (exprs_tree l.initial.rest) (names_view l.names)

abbrev pub decreases-values : goal.decreases-values
decreases-values l = length l.rest
