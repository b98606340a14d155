use Rattle.std.proofs.Common.{map}
use Rattle.std.proofs.lemmas.Result.{IfOk-weaker}
use Rattle.cal_ast.specs.View.{expr_tree}
use Rattle.const_env.specs.Counting.{names_view}
use Rattle.check_build_action.proofs.InsideSteps.{guards_same}
use Rattle.check_build_action.proofs.inside.guards.Goals as goal

pub returns : goal.returns
returns c = IfOk-weaker c.exprs.result _ _ (λ found h. guards_same (map expr_tree found.items) (map expr_tree c.args.guards.now) (names_view c.args.names.now) h) c.exprs.ensures
