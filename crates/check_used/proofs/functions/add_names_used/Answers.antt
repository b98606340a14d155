use Rattle.std.proofs.Common.{ap, ◌∙◌}
use Rattle.std.proofs.lemmas.Result.{on_ok_weaker}
use Rattle.cal_ast.specs.View.{function_tree}
use Rattle.cal_model.specs.Tags.{is_seen}
use Rattle.check_used.proofs.Collected.{collected}
use Rattle.check_used.proofs.functions.add_names_used.Goals as goal

pub returns : goal.returns
returns c = on_ok_weaker c.add_function.result (λ is x. ap (is_seen x) is ∙ collected x (function_tree c.args.f.now) c.args.names.now) c.add_function.ensures
