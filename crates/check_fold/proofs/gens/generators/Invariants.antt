use Rattle.std.proofs.Common.{◌≡◌, map}
use Rattle.cal_ast.specs.Tree.{listed}
use Rattle.cal_ast.specs.View.{gen_tree}
use Rattle.const_env.specs.Counting.{names_view}
use Rattle.cal_check.specs.Written.{gens_written}
use Rattle.check_fold.proofs.GenSteps.{gens_from}
use Rattle.check_fold.proofs.Onto.{onto}
use Rattle.check_fold.proofs.gens.generators.Given as goal

abbrev pub invariant-loop-place : goal.invariant-loop-place
invariant-loop-place l = onto (map gen_tree l.found.items) (gens_from l.place l.gens l.names) ≡ gens_written (listed (map gen_tree l.gens)) (names_view l.names)
