use Rattle.std.proofs.Common.{◌≡◌, map, drop}
use Rattle.cal_ast.specs.View.{expr_tree}
use Rattle.cal_model.specs.Certified.{all_conjuncts}
use Rattle.cal_model.specs.View.{action_view}
use Rattle.determinacy_cert.specs.Deciding.{any_of, exclude}
use Rattle.determinacy_cert.proofs.pairing.excludes_a_guard.Given as goal

abbrev pub invariant-loop-guard : goal.invariant-loop-guard
invariant-loop-guard l =
    any_of (λ d. exclude (expr_tree l.e) (action_view l.one).patterns d (action_view l.two).patterns) (all_conjuncts (map expr_tree (drop l.guard-index l.guard-items)))
    ≡ any_of (λ d. exclude (expr_tree l.e) (action_view l.one).patterns d (action_view l.two).patterns) (all_conjuncts (map expr_tree l.guard-items))
