use Rattle.std.proofs.Common.{◌≡◌, map, drop}
use Rattle.cal_ast.specs.View.{expr_tree}
use Rattle.cal_model.specs.Certified.{all_conjuncts}
use Rattle.cal_model.specs.View.{action_view}
use Rattle.determinacy_cert.specs.Deciding.{any_of, exclude}
use Rattle.determinacy_cert.proofs.pairing.guards_exclude.Given as goal

abbrev pub invariant-loop-guard : goal.invariant-loop-guard
invariant-loop-guard l =
    any_of (λ c. any_of (λ d. exclude c (action_view l.one).patterns d (action_view l.two).patterns) (all_conjuncts (action_view l.two).guards)) (all_conjuncts (map expr_tree (drop l.guard-index l.guard-items)))
    ≡ any_of (λ c. any_of (λ d. exclude c (action_view l.one).patterns d (action_view l.two).patterns) (all_conjuncts (action_view l.two).guards)) (all_conjuncts (map expr_tree l.guard-items))
