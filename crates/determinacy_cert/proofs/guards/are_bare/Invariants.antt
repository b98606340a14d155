use Rattle.std.proofs.Common.{◌≡◌, map, drop}
use Rattle.cal_ast.specs.View.{expr_tree}
use Rattle.determinacy_cert.specs.Deciding.{are_bare}
use Rattle.determinacy_cert.proofs.guards.are_bare.Given as goal

abbrev pub invariant-loop-guard : goal.invariant-loop-guard
invariant-loop-guard l = are_bare (map expr_tree (drop l.guard-index l.guards)) ≡ are_bare (map expr_tree l.guards)
