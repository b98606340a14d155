use Rattle.std.proofs.Common.{◌≡◌, map, drop}
use Rattle.cal_ast.specs.View.{expr_tree}
use Rattle.determinacy_cert.specs.Deciding.{have_ranges}
use Rattle.determinacy_cert.specs.Viewing.{names_view}
use Rattle.determinacy_cert.proofs.guards.have_ranges.Given as goal

abbrev pub invariant-loop-guard : goal.invariant-loop-guard
invariant-loop-guard l = have_ranges (names_view l.names) (map expr_tree (drop l.guard-index l.guards)) ≡ have_ranges (names_view l.names) (map expr_tree l.guards)
