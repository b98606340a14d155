use Rattle.std.proofs.Common.{◌≡◌, map, drop}
use Rattle.cal_ast.specs.Tree.{listed}
use Rattle.cal_ast.specs.View.{expr_tree}
use Rattle.determinacy_cert.specs.Deciding.{is_bare}
use Rattle.determinacy_cert.proofs.guards.+is_bare.Given as goal

abbrev pub invariant-all_bare-loop-item : goal.invariant-all_bare-loop-item
invariant-all_bare-loop-item l = is_bare (listed (map expr_tree (drop l.item-index l.items))) ≡ is_bare (listed (map expr_tree l.items))
