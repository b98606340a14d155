use Rattle.std.proofs.Common.{map}
use Rattle.cal_ast.specs.View.{member_tree}
use Rattle.cal_scope.specs.PortView.{ports_view}
use Rattle.cal_scope.specs.View.{names_view}
use Rattle.cal_scope.proofs.Each.{stay}
use Rattle.cal_scope.proofs.EachOf.{member_part}
use Rattle.cal_scope.proofs.Loops.{IsJudgedUpTo}
use Rattle.cal_scope.proofs.member.members.Given as goal

abbrev pub invariant-loop-m : goal.invariant-loop-m
invariant-loop-m l = IsJudgedUpTo (member_part (ports_view l.ports)) stay (map member_tree l.found.items) l.m-index l.list (names_view l.names) (names_view l.names)
