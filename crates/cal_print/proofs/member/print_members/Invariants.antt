use Rattle.std.proofs.Common.{map, take}
use Rattle.cal_ast.specs.Tree.{listed}
use Rattle.cal_ast.specs.View.{member_tree}
use Rattle.cal_print.specs.Tokens.{each_member}
use Rattle.cal_print.specs.Writes.{Writes}
use Rattle.cal_print.proofs.member.print_members.Given as goal

abbrev pub invariant-loop-member : goal.invariant-loop-member
invariant-loop-member l = Writes l.initial.out (each_member (listed (map member_tree (take l.member-index l.members)))) l.out
