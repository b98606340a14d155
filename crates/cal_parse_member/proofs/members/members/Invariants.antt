use Rattle.std.proofs.Common.{map, length}
use Rattle.cal_ast.specs.View.{member_tree}
use Rattle.cal_parse_member.specs.MembersSoFar.{IsMembersSoFar}
use Rattle.cal_parse_member.proofs.members.members.Given as goal

abbrev pub invariant-members : goal.invariant-members
invariant-members l = IsMembersSoFar l.fn.room l.fn.tokens.now l.tokens.now l.may_schedule (map member_tree l.found.items)

abbrev pub decreases-members : goal.decreases-members
decreases-members l = length l.tokens.now
