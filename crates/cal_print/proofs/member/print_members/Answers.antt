use Rattle.cal_ast.specs.Tree.{nil, cons}
use Rattle.cal_ast.specs.View.{member_tree}
use Rattle.cal_print.specs.Tokens.{each_member}
use Rattle.cal_print.proofs.Loops.{member_more, loop_step, loop_all}
use Rattle.cal_print.proofs.member.print_members.Goals as goal

pub returns : goal.returns
returns c = loop_all member_tree each_member c.args.members.now c.loop-member.member-index c.loop-member-test.false c.loop-member.invariant

pub loop-member-preserved : goal.loop-member-preserved
loop-member-preserved c =
    loop_step member_tree each_member (λ t. each_member (cons t nil)) member_more
    c.args.members.now c.member-item.result c.loop-member.member-index c.loop-member-test.true c.member-item.is c.loop-member.invariant c.print_member.ensures
