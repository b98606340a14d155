use Rattle.cal_print.proofs.Texts.{then}
use Rattle.cal_print.proofs.Pieces.{one_var, one_function, one_procedure, one_action, one_schedule, one_priority}
use Rattle.cal_print.proofs.member.print_member.Goals as goal

pub returns-in-Var : goal.returns-in-Var
returns-in-Var c =
    one_var c.args.member.now c.in-Var.v c.in-Var.is (then c.print.ensures c.put.ensures)

pub returns-in-Function : goal.returns-in-Function
returns-in-Function c = one_function c.args.member.now c.in-Function.f c.in-Function.is c.print_function.ensures

pub returns-in-Procedure : goal.returns-in-Procedure
returns-in-Procedure c = one_procedure c.args.member.now c.in-Procedure.p c.in-Procedure.is c.print_procedure.ensures

pub returns-in-Action : goal.returns-in-Action
returns-in-Action c = one_action c.args.member.now c.in-Action.a c.in-Action.is c.print_action.ensures

pub returns-in-Schedule : goal.returns-in-Schedule
returns-in-Schedule c = one_schedule c.args.member.now c.in-Schedule.s c.in-Schedule.is c.print_schedule.ensures

pub returns-in-Priority : goal.returns-in-Priority
returns-in-Priority c = one_priority c.args.member.now c.in-Priority.p c.in-Priority.is c.print_priority.ensures
