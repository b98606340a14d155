use Rattle.rvc_base.specs.declared.trap.Trap.TheVariants.{Overflow, DivideByZero, IndexRange, ShiftRange, TurnLimit}
use Rattle.trace_text.proofs.Advancing.{an_initial}
use Rattle.trace_text.proofs.advance.at_trap.Goals as goal

pub returns-in-79 : goal.returns-in-79
returns-in-79 c = rw (c.in-79.is, c.in_name_of.ensures) (an_initial c.args.inst c.args.action Overflow)

pub returns-in-68 : goal.returns-in-68
returns-in-68 c = rw (c.in-68.is, c.in_name_of-in-68.ensures) (an_initial c.args.inst c.args.action DivideByZero)

pub returns-in-73 : goal.returns-in-73
returns-in-73 c = rw (c.in-73.is, c.in_name_of-in-73.ensures) (an_initial c.args.inst c.args.action IndexRange)

pub returns-in-83 : goal.returns-in-83
returns-in-83 c = rw (c.in-83.is, c.in_name_of-in-83.ensures) (an_initial c.args.inst c.args.action ShiftRange)

pub returns-in-84 : goal.returns-in-84
returns-in-84 c = rw (c.in-84.is, c.in_name_of-in-84.ensures) (an_initial c.args.inst c.args.action TurnLimit)
