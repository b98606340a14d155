use Rattle.const_env.specs.Counting.{names_view}
use Rattle.check_fold.specs.Seeing.{seen_behind}
use Rattle.cal_check.proofs.Lists.{none-left}
use Rattle.check_fold.proofs.VarSteps.{vars_done, vars_next}
use Rattle.check_fold.proofs.var_decl.vars.Goals as goal

pub returns-clause-vars : goal.returns-clause-vars
returns-clause-vars c =
    (vars_done c.each.rest.now c.args.declared.now c.each.vars.items (seen_behind c.each.behind c.args.names.now) (names_view c.args.names.now) (none-left c.each.rest.now c.in_default.ensures.cases) c.each.invariant).0

pub each-preserved : goal.each-preserved
each-preserved c =
    vars_next c.each.rest.now c.in-Some.others.now c.args.declared.now c.each.vars.items c.push.new.self.items c.in-Some.first.now c.in_ok-v.v c.in_ok-variable.variable c.each.behind c.add.new.self c.args.names.now (names_view c.args.names.now)
    c.in-Some.ensures.cases.0 c.in_ok-push.ensures.items c.in_ok-add.ensures.added
    c.in_ok-v.ensures c.in_ok-variable.ensures c.each.invariant
