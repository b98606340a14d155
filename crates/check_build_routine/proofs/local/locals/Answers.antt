use Rattle.cal_check.proofs.Lists.{none-left}
use Rattle.const_env.specs.Counting.{names_view}
use Rattle.check_fold.specs.Seeing.{seen_behind}
use Rattle.check_build_routine.proofs.LocalSteps.{locals_done, locals_next}
use Rattle.check_build_routine.proofs.local.locals.Goals as goal

pub each-preserved : goal.each-preserved
each-preserved c =
    locals_next c.each.rest.now c.in-Some.others.now c.args.declared.now c.each.locals.items c.push.new.self.items c.in-Some.first.now c.in_ok-found.found c.each.behind c.add.new.self c.each.typed c.both-typed.result c.args.names.now (names_view c.args.names.now)
    c.in-Some.ensures.cases.0 c.in_ok-push.ensures.items c.in_ok-add.ensures.added c.both-typed.ensures
    c.in_ok-found.ensures c.each.invariant

pub returns-clause-locals : goal.returns-clause-locals
returns-clause-locals c =
    (locals_done c.each.locals.items c.each.typed c.each.rest.now c.args.declared.now (seen_behind c.each.behind c.args.names.now) (names_view c.args.names.now) (none-left c.each.rest.now c.in_default.ensures.cases) c.each.invariant).0

pub returns-clause-behind : goal.returns-clause-behind
returns-clause-behind c =
    (locals_done c.each.locals.items c.each.typed c.each.rest.now c.args.declared.now (seen_behind c.each.behind c.args.names.now) (names_view c.args.names.now) (none-left c.each.rest.now c.in_default.ensures.cases) c.each.invariant).1

pub returns-clause-typed : goal.returns-clause-typed
returns-clause-typed c =
    (locals_done c.each.locals.items c.each.typed c.each.rest.now c.args.declared.now (seen_behind c.each.behind c.args.names.now) (names_view c.args.names.now) (none-left c.each.rest.now c.in_default.ensures.cases) c.each.invariant).2
