use Rattle.check_routine.proofs.Walks.{formals_next}
use Rattle.check_routine.proofs.formal.formals.Goals as goal

pub formals-preserved : goal.formals-preserved
formals-preserved c =
    formals_next c.formals.locals.items c.push.new.self.items c.formals.seen c.add.new.self c.in_ok-local.local c.in_ok-name_of.field-0
    c.formals.rest.now c.in-Some.others.now c.args.formals.now c.in-Some.first.now c.args.names.now
    c.in-Some.ensures.cases.0 c.in_ok-push.ensures.items c.in_ok-add.ensures.added
    c.in_ok-local.ensures
    c.in_ok-name_of.ensures c.formals.invariant
