use Rattle.std.proofs.Common.{◌≡◌, true, false, ◌∙◌, rules}
use Rattle.const_env.specs.Counting.{names_view}
use Rattle.check_fold.specs.Seeing.{seen_behind}
use Rattle.check_build_routine.proofs.UntypedSteps.{before_next, before_stop}
use Rattle.check_build_routine.proofs.untyped.up_to_untyped.Goals as goal

pub each-preserved : goal.each-preserved
each-preserved c =
    let typed : c.in_ok-found.found.typed ≡ true = search rules in
    before_next c.each.rest.now c.in-Some.others.now c.args.declared.now c.each.locals.items c.push.new.self.items c.in-Some.first.now c.in_ok-found.found c.each.behind c.add.new.self c.args.names.now (names_view c.args.names.now)
    c.in-Some.ensures.cases.0 c.in_ok-push.ensures.items c.in_ok-add.ensures.added typed
    c.in_ok-found.ensures c.each.invariant

pub returns-then-not-found-clause-locals : goal.returns-then-not-found-clause-locals
returns-then-not-found-clause-locals c =
    let untyped : c.in_ok-found.found.typed ≡ false = search rules in
    (before_stop c.each.rest.now c.in-Some.others.now c.args.declared.now c.each.locals.items c.in-Some.first.now c.in_ok-found.found (seen_behind c.each.behind c.args.names.now) (names_view c.args.names.now)
    c.in-Some.ensures.cases.0 untyped c.in_ok-found.ensures c.each.invariant).0

pub returns-then-not-found-clause-types : goal.returns-then-not-found-clause-types
returns-then-not-found-clause-types c =
    let untyped : c.in_ok-found.found.typed ≡ false = search rules in
    c.in_ok-types.ensures
    ∙ (before_stop c.each.rest.now c.in-Some.others.now c.args.declared.now c.each.locals.items c.in-Some.first.now c.in_ok-found.found (seen_behind c.each.behind c.args.names.now) (names_view c.args.names.now)
    c.in-Some.ensures.cases.0 untyped c.in_ok-found.ensures c.each.invariant).1
