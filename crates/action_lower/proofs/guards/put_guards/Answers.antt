use Rattle.std.proofs.Common.{◌≡◌, [], Err, map, rules, subst, sym}
use Rattle.std.specs.Prelude.{IfErr}
use Rattle.cal_ast.specs.View.{expr_tree}
use Rattle.lower_base.specs.Callees.{functions_view}
use Rattle.lower_base.specs.Growing.{IsFault}
use Rattle.lower_base.specs.Names.{names_view}
use Rattle.action_lower.specs.GuardWords.{left_out_guards}
use Rattle.action_lower.proofs.GuardCode.{AreAdded, fault-among, more-added, none-added}
use Rattle.action_lower.proofs.guards.put_guards.Goals as goal

pub loop-guard-init : goal.loop-guard-init
loop-guard-init c =
    let none : c.new-entries.result.items ≡ [] = search rules in
    subst (λ es. AreAdded c.args.clears (functions_view c.args.callees.now) (names_view c.args.names.now) [] es c.args.draft.now c.args.draft.now) (sym none)
    (none-added c.args.clears (functions_view c.args.callees.now) (names_view c.args.names.now) c.args.draft.now c.requires.below c.requires.clears)

pub loop-guard-preserved : goal.loop-guard-preserved
loop-guard-preserved c =
    more-added expr_tree c.args.clears (functions_view c.args.callees.now) (names_view c.args.names.now) c.args.guards.now c.guard-item.result c.loop-guard.guard-index c.loop-guard.entries.items c.push.new.self.items c.in_ok-entry.entry
    c.args.draft.now c.loop-guard.draft c.put_guard.new.draft c.loop-guard-test.true c.guard-item.is c.loop-guard.invariant c.in_ok-entry.ensures.code c.in_ok-entry.ensures.whole c.in_ok-push.ensures.items

pub returns-in_err-entry-clause-fault : goal.returns-in_err-entry-clause-fault
returns-in_err-entry-clause-fault c =
    let made = fault-among expr_tree (functions_view c.args.callees.now) (names_view c.args.names.now) c.args.guards.now c.guard-item.result c.loop-guard.guard-index c.put_guard.new.draft c.in_err-entry.field-0.0
    c.loop-guard-test.true c.guard-item.is c.loop-guard.invariant.whole c.in_err-entry.ensures.fault in
    let same : c.from_residual.result ≡ Err c.in_err-entry.field-0.0 = search rules in
    subst (λ r. IfErr r (IsFault (left_out_guards (functions_view c.args.callees.now) (names_view c.args.names.now) (map expr_tree c.args.guards.now)) c.put_guard.new.draft)) (sym same) made
