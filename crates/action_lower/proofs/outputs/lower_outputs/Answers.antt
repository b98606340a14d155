use Rattle.std.proofs.Common.{◌≡◌, [], Err, map, rules, subst, sym, take}
use Rattle.std.specs.Prelude.{IfErr}
use Rattle.cal_model.specs.View.{output_view, port_view}
use Rattle.std.proofs.lemmas.List.{take_all}
use Rattle.lower_base.specs.Lowered.{Adds}
use Rattle.lower_base.specs.Callees.{functions_view}
use Rattle.lower_base.specs.Names.{names_view}
use Rattle.action_lower.specs.SendWords.{IsSendFault, left_out_outputs}
use Rattle.action_lower.specs.Sending.{AreOutputs}
use Rattle.action_lower.proofs.OutputCode.{AreSentSoFar, few-at, more-sent, none-sent, output-fault, outputs-sent}
use Rattle.action_lower.proofs.outputs.lower_outputs.Goals as goal

pub loop-output-init : goal.loop-output-init
loop-output-init c =
    let none : c.new-firsts.result.items ≡ [] = search rules in
    subst (λ fs. AreSentSoFar (functions_view c.args.callees.now) (names_view c.args.names.now) (map port_view c.args.ports.now) [] fs c.args.draft.now c.args.draft.now) (sym none)
    (none-sent (functions_view c.args.callees.now) (names_view c.args.names.now) (map port_view c.args.ports.now) c.args.draft.now)

pub loop-output-preserved : goal.loop-output-preserved
loop-output-preserved c =
    more-sent (functions_view c.args.callees.now) (names_view c.args.names.now) (map port_view c.args.ports.now) c.args.outputs.now c.output-item.result c.loop-output.output-index c.loop-output.firsts.items c.push.new.self.items c.in_ok-first.first
    c.args.draft.now c.loop-output.draft c.put_output.new.draft c.loop-output-test.true c.output-item.is c.loop-output.invariant c.in_ok-first.ensures.code c.in_ok-first.ensures.whole c.in_ok-push.ensures.items

pub put_output-requires : goal.put_output-requires
put_output-requires c = record { few = few-at c.args.outputs.now c.output-item.result c.loop-output.output-index c.requires.few c.loop-output-test.true c.output-item.is }

pub returns-in_err-first-clause-fault : goal.returns-in_err-first-clause-fault
returns-in_err-first-clause-fault c =
    let made = output-fault (functions_view c.args.callees.now) (names_view c.args.names.now) c.args.outputs.now c.output-item.result c.loop-output.output-index c.put_output.new.draft c.in_err-first.field-0.0
    c.loop-output-test.true c.output-item.is c.loop-output.invariant.whole c.in_err-first.ensures.fault in
    let same : c.from_residual.result ≡ Err c.in_err-first.field-0.0 = search rules in
    subst (λ r. IfErr r (IsSendFault (left_out_outputs (functions_view c.args.callees.now) (names_view c.args.names.now) c.args.outputs.now) c.put_output.new.draft)) (sym same) made

pub returns-clause-sent : goal.returns-clause-sent
returns-clause-sent c =
    let all : take c.loop-output.output-index c.args.outputs.now ≡ c.args.outputs.now = take_all c.loop-output.output-index c.args.outputs.now c.loop-output-test.false in
    outputs-sent (functions_view c.args.callees.now) (names_view c.args.names.now) (map port_view c.args.ports.now) (map output_view c.args.outputs.now) c.loop-output.firsts.items c.args.draft.now c.loop-output.draft
    (subst (λ os. Adds (AreOutputs (functions_view c.args.callees.now) (names_view c.args.names.now) (map port_view c.args.ports.now) (map output_view os) c.loop-output.firsts.items) c.args.draft.now c.loop-output.draft) all c.loop-output.invariant.added)
