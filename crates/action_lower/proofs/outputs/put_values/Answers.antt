use Rattle.std.proofs.Common.{◌≡◌, Err, arith, map, rules, subst, sym}
use Rattle.std.specs.Prelude.{IfErr}
use Rattle.cal_ast.specs.View.{expr_tree}
use Rattle.lower_base.specs.Growing.{IsFault}
use Rattle.lower_base.specs.Callees.{functions_view}
use Rattle.lower_base.specs.Names.{names_view}
use Rattle.action_lower.specs.SendWords.{left_out_values}
use Rattle.action_lower.proofs.OutputCode.{fault-among, more-added, none-added}
use Rattle.action_lower.proofs.outputs.put_values.Goals as goal

pub loop-value-init : goal.loop-value-init
loop-value-init c = (omega arith, none-added (functions_view c.args.callees.now) (names_view c.args.names.now) c.args.kind c.args.cell c.args.draft.now)

pub loop-value-preserved : goal.loop-value-preserved
loop-value-preserved c =
    let at = c.loop-value.invariant.0 in (
      omega (arith, at),
      more-added expr_tree (functions_view c.args.callees.now) (names_view c.args.names.now) c.args.kind c.args.values.now c.value-item.result c.loop-value.value-index c.args.cell c.loop-value.at
          c.args.draft.now c.loop-value.draft c.put_value.new.draft c.loop-value-test.true c.value-item.is at c.loop-value.invariant.1 c.in_ok-put_value.ensures.code c.in_ok-put_value.ensures.whole,
    )

pub returns-in_err-put_value-clause-fault : goal.returns-in_err-put_value-clause-fault
returns-in_err-put_value-clause-fault c =
    let made = fault-among expr_tree (functions_view c.args.callees.now) (names_view c.args.names.now) c.args.values.now c.value-item.result c.loop-value.value-index c.put_value.new.draft c.in_err-put_value.field-0.0
    c.loop-value-test.true c.value-item.is c.loop-value.invariant.1.whole c.in_err-put_value.ensures.fault in
    let same : c.from_residual.result ≡ Err c.in_err-put_value.field-0.0 = search rules in
    subst (λ r. IfErr r (IsFault (left_out_values (functions_view c.args.callees.now) (names_view c.args.names.now) (map expr_tree c.args.values.now)) c.put_value.new.draft)) (sym same) made
