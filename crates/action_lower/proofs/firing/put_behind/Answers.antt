use Rattle.std.proofs.Common.{◌≡◌, ◌∙◌, Err, List, None, ap, map, rules, subst, sym}
use Rattle.std.specs.Prelude.{IfErr}
use Rattle.cal_model.specs.View.{action_view, output_view, port_view}
use Rattle.lower_base.specs.Growing.{IsFault, ◌or_else◌}
use Rattle.lower_base.specs.Lowered.{Adds}
use Rattle.lower_base.specs.Names.{Name, names_view}
use Rattle.lower_stmt.specs.Bodies.{IsExecutedCalling}
use Rattle.lower_stmt.specs.Procedures.{Routines, routines_of}
use Rattle.lower_stmt.specs.StmtGrowing.{left_out_all}
use Rattle.lower_stmt.specs.StmtWords.{body_of}
use Rattle.action_lower.specs.FiringWords.{left_out_behind}
use Rattle.action_lower.specs.SendWords.{IsSendFault, left_out_outputs}
use Rattle.action_lower.specs.Sending.{AreOutputs}
use Rattle.action_lower.proofs.AddingFirings.{behind_adds, first_fault, other_fault}
use Rattle.action_lower.proofs.firing.put_behind.Goals as goal

pub returns-clause-code : goal.returns-clause-code
returns-clause-code c =
    let rs : Routines = routines_of c.args.callees.now c.args.procedures.now in
    let names : List Name = names_view c.args.names.now in
    let body : c.deref.result.now ≡ c.args.act.now.body.items = search rules in
    let outs : c.deref-2.result.now ≡ c.args.act.now.outputs.items = search rules in
    behind_adds rs names (map port_view c.args.ports.now) (action_view c.args.act.now) c.in_ok-firsts.firsts.items c.args.draft.now c.lower_calling_stmts.new.draft c.lower_outputs.new.draft c.put.new.draft
    (subst (λ ss. Adds (IsExecutedCalling rs names (body_of ss)) c.args.draft.now c.lower_calling_stmts.new.draft) body c.in_ok-lower_calling_stmts.ensures.lowered)
    (subst (λ os. Adds (AreOutputs rs.functions names (map port_view c.args.ports.now) (map output_view os) c.in_ok-firsts.firsts.items) c.lower_calling_stmts.new.draft c.lower_outputs.new.draft) outs c.in_ok-firsts.ensures.code)
    c.in_ok-put.ensures.added

pub returns-clause-whole : goal.returns-clause-whole
returns-clause-whole c =
    let rs : Routines = routines_of c.args.callees.now c.args.procedures.now in
    let names : List Name = names_view c.args.names.now in
    let body : c.deref.result.now ≡ c.args.act.now.body.items = search rules in
    let outs : c.deref-2.result.now ≡ c.args.act.now.outputs.items = search rules in
    let one : left_out_all rs names (body_of c.args.act.now.body.items) ≡ None = subst (λ ss. left_out_all rs names (body_of ss) ≡ None) body c.in_ok-lower_calling_stmts.ensures.whole in
    let two : left_out_outputs rs.functions names c.args.act.now.outputs.items ≡ None = subst (λ os. left_out_outputs rs.functions names os ≡ None) outs c.in_ok-firsts.ensures.whole in
    ap (λ o. o or_else left_out_outputs rs.functions names c.args.act.now.outputs.items) one ∙ two

pub returns-in_err-lower_calling_stmts-clause-fault : goal.returns-in_err-lower_calling_stmts-clause-fault
returns-in_err-lower_calling_stmts-clause-fault c =
    let rs : Routines = routines_of c.args.callees.now c.args.procedures.now in
    let names : List Name = names_view c.args.names.now in
    let body : c.deref.result.now ≡ c.args.act.now.body.items = search rules in
    let made = first_fault (left_out_all rs names (body_of c.args.act.now.body.items)) (left_out_outputs rs.functions names c.args.act.now.outputs.items) c.lower_calling_stmts.new.draft c.in_err-lower_calling_stmts.field-0.0
    (subst (λ ss. IsFault (left_out_all rs names (body_of ss)) c.lower_calling_stmts.new.draft c.in_err-lower_calling_stmts.field-0.0) body c.in_err-lower_calling_stmts.ensures.fault) in
    let same : c.from_residual.result ≡ Err c.in_err-lower_calling_stmts.field-0.0 = search rules in
    subst (λ r. IfErr r (IsSendFault (left_out_behind rs names c.args.act.now) c.lower_calling_stmts.new.draft)) (sym same) made

pub returns-in_err-firsts-clause-fault : goal.returns-in_err-firsts-clause-fault
returns-in_err-firsts-clause-fault c =
    let rs : Routines = routines_of c.args.callees.now c.args.procedures.now in
    let names : List Name = names_view c.args.names.now in
    let body : c.deref.result.now ≡ c.args.act.now.body.items = search rules in
    let outs : c.deref-2.result.now ≡ c.args.act.now.outputs.items = search rules in
    let one : left_out_all rs names (body_of c.args.act.now.body.items) ≡ None = subst (λ ss. left_out_all rs names (body_of ss) ≡ None) body c.in_ok-lower_calling_stmts.ensures.whole in
    let made = other_fault (left_out_all rs names (body_of c.args.act.now.body.items)) (left_out_outputs rs.functions names c.args.act.now.outputs.items) c.lower_outputs.new.draft c.in_err-firsts.field-0.0 one
    (subst (λ os. IsSendFault (left_out_outputs rs.functions names os) c.lower_outputs.new.draft c.in_err-firsts.field-0.0) outs c.in_err-firsts.ensures.fault) in
    let same : c.from_residual-in_err-firsts.result ≡ Err c.in_err-firsts.field-0.0 = search rules in
    subst (λ r. IfErr r (IsSendFault (left_out_behind rs names c.args.act.now) c.lower_outputs.new.draft)) (sym same) made
