use Rattle.std.proofs.Common.{◌≡◌, Err, List, None, map, rules, subst, sym, ◌∙◌}
use Rattle.std.specs.Prelude.{IfErr}
use Rattle.cal_ast.specs.View.{expr_tree}
use Rattle.cal_model.specs.View.{fun_view, local_view}
use Rattle.cal_model.specs.declared.bound.BoundFun.{BoundFun}
use Rattle.lower_base.specs.Callees.{Function, functions_view}
use Rattle.lower_base.specs.declared.callees.Formal.{Formal}
use Rattle.lower_base.specs.Growing.{IsFault}
use Rattle.lower_base.specs.Names.{Name, names_view}
use Rattle.lower_base.specs.Routining.{IsFaultOfFun, StandForFormals, behind_formals, left_out_body, left_out_formals}
use Rattle.lower_base.specs.Seen.{called}
use Rattle.lower_base.proofs.AddingRoutines.{fun_open}
use Rattle.expr_lower.proofs.routines.lower_function.Goals as goal

pub returns-clause-whole : goal.returns-clause-whole
returns-clause-whole c =
    let f : BoundFun = c.args.f.now in
    let fs : List Function = functions_view c.args.callees.now in
    let names : List Name = names_view c.args.names.now in
    let ys : List Formal = c.deref-3.result.now in
    let here : c.deref-2.result.now ≡ f.formals.items = search rules in
    let there : c.deref.result.now ≡ f.formals.items = search rules in
    let cells : c.in_ok-take_formals.ensures.taken.formals ≡ ys = search rules in
    let stand : StandForFormals (map local_view f.formals.items) ys = subst (λ zs. StandForFormals (map local_view f.formals.items) zs) cells (subst (λ xs. StandForFormals (map local_view xs) c.in_ok-take_formals.ensures.taken.formals) there c.in_ok-take_formals.ensures.taken.stand) in
    let none : left_out_formals (map local_view f.formals.items) ≡ None = subst (λ xs. left_out_formals (map local_view xs) ≡ None) there c.in_ok-take_formals.ensures.whole in
    fun_open fs names (fun_view f) ys none stand
    ∙ subst (λ xs. left_out_body fs (behind_formals (map local_view xs) ys names) (map local_view f.locals.items) (expr_tree f.body) ≡ None) here
    (subst (λ gs. left_out_body gs (behind_formals (map local_view c.deref-2.result.now) ys names) (map local_view f.locals.items) (expr_tree f.body) ≡ None) c.outermost.ensures.callees
    (subst (λ ns. left_out_body (called c.outermost.result) (behind_formals (map local_view c.deref-2.result.now) ys ns) (map local_view f.locals.items) (expr_tree f.body) ≡ None) c.outermost.ensures.names c.in_ok-in_formals.ensures.whole))

pub returns-in_err-in_formals-clause-fault : goal.returns-in_err-in_formals-clause-fault
returns-in_err-in_formals-clause-fault c =
    let f : BoundFun = c.args.f.now in
    let fs : List Function = functions_view c.args.callees.now in
    let names : List Name = names_view c.args.names.now in
    let ys : List Formal = c.deref-3.result.now in
    let here : c.deref-2.result.now ≡ f.formals.items = search rules in
    let there : c.deref.result.now ≡ f.formals.items = search rules in
    let cells : c.in_ok-take_formals.ensures.taken.formals ≡ ys = search rules in
    let stand : StandForFormals (map local_view f.formals.items) ys = subst (λ zs. StandForFormals (map local_view f.formals.items) zs) cells (subst (λ xs. StandForFormals (map local_view xs) c.in_ok-take_formals.ensures.taken.formals) there c.in_ok-take_formals.ensures.taken.stand) in
    let none : left_out_formals (map local_view f.formals.items) ≡ None = subst (λ xs. left_out_formals (map local_view xs) ≡ None) there c.in_ok-take_formals.ensures.whole in
    let made : IsFault (left_out_body fs (behind_formals (map local_view f.formals.items) ys names) (map local_view f.locals.items) (expr_tree f.body)) c.in_formals.new.draft c.in_err-in_formals.field-0.0 =
    subst (λ xs. IsFault (left_out_body fs (behind_formals (map local_view xs) ys names) (map local_view f.locals.items) (expr_tree f.body)) c.in_formals.new.draft c.in_err-in_formals.field-0.0) here
    (subst (λ gs. IsFault (left_out_body gs (behind_formals (map local_view c.deref-2.result.now) ys names) (map local_view f.locals.items) (expr_tree f.body)) c.in_formals.new.draft c.in_err-in_formals.field-0.0) c.outermost.ensures.callees
    (subst (λ ns. IsFault (left_out_body (called c.outermost.result) (behind_formals (map local_view c.deref-2.result.now) ys ns) (map local_view f.locals.items) (expr_tree f.body)) c.in_formals.new.draft c.in_err-in_formals.field-0.0) c.outermost.ensures.names c.in_err-in_formals.ensures.fault)) in
    let same : c.from_residual-in_err-in_formals.result ≡ Err c.in_err-in_formals.field-0.0 = search rules in
    subst (λ r. IfErr r (IsFaultOfFun c.args.names.now c.args.callees.now (fun_view f) c.in_formals.new.draft)) (sym same)
    (subst (λ o. IsFault o c.in_formals.new.draft c.in_err-in_formals.field-0.0) (sym (fun_open fs names (fun_view f) ys none stand)) made)
