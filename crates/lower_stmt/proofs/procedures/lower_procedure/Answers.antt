use Rattle.std.proofs.Common.{◌≡◌, Err, List, None, map, rules, subst, sym, ◌∙◌}
use Rattle.std.specs.Prelude.{IfErr}
use Rattle.cal_model.specs.View.{local_view, proc_view}
use Rattle.cal_model.specs.declared.bound.BoundProc.{BoundProc}
use Rattle.lower_stmt.specs.Procedures.{Routines, routines_of}
use Rattle.lower_base.specs.declared.callees.Formal.{Formal}
use Rattle.lower_base.specs.Growing.{IsFault}
use Rattle.lower_base.specs.Names.{Name, names_view}
use Rattle.lower_base.specs.Routining.{StandForFormals, behind_formals, left_out_formals}
use Rattle.lower_stmt.specs.Proceeding.{IsFaultOfProc, left_out_proc_body}
use Rattle.lower_stmt.specs.StmtWords.{body_of}
use Rattle.lower_stmt.specs.StmtSeen.{called}
use Rattle.lower_stmt.proofs.AddingProcs.{proc_open}
use Rattle.lower_stmt.proofs.procedures.lower_procedure.Goals as goal

pub returns-clause-whole : goal.returns-clause-whole
returns-clause-whole c =
    let p : BoundProc = c.args.p.now in
    let rs : Routines = routines_of c.args.callees.now c.args.procedures.now in
    let names : List Name = names_view c.args.names.now in
    let ys : List Formal = c.deref-3.result.now in
    let here : c.deref-2.result.now ≡ p.formals.items = search rules in
    let there : c.deref.result.now ≡ p.formals.items = search rules in
    let cells : c.in_ok-take_formals.ensures.taken.formals ≡ ys = search rules in
    let stand : StandForFormals (map local_view p.formals.items) ys = subst (λ zs. StandForFormals (map local_view p.formals.items) zs) cells (subst (λ xs. StandForFormals (map local_view xs) c.in_ok-take_formals.ensures.taken.formals) there c.in_ok-take_formals.ensures.taken.stand) in
    let none : left_out_formals (map local_view p.formals.items) ≡ None = subst (λ xs. left_out_formals (map local_view xs) ≡ None) there c.in_ok-take_formals.ensures.whole in
    proc_open rs names (proc_view p) ys none stand
    ∙ subst (λ xs. left_out_proc_body rs (behind_formals (map local_view xs) ys names) (map local_view p.locals.items) (body_of p.body.items) ≡ None) here
    (subst (λ gs. left_out_proc_body gs (behind_formals (map local_view c.deref-2.result.now) ys names) (map local_view p.locals.items) (body_of p.body.items) ≡ None) c.outermost.ensures.routines
    (subst (λ ns. left_out_proc_body (called c.outermost.result) (behind_formals (map local_view c.deref-2.result.now) ys ns) (map local_view p.locals.items) (body_of p.body.items) ≡ None) c.outermost.ensures.names c.in_ok-in_formals.ensures.whole))

pub returns-in_err-in_formals-clause-fault : goal.returns-in_err-in_formals-clause-fault
returns-in_err-in_formals-clause-fault c =
    let p : BoundProc = c.args.p.now in
    let rs : Routines = routines_of c.args.callees.now c.args.procedures.now in
    let names : List Name = names_view c.args.names.now in
    let ys : List Formal = c.deref-3.result.now in
    let here : c.deref-2.result.now ≡ p.formals.items = search rules in
    let there : c.deref.result.now ≡ p.formals.items = search rules in
    let cells : c.in_ok-take_formals.ensures.taken.formals ≡ ys = search rules in
    let stand : StandForFormals (map local_view p.formals.items) ys = subst (λ zs. StandForFormals (map local_view p.formals.items) zs) cells (subst (λ xs. StandForFormals (map local_view xs) c.in_ok-take_formals.ensures.taken.formals) there c.in_ok-take_formals.ensures.taken.stand) in
    let none : left_out_formals (map local_view p.formals.items) ≡ None = subst (λ xs. left_out_formals (map local_view xs) ≡ None) there c.in_ok-take_formals.ensures.whole in
    let made : IsFault (left_out_proc_body rs (behind_formals (map local_view p.formals.items) ys names) (map local_view p.locals.items) (body_of p.body.items)) c.in_formals.new.draft c.in_err-in_formals.field-0.0 =
    subst (λ xs. IsFault (left_out_proc_body rs (behind_formals (map local_view xs) ys names) (map local_view p.locals.items) (body_of p.body.items)) c.in_formals.new.draft c.in_err-in_formals.field-0.0) here
    (subst (λ gs. IsFault (left_out_proc_body gs (behind_formals (map local_view c.deref-2.result.now) ys names) (map local_view p.locals.items) (body_of p.body.items)) c.in_formals.new.draft c.in_err-in_formals.field-0.0) c.outermost.ensures.routines
    (subst (λ ns. IsFault (left_out_proc_body (called c.outermost.result) (behind_formals (map local_view c.deref-2.result.now) ys ns) (map local_view p.locals.items) (body_of p.body.items)) c.in_formals.new.draft c.in_err-in_formals.field-0.0) c.outermost.ensures.names c.in_err-in_formals.ensures.fault)) in
    let same : c.from_residual-in_err-in_formals.result ≡ Err c.in_err-in_formals.field-0.0 = search rules in
    subst (λ r. IfErr r (IsFaultOfProc c.args.names.now c.args.callees.now c.args.procedures.now (proc_view p) c.in_formals.new.draft)) (sym same)
    (subst (λ o. IsFault o c.in_formals.new.draft c.in_err-in_formals.field-0.0) (sym (proc_open rs names (proc_view p) ys none stand)) made)
