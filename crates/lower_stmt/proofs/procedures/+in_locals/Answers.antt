use Rattle.std.proofs.Common.{◌≡◌, ◌∷◌, None, map, rules, subst, sym}
use Rattle.std.specs.Prelude.{IfErr, OnOk}
use Rattle.std.proofs.lemmas.Result.{on_ok_weaker}
use Rattle.cal_model.specs.Actor.{Local}
use Rattle.cal_model.specs.View.{local_view}
use Rattle.lower_base.specs.declared.scope.Frame as chain
use Rattle.lower_base.specs.Growing.{IsFault}
use Rattle.lower_base.specs.Lowered.{Adds}
use Rattle.lower_stmt.specs.ListStarting.{local_of}
use Rattle.lower_stmt.specs.Proceeding.{IsProcBody, left_out_proc_body}
use Rattle.lower_stmt.specs.StmtWords.{body_of}
use Rattle.lower_stmt.specs.StmtSeen.{called, seen}
use Rattle.lower_stmt.proofs.AddingProcs.{proc_local_adds, proc_local_open}
use Rattle.lower_stmt.proofs.procedures.+in_locals.Goals as goal

pub returns-clause-ok : goal.returns-clause-ok
returns-clause-ok t c =
    let x : Local = local_view c.in-Some.first.now in
    let opened : map local_view c.args.locals.now ≡ x ∷ map local_view c.in-Some.rest.now = search rules in
    let inner : seen c.under-inner.result ≡ local_of x.name x.shape c.in_ok-cell.cell ∷ seen c.args.scope.now = search (rules, chain.the_lemmas) in
    on_ok_weaker c.in_locals.result
    (λ h. subst (λ xs. Adds (IsProcBody (called c.args.scope.now) (body_of c.args.p.now.body.items) (seen c.args.scope.now) xs) c.args.draft.now c.in_locals.new.draft) (sym opened)
    (proc_local_adds (seen c.args.scope.now) (body_of c.args.p.now.body.items) x (map local_view c.in-Some.rest.now) c.in_ok-cell.cell c.args.draft.now c.start_local.new.draft c.in_locals.new.draft c.in_ok-cell.ensures.cell c.in_ok-cell.ensures.ok
    (subst (λ fs. Adds (IsProcBody fs (body_of c.args.p.now.body.items) (local_of x.name x.shape c.in_ok-cell.cell ∷ seen c.args.scope.now) (map local_view c.in-Some.rest.now)) c.start_local.new.draft c.in_locals.new.draft) c.under-inner.ensures.callees
    (subst (λ ns. Adds (IsProcBody (called c.under-inner.result) (body_of c.args.p.now.body.items) ns (map local_view c.in-Some.rest.now)) c.start_local.new.draft c.in_locals.new.draft) inner h))))
    c.in_locals.ensures.ok

pub returns-clause-whole : goal.returns-clause-whole
returns-clause-whole t c =
    let x : Local = local_view c.in-Some.first.now in
    let opened : map local_view c.args.locals.now ≡ x ∷ map local_view c.in-Some.rest.now = search rules in
    let inner : seen c.under-inner.result ≡ local_of x.name x.shape c.in_ok-cell.cell ∷ seen c.args.scope.now = search (rules, chain.the_lemmas) in
    let same : left_out_proc_body (called c.args.scope.now) (seen c.args.scope.now) (x ∷ map local_view c.in-Some.rest.now) (body_of c.args.p.now.body.items)
    ≡ left_out_proc_body (called c.args.scope.now) (local_of x.name x.shape c.in_ok-cell.cell ∷ seen c.args.scope.now) (map local_view c.in-Some.rest.now) (body_of c.args.p.now.body.items) =
    proc_local_open (called c.args.scope.now) (seen c.args.scope.now) x (map local_view c.in-Some.rest.now) (body_of c.args.p.now.body.items) c.in_ok-cell.cell c.in_ok-cell.ensures.whole in
    subst (λ xs. OnOk c.in_locals.result (left_out_proc_body (called c.args.scope.now) (seen c.args.scope.now) xs (body_of c.args.p.now.body.items) ≡ None)) (sym opened)
    (subst (λ o. OnOk c.in_locals.result (o ≡ None)) (sym same)
    (subst (λ fs. OnOk c.in_locals.result (left_out_proc_body fs (local_of x.name x.shape c.in_ok-cell.cell ∷ seen c.args.scope.now) (map local_view c.in-Some.rest.now) (body_of c.args.p.now.body.items) ≡ None)) c.under-inner.ensures.callees
    (subst (λ ns. OnOk c.in_locals.result (left_out_proc_body (called c.under-inner.result) ns (map local_view c.in-Some.rest.now) (body_of c.args.p.now.body.items) ≡ None)) inner c.in_locals.ensures.whole)))

pub returns-clause-fault : goal.returns-clause-fault
returns-clause-fault t c =
    let x : Local = local_view c.in-Some.first.now in
    let opened : map local_view c.args.locals.now ≡ x ∷ map local_view c.in-Some.rest.now = search rules in
    let inner : seen c.under-inner.result ≡ local_of x.name x.shape c.in_ok-cell.cell ∷ seen c.args.scope.now = search (rules, chain.the_lemmas) in
    let same : left_out_proc_body (called c.args.scope.now) (seen c.args.scope.now) (x ∷ map local_view c.in-Some.rest.now) (body_of c.args.p.now.body.items)
    ≡ left_out_proc_body (called c.args.scope.now) (local_of x.name x.shape c.in_ok-cell.cell ∷ seen c.args.scope.now) (map local_view c.in-Some.rest.now) (body_of c.args.p.now.body.items) =
    proc_local_open (called c.args.scope.now) (seen c.args.scope.now) x (map local_view c.in-Some.rest.now) (body_of c.args.p.now.body.items) c.in_ok-cell.cell c.in_ok-cell.ensures.whole in
    subst (λ xs. IfErr c.in_locals.result (IsFault (left_out_proc_body (called c.args.scope.now) (seen c.args.scope.now) xs (body_of c.args.p.now.body.items)) c.in_locals.new.draft)) (sym opened)
    (subst (λ o. IfErr c.in_locals.result (IsFault o c.in_locals.new.draft)) (sym same)
    (subst (λ fs. IfErr c.in_locals.result (IsFault (left_out_proc_body fs (local_of x.name x.shape c.in_ok-cell.cell ∷ seen c.args.scope.now) (map local_view c.in-Some.rest.now) (body_of c.args.p.now.body.items)) c.in_locals.new.draft)) c.under-inner.ensures.callees
    (subst (λ ns. IfErr c.in_locals.result (IsFault (left_out_proc_body (called c.under-inner.result) ns (map local_view c.in-Some.rest.now) (body_of c.args.p.now.body.items)) c.in_locals.new.draft)) inner c.in_locals.ensures.fault)))
