use Rattle.std.proofs.Common.{◌≡◌, ◌∷◌, None, map, rules, subst, sym}
use Rattle.std.specs.Prelude.{IfErr, OnOk}
use Rattle.std.proofs.lemmas.Result.{on_ok_weaker}
use Rattle.cal_ast.specs.View.{expr_tree}
use Rattle.cal_model.specs.Actor.{Local}
use Rattle.cal_model.specs.View.{local_view}
use Rattle.lower_base.specs.declared.scope.Frame as chain
use Rattle.lower_base.specs.Growing.{IsFault}
use Rattle.lower_base.specs.Lowered.{Adds}
use Rattle.lower_base.specs.Names.{local_of}
use Rattle.lower_base.specs.Routining.{IsBody, left_out_body}
use Rattle.lower_base.specs.Seen.{called, seen}
use Rattle.lower_base.proofs.AddingRoutines.{local_open}
use Rattle.expr_lower.proofs.AddingFunctions.{local_adds}
use Rattle.expr_lower.proofs.routines.+in_locals.Goals as goal

pub returns-clause-ok : goal.returns-clause-ok
returns-clause-ok t c =
    let x : Local = local_view c.in-Some.first.now in
    let opened : map local_view c.args.locals.now ≡ x ∷ map local_view c.in-Some.rest.now = search rules in
    let inner : seen c.under-inner.result ≡ local_of x.name x.shape c.in_ok-cell.cell ∷ seen c.args.scope.now = search (rules, chain.the_lemmas) in
    on_ok_weaker c.in_locals.result
    (λ h. subst (λ xs. Adds (IsBody (called c.args.scope.now) c.args.f.now.result (expr_tree c.args.f.now.body) (seen c.args.scope.now) xs) c.args.draft.now c.in_locals.new.draft) (sym opened)
    (local_adds (seen c.args.scope.now) c.args.f.now.result (expr_tree c.args.f.now.body) x (map local_view c.in-Some.rest.now) c.in_ok-cell.cell c.args.draft.now c.start_local.new.draft c.in_locals.new.draft c.in_ok-cell.ensures.cell c.in_ok-cell.ensures.ok
    (subst (λ fs. Adds (IsBody fs c.args.f.now.result (expr_tree c.args.f.now.body) (local_of x.name x.shape c.in_ok-cell.cell ∷ seen c.args.scope.now) (map local_view c.in-Some.rest.now)) c.start_local.new.draft c.in_locals.new.draft) c.under-inner.ensures.callees
    (subst (λ ns. Adds (IsBody (called c.under-inner.result) c.args.f.now.result (expr_tree c.args.f.now.body) ns (map local_view c.in-Some.rest.now)) c.start_local.new.draft c.in_locals.new.draft) inner h))))
    c.in_locals.ensures.ok

pub returns-clause-whole : goal.returns-clause-whole
returns-clause-whole t c =
    let x : Local = local_view c.in-Some.first.now in
    let opened : map local_view c.args.locals.now ≡ x ∷ map local_view c.in-Some.rest.now = search rules in
    let inner : seen c.under-inner.result ≡ local_of x.name x.shape c.in_ok-cell.cell ∷ seen c.args.scope.now = search (rules, chain.the_lemmas) in
    let same : left_out_body (called c.args.scope.now) (seen c.args.scope.now) (x ∷ map local_view c.in-Some.rest.now) (expr_tree c.args.f.now.body)
    ≡ left_out_body (called c.args.scope.now) (local_of x.name x.shape c.in_ok-cell.cell ∷ seen c.args.scope.now) (map local_view c.in-Some.rest.now) (expr_tree c.args.f.now.body) =
    local_open (called c.args.scope.now) (seen c.args.scope.now) x (map local_view c.in-Some.rest.now) (expr_tree c.args.f.now.body) c.in_ok-cell.cell c.in_ok-cell.ensures.whole in
    subst (λ xs. OnOk c.in_locals.result (left_out_body (called c.args.scope.now) (seen c.args.scope.now) xs (expr_tree c.args.f.now.body) ≡ None)) (sym opened)
    (subst (λ o. OnOk c.in_locals.result (o ≡ None)) (sym same)
    (subst (λ fs. OnOk c.in_locals.result (left_out_body fs (local_of x.name x.shape c.in_ok-cell.cell ∷ seen c.args.scope.now) (map local_view c.in-Some.rest.now) (expr_tree c.args.f.now.body) ≡ None)) c.under-inner.ensures.callees
    (subst (λ ns. OnOk c.in_locals.result (left_out_body (called c.under-inner.result) ns (map local_view c.in-Some.rest.now) (expr_tree c.args.f.now.body) ≡ None)) inner c.in_locals.ensures.whole)))

pub returns-clause-fault : goal.returns-clause-fault
returns-clause-fault t c =
    let x : Local = local_view c.in-Some.first.now in
    let opened : map local_view c.args.locals.now ≡ x ∷ map local_view c.in-Some.rest.now = search rules in
    let inner : seen c.under-inner.result ≡ local_of x.name x.shape c.in_ok-cell.cell ∷ seen c.args.scope.now = search (rules, chain.the_lemmas) in
    let same : left_out_body (called c.args.scope.now) (seen c.args.scope.now) (x ∷ map local_view c.in-Some.rest.now) (expr_tree c.args.f.now.body)
    ≡ left_out_body (called c.args.scope.now) (local_of x.name x.shape c.in_ok-cell.cell ∷ seen c.args.scope.now) (map local_view c.in-Some.rest.now) (expr_tree c.args.f.now.body) =
    local_open (called c.args.scope.now) (seen c.args.scope.now) x (map local_view c.in-Some.rest.now) (expr_tree c.args.f.now.body) c.in_ok-cell.cell c.in_ok-cell.ensures.whole in
    subst (λ xs. IfErr c.in_locals.result (IsFault (left_out_body (called c.args.scope.now) (seen c.args.scope.now) xs (expr_tree c.args.f.now.body)) c.in_locals.new.draft)) (sym opened)
    (subst (λ o. IfErr c.in_locals.result (IsFault o c.in_locals.new.draft)) (sym same)
    (subst (λ fs. IfErr c.in_locals.result (IsFault (left_out_body fs (local_of x.name x.shape c.in_ok-cell.cell ∷ seen c.args.scope.now) (map local_view c.in-Some.rest.now) (expr_tree c.args.f.now.body)) c.in_locals.new.draft)) c.under-inner.ensures.callees
    (subst (λ ns. IfErr c.in_locals.result (IsFault (left_out_body (called c.under-inner.result) ns (map local_view c.in-Some.rest.now) (expr_tree c.args.f.now.body)) c.in_locals.new.draft)) inner c.in_locals.ensures.fault)))
