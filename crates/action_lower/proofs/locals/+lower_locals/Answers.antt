use Rattle.std.proofs.Common.{◌≡◌, ◌∷◌, [], List, None, length, map, rules, subst, sym}
use Rattle.std.specs.Prelude.{IfErr, OnOk}
use Rattle.std.proofs.lemmas.Result.{on_ok_weaker}
use Rattle.cal_model.specs.Actor.{Local}
use Rattle.cal_model.specs.View.{local_view}
use Rattle.lower_base.specs.Callees.{Function, functions_view}
use Rattle.lower_base.specs.Growing.{IsFault}
use Rattle.lower_base.specs.Lowered.{Adds}
use Rattle.lower_base.specs.Names.{Name, names_view}
use Rattle.lower_base.proofs.Adding.{no_items}
use Rattle.action_lower.specs.LocalCode.{AreStarted, left_out_locals}
use Rattle.action_lower.specs.LocalWords.{IsInFront}
use Rattle.action_lower.proofs.AddingLocals.{locals_add, locals_open, none_adds}
use Rattle.action_lower.proofs.locals.+lower_locals.Goals as goal

pub returns-in_default-clause-code : goal.returns-in_default-clause-code
returns-in_default-clause-code t c =
    let none : length c.args.locals.now ≡ 0 = search rules in
    let names : List Name = names_view c.args.names.now.items in
    subst (λ xs. Adds (AreStarted (functions_view c.args.callees.now) names (map local_view xs) names) c.args.draft.now c.args.draft.now) (sym (no_items c.args.locals.now none))
    (none_adds (functions_view c.args.callees.now) names c.args.draft.now)

pub returns-clause-code : goal.returns-clause-code
returns-clause-code t c =
    let fs : List Function = functions_view c.args.callees.now in
    let names : List Name = names_view c.args.names.now.items in
    let mid : List Name = names_view c.lower_local.new.names.items in
    let x : Local = local_view c.in-Some.first.now in
    let opened : map local_view c.args.locals.now ≡ x ∷ map local_view c.in-Some.rest.now = search rules in
    on_ok_weaker c.lower_locals.result
    (λ h. subst (λ xs. Adds (AreStarted fs names xs (names_view c.lower_locals.new.names.items)) c.args.draft.now c.lower_locals.new.draft) (sym opened)
    (locals_add fs names mid (names_view c.lower_locals.new.names.items) (x ∷ []) (map local_view c.in-Some.rest.now) c.args.draft.now c.lower_local.new.draft c.lower_locals.new.draft c.in_ok-lower_local.ensures.code h))
    c.lower_locals.ensures.code

pub returns-clause-whole : goal.returns-clause-whole
returns-clause-whole t c =
    let fs : List Function = functions_view c.args.callees.now in
    let names : List Name = names_view c.args.names.now.items in
    let x : Local = local_view c.in-Some.first.now in
    let opened : map local_view c.args.locals.now ≡ x ∷ map local_view c.in-Some.rest.now = search rules in
    let front : IsInFront c.in-Some.first.now c.args.names.now.items c.lower_local.new.names.items = c.in_ok-lower_local.ensures.front in
    let same : left_out_locals fs names (x ∷ map local_view c.in-Some.rest.now) ≡ left_out_locals fs (names_view c.lower_local.new.names.items) (map local_view c.in-Some.rest.now) =
    locals_open fs names (names_view c.lower_local.new.names.items) x (map local_view c.in-Some.rest.now) front.0 front.1 c.in_ok-lower_local.ensures.whole in
    subst (λ xs. OnOk c.lower_locals.result (left_out_locals fs names xs ≡ None)) (sym opened)
    (subst (λ o. OnOk c.lower_locals.result (o ≡ None)) (sym same) c.lower_locals.ensures.whole)

pub returns-clause-fault : goal.returns-clause-fault
returns-clause-fault t c =
    let fs : List Function = functions_view c.args.callees.now in
    let names : List Name = names_view c.args.names.now.items in
    let x : Local = local_view c.in-Some.first.now in
    let opened : map local_view c.args.locals.now ≡ x ∷ map local_view c.in-Some.rest.now = search rules in
    let front : IsInFront c.in-Some.first.now c.args.names.now.items c.lower_local.new.names.items = c.in_ok-lower_local.ensures.front in
    let same : left_out_locals fs names (x ∷ map local_view c.in-Some.rest.now) ≡ left_out_locals fs (names_view c.lower_local.new.names.items) (map local_view c.in-Some.rest.now) =
    locals_open fs names (names_view c.lower_local.new.names.items) x (map local_view c.in-Some.rest.now) front.0 front.1 c.in_ok-lower_local.ensures.whole in
    subst (λ xs. IfErr c.lower_locals.result (IsFault (left_out_locals fs names xs) c.lower_locals.new.draft)) (sym opened)
    (subst (λ o. IfErr c.lower_locals.result (IsFault o c.lower_locals.new.draft)) (sym same) c.lower_locals.ensures.fault)
