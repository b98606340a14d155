use Rattle.std.proofs.Common.{◌≡◌, ◌∷◌, [], List, None, rules, subst, sym}
use Rattle.std.proofs.lemmas.Result.{on_ok_weaker}
use Rattle.cal_model.specs.Actor.{Local}
use Rattle.cal_model.specs.View.{local_view}
use Rattle.lower_base.specs.Callees.{Function, functions_view}
use Rattle.lower_base.specs.Lowered.{Adds}
use Rattle.lower_base.specs.Names.{Name, names_view}
use Rattle.lower_base.specs.Seen.{called, seen}
use Rattle.lower_stmt.specs.ListStarting.{StartsLocal, left_out_local}
use Rattle.action_lower.specs.LocalCode.{AreStarted}
use Rattle.action_lower.proofs.AddingLocals.{local_adds}
use Rattle.action_lower.proofs.locals.lower_local.Goals as goal

pub returns-clause-code : goal.returns-clause-code
returns-clause-code c =
    let fs : List Function = functions_view c.args.callees.now in
    let names : List Name = names_view c.args.names.now.items in
    let x : Local = local_view c.args.x.now in
    let there : seen c.outermost.result ≡ names = search rules in
    let first : Adds (StartsLocal fs names x) c.args.draft.now c.start_local.new.draft =
    subst (λ gs. Adds (StartsLocal gs names x) c.args.draft.now c.start_local.new.draft) c.outermost.ensures.callees
    (subst (λ ns. Adds (StartsLocal (called c.outermost.result) ns x) c.args.draft.now c.start_local.new.draft) there c.in_ok-cell.ensures.ok) in
    on_ok_weaker c.put_front.result
    (λ front. subst (λ ns. Adds (AreStarted fs names (x ∷ []) ns) c.args.draft.now c.start_local.new.draft) (sym front)
    (local_adds fs names x c.in_ok-cell.cell c.args.draft.now c.start_local.new.draft c.in_ok-cell.ensures.cell first))
    c.put_front.ensures.front

pub returns-clause-front : goal.returns-clause-front
returns-clause-front c = on_ok_weaker c.put_front.result (λ front. (c.in_ok-cell.cell, front)) c.put_front.ensures.front

pub returns-clause-whole : goal.returns-clause-whole
returns-clause-whole c =
    let fs : List Function = functions_view c.args.callees.now in
    let names : List Name = names_view c.args.names.now.items in
    let x : Local = local_view c.args.x.now in
    let there : seen c.outermost.result ≡ names = search rules in
    let none : left_out_local fs names x ≡ None =
    subst (λ gs. left_out_local gs names x ≡ None) c.outermost.ensures.callees
    (subst (λ ns. left_out_local (called c.outermost.result) ns x ≡ None) there c.in_ok-cell.ensures.whole) in
    on_ok_weaker c.put_front.result (λ front. none) c.put_front.ensures.front
