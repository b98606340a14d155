use Rattle.std.specs.Prelude.{OnOk}
use Rattle.std.proofs.Common.{◌≡◌, ◌∙◌, None, ap, arith, map, subst, sym}
use Rattle.std.proofs.lemmas.Result.{IfErr-weaker, IfOk-weaker}
use Rattle.cal_ast.specs.View.{expr_tree}
use Rattle.cal_model.specs.View.{action_view, actor_of}
use Rattle.lower_base.specs.Callees.{functions_view}
use Rattle.lower_base.specs.Growing.{IsFault}
use Rattle.lower_base.specs.Held.{AreBelow}
use Rattle.lower_base.specs.Names.{names_view}
use Rattle.lower_base.specs.Lowered.{Adds}
use Rattle.action_lower.specs.GuardWords.{AddsGuards, AnswerAsGuards, left_out_action, left_out_guards}
use Rattle.action_lower.specs.Guarding.{AreGuards}
use Rattle.action_lower.specs.Seats.{seen_seats}
use Rattle.action_lower.proofs.ActionAt.{adds-guards, few-taken, is-action, left-out}
use Rattle.action_lower.proofs.Answering.{answer-as-guards}
use Rattle.action_lower.proofs.BelowState.{seen-below}
use Rattle.action_lower.proofs.guards.lower_guards.Goals as goal

pub seen_names-requires-clause-action : goal.seen_names-requires-clause-action
seen_names-requires-clause-action c = is-action c.args.b.now c.args.a c.from.result c.index-act.result.now c.from.ensures c.requires.action c.index-act.ensures c.requires.sound

pub seen_names-requires-clause-few : goal.seen_names-requires-clause-few
seen_names-requires-clause-few c = few-taken c.args.b.now c.args.a c.from.result c.index-act.result.now c.from.ensures c.requires.action c.index-act.ensures c.requires.sound

pub put_guards-requires : goal.put_guards-requires
put_guards-requires c =
    let names : names_view c.deref.result.now ≡ seen_seats (actor_of c.args.b.now) (action_view c.index-act.result.now) = ap names_view c.deref.ensures.value ∙ c.in_ok-names.ensures in
    record {
      below = subst (AreBelow c.args.draft.now.cells) (sym names) (seen-below c.args.draft.now.cells (actor_of c.args.b.now) (action_view c.index-act.result.now) c.requires.cells);
      clears = λ kept e. let same = c.requires.clears kept e in let le = c.requires.cells in omega (arith, same, le);
    }

pub returns-clause-code : goal.returns-clause-code
returns-clause-code c =
    let names : names_view c.deref.result.now ≡ seen_seats (actor_of c.args.b.now) (action_view c.index-act.result.now) = ap names_view c.deref.ensures.value ∙ c.in_ok-names.ensures in
    let guards : map expr_tree c.deref-2.result.now ≡ (action_view c.index-act.result.now).guards = ap (map expr_tree) c.deref-2.ensures.value in
    IfOk-weaker c.put_guards.result
    (λ entries. Adds (AreGuards c.args.clears (functions_view c.args.callees.now) (names_view c.deref.result.now) (map expr_tree c.deref-2.result.now) entries.items) c.args.draft.now c.put_guards.new.draft)
    (λ entries. AddsGuards c.args.clears (functions_view c.args.callees.now) (actor_of c.args.b.now) c.args.a entries.items c.args.draft.now c.put_guards.new.draft)
    (λ entries. adds-guards c.args.b.now c.args.a c.from.result c.index-act.result.now c.from.ensures c.requires.action c.index-act.ensures
    (functions_view c.args.callees.now) (names_view c.deref.result.now) (map expr_tree c.deref-2.result.now) names guards c.args.clears entries.items c.args.draft.now c.put_guards.new.draft)
    c.put_guards.ensures.code

pub returns-clause-answers : goal.returns-clause-answers
returns-clause-answers c =
    let names : names_view c.deref.result.now ≡ seen_seats (actor_of c.args.b.now) (action_view c.index-act.result.now) = ap names_view c.deref.ensures.value ∙ c.in_ok-names.ensures in
    let guards : map expr_tree c.deref-2.result.now ≡ (action_view c.index-act.result.now).guards = ap (map expr_tree) c.deref-2.ensures.value in
    IfOk-weaker c.put_guards.result
    (λ entries. Adds (AreGuards c.args.clears (functions_view c.args.callees.now) (names_view c.deref.result.now) (map expr_tree c.deref-2.result.now) entries.items) c.args.draft.now c.put_guards.new.draft)
    (λ entries. AnswerAsGuards (functions_view c.args.callees.now) (actor_of c.args.b.now) c.args.a entries.items c.args.draft.now c.put_guards.new.draft)
    (λ entries added act code more is whole. answer-as-guards c.actions_fire_or_trap.ensures.guards (functions_view c.args.callees.now) (actor_of c.args.b.now) c.args.a act code entries.items more c.args.draft.now c.put_guards.new.draft c.requires.sound is c.requires.cells c.args.clears c.requires.clears
    (adds-guards c.args.b.now c.args.a c.from.result c.index-act.result.now c.from.ensures c.requires.action c.index-act.ensures
    (functions_view c.args.callees.now) (names_view c.deref.result.now) (map expr_tree c.deref-2.result.now) names guards c.args.clears entries.items c.args.draft.now c.put_guards.new.draft added act is) whole)
    c.put_guards.ensures.code

pub returns-clause-whole : goal.returns-clause-whole
returns-clause-whole c =
    let names : names_view c.deref.result.now ≡ seen_seats (actor_of c.args.b.now) (action_view c.index-act.result.now) = ap names_view c.deref.ensures.value ∙ c.in_ok-names.ensures in
    let guards : map expr_tree c.deref-2.result.now ≡ (action_view c.index-act.result.now).guards = ap (map expr_tree) c.deref-2.ensures.value in
    let e = left-out c.args.b.now c.args.a c.from.result c.index-act.result.now c.from.ensures c.requires.action c.index-act.ensures
    (functions_view c.args.callees.now) (names_view c.deref.result.now) (map expr_tree c.deref-2.result.now) names guards in
    subst (λ o. OnOk c.put_guards.result (o ≡ None)) (sym e) c.put_guards.ensures.whole

pub returns-clause-fault : goal.returns-clause-fault
returns-clause-fault c =
    let names : names_view c.deref.result.now ≡ seen_seats (actor_of c.args.b.now) (action_view c.index-act.result.now) = ap names_view c.deref.ensures.value ∙ c.in_ok-names.ensures in
    let guards : map expr_tree c.deref-2.result.now ≡ (action_view c.index-act.result.now).guards = ap (map expr_tree) c.deref-2.ensures.value in
    let e = left-out c.args.b.now c.args.a c.from.result c.index-act.result.now c.from.ensures c.requires.action c.index-act.ensures
    (functions_view c.args.callees.now) (names_view c.deref.result.now) (map expr_tree c.deref-2.result.now) names guards in
    IfErr-weaker c.put_guards.result (IsFault (left_out_guards (functions_view c.args.callees.now) (names_view c.deref.result.now) (map expr_tree c.deref-2.result.now)) c.put_guards.new.draft) (IsFault (left_out_action (functions_view c.args.callees.now) (actor_of c.args.b.now) c.args.a) c.put_guards.new.draft) (λ fault h. subst (λ o. IsFault o c.put_guards.new.draft fault) (sym e) h) c.put_guards.ensures.fault
