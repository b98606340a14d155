use Rattle.std.proofs.Common.{◌≡◌, ◌∙◌, Err, List, ap, map, rules, subst, sym}
use Rattle.std.specs.Prelude.{IfErr}
use Rattle.cal_model.specs.Actor.{Port}
use Rattle.cal_model.specs.View.{action_view, actor_of, port_view}
use Rattle.lower_base.specs.Held.{AreBelow}
use Rattle.lower_base.specs.Names.{Name, names_view}
use Rattle.lower_stmt.specs.Changing.{AreTyped}
use Rattle.lower_stmt.specs.Procedures.{Routines, routines_of}
use Rattle.action_lower.specs.FiringWords.{AddsFiring, left_out_of}
use Rattle.action_lower.specs.Seats.{seen_seats}
use Rattle.action_lower.specs.SendWords.{IsSendFault}
use Rattle.action_lower.proofs.ActionAt.{few-taken, is-action}
use Rattle.action_lower.proofs.BelowState.{seen-below}
use Rattle.action_lower.proofs.FiringAt.{act_few, act_sized, adds_fired, adds_firing, left_is, seen_typed}
use Rattle.action_lower.proofs.firing.lower_firing.Goals as goal

pub seen_names-requires-clause-action : goal.seen_names-requires-clause-action
seen_names-requires-clause-action c = is-action c.args.b.now c.args.a c.from.result c.index-act.result.now c.from.ensures c.requires.action c.index-act.ensures c.requires.sound

pub seen_names-requires-clause-few : goal.seen_names-requires-clause-few
seen_names-requires-clause-few c = few-taken c.args.b.now c.args.a c.from.result c.index-act.result.now c.from.ensures c.requires.action c.index-act.ensures c.requires.sound

pub put_firing-requires : goal.put_firing-requires
put_firing-requires c =
    let names : names_view c.in_ok-names.names.items ≡ seen_seats (actor_of c.args.b.now) (action_view c.index-act.result.now) = c.in_ok-names.ensures in
    record {
      below = subst (AreBelow c.args.draft.now.cells) (sym names) (seen-below c.args.draft.now.cells (actor_of c.args.b.now) (action_view c.index-act.result.now) c.requires.cells);
      typed = subst AreTyped (sym names) (seen_typed c.args.b.now c.args.a c.from.result c.index-act.result.now c.from.ensures c.requires.action c.index-act.ensures c.requires.sound (routines_of c.args.callees.now c.args.procedures.now));
      sized = act_sized c.args.b.now c.args.a c.from.result c.index-act.result.now c.from.ensures c.requires.action c.index-act.ensures c.requires.sound;
      few = act_few c.args.b.now c.args.a c.from.result c.index-act.result.now c.from.ensures c.requires.action c.index-act.ensures c.requires.sound;
    }

pub returns-clause-code : goal.returns-clause-code
returns-clause-code c =
    let rs : Routines = routines_of c.args.callees.now c.args.procedures.now in
    let names : List Name = names_view c.in_ok-names.names.items in
    let seen : names ≡ seen_seats (actor_of c.args.b.now) (action_view c.index-act.result.now) = c.in_ok-names.ensures in
    let ports : List Port = map port_view c.deref.result.now in
    let outs : ports ≡ (actor_of c.args.b.now).outs = ap (map port_view) c.deref.ensures.value in
    let added : AddsFiring rs (actor_of c.args.b.now) c.args.a c.in_ok-entry.entry c.in_ok-firsts.firsts.items c.args.draft.now c.put_firing.new.draft =
    adds_firing c.args.b.now c.args.a c.from.result c.index-act.result.now c.from.ensures c.requires.action c.index-act.ensures c.requires.sound
    rs names ports c.in_ok-entry.entry c.in_ok-firsts.firsts.items c.args.draft.now c.put_firing.new.draft seen outs c.in_ok-entry.ensures.place c.in_ok-firsts.ensures.code in
    added

pub returns-clause-fired : goal.returns-clause-fired
returns-clause-fired c =
    let rs : Routines = routines_of c.args.callees.now c.args.procedures.now in
    let names : List Name = names_view c.in_ok-names.names.items in
    let seen : names ≡ seen_seats (actor_of c.args.b.now) (action_view c.index-act.result.now) = c.in_ok-names.ensures in
    let ports : List Port = map port_view c.deref.result.now in
    let outs : ports ≡ (actor_of c.args.b.now).outs = ap (map port_view) c.deref.ensures.value in
    let added : AddsFiring rs (actor_of c.args.b.now) c.args.a c.in_ok-entry.entry c.in_ok-firsts.firsts.items c.args.draft.now c.put_firing.new.draft =
    adds_firing c.args.b.now c.args.a c.from.result c.index-act.result.now c.from.ensures c.requires.action c.index-act.ensures c.requires.sound
    rs names ports c.in_ok-entry.entry c.in_ok-firsts.firsts.items c.args.draft.now c.put_firing.new.draft seen outs c.in_ok-entry.ensures.place c.in_ok-firsts.ensures.code in
    adds_fired c.firings_are_fired.ensures rs (actor_of c.args.b.now) c.args.a c.in_ok-entry.entry c.in_ok-firsts.firsts.items c.args.draft.now c.put_firing.new.draft c.requires.sound added

pub returns-clause-whole : goal.returns-clause-whole
returns-clause-whole c =
    let rs : Routines = routines_of c.args.callees.now c.args.procedures.now in
    let names : List Name = names_view c.in_ok-names.names.items in
    let seen : names ≡ seen_seats (actor_of c.args.b.now) (action_view c.index-act.result.now) = c.in_ok-names.ensures in
    left_is c.args.b.now c.args.a c.from.result c.index-act.result.now c.from.ensures c.requires.action c.index-act.ensures c.requires.sound rs names seen ∙ c.in_ok-firsts.ensures.whole

pub returns-in_err-firsts-clause-fault : goal.returns-in_err-firsts-clause-fault
returns-in_err-firsts-clause-fault c =
    let rs : Routines = routines_of c.args.callees.now c.args.procedures.now in
    let names : List Name = names_view c.in_ok-names.names.items in
    let seen : names ≡ seen_seats (actor_of c.args.b.now) (action_view c.index-act.result.now) = c.in_ok-names.ensures in
    let made : IsSendFault (left_out_of rs c.args.b.now c.args.a) c.put_firing.new.draft c.in_err-firsts.field-0.0 = subst (λ o. IsSendFault o c.put_firing.new.draft c.in_err-firsts.field-0.0)
    (sym (left_is c.args.b.now c.args.a c.from.result c.index-act.result.now c.from.ensures c.requires.action c.index-act.ensures c.requires.sound rs names seen)) c.in_err-firsts.ensures.fault in
    let same : c.from_residual-in_err-firsts.result ≡ Err c.in_err-firsts.field-0.0 = search rules in
    subst (λ r. IfErr r (IsSendFault (left_out_of rs c.args.b.now c.args.a) c.put_firing.new.draft)) (sym same) made
