use Rattle.std.proofs.Common.{◌≡◌, ◌∙◌, ◌++◌, ◌∷◌, [], ap, arith, Some}
use Rattle.cal_model.specs.View.{actor_of}
use Rattle.lower_base.specs.Callees.{functions_view}
use Rattle.lower_stmt.specs.Procedures.{routines_of}
use Rattle.lower_actor.specs.Coded.{AddsBodies, AnswersFrom, IsMore}
use Rattle.lower_actor.specs.Drafted.{IsServed}
use Rattle.action_lower.specs.Seats.{state_cells}
use Rattle.lower_actor.proofs.ClearedMade.{firing-lower, guards-from, guards-later}
use Rattle.lower_actor.proofs.Extending.{answers-from, answers-more, more-again, served-more}
use Rattle.lower_actor.proofs.Placed.{guards-alone, guards-grown}
use Rattle.lower_actor.proofs.Rowed.{bodies-join}
use Rattle.lower_actor.proofs.actions.lower_entries.Goals as goal

pub lower_guards-requires-clause-cells : goal.lower_guards-requires-clause-cells
lower_guards-requires-clause-cells c = let low = c.requires.served.state in let high = c.requires.served.below in omega (arith, low, high)

pub put_firing-requires-clause-served : goal.put_firing-requires-clause-served
put_firing-requires-clause-served c =
    let more : IsMore c.args.draft.now c.lower_guards.new.draft = guards-grown c.args.b.now c.args.action c.requires.action c.clears_behind-clears.result (functions_view c.args.callees.now) c.in_ok-guards.guards.items c.args.draft.now c.lower_guards.new.draft c.in_ok-guards.ensures.code in
    let served : IsServed (actor_of c.args.b.now) (routines_of c.args.callees.now c.args.procedures.now) c.lower_guards.new.draft =
    served-more (actor_of c.args.b.now) (routines_of c.args.callees.now c.args.procedures.now) c.args.draft.now c.lower_guards.new.draft more c.requires.served in
    served

pub returns-clause-more : goal.returns-clause-more
returns-clause-more c =
    let made : IsMore c.args.draft.now c.put_firing.new.draft =
    more-again c.args.draft.now c.lower_guards.new.draft c.put_firing.new.draft
    (guards-grown c.args.b.now c.args.action c.requires.action c.clears_behind-clears.result (functions_view c.args.callees.now) c.in_ok-guards.guards.items c.args.draft.now c.lower_guards.new.draft c.in_ok-guards.ensures.code) c.in_ok-firing.ensures.more in
    made

pub returns-clause-bodies : goal.returns-clause-bodies
returns-clause-bodies c =
    let made : AddsBodies (c.in_ok-guards.guards.items ++ c.in_ok-firing.firing.entry ∷ []) c.args.draft.now c.put_firing.new.draft =
    bodies-join c.in_ok-guards.guards.items (c.in_ok-firing.firing.entry ∷ []) c.args.draft.now c.lower_guards.new.draft c.put_firing.new.draft c.in_ok-firing.ensures.more
    (guards-alone c.args.b.now c.args.action c.requires.action c.clears_behind-clears.result (routines_of c.args.callees.now c.args.procedures.now) c.in_ok-guards.guards.items c.args.draft.now c.lower_guards.new.draft c.requires.served c.in_ok-guards.ensures.code) c.in_ok-firing.ensures.puts.bodies in
    made

pub returns-clause-guards : goal.returns-clause-guards
returns-clause-guards c =
    let more : IsMore c.args.draft.now c.lower_guards.new.draft = guards-grown c.args.b.now c.args.action c.requires.action c.clears_behind-clears.result (functions_view c.args.callees.now) c.in_ok-guards.guards.items c.args.draft.now c.lower_guards.new.draft c.in_ok-guards.ensures.code in
    let made : AnswersFrom (actor_of c.args.b.now) c.args.action c.in_ok-guards.guards.items c.put_firing.new.draft =
    answers-more (actor_of c.args.b.now) c.args.action c.in_ok-guards.guards.items c.lower_guards.new.draft c.put_firing.new.draft c.in_ok-firing.ensures.more
    (answers-from (actor_of c.args.b.now) c.args.action (routines_of c.args.callees.now c.args.procedures.now) c.in_ok-guards.guards.items c.args.draft.now c.lower_guards.new.draft c.requires.sound c.requires.served more c.in_ok-guards.ensures.answers) in
    made

pub lower_guards-requires-clause-clears : goal.lower_guards-requires-clause-clears
lower_guards-requires-clause-clears c = λ kept e. let same = c.clears_behind-clears.ensures.behind kept e in let is = c.requires.kept in omega (arith, same, is)

pub returns-clause-guards_cleared : goal.returns-clause-guards_cleared
returns-clause-guards_cleared c = λ wanted.
    let is : c.clears_behind-clears.result ≡ Some (state_cells (actor_of c.args.b.now)) = c.clears_behind-clears.ensures.some wanted ∙ ap (λ k. Some k) c.requires.kept in
    guards-later (actor_of c.args.b.now) c.args.action (functions_view c.args.callees.now) c.args.draft.now.cells c.in_ok-guards.guards.items c.lower_guards.new.draft c.put_firing.new.draft c.in_ok-firing.ensures.more
    (guards-from c.args.b.now c.args.action c.requires.action (routines_of c.args.callees.now c.args.procedures.now) c.clears_behind-clears.result c.in_ok-guards.guards.items c.args.draft.now c.lower_guards.new.draft
    c.requires.sound is c.requires.served c.in_ok-guards.ensures.code)

pub returns-clause-firing_cleared : goal.returns-clause-firing_cleared
returns-clause-firing_cleared c = λ wanted.
    let more : IsMore c.args.draft.now c.lower_guards.new.draft = guards-grown c.args.b.now c.args.action c.requires.action c.clears_behind-clears.result (functions_view c.args.callees.now) c.in_ok-guards.guards.items c.args.draft.now c.lower_guards.new.draft c.in_ok-guards.ensures.code in
    firing-lower (actor_of c.args.b.now) c.args.action (functions_view c.args.callees.now) c.lower_guards.new.draft.cells c.args.draft.now.cells c.in_ok-firing.firing.entry c.in_ok-firing.firing.firsts.items c.put_firing.new.draft more.cells
    (c.in_ok-firing.ensures.cleared wanted)
