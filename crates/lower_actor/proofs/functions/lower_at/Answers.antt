use Rattle.std.proofs.Common.{◌<◌, Bool, List, subst, sym}
use Rattle.cal_model.specs.Actor.{Fun}
use Rattle.cal_model.specs.View.{actor_of, fun_view}
use Rattle.lower_base.specs.Names.{Name}
use Rattle.lower_base.specs.Callees.{functions_view}
use Rattle.action_lower.specs.FiringCode.{globals_of}
use Rattle.lower_actor.specs.Calls.{unmade}
use Rattle.lower_actor.specs.Drafted.{AddsFunction}
use Rattle.lower_actor.proofs.Chosen.{fewer-unmade, function-taken, item-is, marked-low}
use Rattle.lower_actor.proofs.functions.lower_at.Goals as goal

pub returns-clause-so_far : goal.returns-clause-so_far
returns-clause-so_far c =
    let at = c.requires.ready.at in
    let actor = actor_of c.args.b.now in
    let before = functions_view c.args.callees.now.items in
    let now = functions_view c.add_function.new.callees.items in
    let named : AddsFunction (globals_of actor) (fun_view c.index.result.now) before now c.args.draft.now c.add_function.new.draft =
    subst (λ (names : List Name). AddsFunction names (fun_view c.index.result.now) before now c.args.draft.now c.add_function.new.draft) c.requires.names c.in_ok-add_function.ensures.added in
    let one : AddsFunction (globals_of actor) at.function before now c.args.draft.now c.add_function.new.draft =
    subst (λ (x : Fun). AddsFunction (globals_of actor) x before now c.args.draft.now c.add_function.new.draft) (item-is fun_view c.args.b.now.funs.items c.args.k c.index.result.now at.function at.there c.index.ensures) named in
    function-taken actor c.requires.sound before now c.args.made.now.items c.mark.new.made.items c.args.k at.function c.args.draft.now c.add_function.new.draft c.requires.so_far c.mark.ensures at.there at.whole one

pub returns-clause-fewer : goal.returns-clause-fewer
returns-clause-fewer c =
    let at = c.requires.ready.at in
    subst (λ (bs : List Bool). unmade bs < unmade c.args.made.now.items) (sym c.mark.ensures)
    (fewer-unmade c.args.made.now.items c.args.k (marked-low (actor_of c.args.b.now).funs c.args.made.now.items c.args.k at.function at.there c.requires.so_far.known.count) c.requires.ready.not_yet)
