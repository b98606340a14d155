use Rattle.std.proofs.Common.{arith, refl, sym, subst}
use Rattle.trace_text.specs.declared.line.Line.TheVariants.{Budget, Quiet, Stall}
use Rattle.net_model.specs.Ends.{IsBetween, IsStuck}
use Rattle.net_model.specs.Trace.{after_delivery}
use Rattle.net_state.specs.Held.{seen}
use Rattle.net_state.specs.Standing.{StandsIn}
use Rattle.round_runner.specs.declared.outcome.RunEnd.TheVariants as end
use Rattle.network_runner.proofs.Closed.{settled_since}
use Rattle.network_runner.proofs.Spent.{between_going, between_stalled, spent_made, stuck_at}
use Rattle.network_runner.proofs.spending.end_spent.Goals as goal

pub returns-in-Quiet-clause-ends : goal.returns-in-Quiet-clause-ends
returns-in-Quiet-clause-ends g c = λ net s kind budget turn since untrapped wired lawful fed left grow_is.
    let old = seen g.A.Firing.cell c.args.net.now in
    let new = seen g.A.Firing.cell c.outlook.new.self in
    spent_made net s kind budget turn end.Quiet Quiet old new since untrapped left c.outlook.ensures.still c.outlook.ensures.rests c.outlook.ensures.same_actors refl
    (c.in-Quiet.ensures.outlook net (after_delivery net s) since.now wired fed) refl

pub returns-in-Going-clause-ends : goal.returns-in-Going-clause-ends
returns-in-Going-clause-ends g c = λ net s kind budget turn since untrapped wired lawful fed left grow_is.
    let old = seen g.A.Firing.cell c.args.net.now in
    let new = seen g.A.Firing.cell c.outlook.new.self in
    let opened = after_delivery net s in
    let told = c.in-Going.ensures.outlook net opened since.now wired fed in
    spent_made net s kind budget turn end.Budget Budget old new since untrapped left c.outlook.ensures.still c.outlook.ensures.rests c.outlook.ensures.same_actors refl
    (between_going net opened (settled_since net old opened since) turn.grow told.0 told.1) refl

pub returns-then-capacity-grow-clause-ends : goal.returns-then-capacity-grow-clause-ends
returns-then-capacity-grow-clause-ends g c = λ net s kind budget turn since untrapped wired lawful fed left grow_is.
    let old = seen g.A.Firing.cell c.args.net.now in
    let new = seen g.A.Firing.cell c.outlook.new.self in
    let opened = after_delivery net s in
    let stands : StandsIn net new opened = c.outlook.ensures.still.stays net opened since.now in
    let stuck : IsStuck net c.args.grow opened c.in-Stalled.inst.0 c.in-Stalled.action.0 c.in-Stalled.link.0 =
    stuck_at net opened new stands c.args.grow c.in-Stalled.inst.0 c.in-Stalled.action.0 c.in-Stalled.link.0 (c.in-Stalled.ensures.outlook net opened since.now wired fed)
    (omega (arith, c.if-capacity-grow.true, c.capacity.ensures)) in
    spent_made net s kind budget turn (end.Stalled c.in-Stalled.inst c.in-Stalled.action c.in-Stalled.link) (Stall c.in-Stalled.inst.0 c.in-Stalled.action.0 c.in-Stalled.link.0) old new since untrapped left
    c.outlook.ensures.still c.outlook.ensures.rests c.outlook.ensures.same_actors refl
    (subst (λ n. IsStuck net n opened c.in-Stalled.inst.0 c.in-Stalled.action.0 c.in-Stalled.link.0) (sym grow_is) stuck) refl

pub returns-else-capacity-grow-clause-ends : goal.returns-else-capacity-grow-clause-ends
returns-else-capacity-grow-clause-ends g c = λ net s kind budget turn since untrapped wired lawful fed left grow_is.
    let old = seen g.A.Firing.cell c.args.net.now in
    let new = seen g.A.Firing.cell c.outlook.new.self in
    let opened = after_delivery net s in
    let stands : StandsIn net new opened = c.outlook.ensures.still.stays net opened since.now in
    let between : IsBetween net c.args.grow opened =
    between_stalled net opened new stands lawful (settled_since net old opened since) c.args.grow c.in-Stalled.inst.0 c.in-Stalled.action.0 c.in-Stalled.link.0
    (c.in-Stalled.ensures.outlook net opened since.now wired fed) (omega (arith, c.if-capacity-grow.false, c.capacity.ensures)) in
    spent_made net s kind budget turn end.Budget Budget old new since untrapped left c.outlook.ensures.still c.outlook.ensures.rests c.outlook.ensures.same_actors refl
    (subst (λ n. IsBetween net n opened) (sym grow_is) between) refl
