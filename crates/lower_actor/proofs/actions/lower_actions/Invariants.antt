use Rattle.cal_model.specs.View.{actor_of}
use Rattle.lower_base.specs.Callees.{functions_view}
use Rattle.lower_stmt.specs.Procedures.{routines_of}
use Rattle.lower_actor.specs.ClearedBodies.{ClearsActions}
use Rattle.lower_actor.specs.Coded.{AddsBodies, AreCodedActions, IsMore, all_entries}
use Rattle.lower_actor.specs.Drafted.{IsServed}
use Rattle.lower_actor.specs.Faults.{AreWhole}
use Rattle.lower_actor.proofs.actions.lower_actions.Given as goal

abbrev pub invariant-loop-action : goal.invariant-loop-action
invariant-loop-action l = AreCodedActions (actor_of l.b) l.action l.actions.items l.draft
    × IsServed (actor_of l.b) (routines_of l.callees l.procedures) l.draft
    × IsMore l.initial.draft l.draft
    × AddsBodies (all_entries l.actions.items) l.initial.draft l.draft
    × AreWhole (routines_of l.callees l.procedures) l.b l.action
    × ClearsActions l.clear (actor_of l.b) (functions_view l.callees) l.initial.draft.cells l.actions.items l.draft
