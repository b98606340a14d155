use Rattle.std.proofs.Common.{◌<◌, Bool, List, subst, sym}
use Rattle.cal_model.specs.Actor.{Proc}
use Rattle.cal_model.specs.View.{actor_of, proc_view}
use Rattle.lower_base.specs.Names.{Name}
use Rattle.lower_base.specs.Callees.{functions_view}
use Rattle.lower_stmt.specs.Procedures.{procedures_view}
use Rattle.action_lower.specs.FiringCode.{globals_of}
use Rattle.lower_actor.specs.Calls.{unmade}
use Rattle.lower_actor.specs.Drafted.{AddsProcedure}
use Rattle.lower_actor.proofs.Chosen.{fewer-unmade, procedure-taken, item-is, marked-low}
use Rattle.lower_actor.proofs.procedures.lower_at.Goals as goal

pub returns-clause-so_far : goal.returns-clause-so_far
returns-clause-so_far c =
    let at = c.requires.ready.at in
    let actor = actor_of c.args.b.now in
    let fs = functions_view c.args.callees.now in
    let before = procedures_view c.args.procedures.now.items in
    let now = procedures_view c.add_procedure.new.procedures.items in
    let named : AddsProcedure (globals_of actor) fs (proc_view c.index.result.now) before now c.args.draft.now c.add_procedure.new.draft =
    subst (λ (names : List Name). AddsProcedure names fs (proc_view c.index.result.now) before now c.args.draft.now c.add_procedure.new.draft) c.requires.names c.in_ok-add_procedure.ensures.added in
    let one : AddsProcedure (globals_of actor) fs at.procedure before now c.args.draft.now c.add_procedure.new.draft =
    subst (λ (x : Proc). AddsProcedure (globals_of actor) fs x before now c.args.draft.now c.add_procedure.new.draft) (item-is proc_view c.args.b.now.procs.items c.args.k c.index.result.now at.procedure at.there c.index.ensures) named in
    procedure-taken actor c.requires.sound fs before now c.args.made.now.items c.mark.new.made.items c.args.k at.procedure c.args.draft.now c.add_procedure.new.draft c.requires.so_far c.mark.ensures at.there at.whole one

pub returns-clause-fewer : goal.returns-clause-fewer
returns-clause-fewer c =
    let at = c.requires.ready.at in
    subst (λ (bs : List Bool). unmade bs < unmade c.args.made.now.items) (sym c.mark.ensures)
    (fewer-unmade c.args.made.now.items c.args.k (marked-low (actor_of c.args.b.now).procs c.args.made.now.items c.args.k at.procedure at.there c.requires.so_far.known.count) c.requires.ready.not_yet)
