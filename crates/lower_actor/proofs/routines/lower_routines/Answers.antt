use Rattle.std.proofs.Common.{[], ap, subst, sym}
use Rattle.cal_model.specs.View.{actor_of}
use Rattle.lower_base.specs.Callees.{functions_view}
use Rattle.lower_stmt.specs.Procedures.{procedures_view}
use Rattle.lower_actor.specs.Drafted.{HoldsProcedures}
use Rattle.lower_actor.specs.Settled.{AllProcedures, AreProcedures}
use Rattle.lower_actor.proofs.Routined.{all-served, no-functions, no-procedures}
use Rattle.lower_actor.proofs.routines.lower_routines.Goals as goal

pub lower_functions-requires-clause-none : goal.lower_functions-requires-clause-none
lower_functions-requires-clause-none c = no-functions (actor_of c.args.b.now) c.requires.sound c.args.draft.now c.requires.instrs c.requires.routines c.requires.cells

pub lower_procedures-requires-clause-none : goal.lower_procedures-requires-clause-none
lower_procedures-requires-clause-none c =
    let actor = actor_of c.args.b.now in
    subst (λ fs. HoldsProcedures actor fs [] c.lower_functions.new.draft) (sym (ap functions_view c.deref-3.ensures.value))
    (no-procedures actor c.requires.sound (functions_view c.in_ok-callees.callees.items) c.lower_functions.new.draft c.in_ok-callees.ensures.holds)

pub returns-clause-settled : goal.returns-clause-settled
returns-clause-settled c =
    let actor = actor_of c.args.b.now in
    let same = ap functions_view c.deref-3.ensures.value in
    let ps = procedures_view c.in_ok-procedures.procedures.items in
    record {
      functions = c.in_ok-callees.ensures.are;
      all_functions = c.in_ok-callees.ensures.all;
      procedures = subst (λ fs. AreProcedures actor fs ps) same c.in_ok-procedures.ensures.are;
      all_procedures = subst (λ fs. AllProcedures actor fs ps) same c.in_ok-procedures.ensures.all;
    }

pub returns-clause-served : goal.returns-clause-served
returns-clause-served c =
    let actor = actor_of c.args.b.now in
    let ps = procedures_view c.in_ok-procedures.procedures.items in
    all-served actor c.requires.sound (functions_view c.in_ok-callees.callees.items) ps c.lower_procedures.new.draft
    (subst (λ fs. HoldsProcedures actor fs ps c.lower_procedures.new.draft) (ap functions_view c.deref-3.ensures.value) c.in_ok-procedures.ensures.holds)
