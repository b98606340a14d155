use Rattle.std.proofs.Common.{◌≡◌, ◌≤◌, ◌∙◌, inr, List, Some, ap, length, refl, subst, sym}
use Rattle.std.specs.Prelude.{slice_get}
use Rattle.std.proofs.lemmas.Option.{slice_get-get_or}
use Rattle.std.proofs.lemmas.Result.{IfOk-weaker}
use Rattle.cal_model.specs.declared.bound.BoundProc.{BoundProc}
use Rattle.cal_model.specs.Actor.{Proc}
use Rattle.cal_model.specs.View.{actor_of, proc_view}
use Rattle.lower_base.specs.Callees.{functions_view}
use Rattle.lower_stmt.specs.Procedures.{procedures_view}
use Rattle.lower_actor.specs.Calls.{LacksOne, calls_of_proc}
use Rattle.lower_actor.proofs.Chosen.{mapped-past, mapped-there, same-item}
use Rattle.lower_actor.proofs.Ready.{proc-ready}
use Rattle.lower_actor.proofs.procedures.is_ready.Goals as goal

there : (c : goal.After-calls_made) → slice_get (actor_of c.args.b.now).procs c.args.k ≡ Some (proc_view c.in-Some.p.now)
there c =
    let found = c.in-Some.ensures.lookup in
    mapped-there proc_view c.args.b.now.procs.items c.args.k c.in-Some.p.now
    (ap (λ xs. slice_get xs c.args.k) (sym c.deref.ensures.value) ∙ slice_get-get_or c.deref.result.now c.args.k c.in-Some.p.now found.3.0 ∙ ap Some (sym found.1))

pub returns-in-Some-clause-yes : goal.returns-in-Some-clause-yes
returns-in-Some-clause-yes c =
    IfOk-weaker c.calls_made.result _ _
    (λ all h yes. record {
      at = record {
        procedure = proc_view c.in-Some.p.now;
        there = there c;
        whole = proc-ready c.args.b.now c.requires.sound (functions_view c.args.callees.now) (procedures_view c.args.procedures.now) c.args.made.now c.args.k (proc_view c.in-Some.p.now) c.requires.have c.requires.known (there c) (h yes);
      };
      not_yet = sym c.is_made.ensures ∙ c.if-is_made.false;
    })
    c.calls_made.ensures.yes

pub returns-in-Some-clause-no : goal.returns-in-Some-clause-no
returns-in-Some-clause-no c =
    IfOk-weaker c.calls_made.result _ _
    (λ all h no g e.
    let same : proc_view c.in-Some.p.now ≡ g = same-item (actor_of c.args.b.now).procs c.args.k c.args.k (proc_view c.in-Some.p.now) g refl (there c) e in
    inr (subst (λ (x : Proc). LacksOne c.args.made.now (calls_of_proc c.args.b.now x).procedures) same (h no)))
    c.calls_made.ensures.no

pub returns-in-None-clause-no : goal.returns-in-None-clause-no
returns-in-None-clause-no c = λ no x e.
    absurd (mapped-past proc_view c.args.b.now.procs.items c.args.k x (subst (λ (xs : List BoundProc). length xs ≤ c.args.k) c.deref.ensures.value c.in-None.ensures.lookup.3) e)
