use Rattle.std.proofs.Common.{◌≡◌, ◌≤◌, ◌∙◌, inr, List, Some, ap, length, refl, subst, sym}
use Rattle.std.specs.Prelude.{slice_get}
use Rattle.std.proofs.lemmas.Option.{slice_get-get_or}
use Rattle.std.proofs.lemmas.Result.{IfOk-weaker}
use Rattle.cal_model.specs.declared.bound.BoundFun.{BoundFun}
use Rattle.cal_model.specs.Actor.{Fun}
use Rattle.cal_model.specs.View.{actor_of, fun_view}
use Rattle.lower_base.specs.Callees.{functions_view}
use Rattle.lower_actor.specs.Calls.{LacksOne, calls_of_fun}
use Rattle.lower_actor.proofs.Chosen.{mapped-past, mapped-there, same-item}
use Rattle.lower_actor.proofs.Ready.{fun-ready}
use Rattle.lower_actor.proofs.functions.is_ready.Goals as goal

there : (c : goal.After-calls_made) → slice_get (actor_of c.args.b.now).funs c.args.k ≡ Some (fun_view c.in-Some.f.now)
there c =
    let found = c.in-Some.ensures.lookup in
    mapped-there fun_view c.args.b.now.funs.items c.args.k c.in-Some.f.now
    (ap (λ xs. slice_get xs c.args.k) (sym c.deref.ensures.value) ∙ slice_get-get_or c.deref.result.now c.args.k c.in-Some.f.now found.3.0 ∙ ap Some (sym found.1))

pub returns-in-Some-clause-yes : goal.returns-in-Some-clause-yes
returns-in-Some-clause-yes c =
    IfOk-weaker c.calls_made.result _ _
    (λ all h yes. record {
      at = record {
        function = fun_view c.in-Some.f.now;
        there = there c;
        whole = fun-ready c.args.b.now c.requires.sound (functions_view c.args.callees.now) c.args.made.now c.args.k (fun_view c.in-Some.f.now) c.requires.known (there c) (h yes);
      };
      not_yet = sym c.is_made.ensures ∙ c.if-is_made.false;
    })
    c.calls_made.ensures.yes

pub returns-in-Some-clause-no : goal.returns-in-Some-clause-no
returns-in-Some-clause-no c =
    IfOk-weaker c.calls_made.result _ _
    (λ all h no g e.
    let same : fun_view c.in-Some.f.now ≡ g = same-item (actor_of c.args.b.now).funs c.args.k c.args.k (fun_view c.in-Some.f.now) g refl (there c) e in
    inr (subst (λ (x : Fun). LacksOne c.args.made.now (calls_of_fun c.args.b.now x).functions) same (h no)))
    c.calls_made.ensures.no

pub returns-in-None-clause-no : goal.returns-in-None-clause-no
returns-in-None-clause-no c = λ no x e.
    absurd (mapped-past fun_view c.args.b.now.funs.items c.args.k x (subst (λ (xs : List BoundFun). length xs ≤ c.args.k) c.deref.ensures.value c.in-None.ensures.lookup.3) e)
