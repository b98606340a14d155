-- Scopes that are answered have an order of their calls.
use Rattle.std.proofs.Common.{◌≡◌, List, ap, subst}
use Rattle.std.specs.Prelude.{Option, None, Some}
use Rattle.cal_imports.specs.Answer.{Answer, Gives, Refuses}
use Rattle.cal_imports.specs.CallOrder.{CallsHaveAnOrder}
use Rattle.cal_imports.specs.Recursion.{above_all, call_graph, call_order, routines, without_recursion}
use Rattle.cal_imports.specs.Resolved.{resolved_source}
use Rattle.cal_imports.specs.Sources.{Source}
use Rattle.cal_imports.specs.Whole.{Scope, actor_gathered}
use Rattle.cal_imports.proofs.Answered.{then_gave}
use Rattle.cal_imports.proofs.Behind.{order_is_behind}

abbrev scope_or : Scope → Answer Scope → Scope
scope_or s (Gives t) = t
scope_or s (Refuses rule file at) = s

judged_order : (s t : Scope) → without_recursion s ≡ Gives t → CallsHaveAnOrder t
judged_order s t h =
    let (order, found, same) = then_gave (call_order s.file (routines s)) (λ _. Gives s) t h in
    let it = order_is_behind (call_graph (routines s)) (above_all s.file (routines s)) order found in
    subst CallsHaveAnOrder (ap (scope_or s) same) (record { order = order; is_order = it.0; is_whole = it.1 })

pub found_order : (files : List Source) (o : Option Source) (t : Scope) → resolved_source files o ≡ Gives t → CallsHaveAnOrder t
found_order files None t h = cc
found_order files (Some s) t h =
    let (scope, found, rest) = then_gave (actor_gathered files s) without_recursion t h in
    judged_order scope t rest
