use Rattle.std.proofs.Common.{◌≡◌, [], None, Some, subst}
use Rattle.priority_order.specs.Ranking.{is_above}
use Rattle.cal_model.specs.Actor.{Actor}
use Rattle.cal_model.specs.Certified.{IsCertified}
use Rattle.cal_model.specs.Selection.{Priorities}
use Rattle.cal_model.specs.View.{actor_of}
use Rattle.determinacy_cert.specs.Failing.{Failure, failures, first}
use Rattle.determinacy_cert.specs.Judging.{failure_view}
use Rattle.determinacy_cert.proofs.Answering.{first_fails, is_certified, none_fails, not_certified}
use Rattle.determinacy_cert.proofs.certifier.certify.Goals as goal

pub returns-in-None-clause-answer : goal.returns-in-None-clause-answer
returns-in-None-clause-answer c =
    let actor : Actor = actor_of c.in_ok-table.table.actor.now in
    let none : None ≡ first (failures actor (is_above c.in_ok-table.table.order)) = c.in-None.ensures in
    subst (λ (a : Actor). (p : Priorities a) → failures a p.above ≡ []) c.in_ok-table.ensures.same
    (none_fails actor c.in_ok-table.table.order c.in_ok-table.ensures.table.priority none)

pub returns-in-None-clause-certified : goal.returns-in-None-clause-certified
returns-in-None-clause-certified c =
    let actor : Actor = actor_of c.in_ok-table.table.actor.now in
    let none : None ≡ first (failures actor (is_above c.in_ok-table.table.order)) = c.in-None.ensures in
    subst IsCertified c.in_ok-table.ensures.same (is_certified actor c.in_ok-table.table.order c.in_ok-table.ensures.table.priority none)

pub returns-clause-answer : goal.returns-clause-answer
returns-clause-answer c =
    let actor : Actor = actor_of c.in_ok-table.table.actor.now in
    let f : Failure = failure_view c.in-Some.failure in
    let found : Some f ≡ first (failures actor (is_above c.in_ok-table.table.order)) = c.in-Some.ensures in
    subst (λ (a : Actor). (p : Priorities a) → first (failures a p.above) ≡ Some f) c.in_ok-table.ensures.same
    (first_fails actor c.in_ok-table.table.order c.in_ok-table.ensures.table.priority f found)

pub returns-clause-uncertified : goal.returns-clause-uncertified
returns-clause-uncertified c =
    let actor : Actor = actor_of c.in_ok-table.table.actor.now in
    let f : Failure = failure_view c.in-Some.failure in
    let found : Some f ≡ first (failures actor (is_above c.in_ok-table.table.order)) = c.in-Some.ensures in
    subst (λ (a : Actor). ¬ IsCertified a) c.in_ok-table.ensures.same
    (not_certified actor c.in_ok-table.table.order c.in_ok-table.ensures.table.priority f found)
