use Rattle.std.proofs.Common.{◌≡◌, ◌∷◌, length, rules}
use Rattle.cmd_certify.proofs.Leaves.{all_many, one_judged}
use Rattle.cmd_certify.proofs.judging.judge_all.Goals as goal

pub actors-preserved : goal.actors-preserved
actors-preserved c =
    let opened : c.actors.rest.now ≡ c.in-Some.actor.now ∷ c.in-Some.others.now = search rules in
    one_judged c.args.actors.now c.actors.rest.now c.in-Some.others.now c.in-Some.actor.now c.actors.said.items c.push.new.self.items c.in_ok-fault.fault c.actors.invariant opened
    c.in_ok-push.ensures.items c.in_ok-fault.ensures

pub returns-clause-many : goal.returns-clause-many
returns-clause-many c =
    let none : length c.actors.rest.now ≡ 0 = search rules in
    all_many c.args.actors.now c.actors.rest.now c.actors.said.items c.actors.invariant none
