use Rattle.std.proofs.Common.{◌≤◌, subst}
use Rattle.std.proofs.lemmas.Result.{IfOk-weaker}
use Rattle.round_runner.specs.Running.{count_inputs}
use Rattle.test_replay.proofs.Opened.{found_open}
use Rattle.test_replay.proofs.feeds.replay_feeds.Goals as goal

pub returns : goal.returns
returns c =
    let few : count_inputs c.args.wiring.now.links.items ≤ 2 = subst (λ links. count_inputs links ≤ 2) c.deref.ensures.value
    (subst (λ n. n ≤ 2) c.in-Some.ensures.count c.if-count-gt-MAX_INPUTS.false) in
    IfOk-weaker c.first_feeds.result _ _ (λ found open_first. found_open c.args.wiring.now found few open_first) c.first_feeds.ensures
