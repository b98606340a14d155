use Rattle.std.proofs.Common.{◌≡◌, ◌+◌, length, ap, rules}
use Rattle.std.proofs.lemmas.Result.{IfOk-weaker}
use Rattle.kit_runs.proofs.Opened.{drains_open}
use Rattle.kit_runs.proofs.outside.drains_of.Goals as goal

pub returns : goal.returns
returns c =
    let is : c.len-outs.result ≡ length c.args.wiring.now.open_outs.items = search rules in
    IfOk-weaker c.channels_from_one.result _ _ (λ found open_to. drains_open c.args.wiring.now found (c.len-outs.result + 1) (ap (λ n. n + 1) is) open_to) c.channels_from_one.ensures
