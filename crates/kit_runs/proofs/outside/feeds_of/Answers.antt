use Rattle.std.proofs.Common.{◌≡◌, ap, ◌∙◌}
use Rattle.std.proofs.lemmas.Result.{IfOk-weaker}
use Rattle.round_runner.specs.Running.{count_inputs}
use Rattle.kit_runs.proofs.Opened.{found_open}
use Rattle.kit_runs.proofs.outside.feeds_of.Goals as goal

pub returns : goal.returns
returns c =
    let is : c.in-Some.count ≡ count_inputs c.args.wiring.now.links.items = c.in-Some.ensures.count ∙ ap count_inputs c.deref.ensures.value in
    IfOk-weaker c.feeds_from_one.result _ _ (λ found open_to. found_open c.args.wiring.now found c.in-Some.count is open_to) c.feeds_from_one.ensures
