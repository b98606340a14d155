use Rattle.std.proofs.lemmas.Result.{on_ok_weaker}
use Rattle.cmd_ports.proofs.ChannelSteps.{opened_if}
use Rattle.cmd_ports.proofs.channels.open_named.Goals as goal

pub returns-in-Some-clause-opened : goal.returns-in-Some-clause-opened
returns-in-Some-clause-opened g c = on_ok_weaker c.open.result (λ at. opened_if _ c.args.number c.args.file c.in-Some.name _ _ c.in-Some.is at c.open.ensures.elsewhere) c.open.ensures.opened
