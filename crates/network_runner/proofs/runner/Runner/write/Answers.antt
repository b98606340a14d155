use Rattle.network_runner.specs.Asking.{seen_run}
use Rattle.network_runner.proofs.Lines.{err_so}
use Rattle.network_runner.proofs.Whole.{send_breaks}
use Rattle.network_runner.proofs.runner.Runner.write.Goals as goal

pub returns-in_err-send-clause-broken : goal.returns-in_err-send-clause-broken
returns-in_err-send-clause-broken g c =
    err_so c.from_residual.result _
    (send_breaks c.args.answer (seen_run g.A.Firing.cell c.args.self.now) (g.D.Drains.channels c.args.drains.now) (g.D.Drains.channels c.send.new.drains) c.send.ensures.only c.in_err-send.ensures.fronts)
