use Rattle.std.proofs.Common.{ap, sym, subst, ◌∙◌, map}
use Rattle.net_model.specs.declared.wiring.Counts.{Counts}
use Rattle.actor_cell.specs.Core.{seen}
use Rattle.network_runner.specs.Asking.{EndLeaves}
use Rattle.kit_runs.specs.Runs.{first_or_0}
use Rattle.kit_runs.proofs.Started.{ran_from}
use Rattle.kit_runs.proofs.running.run_network.Goals as goal

pub returns-clause-leaves : goal.returns-clause-leaves
returns-clause-leaves g c =
    ran_from seen (map seen c.args.ready.cells.items) c.args.ready.wiring c.args.ready.plan (g.P.Policy.kind c.args.policy) c.in_ok-runner.runner c.in_ok-runner.ensures.begins
    g.F.Feeds.feeds g.D.Drains.channels c.run-end.new.self c.args.feeds.now c.run-end.new.feeds c.args.drains.now c.run-end.new.drains c.args.budget c.numbers_of.result c.runs_are_paced.ensures
    (subst (λ how. EndLeaves seen g.F.Feeds.feeds g.D.Drains.channels c.in_ok-runner.runner c.run-end.new.self c.args.feeds.now c.run-end.new.feeds c.args.drains.now c.run-end.new.drains c.args.budget how)
    (sym c.numbers_of.ensures.end) c.run-end.ensures.leaves)
    (c.numbers_of.ensures.firings ∙ ap (λ (counts : Counts). counts.firings) c.counts.ensures)
    (c.numbers_of.ensures.rounds ∙ ap (λ (counts : Counts). counts.rounds) c.counts.ensures)
    (c.numbers_of.ensures.arrived ∙ ap (λ (counts : Counts). first_or_0 counts.arrived.items) c.counts.ensures)
    (c.numbers_of.ensures.sent ∙ ap (λ (counts : Counts). first_or_0 counts.sent.items) c.counts.ensures)
