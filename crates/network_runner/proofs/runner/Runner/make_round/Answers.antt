use Rattle.std.proofs.Common.{suc, sym, ap, subst, inr, ◌+◌, ◌∙◌}
use Rattle.net_model.specs.declared.wiring.Counts.{Counts}
use Rattle.net_state.specs.Held.{seen}
use Rattle.network_runner.specs.Arriving.{MakesOne}
use Rattle.network_runner.specs.Asking.{IsSameRun, seen_run}
use Rattle.network_runner.proofs.Arrived.{arrive_by, arrive_in}
use Rattle.network_runner.proofs.Assembled.{breaks_writing, leaves_so_far}
use Rattle.network_runner.proofs.Going.{run_then}
use Rattle.network_runner.proofs.Whole.{cut_now, others_seen, run_written}
use Rattle.network_runner.proofs.runner.Runner.make_round.Goals as goal

pub returns-in-Err-clause-leaves : goal.returns-in-Err-clause-leaves
returns-in-Err-clause-leaves g c = λ net inputs budget s stands.
    cut_now net inputs s c.in-Err.field-0.feed (seen_run g.A.Firing.cell c.args.self.now) (seen_run g.A.Firing.cell c.deliver.new.self) (g.F.Feeds.feeds c.deliver.new.feeds) (g.D.Drains.channels c.args.drains.now)
    (c.in-Err.ensures.stops net inputs s stands)
    c.deliver.ensures.same_others.trace c.deliver.ensures.same_others.buffers c.in-Err.ensures.not_counted

pub returns-in-Err-write-clause-leaves : goal.returns-in-Err-write-clause-leaves
returns-in-Err-write-clause-leaves g c = λ net inputs budget s stands.
    breaks_writing net inputs budget c.args.left s (seen_run g.A.Firing.cell c.args.self.now) (seen_run g.A.Firing.cell c.deliver.new.self) (seen_run g.A.Firing.cell c.fire-answer.new.self) (seen_run g.A.Firing.cell c.write.new.self)
    (g.F.Feeds.feeds c.args.feeds.now) (g.F.Feeds.feeds c.deliver.new.feeds) (g.D.Drains.channels c.args.drains.now) (g.D.Drains.channels c.write.new.drains) c.fire-answer.result
    stands c.in_default.ensures.delivers c.deliver.ensures.same_run (others_seen g.A.Firing.cell c.args.self.now c.deliver.new.self c.deliver.ensures.same_others)
    c.fire-answer.ensures.fires c.fire-answer.ensures.same_run c.fire-answer.ensures.same_trace c.fire-answer.ensures.same_buffers c.fire-answer.ensures.same_readings c.requires.budget
    c.in-Err-write.ensures.broken

pub returns-in-Err-write-clause-same_run : goal.returns-in-Err-write-clause-same_run
returns-in-Err-write-clause-same_run g c =
    let fired = c.fire-answer.new.self in
    let new = c.write.new.self in
    run_then (seen_run g.A.Firing.cell c.args.self.now) (seen_run g.A.Firing.cell fired) (seen_run g.A.Firing.cell new)
    (run_then (seen_run g.A.Firing.cell c.args.self.now) (seen_run g.A.Firing.cell c.deliver.new.self) (seen_run g.A.Firing.cell fired) c.deliver.ensures.same_run c.fire-answer.ensures.same_run)
    (subst (λ r. IsSameRun (seen_run g.A.Firing.cell fired) (seen_run g.A.Firing.cell r)) (sym c.write.ensures.same) (run_written g.A.Firing.cell fired new.trace new.buffers))

pub returns-clause-leaves : goal.returns-clause-leaves
returns-clause-leaves g c = λ net inputs budget s stands.
    leaves_so_far net inputs budget c.args.left s (seen_run g.A.Firing.cell c.args.self.now) (seen_run g.A.Firing.cell c.deliver.new.self) (seen_run g.A.Firing.cell c.fire-answer.new.self) (seen_run g.A.Firing.cell c.write.new.self)
    (g.F.Feeds.feeds c.args.feeds.now) (g.F.Feeds.feeds c.deliver.new.feeds) (g.D.Drains.channels c.args.drains.now) (g.D.Drains.channels c.write.new.drains) c.fire-answer.result
    stands c.in_default.ensures.delivers c.deliver.ensures.same_run (others_seen g.A.Firing.cell c.args.self.now c.deliver.new.self c.deliver.ensures.same_others)
    c.fire-answer.ensures.fires c.fire-answer.ensures.same_run c.fire-answer.ensures.same_trace c.fire-answer.ensures.same_buffers c.fire-answer.ensures.same_readings c.requires.budget
    c.in_default-write.ensures.written (ap (λ r. seen g.A.Firing.cell r.held) c.write.ensures.same) (ap (λ r. r.counts) c.write.ensures.same) (ap (λ r. r.readings) c.write.ensures.same)
    (ap (λ r. r.ins) c.write.ensures.same) (ap (λ r. r.outs) c.write.ensures.same) (ap (λ r. r.rounds) c.write.ensures.same) (ap (λ r. r.idle) c.write.ensures.same)

pub returns-clause-same_run : goal.returns-clause-same_run
returns-clause-same_run g c =
    let fired = c.fire-answer.new.self in
    let new = c.write.new.self in
    run_then (seen_run g.A.Firing.cell c.args.self.now) (seen_run g.A.Firing.cell fired) (seen_run g.A.Firing.cell new)
    (run_then (seen_run g.A.Firing.cell c.args.self.now) (seen_run g.A.Firing.cell c.deliver.new.self) (seen_run g.A.Firing.cell fired) c.deliver.ensures.same_run c.fire-answer.ensures.same_run)
    (subst (λ r. IsSameRun (seen_run g.A.Firing.cell fired) (seen_run g.A.Firing.cell r)) (sym c.write.ensures.same) (run_written g.A.Firing.cell fired new.trace new.buffers))

pub returns-in-Err-clause-arrive : goal.returns-in-Err-clause-arrive
returns-in-Err-clause-arrive g c = record {
  rounds = ap (λ (n : Counts). n.rounds) c.in-Err.ensures.not_counted;
  idle = c.deliver.ensures.same_others.idle;
  firings = c.deliver.ensures.same_firings;
}

pub returns-in-Err-write-clause-arrive : goal.returns-in-Err-write-clause-arrive
returns-in-Err-write-clause-arrive g c =
    let fired = c.fire-answer.new.self in
    let new = c.write.new.self in
    let arrived = g.G.Gate.arrived c.args.gate.now in
    let one : MakesOne arrived c.args.left c.args.self.now new = record {
      fired = c.fire-answer.ensures.fires.fired;
      within = c.fire-answer.ensures.fires.within;
      rounds = ap (λ r. r.counts.rounds) c.write.ensures.same ∙ (c.fire-answer.ensures.fires.count ∙ ap suc c.in_default.ensures.delivers.rounds);
      idle = ap (λ r. r.idle) c.write.ensures.same ∙ c.fire-answer.ensures.fires.idle;
      firings = ap (λ r. r.counts.firings) c.write.ensures.same ∙ (c.fire-answer.ensures.fires.firings ∙ ap (λ n. n + c.fire-answer.ensures.fires.fired) c.deliver.ensures.same_firings);
      arrive = arrive_in g.A.Firing.cell arrived c.args.left c.args.self.now c.deliver.new.self c.deliver.ensures.same_run c.in_default.ensures.delivers.rounds c.deliver.ensures.same_others.idle c.fire-answer.ensures.arrive;
    } in
    inr one

pub returns-clause-arrive : goal.returns-clause-arrive
returns-clause-arrive g c =
    let fired = c.fire-answer.new.self in
    let new = c.write.new.self in
    let arrived = g.G.Gate.arrived c.args.gate.now in
    let one : MakesOne arrived c.args.left c.args.self.now new = record {
      fired = c.fire-answer.ensures.fires.fired;
      within = c.fire-answer.ensures.fires.within;
      rounds = ap (λ r. r.counts.rounds) c.write.ensures.same ∙ (c.fire-answer.ensures.fires.count ∙ ap suc c.in_default.ensures.delivers.rounds);
      idle = ap (λ r. r.idle) c.write.ensures.same ∙ c.fire-answer.ensures.fires.idle;
      firings = ap (λ r. r.counts.firings) c.write.ensures.same ∙ (c.fire-answer.ensures.fires.firings ∙ ap (λ n. n + c.fire-answer.ensures.fires.fired) c.deliver.ensures.same_firings);
      arrive = arrive_in g.A.Firing.cell arrived c.args.left c.args.self.now c.deliver.new.self c.deliver.ensures.same_run c.in_default.ensures.delivers.rounds c.deliver.ensures.same_others.idle c.fire-answer.ensures.arrive;
    } in
    arrive_by arrived c.fire-answer.result c.args.left c.args.self.now new c.fire-answer.ensures.no_fault one
