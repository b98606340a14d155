use Rattle.std.proofs.Common.{sym, subst}
use Rattle.trace_replay.specs.Between.{EndCounts, LineCounts, LineEnds, LineGoes}
use Rattle.trace_replay.proofs.between.Replay.come.Goals as goal

pub returns-in-Fire-clause-goes : goal.returns-in-Fire-clause-goes
returns-in-Fire-clause-goes g c =
    subst (λ line. LineGoes g.A.Firing.cell g.F.Feeds.feeds c.fire.result line c.args.self.now c.args.feeds.now c.fire.new.self c.args.feeds.now) (sym c.in-Fire.is) c.fire.ensures.goes

pub returns-in-Fire-clause-counts : goal.returns-in-Fire-clause-counts
returns-in-Fire-clause-counts g c =
    subst (λ line. LineCounts g.A.Firing.cell g.F.Feeds.feeds c.fire.result line c.args.self.now c.args.feeds.now c.fire.new.self) (sym c.in-Fire.is) c.fire.ensures.counts

pub returns-in-Deliver-clause-goes : goal.returns-in-Deliver-clause-goes
returns-in-Deliver-clause-goes g c =
    subst (λ line. LineGoes g.A.Firing.cell g.F.Feeds.feeds c.deliver.result line c.args.self.now c.args.feeds.now c.deliver.new.self c.deliver.new.feeds) (sym c.in-Deliver.is) c.deliver.ensures.goes

pub returns-in-Deliver-clause-counts : goal.returns-in-Deliver-clause-counts
returns-in-Deliver-clause-counts g c =
    subst (λ line. LineCounts g.A.Firing.cell g.F.Feeds.feeds c.deliver.result line c.args.self.now c.args.feeds.now c.deliver.new.self) (sym c.in-Deliver.is) c.deliver.ensures.counts

pub returns-in-Grow-clause-goes : goal.returns-in-Grow-clause-goes
returns-in-Grow-clause-goes g c =
    subst (λ line. LineGoes g.A.Firing.cell g.F.Feeds.feeds c.grow.result line c.args.self.now c.args.feeds.now c.grow.new.self c.grow.new.feeds) (sym c.in-Grow.is) c.grow.ensures.goes

pub returns-in-Grow-clause-counts : goal.returns-in-Grow-clause-counts
returns-in-Grow-clause-counts g c =
    subst (λ line. LineCounts g.A.Firing.cell g.F.Feeds.feeds c.grow.result line c.args.self.now c.args.feeds.now c.grow.new.self) (sym c.in-Grow.is) c.grow.ensures.counts

pub returns-in-Trap-clause-ends : goal.returns-in-Trap-clause-ends
returns-in-Trap-clause-ends g c =
    subst (λ line. LineEnds g.A.Firing.cell g.F.Feeds.feeds c.trap.result line c.args.self.now c.args.feeds.now) (sym c.in-Trap.is) c.trap.ensures.ends

pub returns-in-Trap-clause-counts_all : goal.returns-in-Trap-clause-counts_all
returns-in-Trap-clause-counts_all g c =
    subst (λ line. EndCounts g.A.Firing.cell g.F.Feeds.feeds c.trap.result line c.args.self.now c.args.feeds.now c.trap.new.self) (sym c.in-Trap.is) c.trap.ensures.counts
