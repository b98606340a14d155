use Rattle.std.proofs.Common.{◌∙◌, sym}
use Rattle.rvc_io.specs.Feeds.{ReadFails}
use Rattle.trace_replay.proofs.Heads.{err_after, fault_after, ok_after}
use Rattle.trace_replay.proofs.Pulling.{risen_after}
use Rattle.trace_replay.proofs.head.read_head.Goals as goal

pub returns-clause-read : goal.returns-clause-read
returns-clause-read g c =
    ok_after c.read_instances.result _ _
    (λ read. λ t text head has. read t text (head.grow_is ∙ sym c.read_first.ensures.grow) head.names_are (c.in-Ok.ensures.read t text head.grow_is head.first_is has))
    c.read_instances.ensures.read

pub returns-clause-judged : goal.returns-clause-judged
returns-clause-judged g c =
    err_after c.read_instances.result _ _
    (λ fault judged. λ t text head has. judged t text (head.grow_is ∙ sym c.read_first.ensures.grow) head.names_are (c.in-Ok.ensures.read t text head.grow_is head.first_is has))
    c.read_instances.ensures.judged

pub returns-clause-failed : goal.returns-clause-failed
returns-clause-failed g c =
    fault_after c.read_instances.result (ReadFails g.F.Feeds.feeds c.read_first.new.feeds c.read_instances.new.feeds) (ReadFails g.F.Feeds.feeds c.args.feeds.now c.read_instances.new.feeds)
    (λ risen. risen_after (g.F.Feeds.feeds c.args.feeds.now).faults (g.F.Feeds.feeds c.read_first.new.feeds).faults (g.F.Feeds.feeds c.read_instances.new.feeds).faults c.read_first.ensures.elsewhere.faults_stay risen)
    c.read_instances.ensures.failed
