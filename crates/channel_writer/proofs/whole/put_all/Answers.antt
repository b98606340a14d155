use Rattle.channel_writer.proofs.Putting.{put_more, put_stopped, on_err}
use Rattle.channel_writer.proofs.whole.put_all.Goals as goal

pub loop-at-preserved : goal.loop-at-preserved
loop-at-preserved g c = put_more {n = c.in_ok-n.n} c.loop-at.invariant (record {
  most = c.in_ok-n.ensures.most;
  bytes = c.in_ok-n.ensures.bytes;
  elsewhere = c.in_ok-n.ensures.elsewhere;
})

pub returns-in_err-n-clause-front : goal.returns-in_err-n-clause-front
returns-in_err-n-clause-front g c = on_err _ _ (put_stopped (g.D.Drains.channels c.put.new.self) c.loop-at.invariant c.in_err-n.ensures.failed.still_held)
