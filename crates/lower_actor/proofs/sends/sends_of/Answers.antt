use Rattle.std.proofs.Common.{map}
use Rattle.cal_model.specs.View.{output_view}
use Rattle.action_lower.specs.FiringCode.{first_on}
use Rattle.lower_actor.proofs.Sent.{sends-more}
use Rattle.lower_actor.proofs.sends.sends_of.Goals as goal

pub loop-port-preserved : goal.loop-port-preserved
loop-port-preserved c =
    sends-more (first_on (map output_view c.args.outputs.now) c.args.firsts.now) c.loop-port.sends.items c.push.new.self.items c.loop-port.port c.first_on.result
    c.in_ok-push.ensures.items c.loop-port.invariant c.first_on.ensures
