use Rattle.std.proofs.Common.{arith}
use Rattle.net_model.proofs.TableActor.{one_more_earlier}
use Rattle.net_model.proofs.firing.tests.TableCell.selected.Goals as goal

pub loop-a-preserved : goal.loop-a-preserved
loop-a-preserved c = one_more_earlier c.args.self.now.rows c.len-waiting.result c.loop-a.a _ (omega arith) c.if-self-a.false c.loop-a.invariant
