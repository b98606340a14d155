use Rattle.claimed_bursts.proofs.Arriving.{arrived_both}
use Rattle.claimed_bursts.proofs.joining.+crews.Goals as goal

pub work_halves-returns-clause-arrived : goal.work_halves-returns-clause-arrived
work_halves-returns-clause-arrived g t c =
    arrived_both (g.G.Gate.arrived c.args.gate.now) c.args.crew c.halves.result.0 c.halves.result.1 c.halves.ensures.low_begins c.halves.ensures.high_begins
    c.halves.ensures.rounds c.halves.ensures.all c.work_both.ensures.low_arrived c.work_both.ensures.high_arrived
