use Rattle.cmd_network.specs.Commands.{run_over}
use Rattle.cmd_run.proofs.Few.{few_rounds}
use Rattle.cmd_run.proofs.laws.runs_make_few_rounds.Goals as goal

pub returns : goal.returns
returns c = λ cmd lines about net end counts ran inputs given.
    few_rounds (run_over cmd net inputs) c.rounds_are_few.ensures.paced end counts cmd.channels_after (ran.leaves inputs given)
