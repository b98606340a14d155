use Rattle.cmd_gen.proofs.Numbers.{tops_are_numbers}
use Rattle.cmd_gen.proofs.laws.jobs_to_generate_have_numbers.Goals as goal

pub returns : goal.returns
returns c = tops_are_numbers
