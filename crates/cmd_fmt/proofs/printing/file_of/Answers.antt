use Rattle.cmd_fmt.proofs.Printed.{of_lexis}
use Rattle.cmd_fmt.proofs.printing.file_of.Goals as goal

pub returns-in-Err-clause-refused : goal.returns-in-Err-clause-refused
returns-in-Err-clause-refused c = of_lexis 1 c.args.text.now c.in-Err.front c.in-Err.ensures.refused
