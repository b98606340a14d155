use Rattle.cmd_fmt.proofs.Printed.{wrong-words}
use Rattle.cmd_fmt.proofs.printing.check_no_words.Goals as goal

pub returns-clause-wrong : goal.returns-clause-wrong
returns-clause-wrong c = wrong-words c.args.words.now c.is_empty.result c.is_empty.ensures c.if-is_empty.false
