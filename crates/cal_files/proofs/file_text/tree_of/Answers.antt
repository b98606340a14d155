use Rattle.cal_files.proofs.Texts.{of_lexis}
use Rattle.cal_files.proofs.file_text.tree_of.Goals as goal

pub returns-in-Err-clause-refused : goal.returns-in-Err-clause-refused
returns-in-Err-clause-refused c = of_lexis c.args.number c.args.text.now c.in-Err.front c.in-Err.ensures.refused
