use Rattle.code_ir.proofs.Ends.{some-end, one-end}
use Rattle.code_ir.proofs.laws.has_one_end.Goals as goal

pub returns : goal.returns
returns c = record { ends = some-end; once = λ code e cells tokens o p c d. one-end code tokens p d }
