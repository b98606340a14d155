use Rattle.code_ir.specs.Code.{code_of}
use Rattle.code_ir.proofs.Tables.{FitBelow}
use Rattle.code_ir.proofs.lines.first_unfit.Given as goal

abbrev pub invariant-loop-p : goal.invariant-loop-p
invariant-loop-p l = FitBelow (code_of l.code) l.p
