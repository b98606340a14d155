use Rattle.code_ir.specs.Typing.{HasSizes}
use Rattle.code_ir.proofs.Each.{HoldsBelow}
use Rattle.code_ir.proofs.sizes.are_sized.Given as goal

abbrev pub invariant-loop-instr : goal.invariant-loop-instr
invariant-loop-instr l = HoldsBelow HasSizes l.instrs l.instr-index
