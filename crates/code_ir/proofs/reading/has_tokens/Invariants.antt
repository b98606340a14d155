use Rattle.code_ir.specs.Reading.{NamesTokens}
use Rattle.code_ir.proofs.Each.{HoldsBelow}
use Rattle.code_ir.proofs.reading.has_tokens.Given as goal

abbrev pub invariant-loop-instr : goal.invariant-loop-instr
invariant-loop-instr g l = HoldsBelow (NamesTokens (g.T.Tokens.tokens l.tokens)) l.instr-items l.instr-index
