use Rattle.std.proofs.Common.{subst}
use Rattle.code_ir.specs.Reading.{AllNameTokens, NamesTokens}
use Rattle.code_ir.proofs.Each.{holds-all}
use Rattle.code_ir.proofs.Lacking.{all-read}
use Rattle.code_ir.proofs.reading.has_tokens.Goals as goal

pub returns-clause-named : goal.returns-clause-named
returns-clause-named g c =
    subst (AllNameTokens (g.T.Tokens.tokens c.args.tokens.now)) c.instrs-instr-items.ensures
    (holds-all (NamesTokens (g.T.Tokens.tokens c.args.tokens.now)) c.instrs-instr-items.result.now c.loop-instr.instr-index c.loop-instr.invariant c.loop-instr-test.false)

pub returns-clause-read : goal.returns-clause-read
returns-clause-read g c =
    all-read c.args.code.now (g.T.Tokens.tokens c.args.tokens.now) (returns-clause-named g c)
