use Rattle.std.proofs.Common.{[]}
use Rattle.action_machine.proofs.CellRanges.{token-inside}
use Rattle.action_machine.proofs.reads.token.Goals as goal

pub at-requires : goal.at-requires
at-requires g c = token-inside (g.T.Tokens.tokens c.args.tokens.now c.args.port) c.args.place _ [] (c.requires.there [])
