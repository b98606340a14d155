use Rattle.std.proofs.Common.{◌≡◌, ap, []}
use Rattle.std.specs.Prelude.{None}
use Rattle.code_ir.specs.Effect.{taken, leave_taken}
use Rattle.action_machine.proofs.Arms.{cells-there}
use Rattle.action_machine.proofs.reads.token_list.Goals as goal

pub take_tokens-requires-clause-there : goal.take_tokens-requires-clause-there
take_tokens-requires-clause-there g c = λ e.
    let none : taken (g.T.Tokens.tokens c.args.tokens.now c.args.port) c.args.target c.args.first c.args.step c.args.count c.args.cells.now ≡ None =
    rw (c.from-first.ensures, c.from.ensures) at e in
    c.requires.there [] (cells-there c.args.cells.now c.args.target c.args.count _ _ c.requires.inside (ap (leave_taken []) none))
