use Rattle.std.proofs.Common.{sym, subst}
use Rattle.std.proofs.lemmas.Result.{IfOk-weaker}
use Rattle.cal_lexer.specs.NetPieces.{IsNetToken}
use Rattle.cal_lexer.proofs.Braces.{brace_token, net_piece}
use Rattle.cal_lexer.proofs.net.next_net_piece.Goals as goal

pub returns-in-Some : goal.returns-in-Some
returns-in-Some c = subst (IsNetToken c.args.text.now 1) (sym c.kind.ensures) (brace_token c.args.text.now c.byte_at.result _ c.requires c.byte_at.ensures c.in-Some.ensures)

pub returns-in-None : goal.returns-in-None
returns-in-None c = IfOk-weaker c.next_piece.result _ _ (λ piece h. net_piece c.args.text.now c.byte_at.result piece c.byte_at.ensures c.in-None.ensures h) c.next_piece.ensures
