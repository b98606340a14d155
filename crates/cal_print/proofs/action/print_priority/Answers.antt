use Rattle.cal_ast.specs.View.{chain_tree}
use Rattle.cal_print.specs.Tokens.{each_chain}
use Rattle.cal_print.proofs.Texts.{then}
use Rattle.cal_print.proofs.Pieces.{said_of}
use Rattle.cal_print.proofs.action.print_priority.Goals as goal

pub returns : goal.returns
returns c =
    (then c.put.ensures
    (then (said_of chain_tree each_chain c.deref.ensures.value c.print_chains.ensures) c.put-2.ensures))
