use Rattle.std.proofs.Common.{[], ◌∷◌, ◌++◌, map}
use Rattle.cal_ast.specs.View.{chain_tree, tag_tree}
use Rattle.cal_lexer.specs.Lexeme.{Lexeme}
use Rattle.cal_print.specs.Tokens.{joined, each_chain}
use Rattle.cal_print.proofs.Texts.{then}
use Rattle.cal_print.proofs.Loops.{chain_more, loop_step, loop_all}
use Rattle.cal_print.proofs.Pieces.{said_of}
use Rattle.cal_print.proofs.action.print_chains.Goals as goal

pub returns : goal.returns
returns c = loop_all chain_tree each_chain c.args.chains.now c.loop-chain.chain-index c.loop-chain-test.false c.loop-chain.invariant

pub loop-chain-preserved : goal.loop-chain-preserved
loop-chain-preserved c =
    loop_step chain_tree each_chain (λ t. joined Lexeme.Greater t ++ (Lexeme.Semicolon ∷ [])) (λ ys y. chain_more (map chain_tree ys) (chain_tree y))
    c.args.chains.now c.chain-item.result c.loop-chain.chain-index c.loop-chain-test.true c.chain-item.is c.loop-chain.invariant
    (then (said_of tag_tree (joined Lexeme.Greater) c.deref.ensures.value c.print_joined.ensures) c.put.ensures)
