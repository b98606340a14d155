use Rattle.std.proofs.Common.{map, take}
use Rattle.cal_ast.specs.Tree.{listed}
use Rattle.cal_ast.specs.View.{chain_tree}
use Rattle.cal_print.specs.Tokens.{each_chain}
use Rattle.cal_print.specs.Writes.{Writes}
use Rattle.cal_print.proofs.action.print_chains.Given as goal

abbrev pub invariant-loop-chain : goal.invariant-loop-chain
invariant-loop-chain l = Writes l.initial.out (each_chain (listed (map chain_tree (take l.chain-index l.chains)))) l.out
