use Rattle.std.proofs.Common.{map, take}
use Rattle.cal_ast.specs.Tree.{listed}
use Rattle.cal_ast.specs.View.{expr_tree, gen_tree, type_arg_tree}
use Rattle.cal_lexer.specs.Lexeme.{Lexeme}
use Rattle.cal_print.specs.Tokens.{following}
use Rattle.cal_print.specs.Writes.{Writes}
use Rattle.cal_print.proofs.expr.+print_expr.Given as goal

abbrev pub invariant-print_exprs-loop-e : goal.invariant-print_exprs-loop-e
invariant-print_exprs-loop-e l = Writes l.initial.out (following Lexeme.Comma (listed (map expr_tree (take l.e-index l.others)))) l.out

abbrev pub invariant-print_gens-loop-generator : goal.invariant-print_gens-loop-generator
invariant-print_gens-loop-generator l = Writes l.initial.out (following Lexeme.Comma (listed (map gen_tree (take l.generator-index l.others)))) l.out

abbrev pub invariant-print_type_args-loop-arg : goal.invariant-print_type_args-loop-arg
invariant-print_type_args-loop-arg l = Writes l.initial.out (following Lexeme.Comma (listed (map type_arg_tree (take l.arg-index l.others)))) l.out
