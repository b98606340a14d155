use Rattle.std.proofs.Common.{◌≡◌, map, take}
use Rattle.cal_ast.specs.View.{expr_tree, gen_tree, type_arg_tree}
use Rattle.cal_ast.proofs.expr.+copy.Given as goal

abbrev pub invariant-copy_exprs-loop-e : goal.invariant-copy_exprs-loop-e
invariant-copy_exprs-loop-e l = map expr_tree l.copied.items ≡ map expr_tree (take l.e-index l.exprs)

abbrev pub invariant-copy_gens-loop-gen_part : goal.invariant-copy_gens-loop-gen_part
invariant-copy_gens-loop-gen_part l = map gen_tree l.copied.items ≡ map gen_tree (take l.gen_part-index l.gens)

abbrev pub invariant-copy_type_args-loop-arg : goal.invariant-copy_type_args-loop-arg
invariant-copy_type_args-loop-arg l = map type_arg_tree l.copied.items ≡ map type_arg_tree (take l.arg-index l.args)
