use Rattle.std.proofs.Common.{map, sym, arith}
use Rattle.std.proofs.lemmas.List.{length-map}
use Rattle.cal_ast.specs.View.{type_arg_tree}
use Rattle.lower_base.proofs.MeantIs.{many_args}
use Rattle.expr_lower.proofs.types.size_written.Goals as goal

pub returns-in_default : goal.returns-in_default
returns-in_default c =
    let same = length-map c.args.args.now type_arg_tree in
    let many = c.in_default.len_at_least in
    sym (many_args (map type_arg_tree c.args.args.now) (omega (arith, same, many)))
