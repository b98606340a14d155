use Rattle.std.proofs.Common.{map, refl, ap, arith}
use Rattle.cal_ast.specs.Tree.{listed}
use Rattle.cal_ast.specs.View.{type_arg_tree}
use Rattle.cal_check.proofs.Lists.{none-left}
use Rattle.cal_check.specs.Written.{written}
use Rattle.const_env.specs.Counting.{names_view}
use Rattle.check_fold.proofs.Onto.{onto_done, onto_each}
use Rattle.check_fold.proofs.Sizes.{size}
use Rattle.check_fold.proofs.types.+types.Goals as goal

pub type_args-each-preserved : goal.type_args-each-preserved
type_args-each-preserved t c = (
  onto_each type_arg_tree (λ a. written a (names_view c.args.names.now)) c.each.found.items c.push.new.self.items c.each.rest.now c.in-Some.others.now c.in-Some.first.now c.in_ok-type_arg.field-0
      (written (listed (map type_arg_tree c.args.args.now)) (names_view c.args.names.now)) (λ a more. refl) c.in-Some.ensures.cases.0 c.in_ok-push.ensures.items c.in_ok-type_arg.ensures c.each.invariant.0,
  omega (arith, ap (λ xs. size (listed (map type_arg_tree xs))) c.in-Some.ensures.cases.0, c.each.invariant.1),
)

pub type_args-returns : goal.type_args-returns
type_args-returns t c =
    onto_done type_arg_tree (λ a. written a (names_view c.args.names.now)) c.each.found.items c.each.rest.now (written (listed (map type_arg_tree c.args.args.now)) (names_view c.args.names.now))
    refl (none-left c.each.rest.now c.in_default.ensures.cases) c.each.invariant.0
