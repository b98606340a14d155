use Rattle.std.proofs.Common.{◌≡◌, map, subst, rules}
use Rattle.cal_ast.specs.Tree.{listed}
use Rattle.cal_ast.specs.View.{expr_tree}
use Rattle.cal_scope.specs.Judging.{Judges}
use Rattle.cal_scope.specs.Expressions.{exprs_resolved}
use Rattle.cal_scope.specs.Names.{within}
use Rattle.cal_scope.specs.View.{names_view}
use Rattle.cal_scope.specs.declared.frames.Frame as chain
use Rattle.cal_scope.proofs.actions.exprs_in.Goals as goal

pub returns : goal.returns
returns c =
    let names : names_view c.under.result ≡ within c.args.here.now (names_view c.args.names.now) = search (rules, chain.the_lemmas) in
    subst (λ ns. Judges (λ found. map expr_tree found.items) c.exprs.result (exprs_resolved (listed (map expr_tree c.args.list.now)) ns)) names c.exprs.ensures
