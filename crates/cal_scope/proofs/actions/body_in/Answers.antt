use Rattle.std.proofs.Common.{◌≡◌, subst, rules}
use Rattle.cal_ast.specs.View.{body_tree}
use Rattle.cal_scope.specs.Judging.{Judges}
use Rattle.cal_scope.specs.Names.{within}
use Rattle.cal_scope.specs.Statements.{else_resolved}
use Rattle.cal_scope.specs.View.{names_view}
use Rattle.cal_scope.specs.declared.frames.Frame as chain
use Rattle.cal_scope.proofs.actions.body_in.Goals as goal

pub returns : goal.returns
returns c =
    let names : names_view c.under.result ≡ within c.args.here.now (names_view c.args.names.now) = search (rules, chain.the_lemmas) in
    subst (λ ns. Judges body_tree c.optional_stmts.result (else_resolved (body_tree c.args.body.now) ns)) names c.optional_stmts.ensures
