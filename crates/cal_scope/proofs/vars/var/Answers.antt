use Rattle.std.proofs.Common.{◌≡◌, false, [], sym, subst, rules}
use Rattle.std.specs.Prelude.{string_bytes}
use Rattle.cal_ast.specs.View.{var_tree}
use Rattle.cal_scope.specs.Judging.{Judges}
use Rattle.cal_scope.specs.Statements.{var_resolved}
use Rattle.cal_scope.specs.Names.{is_among, within}
use Rattle.cal_scope.specs.View.{names_view}
use Rattle.cal_scope.specs.declared.frames.Frame as chain
use Rattle.cal_scope.proofs.EachOf.{new_var}
use Rattle.cal_scope.proofs.vars.var.Goals as goal

pub returns : goal.returns
returns c =
    let names : names_view c.under.result ≡ within c.args.here.now (names_view c.args.names.now) = search (rules, chain.the_lemmas) in
    let away : is_among (string_bytes c.args.v.now.name.text) c.args.here.now ≡ false = search rules in
    subst (λ o. Judges var_tree c.first_var.result o) (sym (new_var c.args.v.now c.args.here.now (within c.args.here.now (names_view c.args.names.now)) away))
    (subst (λ ns. Judges var_tree c.first_var.result (var_resolved (var_tree c.args.v.now) [] ns)) names c.first_var.ensures)
