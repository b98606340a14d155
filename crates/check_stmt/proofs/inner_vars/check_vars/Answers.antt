use Rattle.std.proofs.Common.{◌≡◌, Ok, Err, Some, sym, subst, rules}
use Rattle.cal_ast.specs.View.{var_tree}
use Rattle.const_env.specs.Counting.{names_view}
use Rattle.check_stmt.specs.Declaring.{DeclaresAllSaid, DeclaresSaid, seen_behind}
use Rattle.check_stmt.proofs.Walks.{vars_next, vars_refused}
use Rattle.check_stmt.proofs.inner_vars.check_vars.Goals as goal

pub vars-preserved : goal.vars-preserved
vars-preserved c =
    let variable : c.var_behind.result ≡ Ok (Some c.in-Some-2.variable) = search rules in
    vars_next c.args.passes c.vars.rest.now c.in-Some.others.now c.args.vars.now c.in-Some.first.now c.in-Some-2.variable c.vars.found c.add.new.self c.args.names.now (names_view c.args.names.now)
    c.in-Some.ensures.cases.0 c.in_ok-add.ensures.added
    (subst (λ r. DeclaresSaid c.args.passes r (var_tree c.in-Some.first.now) (seen_behind c.vars.found c.args.names.now)) variable c.var_behind.ensures) c.vars.invariant

pub returns-in_err-variable : goal.returns-in_err-variable
returns-in_err-variable c =
    let f = c.in_err-variable.field-0.0 in
    let names = names_view c.args.names.now in
    let same : c.from_residual.result ≡ Err f = search rules in
    let refused : c.var_behind.result ≡ Err f = search rules in
    subst (λ r. DeclaresAllSaid c.args.passes r c.args.vars.now c.args.names.now names) (sym same)
    (vars_refused f c.args.passes c.vars.rest.now c.in-Some.others.now c.args.vars.now c.in-Some.first.now (seen_behind c.vars.found c.args.names.now) c.args.names.now names
    c.in-Some.ensures.cases.0
    (subst (λ r. DeclaresSaid c.args.passes r (var_tree c.in-Some.first.now) (seen_behind c.vars.found c.args.names.now)) refused c.var_behind.ensures) c.vars.invariant)
