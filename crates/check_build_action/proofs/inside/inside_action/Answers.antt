use Rattle.std.proofs.Common.{◌≡◌, Err, map, string_bytes, sym, subst, rules}
use Rattle.std.specs.Prelude.{option_map}
use Rattle.cal_ast.specs.Tree.{listed}
use Rattle.cal_ast.specs.View.{body_tree, expr_tree, optional, stmt_tree, tag_tree}
use Rattle.cal_model.specs.Kinding.{Fine}
use Rattle.cal_model.specs.View.{local_view, output_view, pattern_view}
use Rattle.cal_check.specs.Actions.{body_of, guards_written, or_none, outputs_fine, tag_parts}
use Rattle.cal_check.specs.Routines.{locals_of}
use Rattle.cal_check.specs.Statements.{names_behind}
use Rattle.cal_check.specs.Written.{statement_written}
use Rattle.const_env.specs.Counting.{names_view}
use Rattle.check_member.specs.Asking.{outputs_tree}
use Rattle.check_member.specs.Parts.{exprs_tree}
use Rattle.check_stmt.specs.Declaring.{seen_behind}
use Rattle.check_stmt.specs.Judging.{Refuses}
use Rattle.check_action.specs.Parts.{around_view, rest_of}
use Rattle.check_build_action.proofs.InsideSteps.{action_made, refuses_rest, refuses_vars}
use Rattle.check_build_action.specs.Building.{BuildsInside, vars_broken, vars_tree}
use Rattle.check_build_action.proofs.inside.inside_action.Goals as goal

pub returns-in_err-found : goal.returns-in_err-found
returns-in_err-found c =
    let a = c.args.a.now in
    let names = names_view c.args.names.now in
    let around = around_view c.args.parts.now c.args.names.now in
    let f = c.in_err-found.field-0.0 in
    let same : c.from_residual.result ≡ Err f = search rules in
    let breaks : Refuses f (vars_broken (vars_tree a.vars.items) names) = search rules in
    subst (λ r. BuildsInside r a (map pattern_view c.args.taken.items) around names) (sym same) (refuses_vars f a around names breaks)

pub returns-in_err-rest : goal.returns-in_err-rest
returns-in_err-rest c =
    let a = c.args.a.now in
    let names = names_view c.args.names.now in
    let around = around_view c.args.parts.now c.args.names.now in
    let f = c.in_err-rest.field-0.0 in
    let here = seen_behind c.in_ok-found.found.behind c.args.names.now in
    let same : c.from_residual-in_err-rest.result ≡ Err f = search rules in
    let behind : names_behind (vars_tree a.vars.items) names ≡ Fine here = search rules in
    let breaks : Refuses f (rest_of a around here) = search rules in
    subst (λ r. BuildsInside r a (map pattern_view c.args.taken.items) around names) (sym same) (refuses_rest f a around names here behind breaks)

pub returns : goal.returns
returns c =
    let a = c.args.a.now in
    let names = names_view c.args.names.now in
    let around = around_view c.args.parts.now c.args.names.now in
    let here = seen_behind c.in_ok-found.found.behind c.args.names.now in
    let behind : names_behind (vars_tree a.vars.items) names ≡ Fine here = search rules in
    let tag : map string_bytes c.in_ok-tag.tag.items ≡ tag_parts (optional (option_map tag_tree a.tag)) = search rules in
    let sent : map output_view c.in_ok-rest.rest.outputs.items ≡ or_none (outputs_fine (outputs_tree a.outputs.items) around.outs here) = search rules in
    let guards : map expr_tree c.in_ok-guards.guards.items ≡ guards_written (exprs_tree a.guards.items) names = search rules in
    let locals : map local_view c.in_ok-found.found.locals.items ≡ locals_of (vars_tree a.vars.items) names = search rules in
    let body : listed (map stmt_tree c.in_ok-rest.rest.body.items) ≡ statement_written (body_of (body_tree a.body)) here = search rules in
    action_made a (map string_bytes c.in_ok-tag.tag.items) (map pattern_view c.args.taken.items) (map output_view c.in_ok-rest.rest.outputs.items) (map expr_tree c.in_ok-guards.guards.items)
    (map local_view c.in_ok-found.found.locals.items) (listed (map stmt_tree c.in_ok-rest.rest.body.items)) around names here behind tag sent guards locals body
