use Rattle.std.proofs.Common.{◌≡◌, Err, map, string_bytes, sym, subst, ◌∙◌, rules}
use Rattle.cal_ast.specs.View.{expr_tree, function_tree}
use Rattle.cal_model.specs.View.{fun_view, local_view}
use Rattle.const_env.specs.Counting.{names_view}
use Rattle.const_env.specs.Judging.{Judges}
use Rattle.const_env.specs.declared.inside.Inside as chain
use Rattle.check_fold.specs.Seeing.{seen_behind}
use Rattle.check_build_routine.specs.Declaring.{fun_behind}
use Rattle.check_build_routine.proofs.Functions.{fun_breaks, fun_done}
use Rattle.check_build_routine.proofs.routines.fun_with.Goals as goal

pub returns : goal.returns
returns c =
    let fs = map local_view c.args.head.formals.items in
    let here : names_view c.under-here.result ≡ seen_behind c.args.head.behind c.args.names.now = search (rules, chain.the_lemmas) in
    let text : string_bytes c.in_ok-name.name ≡ c.args.full.now = search rules in
    fun_done c.args.full.now (string_bytes c.in_ok-name.name) c.args.decl.now fs (map local_view c.in_ok-found.found.locals.items) c.in_ok-result.result (expr_tree c.in_ok-found.found.body) (names_view c.args.names.now) (names_view c.under-here.result)
    text (here ∙ c.requires) c.in_ok-result.ensures c.in_ok-found.ensures.locals c.in_ok-found.ensures.body

pub returns-in_err-result : goal.returns-in_err-result
returns-in_err-result c =
    let f = c.in_err-result.field-0.0 in
    let fs = map local_view c.args.head.formals.items in
    let here : names_view c.under-here.result ≡ seen_behind c.args.head.behind c.args.names.now = search (rules, chain.the_lemmas) in
    let same : c.from_residual.result ≡ Err f = search rules in
    subst (λ r. Judges fun_view r (fun_behind c.args.full.now (function_tree c.args.decl.now) fs (names_view c.args.names.now))) (sym same)
    (fun_breaks f c.args.full.now c.args.decl.now fs (names_view c.args.names.now) (names_view c.under-here.result) (here ∙ c.requires) c.in_err-result.ensures)
