use Rattle.std.proofs.Common.{◌≡◌, Err, Some, map, sym, subst, rules}
use Rattle.cal_ast.specs.View.{action_tree}
use Rattle.cal_model.specs.View.{pattern_view}
use Rattle.cal_check.specs.Actions.{patterns_broken, patterns_fine, with_all_patterns}
use Rattle.check_member.specs.Asking.{patterns_tree}
use Rattle.check_stmt.specs.Declaring.{seen_behind}
use Rattle.check_stmt.specs.Judging.{Refuses}
use Rattle.check_action.specs.Parts.{around_view}
use Rattle.check_build_action.proofs.ActionSteps.{built_of, patterns_break}
use Rattle.check_build_action.specs.Building.{BuildsAction, BuildsInside}
use Rattle.check_build_action.proofs.acting.action.Goals as goal

pub returns-in_err-taken : goal.returns-in_err-taken
returns-in_err-taken c =
    let a = c.args.a.now in
    let around = around_view c.args.parts.now c.args.names.now in
    let f = c.in_err-taken.field-0.0 in
    let same : c.from_residual.result ≡ Err f = search rules in
    let breaks : Refuses f (patterns_broken (patterns_tree a.patterns.items) around.ins around.names) = search rules in
    subst (λ r. BuildsAction r (action_tree a) around) (sym same) (patterns_break f a around breaks)

pub returns : goal.returns
returns c =
    let a = c.args.a.now in
    let around = around_view c.args.parts.now c.args.names.now in
    let qs = map pattern_view c.in_ok-taken.taken.items in
    let inner = seen_behind c.in_ok-seen.seen c.args.names.now in
    let seen : inner ≡ with_all_patterns around.ins qs around.names = search rules in
    let fine : patterns_fine (patterns_tree a.patterns.items) around.ins around.names ≡ Some qs = search rules in
    let built : BuildsInside c.behind_patterns.result a qs around inner = search rules in
    built_of c.behind_patterns.result a qs around inner fine seen built
