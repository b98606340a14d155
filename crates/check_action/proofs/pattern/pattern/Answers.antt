use Rattle.std.proofs.Common.{◌≡◌, Err, length, map, sym, ap, subst, ◌∙◌, arith, rules, string_bytes}
use Rattle.cal_ast.specs.View.{ident_tree, optional_expr, pattern_tree}
use Rattle.cal_model.specs.Kinding.{Fine}
use Rattle.cal_model.specs.Rates.{parts}
use Rattle.cal_model.specs.View.{pattern_view}
use Rattle.const_env.specs.Counting.{names_view}
use Rattle.const_env.specs.Judging.{Breaks, Judges}
use Rattle.cal_check.specs.Actions.{names_listed, pattern_judged, rate_judged, repeat_judged}
use Rattle.check_member.specs.Parts.{idents_tree}
use Rattle.check_action.proofs.Judged.{counted_breaks, counted_fine, opens_one}
use Rattle.check_action.proofs.Walks.{parts_of_list, pattern_of}
use Rattle.check_action.proofs.pattern.pattern.Goals as goal

pub returns-in_err-rate : goal.returns-in_err-rate
returns-in_err-rate c =
    let names = names_view c.args.names.now in
    let xs = c.args.p.now.names.items in
    let at = c.args.p.now.at in
    let times = c.in_ok-repeat.repeat in
    let many : c.len.result ≡ length xs = omega arith in
    let pattern = pattern_of c.args.port (names_listed (idents_tree xs)) in
    let same : c.from_residual-in_err-rate.result ≡ Err c.in_err-rate.field-0.0 = search rules in
    subst (λ r. Judges pattern_view r (pattern_judged (pattern_tree c.args.p.now) c.args.port names)) (sym same)
    (subst (λ o. Breaks c.in_err-rate.field-0.0 o)
    (sym (opens_one (repeat_judged (optional_expr c.args.p.now.repeat) at names) times (λ n. rate_judged (parts (idents_tree xs)) n (pattern n) at) c.in_ok-repeat.ensures))
    (counted_breaks (pattern times) at (parts (idents_tree xs)) c.len.result times (many ∙ sym (parts_of_list ident_tree xs)) c.in_err-rate.field-0.0 c.in_err-rate.ensures))

pub returns : goal.returns
returns c =
    let names = names_view c.args.names.now in
    let xs = c.args.p.now.names.items in
    let at = c.args.p.now.at in
    let times = c.in_ok-repeat.repeat in
    let many : c.len.result ≡ length xs = omega arith in
    let pattern = pattern_of c.args.port (names_listed (idents_tree xs)) in
    let texts : names_listed (idents_tree xs) ≡ map string_bytes c.in_ok-names.names.items = ap (λ ys. names_listed (idents_tree ys)) (sym c.deref.ensures.value) ∙ sym c.in_ok-names.ensures in
    opens_one (repeat_judged (optional_expr c.args.p.now.repeat) at names) times (λ n. rate_judged (parts (idents_tree xs)) n (pattern n) at) c.in_ok-repeat.ensures
    ∙ counted_fine (pattern times) at (parts (idents_tree xs)) c.len.result times (many ∙ sym (parts_of_list ident_tree xs)) c.in_ok-rate.field-0 c.in_ok-rate.ensures
    ∙ ap (λ ns. Fine (pattern_of c.args.port ns times)) texts
