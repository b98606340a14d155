use Rattle.std.proofs.Common.{◌≡◌, Err, length, map, sym, ap, subst, ◌∙◌, arith, rules}
use Rattle.cal_ast.specs.View.{expr_tree, optional_expr, output_tree}
use Rattle.cal_model.specs.Kinding.{Fine, kinds}
use Rattle.cal_model.specs.Rates.{parts}
use Rattle.cal_model.specs.Sound.{kind_of_tokens}
use Rattle.cal_model.specs.View.{kind_view}
use Rattle.const_env.specs.Counting.{names_view}
use Rattle.const_env.specs.Judging.{Breaks, Judges}
use Rattle.cal_check.specs.Actions.{output_judged, rate_judged, repeat_judged, values_judged}
use Rattle.check_member.specs.Parts.{exprs_tree}
use Rattle.check_action.specs.Parts.{output_on}
use Rattle.check_action.proofs.Judged.{counted_breaks, counted_fine, opens_three}
use Rattle.check_action.proofs.Walks.{parts_of_list}
use Rattle.check_action.proofs.outputs.output_repeat.Goals as goal

pub returns-in_err-rate : goal.returns-in_err-rate
returns-in_err-rate c = λ port.
    let names = names_view c.args.names.now in
    let xs = c.args.o.now.values.items in
    let at = c.args.o.now.at in
    let times = c.in_ok-times.times in
    let many : c.len.result ≡ length xs = omega arith in
    let output = output_on port c.args.o.now c.args.names.now in
    let first : kinds (exprs_tree xs) names ≡ Fine (map kind_view c.in_ok-kinds.field-0.items) = ap (λ ys. kinds (exprs_tree ys) names) (sym c.deref.ensures.value) ∙ c.in_ok-kinds.ensures in
    let stored : values_judged (kind_of_tokens c.args.t times) (exprs_tree xs) names ≡ Fine c.in_ok-values.field-0 =
    ap (λ k. values_judged k (exprs_tree xs) names) (sym c.in_ok-k.ensures) ∙ ap (λ ys. values_judged (kind_view c.in_ok-k.k) (exprs_tree ys) names) (sym c.deref-2.ensures.value) ∙ c.in_ok-values.ensures in
    let same : c.from_residual-in_err-rate.result ≡ Err c.in_err-rate.field-0.0 = search rules in
    subst (λ r. Judges output r (output_judged (output_tree c.args.o.now) port c.args.t names)) (sym same)
    (subst (λ o. Breaks c.in_err-rate.field-0.0 o)
    (sym (opens_three (kinds (exprs_tree xs) names) (repeat_judged (optional_expr c.args.o.now.repeat) at names) (λ n. values_judged (kind_of_tokens c.args.t n) (exprs_tree xs) names)
    (λ n. rate_judged (parts (exprs_tree xs)) n (output n) at) (map kind_view c.in_ok-kinds.field-0.items) times c.in_ok-values.field-0 first c.in_ok-times.ensures stored))
    (counted_breaks (output times) at (parts (exprs_tree xs)) c.len.result times (many ∙ sym (parts_of_list expr_tree xs)) c.in_err-rate.field-0.0 c.in_err-rate.ensures))

pub returns : goal.returns
returns c = λ port.
    let names = names_view c.args.names.now in
    let xs = c.args.o.now.values.items in
    let at = c.args.o.now.at in
    let times = c.in_ok-times.times in
    let many : c.len.result ≡ length xs = omega arith in
    let output = output_on port c.args.o.now c.args.names.now in
    let first : kinds (exprs_tree xs) names ≡ Fine (map kind_view c.in_ok-kinds.field-0.items) = ap (λ ys. kinds (exprs_tree ys) names) (sym c.deref.ensures.value) ∙ c.in_ok-kinds.ensures in
    let stored : values_judged (kind_of_tokens c.args.t times) (exprs_tree xs) names ≡ Fine c.in_ok-values.field-0 =
    ap (λ k. values_judged k (exprs_tree xs) names) (sym c.in_ok-k.ensures) ∙ ap (λ ys. values_judged (kind_view c.in_ok-k.k) (exprs_tree ys) names) (sym c.deref-2.ensures.value) ∙ c.in_ok-values.ensures in
    opens_three (kinds (exprs_tree xs) names) (repeat_judged (optional_expr c.args.o.now.repeat) at names) (λ n. values_judged (kind_of_tokens c.args.t n) (exprs_tree xs) names)
    (λ n. rate_judged (parts (exprs_tree xs)) n (output n) at) (map kind_view c.in_ok-kinds.field-0.items) times c.in_ok-values.field-0 first c.in_ok-times.ensures stored
    ∙ counted_fine (output times) at (parts (exprs_tree xs)) c.len.result times (many ∙ sym (parts_of_list expr_tree xs)) c.in_ok-rate.field-0 c.in_ok-rate.ensures
