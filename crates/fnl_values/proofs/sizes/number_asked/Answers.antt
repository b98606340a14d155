use Rattle.std.proofs.Common.{◌≡◌, Err, sym, ap, subst, ◌∙◌, rules}
use Rattle.cal_ast.specs.Places.{begins}
use Rattle.cal_ast.specs.View.{expr_tree}
use Rattle.cal_model.specs.Kinding.{and_so, constant}
use Rattle.const_env.specs.Held.{names_in}
use Rattle.const_env.specs.Judging.{Breaks, Judges}
use Rattle.fnl_bind.specs.Values.{size_judged, size_of_value}
use Rattle.fnl_frames.specs.Views as views
use Rattle.fnl_values.proofs.Parts.{breaks_on, size_as}
use Rattle.fnl_values.specs.Judging.{outcome_judged}
use Rattle.fnl_values.proofs.sizes.number_asked.Goals as goal

pub returns-in_err-value : goal.returns-in_err-value
returns-in_err-value c =
    let e = expr_tree c.args.asked.now.value in
    let outcome = outcome_judged (constant e (names_in c.args.env.now)) (begins e) in
    let same : c.from_residual.result ≡ Err c.in_err-value.field-0.0 = search rules in
    subst (λ r. Judges (λ n. n) r (size_judged (views.size_of c.args.asked.now) (names_in c.args.env.now))) (sym same)
    (subst (λ j. Breaks c.in_err-value.field-0.0 j) (sym (size_as c.constants_are_values.ensures c.args.env.now e c.args.asked.now.at c.requires.steady c.requires.number))
    (breaks_on c.in_err-value.field-0.0 outcome (λ v. size_of_value v c.args.asked.now.at) c.in_err-value.ensures))

pub returns : goal.returns
returns c =
    let e = expr_tree c.args.asked.now.value in
    subst (Judges (λ n. n) c.size_of_value.result)
    (sym (size_as c.constants_are_values.ensures c.args.env.now e c.args.asked.now.at c.requires.steady c.requires.number
    ∙ ap (λ j. and_so j (λ v. size_of_value v c.args.asked.now.at)) c.in_ok-value.ensures))
    c.size_of_value.ensures
