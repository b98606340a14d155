use Rattle.std.proofs.Common.{◌≡◌, Err, ◌∷◌, ◌++◌, map, sym, ap, subst, ◌∙◌, rules}
use Rattle.cal_ast.specs.View.{pattern_tree}
use Rattle.cal_model.specs.Kinding.{Fine}
use Rattle.cal_model.specs.View.{pattern_view}
use Rattle.const_env.specs.Counting.{names_view}
use Rattle.cal_check.specs.Actions.{pattern_judged, patterns_on}
use Rattle.check_member.specs.Asking.{patterns_tree}
use Rattle.check_action.specs.Parts.{JudgesAll}
use Rattle.check_action.proofs.Each.{each_breaks}
use Rattle.check_action.proofs.pattern.patterns_on.Goals as goal

pub returns-in_err-next : goal.returns-in_err-next
returns-in_err-next c =
    let names = names_view c.args.names.now in
    let found = map pattern_view c.patterns.found.items in
    let whole = patterns_on (patterns_tree c.args.patterns.now) c.args.numbers.now names in
    let same : c.from_residual.result ≡ Err c.in_err-next.field-0.0 = search rules in
    subst (λ r. JudgesAll pattern_view r whole) (sym same)
    (each_breaks c.in_err-next.field-0.0 whole found (pattern_judged (pattern_tree c.in-Some.first.now) c.in-Some-split_first.number.now names)
    (patterns_on (patterns_tree c.in-Some.others.now) c.in-Some-split_first.later.now names) c.in_err-next.ensures
    (c.patterns.invariant
    ∙ ap (λ ps. map Fine found ++ patterns_on (patterns_tree ps) c.patterns.left.now names) c.in-Some.ensures.cases.0
    ∙ ap (λ ns. map Fine found ++ patterns_on (patterns_tree (c.in-Some.first.now ∷ c.in-Some.others.now)) ns names) c.in-Some-split_first.ensures.cases.0))
