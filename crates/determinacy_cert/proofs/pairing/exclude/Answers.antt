use Rattle.std.proofs.Common.{◌≡◌, List, map, sym, ap, ◌∙◌}
use Rattle.std.specs.Prelude.{option_map}
use Rattle.cal_ast.specs.View.{expr_tree}
use Rattle.cal_model.specs.Actor.{Pattern}
use Rattle.cal_model.specs.View.{pattern_view}
use Rattle.determinacy_cert.specs.Deciding.{compare_apart, compared, denied, is_not_of}
use Rattle.determinacy_cert.specs.Viewing.{comparison_view}
use Rattle.determinacy_cert.proofs.Listed.{or_first, or_second, or_third}
use Rattle.determinacy_cert.proofs.pairing.exclude.Goals as goal
use Rattle.determinacy_cert.proofs.pairing.exclude.Goals.{After-compare_apart}

apart : (c : After-compare_apart) → c.compare_apart.result
    ≡ compare_apart (compared (expr_tree c.args.e.now)) (map pattern_view c.args.patterns.now) (compared (expr_tree c.args.f.now)) (map pattern_view c.args.others.now)
apart c =
    let qs : List Pattern = map pattern_view c.args.patterns.now in
    let rs : List Pattern = map pattern_view c.args.others.now in
    c.compare_apart.ensures
    ∙ ap (λ x. compare_apart x qs (option_map comparison_view c.compared-2.result) rs) c.compared.ensures
    ∙ ap (λ x. compare_apart (compared (expr_tree c.args.e.now)) qs x rs) c.compared-2.ensures

pub returns-then-compare_apart : goal.returns-then-compare_apart
returns-then-compare_apart c =
    let qs : List Pattern = map pattern_view c.args.patterns.now in
    let rs : List Pattern = map pattern_view c.args.others.now in
    or_first
    (compare_apart (compared (expr_tree c.args.e.now)) qs (compared (expr_tree c.args.f.now)) rs)
    (is_not_of (expr_tree c.args.e.now) qs (denied (expr_tree c.args.f.now)) rs)
    (is_not_of (expr_tree c.args.f.now) rs (denied (expr_tree c.args.e.now)) qs)
    (sym (apart (goal.at.returns-then-compare_apart c).After-compare_apart) ∙ c.if-compare_apart.true)

pub returns-then-is_not_of : goal.returns-then-is_not_of
returns-then-is_not_of c =
    let qs : List Pattern = map pattern_view c.args.patterns.now in
    let rs : List Pattern = map pattern_view c.args.others.now in
    or_second
    (compare_apart (compared (expr_tree c.args.e.now)) qs (compared (expr_tree c.args.f.now)) rs)
    (is_not_of (expr_tree c.args.e.now) qs (denied (expr_tree c.args.f.now)) rs)
    (is_not_of (expr_tree c.args.f.now) rs (denied (expr_tree c.args.e.now)) qs)
    (sym c.is_not_of.ensures ∙ c.if-is_not_of.true)

pub returns : goal.returns
returns c =
    let qs : List Pattern = map pattern_view c.args.patterns.now in
    let rs : List Pattern = map pattern_view c.args.others.now in
    or_third
    (compare_apart (compared (expr_tree c.args.e.now)) qs (compared (expr_tree c.args.f.now)) rs)
    (is_not_of (expr_tree c.args.e.now) qs (denied (expr_tree c.args.f.now)) rs)
    (is_not_of (expr_tree c.args.f.now) rs (denied (expr_tree c.args.e.now)) qs)
    c.is_not_of-2.result
    (sym (apart (goal.at.returns c).After-compare_apart) ∙ c.if-compare_apart.false)
    (sym c.is_not_of.ensures ∙ c.if-is_not_of.false)
    c.is_not_of-2.ensures
