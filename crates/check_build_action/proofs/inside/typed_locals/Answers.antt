use Rattle.std.proofs.Common.{◌≡◌, true, sym, ap, ◌∙◌, rules}
use Rattle.cal_model.specs.Kinding.{Fine}
use Rattle.const_env.specs.Counting.{names_view}
use Rattle.check_build_action.proofs.InsideSteps.{typed_behind}
use Rattle.check_build_action.specs.Building.{vars_tree}
use Rattle.check_build_action.proofs.inside.typed_locals.Goals as goal

pub returns-clause-behind : goal.returns-clause-behind
returns-clause-behind c =
    let typed : c.in_ok-found.found.typed ≡ true = search rules in
    typed_behind (vars_tree c.args.declared.now) (names_view c.args.names.now) (sym c.in_ok-found.ensures.typed ∙ typed) ∙ ap Fine (sym c.in_ok-found.ensures.behind)
