use Rattle.std.proofs.Common.{map, ap, ◌∙◌, rules}
use Rattle.std.proofs.lemmas.Fn.{filter_same}
use Rattle.cal_model.specs.View.{var_view}
use Rattle.check_used.specs.Using.{keeps}
use Rattle.check_used.proofs.Found.{filtered, vars_kept}
use Rattle.check_used.proofs.kept.keep_vars.Goals as goal

pub returns : goal.returns
returns c = λ s h.
    ap (map var_view) (filter_same _ (λ x. keeps (var_view x).name c.args.used.now) _ (λ x b f' k. search rules) _ _ c.retain.ensures.filtered)
    ∙ filtered var_view (λ x. keeps x.name c.args.used.now) c.args.vars.now.items
    ∙ vars_kept (map var_view c.args.vars.now.items) s (λ name. keeps name c.args.used.now) h
