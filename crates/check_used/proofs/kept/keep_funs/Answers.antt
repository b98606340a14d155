use Rattle.std.proofs.Common.{map, ap, ◌∙◌, rules}
use Rattle.std.proofs.lemmas.Fn.{filter_same}
use Rattle.cal_model.specs.View.{fun_view}
use Rattle.check_used.specs.Using.{keeps}
use Rattle.check_used.proofs.Found.{filtered, funs_kept}
use Rattle.check_used.proofs.kept.keep_funs.Goals as goal

pub returns : goal.returns
returns c = λ s h.
    ap (map fun_view) (filter_same _ (λ x. keeps (fun_view x).name c.args.used.now) _ (λ x b f' k. search rules) _ _ c.retain.ensures.filtered)
    ∙ filtered fun_view (λ x. keeps x.name c.args.used.now) c.args.funs.now.items
    ∙ funs_kept (map fun_view c.args.funs.now.items) s (λ name. keeps name c.args.used.now) h
