use Rattle.std.proofs.Common.{◌≡◌, ◌*◌, ap, sym, ◌∙◌, rules}
use Rattle.cal_model.specs.Value.{scalars_of_kind}
use Rattle.cal_model.specs.View.{kind_view}
use Rattle.cal_model.specs.declared.kind.Kind as kinds
use Rattle.const_env.specs.Fitting.{capped}
use Rattle.const_env.proofs.Capped.{capped_product}
use Rattle.const_env.proofs.kinds.+scalars.Goals as goal

pub returns-in-List : goal.returns-in-List
returns-in-List t c =
    let whole : scalars_of_kind (kind_view c.args.k.now) ≡ c.in-List.size * scalars_of_kind (kind_view c.deref.result.now) = search (rules, kinds.the_lemmas) in
    c.product.ensures ∙ ap (λ s. capped (c.in-List.size * s)) c.scalars.ensures ∙ capped_product c.in-List.size (scalars_of_kind (kind_view c.deref.result.now)) ∙ ap capped (sym whole)
