use Rattle.std.proofs.Common.{◌≡◌, ◌*◌, ap, sym, ◌∙◌, rules}
use Rattle.cal_model.specs.Value.{scalars_of_type}
use Rattle.cal_model.specs.View.{shape_view}
use Rattle.cal_model.specs.declared.kind.Shape as shapes
use Rattle.const_env.specs.Fitting.{capped}
use Rattle.const_env.proofs.Capped.{capped_product}
use Rattle.const_expr.proofs.shapes.+scalars_in.Goals as goal

pub returns-in-List : goal.returns-in-List
returns-in-List t c =
    let whole : scalars_of_type (shape_view c.args.t.now) ≡ c.in-List.size * scalars_of_type (shape_view c.deref.result.now) = search (rules, shapes.the_lemmas) in
    c.product.ensures ∙ ap (λ s. capped (c.in-List.size * s)) c.scalars_in.ensures ∙ capped_product c.in-List.size (scalars_of_type (shape_view c.deref.result.now)) ∙ ap capped (sym whole)
