use Rattle.std.proofs.Common.{◌≡◌, ◌*◌, ap, sym, ◌∙◌, rules}
use Rattle.cal_model.specs.Value.{scalars_of_type}
use Rattle.cal_model.specs.View.{shape_view}
use Rattle.cal_model.specs.declared.kind.Shape as shapes
use Rattle.check_actor.specs.Phases.{capped}
use Rattle.check_actor.proofs.Counts.{capped_product}
use Rattle.check_actor.proofs.scalars.+scalars_of_type.Goals as goal

pub returns-in-List : goal.returns-in-List
returns-in-List t c =
    let items = c.deref.result.now in
    let whole : scalars_of_type (shape_view c.args.t.now) ≡ c.in-List.count * scalars_of_type (shape_view items) = search (rules, shapes.the_lemmas) in
    c.product.ensures ∙ ap (λ s. capped (c.in-List.count * s)) c.scalars_of_type.ensures ∙ capped_product c.in-List.count (scalars_of_type (shape_view items)) ∙ ap capped (sym whole)
