use Rattle.std.proofs.Common.{◌≡◌, ℕ, suc, ap, sym, ◌∙◌, rules}
use Rattle.cal_model.specs.declared.kind.Shape as shapes
use Rattle.cal_model.specs.Value.{Shape, Many}
use Rattle.cal_model.specs.View.{shape_view}
use Rattle.lower_base.specs.ItemsSeen.{items_at}
use Rattle.expr_lower.specs.declared.indexes.Indexes as links
use Rattle.expr_lower.specs.Indexing.{number_of}
use Rattle.expr_lower.proofs.Deeper.{items_deeper}
use Rattle.expr_lower.proofs.apart.+items_at.Goals as goal

pub returns-in-OneMore : goal.returns-in-OneMore
returns-in-OneMore t c =
    let less : ℕ = number_of c.in-OneMore.less.now in
    let items : Shape = shape_view c.deref.result.now in
    let depth : number_of c.args.depth.now ≡ suc (number_of c.in-OneMore.less.now) = search (rules, links.the_lemmas) in
    let shape : shape_view c.args.shape.now ≡ Many c.in-List.count (shape_view c.deref.result.now) = search (rules, shapes.the_lemmas) in
    c.items_at.ensures ∙ sym (ap (λ k. items_at k (shape_view c.args.shape.now)) depth ∙ ap (items_at (suc less)) shape ∙ items_deeper less c.in-List.count items)
