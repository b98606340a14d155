use Rattle.std.proofs.Common.{◌≡◌, sym, ap, ◌∙◌, List}
use Rattle.std.specs.Prelude.{option_map}
use Rattle.cal_ast.specs.View.{expr_tree}
use Rattle.cal_model.specs.Certified.{Ranged, indexed, item_ranged, on_interval, on_ranged, range, range_of_name}
use Rattle.determinacy_cert.specs.Viewing.{found_view, interval_view, names_view, unnamed}
use Rattle.determinacy_cert.proofs.Forms.{expr_index}
use Rattle.determinacy_cert.proofs.Places.{numbers_found}
use Rattle.determinacy_cert.proofs.range.+range.Goals as goal

pub range-returns-in-Index : goal.range-returns-in-Index
range-returns-in-Index t c =
    let names : List Ranged = names_view c.args.names in
    let list : option_map found_view c.indexed.result ≡ option_map unnamed (indexed (expr_tree c.deref-in-Index.result.now) names) = c.indexed.ensures in
    let place : option_map interval_view c.range-in-Index.result ≡ range (expr_tree c.deref-in-Index-2.result.now) names = c.range-in-Index.ensures in
    c.of_index.ensures
    ∙ ap (λ o. on_ranged o (λ x. on_interval (option_map interval_view c.range-in-Index.result) (λ i. on_ranged (item_ranged i x) (λ y. range_of_name y)))) list
    ∙ ap (λ p. on_ranged (option_map unnamed (indexed (expr_tree c.deref-in-Index.result.now) names)) (λ x. on_interval p (λ i. on_ranged (item_ranged i x) (λ y. range_of_name y)))) place
    ∙ numbers_found (indexed (expr_tree c.deref-in-Index.result.now) names) (range (expr_tree c.deref-in-Index-2.result.now) names)
    ∙ sym (ap (λ e. range e names)
    (expr_index c.args.e.now c.in-Index.base c.in-Index.place c.deref-in-Index.result.now c.deref-in-Index-2.result.now c.in-Index.is c.deref-in-Index.ensures c.deref-in-Index-2.ensures))
