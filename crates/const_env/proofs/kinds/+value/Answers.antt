use Rattle.std.proofs.Common.{◌≡◌, ◌<◌, map, length, sym, ap, ◌∙◌, rules, arith}
use Rattle.cal_model.specs.Value.{ListKind, Items}
use Rattle.cal_model.specs.View.{in_order, kind_view, value_view, values_view}
use Rattle.cal_model.specs.declared.kind.Kind as kinds
use Rattle.cal_model.specs.declared.value.Value as values
use Rattle.const_env.specs.Constants.{kind_of_value}
use Rattle.const_env.specs.Lengths.{is_counted}
use Rattle.const_env.proofs.Lists.{counted_length, first_kind}
use Rattle.const_env.proofs.kinds.+value.Goals as goal

pub kind_of_values-overflow_cast-result : goal.kind_of_values-overflow_cast-result
kind_of_values-overflow_cast-result t c =
    let all : values_view c.args.values.now ≡ in_order (map value_view c.deref.result.now) = search (rules, values.the_lemmas) in
    let size : c.len.result ≡ length c.deref.result.now = search rules in
    let few : length c.deref.result.now < 4294967296 = counted_length c.deref.result.now c.in-Some.first.now (sym c.in-Some.ensures.value) (ap (λ vs. is_counted (Items vs)) (sym all) ∙ c.requires) in
    omega arith

pub kind_of_values-returns : goal.kind_of_values-returns
kind_of_values-returns t c =
    let all : values_view c.args.values.now ≡ in_order (map value_view c.deref.result.now) = search (rules, values.the_lemmas) in
    let size : c.len.result ≡ length c.deref.result.now = search rules in
    let item : kind_view c.in_ok-new-2.field-0.value ≡ kind_of_value (value_view c.in-Some.first.now) = ap kind_view c.in_ok-new-2.ensures.ok ∙ c.in_ok-items.ensures in
    let made : kind_view (kinds.List c.len.result c.in_ok-new-2.field-0) ≡ ListKind c.len.result (kind_view c.in_ok-new-2.field-0.value) = search (rules, kinds.the_lemmas) in
    made ∙ ap (λ n. ListKind n (kind_view c.in_ok-new-2.field-0.value)) size ∙ ap (ListKind (length c.deref.result.now)) item
    ∙ sym (first_kind c.deref.result.now c.in-Some.first.now (sym c.in-Some.ensures.value))
    ∙ ap (λ vs. kind_of_value (Items vs)) (sym all)
