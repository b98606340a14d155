use Rattle.std.proofs.Common.{◌≡◌, map, length, sym, ap, ◌∙◌, rules}
use Rattle.cal_model.specs.Value.{Items}
use Rattle.cal_model.specs.View.{in_order, value_view, values_view}
use Rattle.cal_model.specs.declared.value.Value as values
use Rattle.const_env.specs.Lengths.{is_counted}
use Rattle.const_env.proofs.Lists.{counted_within, counted_beyond}
use Rattle.const_env.proofs.lengths.+value.Goals as goal

pub is_counted_list-returns-then-len : goal.is_counted_list-returns-then-len
is_counted_list-returns-then-len t c =
    let all : values_view c.args.values.now ≡ in_order (map value_view c.deref.result.now) = search (rules, values.the_lemmas) in
    let size : c.len.result ≡ length c.deref.result.now = search rules in
    c.is_counted.ensures ∙ counted_within c.deref.result.now c.in-Some.first.now c.len.result (sym c.in-Some.ensures.value) size c.if-len.true ∙ ap (λ vs. is_counted (Items vs)) (sym all)

pub is_counted_list-returns-else-len : goal.is_counted_list-returns-else-len
is_counted_list-returns-else-len t c =
    let all : values_view c.args.values.now ≡ in_order (map value_view c.deref.result.now) = search (rules, values.the_lemmas) in
    let size : c.len.result ≡ length c.deref.result.now = search rules in
    counted_beyond c.deref.result.now c.in-Some.first.now c.len.result (sym c.in-Some.ensures.value) size c.if-len.false ∙ ap (λ vs. is_counted (Items vs)) (sym all)
