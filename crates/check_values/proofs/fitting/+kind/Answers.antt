use Rattle.std.proofs.Common.{◌≡◌, map, length, sym, ap, ◌∙◌, rules}
use Rattle.cal_model.specs.Value.{ListKind, Items}
use Rattle.cal_model.specs.View.{in_order, kind_view, value_view}
use Rattle.cal_model.specs.declared.kind.Kind as kinds
use Rattle.cal_model.specs.declared.value.Value as values
use Rattle.cal_check.specs.Constants.{has_kind, have_kind}
use Rattle.check_values.proofs.Lists.{as_long, not_as_long}
use Rattle.check_values.proofs.fitting.+kind.Goals as goal

pub has_kind-returns-then-len-n : goal.has_kind-returns-then-len-n
has_kind-returns-then-len-n t c =
    let value : value_view c.args.value.now ≡ Items (in_order (map value_view c.in-List.values.items.items)) = search (rules, values.the_lemmas) in
    let kind : kind_view c.args.k.now ≡ ListKind c.in-List-k.n (kind_view c.in-List-k.items.value) = search (rules, kinds.the_lemmas) in
    let size : c.len.result ≡ length c.in-List.values.items.items = search rules in
    let all : c.have_kind.result ≡ have_kind (kind_view c.in-List-k.items.value) (in_order (map value_view c.in-List.values.items.items)) = search rules in
    as_long c.in-List-k.n c.len.result (kind_view c.in-List-k.items.value) c.in-List.values.items.items c.have_kind.result size c.if-len-n.true all
    ∙ ap (λ k. has_kind k (Items (in_order (map value_view c.in-List.values.items.items)))) (sym kind)
    ∙ ap (has_kind (kind_view c.args.k.now)) (sym value)

pub has_kind-returns-else-len-n : goal.has_kind-returns-else-len-n
has_kind-returns-else-len-n t c =
    let value : value_view c.args.value.now ≡ Items (in_order (map value_view c.in-List.values.items.items)) = search (rules, values.the_lemmas) in
    let kind : kind_view c.args.k.now ≡ ListKind c.in-List-k.n (kind_view c.in-List-k.items.value) = search (rules, kinds.the_lemmas) in
    let size : c.len.result ≡ length c.in-List.values.items.items = search rules in
    not_as_long c.in-List-k.n c.len.result (kind_view c.in-List-k.items.value) c.in-List.values.items.items size c.if-len-n.false
    ∙ ap (λ k. has_kind k (Items (in_order (map value_view c.in-List.values.items.items)))) (sym kind)
    ∙ ap (has_kind (kind_view c.args.k.now)) (sym value)
