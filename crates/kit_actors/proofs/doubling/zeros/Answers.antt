use Rattle.std.proofs.Common.{◌≡◌, ◌∙◌, List, [], ◌∷◌, ap, map, pos, rules}
use Rattle.cal_model.specs.declared.value.Value as values
use Rattle.cal_model.specs.declared.value.Value.{Value}
use Rattle.cal_model.specs.declared.value.Value.TheVariants as value
use Rattle.cal_model.specs.Value.{Cons, Items, Nil, Num}
use Rattle.cal_model.specs.View.{in_order, value_view}
use Rattle.kit_actors.proofs.doubling.zeros.Goals as goal

pub returns : goal.returns
returns c =
    let two : c.push-2.new.self.items ≡ value.Num (pos 0) ∷ value.Num (pos 0) ∷ [] = search rules in
    let one : value_view (value.Num (pos 0)) ≡ Num (pos 0) = search (rules, values.the_lemmas) in
    c.listed.ensures ∙ ap (λ (xs : List Value). Items (in_order (map value_view xs))) two ∙ ap (λ v. Items (Cons v (Cons v Nil))) one
