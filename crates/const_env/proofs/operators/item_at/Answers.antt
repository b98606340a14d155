use Rattle.std.proofs.Common.{◌<◌, length, ◌∙◌, ap, sym, refl, rules}
use Rattle.cal_model.specs.Outcome.{Gives}
use Rattle.cal_model.specs.View.{value_view}
use Rattle.const_env.proofs.Lists.{item_gone, item_here}
use Rattle.const_env.proofs.operators.item_at.Goals as goal

pub returns-then-number-items : goal.returns-then-number-items
returns-then-number-items c = λ left.
    let small : length c.args.items.now < 18446744073709551616 = search rules in
    item_gone c.args.number c.args.items.now left (length c.args.items.now) c.ranges.number refl small c.if-number-lt0.false c.if-number-items.true

pub returns : goal.returns
returns c = λ left.
    let small : length c.args.items.now < 18446744073709551616 = search rules in
    item_here c.args.number c.args.items.now c.index-items-number.result left (length c.args.items.now) c.ranges.number refl small c.if-number-lt0.false c.if-number-items.false
    ∙ ap (λ v. Gives (value_view v) left) (sym c.index-items-number.is)
    ∙ ap (λ v. Gives v left) (sym c.in_ok-copy.ensures)
