use Rattle.std.proofs.Common.{◌≡◌, true, ◌∙◌, rules}
use Rattle.check_functions.specs.Order.{all_seen}
use Rattle.check_functions.proofs.Visiting.{each_seen}
use Rattle.check_functions.proofs.order.close.Goals as goal

pub returns : goal.returns
returns c =
    let names = (c.args.order.now).names in
    let all : all_seen c.in_ok-used.used names ≡ true = search rules in
    (c.in_ok-add.ensures, λ x u. each_seen c.in_ok-used.used names all x (c.in_ok-used.ensures x ∙ u))
