use Rattle.std.proofs.lemmas.Result.{on_ok_weaker}
use Rattle.check_functions.proofs.Visiting.{other_added}
use Rattle.check_functions.proofs.order.open_name.Goals as goal

pub returns-in-None : goal.returns-in-None
returns-in-None c =
    on_ok_weaker c.add.result (λ same fs. other_added c.args.order.now c.add.new.self c.args.name.now c.place.result c.place.ensures c.in-None.is same fs) c.add.ensures
