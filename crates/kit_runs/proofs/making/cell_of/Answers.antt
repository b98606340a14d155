use Rattle.std.proofs.Common.{◌≤◌, true, subst, sym}
use Rattle.std.specs.Prelude.{All}
use Rattle.kit_runs.proofs.Celled.{roomy}
use Rattle.kit_runs.proofs.making.cell_of.Goals as goal

pub new-requires-clause-room_for_one : goal.new-requires-clause-room_for_one
new-requires-clause-room_for_one c =
    subst (λ rooms. All (λ room. 1 ≤ room) rooms) (sym c.deref-3.ensures.value)
    (roomy true c.args.plan.grow c.args.leaf c.args.links.now c.ins.result c.in_ok-ins.ins.items c.in_ok-ins.ensures)
