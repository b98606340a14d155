use Rattle.std.proofs.Common.{refl, subst, sym}
use Rattle.net_state.specs.Claiming.{IsTaken}
use Rattle.net_state.proofs.claiming.next_cell.Goals as goal

pub returns-in-Some : goal.returns-in-Some
returns-in-Some g c =
    subst (λ b. IsTaken b c.args.tasks.now.items c.args.rest.now.items c.into_cell.result c.pop.new.self.items c.args.rest.now.items) (sym c.if-marked.true)
    ((c.in-Some.task, c.in-Some.ensures.items, c.into_cell.ensures), refl)
