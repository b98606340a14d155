use Rattle.std.proofs.Common.{map, subst, sym}
use Rattle.net_state.specs.Held.{seen}
use Rattle.net_state.specs.Working.{HasAction, IsAtRest, LacksAsEnds}
use Rattle.net_state.proofs.Lowest.{lacks_as_ends}
use Rattle.net_state.proofs.network.NetState.lacking.Goals as goal

pub returns-clause-as_ends : goal.returns-clause-as_ends
returns-clause-as_ends g c =
    subst (λ h. LacksAsEnds (seen g.A.Firing.cell h) c.args.inst.0 c.args.action.0) c.self.view_is
    (lacks_as_ends (map g.A.Firing.cell c.self.inside.cells.items) c.self.inside.links.items c.self.inside.capacities.items c.self.inside.waited.items c.args.inst.0 c.args.action.0
    c.self.invariant.0 (subst (λ h. IsAtRest (seen g.A.Firing.cell h)) (sym c.self.view_is) c.requires.rest)
    (subst (λ h. HasAction (map g.A.Firing.cell h.cells) c.args.inst.0 c.args.action.0) (sym c.self.view_is) c.requires.action))
