use Rattle.std.proofs.Common.{map, subst}
use Rattle.net_state.specs.Held.{seen}
use Rattle.net_state.specs.Reopening.{FitWaited}
use Rattle.net_state.proofs.Noted.{fit_waited}
use Rattle.net_state.proofs.network.NetState.note_waited.Goals as goal

pub returns-clause-fit : goal.returns-clause-fit
returns-clause-fit g c =
    subst (λ h. FitWaited (seen g.A.Firing.cell h)) c.self.view_is
    (fit_waited (map g.A.Firing.cell c.self.inside.cells.items) c.self.inside.links.items c.self.inside.capacities.items c.self.inside.waited.items c.self.invariant.0)
