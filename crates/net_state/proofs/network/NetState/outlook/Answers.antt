use Rattle.std.proofs.Common.{◌≡◌, arith, length, map}
use Rattle.std.proofs.lemmas.List.{length-map}
use Rattle.net_state.proofs.Surveying.{leaf_beyond, quiet_here, stalls_here}
use Rattle.net_state.proofs.network.NetState.outlook.Goals as goal

pub returns-in-AllWait-clause-outlook : goal.returns-in-AllWait-clause-outlook
returns-in-AllWait-clause-outlook g c net s stands wired fed =
    let few : length (map g.A.Firing.cell c.args.self.now.cells) ≡ length c.args.self.now.cells = length-map c.args.self.now.cells g.A.Firing.cell in
    quiet_here net s (length c.args.self.now.cells)
    (λ j high. leaf_beyond net (map g.A.Firing.cell c.args.self.now.cells) c.args.self.now.links stands.is_of j (omega (arith, few, high)))
    (c.in-AllWait.ensures.settled net s stands) (c.in-AllWait.ensures.tells net s stands wired fed)

pub returns-in-Lacks-clause-outlook : goal.returns-in-Lacks-clause-outlook
returns-in-Lacks-clause-outlook g c net s stands wired fed =
    let few : length (map g.A.Firing.cell c.args.self.now.cells) ≡ length c.args.self.now.cells = length-map c.args.self.now.cells g.A.Firing.cell in
    stalls_here net s (length c.args.self.now.cells)
    (λ j high. leaf_beyond net (map g.A.Firing.cell c.args.self.now.cells) c.args.self.now.links stands.is_of j (omega (arith, few, high)))
    (c.in-Lacks.ensures.settled net s stands) c.in-Lacks.inst.0 c.in-Lacks.action.0 (c.in-Lacks.ensures.tells net s stands wired fed)
    c.stalled_at.result (c.stalled_at.ensures.stalls net s (c.in-Lacks.ensures.still.stays net s stands))
