use Rattle.std.proofs.Common.{◌-◌, ◌≤◌, length, drop, ap, arith}
use Rattle.std.proofs.lemmas.List.{length-take}
use Rattle.port_files.proofs.Pulled.{skipped}
use Rattle.port_files.proofs.piece.Piece.skip.Goals as goal

pub returns : goal.returns
returns c =
    let p = c.self.inside in
    let within : c.args.count ≤ p.end - p.start =
    omega (arith, ap length c.self.view_is, length-take (p.end - p.start) (drop p.start p.bytes.items)) in
    rw (← c.self.view_is) (skipped p.bytes.items p.start p.end c.args.count within)
