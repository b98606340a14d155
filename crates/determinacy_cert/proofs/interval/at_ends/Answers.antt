use Rattle.std.proofs.Common.{◌≡◌, ℤ, rules}
use Rattle.determinacy_cert.specs.Deciding.{numbered}
use Rattle.determinacy_cert.specs.Viewing.{computed}
use Rattle.determinacy_cert.proofs.interval.at_ends.Goals as goal

pub returns : goal.returns
returns c =
    let w : ℤ = computed c.args.op c.args.i.low c.args.j.low in
    let x : ℤ = computed c.args.op c.args.i.low c.args.j.high in
    let y : ℤ = computed c.args.op c.args.i.high c.args.j.low in
    let z : ℤ = computed c.args.op c.args.i.high c.args.j.high in
    let p : c.computed.result ≡ numbered w = search rules in
    let q : c.computed-2.result ≡ numbered x = search rules in
    let r : c.computed-3.result ≡ numbered y = search rules in
    let s : c.computed-4.result ≡ numbered z = search rules in
    c.from_corners.ensures w x y z (p, q, r, s)
