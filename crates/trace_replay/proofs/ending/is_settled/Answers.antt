use Rattle.std.proofs.Common.{arith}
use Rattle.net_state.specs.Held.{seen}
use Rattle.trace_replay.proofs.Settled.{out_all, out_next}
use Rattle.trace_replay.proofs.ending.is_settled.Goals as goal

pub returns-clause-yes : goal.returns-clause-yes
returns-clause-yes g c = λ yes_.
    out_all c.links.l c.args.links.now (seen g.A.Firing.cell c.args.state.now) c.requires.links (omega (arith, c.links-test.false)) c.links.invariant.out

pub links-preserved : goal.links-preserved
links-preserved g c = record {
  out = out_next c.links.l c.args.links.now (seen g.A.Firing.cell c.args.state.now) _ c.requires.links c.links-test.true c.links.invariant.out (c.is_out.ensures.yes c.if-not-is_out.false);
  low = omega (arith, c.links-test.true);
}
