use Rattle.std.proofs.Common.{refl, ap, Some}
use Rattle.cmd_gen_network.specs.Objects.{FeedsState, inputs_of}
use Rattle.cmd_run_network.specs.Names.{ChannelsOpened, FeedsOpened}
use Rattle.cmd_gen.proofs.Answering.{answered_any}
use Rattle.cmd_gen.specs.Steps.{of_run}
use Rattle.cmd_gen.proofs.built.run_over_input.Goals as goal

pub returns-in-Ok : goal.returns-in-Ok
returns-in-Ok g c = of_run c.requires.matched (record {
  feeds = inputs_of c.in-Ok.feeds;
  feeds_after = inputs_of c.run_image.new.feeds;
  given = λ name. ap Some c.in-Ok.ensures.bytes;
  no_fault = refl;
  answered = λ library misses faults built. answered_any (FeedsOpened inputs_of (λ (f : FeedsState). f.past) c.in-Ok.feeds c.run_image.new.feeds)
      (ChannelsOpened g.D.Drains.channels g.D.Drains.past c.args.drains.now c.run_image.new.drains) (g.G.Gate.arrived c.args.gate.now) _ c.run_image.result
      (c.run_image.ensures.as_asked library misses faults built);
})
