use Rattle.std.proofs.Common.{◌<◌}
use Rattle.std.proofs.lemmas.List.Elements.{All-more}
use Rattle.lowered_actor.proofs.Loops.{all-whole}
use Rattle.lowered_actor.proofs.fitting.are_kept.Goals as goal

pub loop-one-preserved : goal.loop-one-preserved
loop-one-preserved c = All-more (λ one. one.cell < c.args.kept) c.args.saved.now c.loop-one.one-index _ c.loop-one-test.true c.loop-one.invariant c.if-one-kept.false

pub returns : goal.returns
returns c = λ done. all-whole (λ one. one.cell < c.args.kept) c.args.saved.now c.loop-one.one-index c.loop-one-test.false c.loop-one.invariant
