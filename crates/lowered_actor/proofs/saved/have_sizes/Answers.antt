use Rattle.std.proofs.lemmas.List.Elements.{All-more}
use Rattle.rvc_base.specs.Storing.{IsSize}
use Rattle.lowered_actor.proofs.Loops.{all-whole}
use Rattle.lowered_actor.proofs.saved.have_sizes.Goals as goal

pub loop-one-preserved : goal.loop-one-preserved
loop-one-preserved c = All-more (λ one. IsSize one.kind) c.args.saved.now c.loop-one.one-index _ c.loop-one-test.true c.loop-one.invariant (c.has_size.ensures c.if-not-has_size.false)

pub returns : goal.returns
returns c = λ done. all-whole (λ one. IsSize one.kind) c.args.saved.now c.loop-one.one-index c.loop-one-test.false c.loop-one.invariant
