use Rattle.std.proofs.Common.{◌<◌, length, arith}
use Rattle.std.proofs.lemmas.List.{take_all}
use Rattle.code_ir.proofs.Marks.{greatest-more, greatest-of}
use Rattle.code_ir.proofs.heights.greatest.Goals as goal
use Rattle.code_ir.proofs.heights.greatest.Goals.{in-Some+then-height-most, in-Some+else-height-most, in-None}

pub loop-height-preserved : goal.loop-height-preserved
loop-height-preserved c =
    let inside : c.loop-height.height-index < length c.args.heights.now = omega arith in
    let more = greatest-more c.args.heights.now c.loop-height.height-index c.loop-height.most c.match-height.most inside c.loop-height.invariant in
    elim c.match-height.branch [
      | in-Some+then-height-most w ↦ more (omega (arith, w.most-is, w.if-height-most.true)) (λ h e. greatest-of h w.in-Some.height _ _ w.in-Some.is (omega (arith, w.most-is)) e)
      | in-Some+else-height-most w ↦ more (omega (arith, w.most-is)) (λ h e. greatest-of h w.in-Some.height _ _ w.in-Some.is (omega (arith, w.most-is, w.if-height-most.false)) e)
      | in-None w ↦ more (omega (arith, w.most-is)) (λ h e. let f = w.in-None.is in cc)
    ]

pub returns : goal.returns
returns c = λ p h e. c.loop-height.invariant p h (rw (take_all c.loop-height.height-index c.args.heights.now (omega arith)) e)
