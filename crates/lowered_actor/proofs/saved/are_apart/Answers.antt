use Rattle.std.proofs.Common.{subst, sym}
use Rattle.lowered_actor.specs.Facts.{AreApart}
use Rattle.lowered_actor.proofs.Apart.{apart-more, apart-none}
use Rattle.lowered_actor.proofs.saved.are_apart.Goals as goal

pub cells-preserved : goal.cells-preserved
cells-preserved c = λ apart.
    c.cells.invariant (subst AreApart (sym c.in-Some.ensures.cases.0) (apart-more c.in-Some.one.now c.in-Some.others.now (sym c.if-is_saved.ensures) apart))

pub returns : goal.returns
returns c = λ done. c.cells.invariant (apart-none c.cells.left.now c.in_default.ensures.cases)
