use Rattle.std.proofs.Common.{◌≡◌, List, [], length}
use Rattle.cal_check.specs.Actors.{given_wrongly}
use Rattle.cal_check.specs.Variables.{VarDecl}
use Rattle.check_given.specs.Given.{all_given}
use Rattle.check_given.specs.Judging.{AreNamesOf}
use Rattle.check_given.specs.Placing.{IsFront}
use Rattle.check_given.proofs.values.GivenValues.rightly.Given as goal

abbrev pub invariant-backwards : goal.invariant-backwards
invariant-backwards l = record {
  front : IsFront l.rest l.self;
  wrongly : (params : List VarDecl) → AreNamesOf l.declared params → given_wrongly (all_given l.rest) [] params ≡ given_wrongly (all_given l.self) [] params;
}

abbrev pub decreases-backwards : goal.decreases-backwards
decreases-backwards l = length l.rest
