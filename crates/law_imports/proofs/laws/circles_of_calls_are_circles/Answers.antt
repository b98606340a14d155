use Rattle.law_imports.proofs.Reasons.{circle_of_calls}
use Rattle.law_imports.proofs.laws.circles_of_calls_are_circles.Goals as goal

pub returns : goal.returns
returns c = circle_of_calls
