use Rattle.law_imports.proofs.Reasons.{circle_of_imports}
use Rattle.law_imports.proofs.laws.circles_of_imports_are_circles.Goals as goal

pub returns : goal.returns
returns c = circle_of_imports
