use Rattle.expr_lower.proofs.Filled.{fills_with}
use Rattle.expr_lower.proofs.laws.lists_are_filled.Goals as goal

pub returns : goal.returns
returns c = λ fs names e t d base n m code below room coded. fills_with names e t d base n m code below room coded
