use Rattle.expr_lower.proofs.Fitted.{fits_fill}
use Rattle.expr_lower.proofs.laws.lists_fit.Goals as goal

pub returns : goal.returns
returns c = λ whole callable limit h fs names e t d base n m code has below room le stands coded. fits_fill whole callable limit fs has h below room le stands coded
