use Rattle.law_imports.proofs.Reasons.{missing_is_missing}
use Rattle.law_imports.proofs.laws.missing_imports_are_missing.Goals as goal

pub returns : goal.returns
returns c = missing_is_missing
