use Rattle.law_violations.proofs.Missing.{expressions_tell, types_tell}
use Rattle.law_violations.proofs.laws.what_is_not_constant_is_there.Goals as goal

pub returns-clause-expressions : goal.returns-clause-expressions
returns-clause-expressions c = expressions_tell

pub returns-clause-types : goal.returns-clause-types
returns-clause-types c = types_tell
