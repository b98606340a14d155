use Rattle.law_violations.proofs.Constants.{expressions_have_numbers, types_have_numbers}
use Rattle.law_violations.proofs.laws.sizes_and_bounds_give_numbers.Goals as goal

pub returns-clause-expressions : goal.returns-clause-expressions
returns-clause-expressions c = expressions_have_numbers

pub returns-clause-types : goal.returns-clause-types
returns-clause-types c = types_have_numbers
