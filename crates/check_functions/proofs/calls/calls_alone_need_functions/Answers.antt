use Rattle.check_functions.proofs.Callless.{starts_same, types_same}
use Rattle.check_functions.proofs.calls.calls_alone_need_functions.Goals as goal

pub returns-clause-types : goal.returns-clause-types
returns-clause-types c = types_same

pub returns-clause-starts : goal.returns-clause-starts
returns-clause-starts c = starts_same
