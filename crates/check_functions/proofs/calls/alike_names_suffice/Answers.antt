use Rattle.check_functions.proofs.OrderOfFuns.{starts_alike, types_alike}
use Rattle.check_functions.proofs.calls.alike_names_suffice.Goals as goal

pub returns-clause-types : goal.returns-clause-types
returns-clause-types c = types_alike

pub returns-clause-starts : goal.returns-clause-starts
returns-clause-starts c = starts_alike
