use Rattle.std.proofs.Common.{length, arith}
use Rattle.lower_base.proofs.Served.{served_within}
use Rattle.lower_base.proofs.laws.routines_do_what_functions_do.Goals as goal

pub returns : goal.returns
returns c = λ globals whole tokens all fs low n below routines. served_within globals whole tokens all low below (length all) n routines (omega arith)
