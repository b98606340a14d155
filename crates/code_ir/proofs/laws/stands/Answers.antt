use Rattle.code_ir.proofs.Ends.{start-stands}
use Rattle.code_ir.proofs.Safety.{fine}
use Rattle.code_ir.proofs.laws.stands.Goals as goal

pub returns : goal.returns
returns c = record { first = start-stands; next = fine }
