use Rattle.code_ir.proofs.Ends.{never-stuck}
use Rattle.code_ir.proofs.laws.never_stuck.Goals as goal

pub returns : goal.returns
returns c = never-stuck
