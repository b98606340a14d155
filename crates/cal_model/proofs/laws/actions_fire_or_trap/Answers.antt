use Rattle.cal_model.proofs.KeptByFirings.{bodies-make}
use Rattle.cal_model.proofs.LawfulActors.{guards-are-truths, enabled-fires-or-traps}
use Rattle.cal_model.proofs.laws.actions_fire_or_trap.Goals as goal

pub returns : goal.returns
returns c = record { guards = guards-are-truths; bodies = bodies-make; enabled = enabled-fires-or-traps }
