use Rattle.std.proofs.Common.{subst}
use Rattle.check_stmt.specs.Judging.{Refuses}
use Rattle.check_variable.specs.Causes.{SaysFault}
use Rattle.check_variable.proofs.Faults.{found_of}
use Rattle.check_variable.proofs.fault.in_file.Goals as goal

pub returns-in-Broken-clause-cause : goal.returns-in-Broken-clause-cause
returns-in-Broken-clause-cause c = λ broken h.
    found_of c.args.file broken (record { rule = c.in-Broken.rule; at = c.in-Broken.at }) (subst (λ f. Refuses f broken) c.in-Broken.is h)

pub returns-in-Broken-clause-said : goal.returns-in-Broken-clause-said
returns-in-Broken-clause-said c = λ h. subst SaysFault c.in-Broken.is h
