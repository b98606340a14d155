use Rattle.std.proofs.Common.{subst}
use Rattle.check_stmt.specs.Judging.{Refuses}
use Rattle.check_actor.proofs.Causes.{found_of}
use Rattle.check_actor.proofs.fault.in_file.Goals as goal

pub returns-in-Broken : goal.returns-in-Broken
returns-in-Broken c = λ broken h.
    found_of c.args.file broken (record { rule = c.in-Broken.rule; at = c.in-Broken.at }) (subst (λ f. Refuses f broken) c.in-Broken.is h)
