use Rattle.std.proofs.Common.{subst}
use Rattle.fnl_values.proofs.Faults.{found_of}
use Rattle.fnl_values.specs.Causes.{Refuses}
use Rattle.fnl_values.proofs.fault.in_file.Goals as goal

pub returns-in-Broken : goal.returns-in-Broken
returns-in-Broken c = λ broken h.
    found_of c.args.file broken (record { rule = c.in-Broken.rule; at = c.in-Broken.at }) (subst (λ f. Refuses f broken) c.in-Broken.is h)
