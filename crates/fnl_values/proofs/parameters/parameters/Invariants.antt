use Rattle.std.proofs.Common.{◌≡◌, map, length}
use Rattle.cal_check.specs.Violations.{all_broken}
use Rattle.const_env.specs.Held.{names_in}
use Rattle.fnl_bind.specs.Values.{all_given, parameters_judged}
use Rattle.fnl_frames.specs.Views.{parameter_of}
use Rattle.check_given.specs.Given.{all_given as all_given_of}
use Rattle.fnl_values.specs.Judging.{behind}
use Rattle.fnl_values.proofs.parameters.parameters.Given as goal

abbrev pub invariant-parameters : goal.invariant-parameters
invariant-parameters l = record {
  broken : all_broken (parameters_judged (map parameter_of l.rest) (names_in l.env)) ≡ all_broken (parameters_judged (map parameter_of l.initial.rest) (names_in l.env));
  given : behind (all_given_of l.given.items) (all_given l.file (map parameter_of l.rest) (names_in l.env))
      ≡ all_given l.file (map parameter_of l.initial.rest) (names_in l.env);
}

abbrev pub decreases-parameters : goal.decreases-parameters
decreases-parameters l = length l.rest
