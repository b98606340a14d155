use Rattle.std.proofs.Common.{◌≡◌, List, ◌++◌, map, length}
use Rattle.const_env.specs.Held.{names_in}
use Rattle.fnl_bind.specs.Values.{instances_broken}
use Rattle.fnl_frames.specs.Views.{instance_of}
use Rattle.fnl_values.specs.Visiting.{AreVisits, Visit, visit_of}
use Rattle.fnl_values.proofs.visits.visits.Given as goal

abbrev pub invariant-instances : goal.invariant-instances
invariant-instances l = record {
  broken : instances_broken (map instance_of l.rest) (names_in l.env) ≡ instances_broken (map instance_of l.initial.rest) (names_in l.env);
  given : (more : List Visit) → AreVisits l.file (names_in l.env) (map instance_of l.rest) more
      → AreVisits l.file (names_in l.env) (map instance_of l.initial.rest) (map visit_of l.visits.items ++ more);
}

abbrev pub decreases-instances : goal.decreases-instances
decreases-instances l = length l.rest
