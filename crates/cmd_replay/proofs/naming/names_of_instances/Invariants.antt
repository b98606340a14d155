use Rattle.std.proofs.Common.{◌≡◌, ◌++◌, map, length}
use Rattle.std.specs.Prelude.{string_bytes}
use Rattle.cmd_replay.specs.Naming.{names_of_instances}
use Rattle.cmd_replay.proofs.naming.names_of_instances.Given as goal

abbrev pub invariant-instances : goal.invariant-instances
invariant-instances l = map string_bytes l.names.items ++ names_of_instances (map string_bytes l.rest) (map string_bytes l.more)
    ≡ names_of_instances (map string_bytes l.initial.rest) (map string_bytes l.initial.more)

abbrev pub decreases-instances : goal.decreases-instances
decreases-instances l = length l.rest
