use Rattle.std.proofs.Common.{◌≡◌, ℕ, length}
use Rattle.fnl_values.specs.InMemory.{params_in}
use Rattle.check_given.specs.Judging.{with_declared}
use Rattle.fnl_values.proofs.given.add_parameters.Given as goal

abbrev pub invariant-decls : goal.invariant-decls
invariant-decls l = (file : ℕ) → with_declared l.names (params_in file l.rest) ≡ with_declared l.initial.names (params_in file l.initial.rest)

abbrev pub decreases-decls : goal.decreases-decls
decreases-decls l = length l.rest
