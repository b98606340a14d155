use Rattle.std.proofs.Common.{◌≡◌, [], length}
use Rattle.const_env.specs.Held.{globals_of, held, last_first}
use Rattle.check_functions.specs.Known.{known_at}
use Rattle.check_functions.proofs.known.names_without.Given as goal

abbrev pub invariant-names : goal.invariant-names
invariant-names l = record {
  names : last_first (known_at l.at_rest) l.rest (globals_of l.env) ≡ last_first (known_at l.at_rest) l.initial.rest [];
  no_funs : (held l.env).funs ≡ [];
}

abbrev pub decreases-names : goal.decreases-names
decreases-names l = length l.rest
