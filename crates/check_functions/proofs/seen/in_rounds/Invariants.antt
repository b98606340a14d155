use Rattle.std.proofs.Common.{[]}
use Rattle.const_env.specs.Held.{last_first}
use Rattle.check_functions.specs.Known.{fun_decls, known_at}
use Rattle.check_functions.proofs.Rounds.{AreRounds}
use Rattle.check_functions.proofs.seen.in_rounds.Given as goal

abbrev pub invariant-loop-f : goal.invariant-loop-f
invariant-loop-f l = AreRounds l._f-index (fun_decls l.funs) (last_first (known_at l.at_rest) l.known []) l.env
