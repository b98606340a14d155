use Rattle.std.proofs.Common.{[], drop}
use Rattle.const_env.specs.Held.{last_first, names_in}
use Rattle.check_functions.specs.Known.{fun_decls, known_at}
use Rattle.check_functions.proofs.Rounds.{IsRound}
use Rattle.check_functions.proofs.seen.round.Given as goal

abbrev pub invariant-loop-f : goal.invariant-loop-f
invariant-loop-f l = IsRound (fun_decls (drop l.f-index l.funs)) (fun_decls l.funs) (last_first (known_at l.at_rest) l.known []) (names_in l.before) l.next
